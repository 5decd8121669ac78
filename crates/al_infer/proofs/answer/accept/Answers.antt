use Rattle.std.proofs.Common.{refl, sym, ◌∙◌}
use Rattle.al_infer.proofs.AcceptLaws.{accepted_if_none}
use Rattle.al_infer.proofs.answer.accept.Goals as goal

pub invariant_of-result : goal.invariant_of-result
invariant_of-result c = accepted_if_none c.args.f (sym c.in-Ok-None.ensures ∙ c.in-Ok-None.field-0-is)

pub returns-in-Ok-None-clause-accepted : goal.returns-in-Ok-None-clause-accepted
returns-in-Ok-None-clause-accepted c = (refl, accepted_if_none c.args.f (sym c.in-Ok-None.ensures ∙ c.in-Ok-None.field-0-is))
