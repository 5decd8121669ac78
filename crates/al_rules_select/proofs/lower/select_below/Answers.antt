use Rattle.al_plan.specs.declared.plan.Plan.TheVariants as P
use Rattle.al_rules_select.proofs.SelectLaws.{placed_below}
use Rattle.al_rules_select.proofs.lower.select_below.Goals as goal

pub returns : goal.returns
returns c x here = placed_below c.args.i c.args.over c.replace-operator.result c.take_input-rest.result.0 c.take_input-rest.result.1 c.replace.new.self _ c.put_back-whole.result.0 x (λ z. P.Select c.args.cond z) c.replace-operator.ensures.taken c.replace.ensures.put here c.take_input-rest.ensures c.put_back-whole.ensures
