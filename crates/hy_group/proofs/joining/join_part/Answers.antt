use Rattle.std.proofs.Common.{Err, ap, ◌∙◌}
use Rattle.al_agg.proofs.ListLaws.{states_of_lists}
use Rattle.hy_group.proofs.JoinLaws.{none_added, state_joined}
use Rattle.hy_group.proofs.joining.join_part.Goals as goal

pub returns-in-Ok-clause-joined : goal.returns-in-Ok-clause-joined
returns-in-Ok-clause-joined c before h =
    state_joined c.args.a before c.args.fields.now c.args.p.now c.join.new.p c.in-Ok.other ((states_of_lists c.args.a c.args.fields.now).0 c.in-Ok.ensures.state) c.in-Ok.ensures.lists (c.join.ensures.aggregate ∙ c.requires) c.join.ensures.both h

pub returns-in-Err-NotPart-clause-joined : goal.returns-in-Err-NotPart-clause-joined
returns-in-Err-NotPart-clause-joined c before h = none_added c.args.a before c.args.fields.now c.args.p.now (c.in-Err-NotPart.ensures.not_part.0 (ap Err c.in-Err-NotPart.field-0-is)) h
