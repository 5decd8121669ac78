use Rattle.std.proofs.lemmas.Result.{IfOk-weaker}
use Rattle.hy_group.proofs.JoinLaws.{none_joined, start_kinds}
use Rattle.hy_group.proofs.joining.start_joined.Goals as goal

pub returns-clause-seen : goal.returns-clause-seen
returns-clause-seen c = IfOk-weaker c.start_states.result _ _ (λ states h. none_joined c.args.made.now states.items h) c.start_states.ensures

pub returns-clause-right : goal.returns-clause-right
returns-clause-right c = IfOk-weaker c.start_states.result _ _ (λ states h. start_kinds c.args.made.now states.items h) c.start_states.ensures
