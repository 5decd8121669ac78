use Rattle.std.proofs.lemmas.Result.{IfOk-weaker}
use Rattle.hy_group.proofs.FreshLaws.{none_seen}
use Rattle.hy_group.proofs.fresh.start_over.Goals as goal

pub returns-clause-seen : goal.returns-clause-seen
returns-clause-seen c = IfOk-weaker c.start_states.result _ _ (λ states h. none_seen c.args.made.now c.args._chain.now states.items h) c.start_states.ensures
