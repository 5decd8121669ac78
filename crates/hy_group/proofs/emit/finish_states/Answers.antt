use Rattle.hy_group.proofs.GiveLaws.{none_finished, one_finished}
use Rattle.hy_group.proofs.emit.finish_states.Goals as goal

pub loop-part-init : goal.loop-part-init
loop-part-init c = none_finished c.args.row.now

pub loop-part-preserved : goal.loop-part-preserved
loop-part-preserved c = one_finished c.loop-part.yielded c.in-Some.part c.finish.result c.args.row.now c.loop-part.row _ c.finish.ensures c.in_ok-push.ensures.ok c.loop-part.invariant
