use Rattle.std.proofs.Common.{◌∙◌}
use Rattle.hy_job.proofs.StateLaws.{none_finished, finished}
use Rattle.hy_job.proofs.states.finish_states.Goals as goal

pub loop-part-init : goal.loop-part-init
loop-part-init c = λ made rows h. c.new-row.ensures ∙ none_finished made rows h

pub loop-part-preserved : goal.loop-part-preserved
loop-part-preserved c = λ made rows h.
    c.in_ok-push.ensures.ok ∙ finished made rows c.loop-part.yielded c.in-Some.part c.loop-part.row c.finish.result c.loop-part.invariant c.finish.ensures h
