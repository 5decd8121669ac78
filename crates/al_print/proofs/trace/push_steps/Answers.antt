use Rattle.std.proofs.Common.{◌≡◌, ◌∙◌, ap, ◌++◌, ◌+◌}
use Rattle.al_print.specs.Traces.{step_line}
use Rattle.al_print.proofs.TraceLaws.{lines_kept}
use Rattle.al_print.proofs.trace.push_steps.Goals as goal

pub loop-before-preserved : goal.loop-before-preserved
loop-before-preserved c =
    lines_kept c.args.steps.now c.loop-before.before c.index-steps-before.result c.args.text.now c.loop-before.text c.push_step.new.text c.loop-before-test.true c.loop-before.invariant
    (c.in_ok-push_step.ensures ∙ ap (λ s. c.loop-before.text ++ step_line (c.loop-before.before + 1) s) c.index-steps-before.is)
