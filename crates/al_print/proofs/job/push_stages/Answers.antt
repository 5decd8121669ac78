use Rattle.std.proofs.Common.{◌≡◌, ◌∙◌, ap, ◌++◌}
use Rattle.al_print.specs.Jobs.{stage_line}
use Rattle.al_print.proofs.JobLines.{stages_kept}
use Rattle.al_print.proofs.job.push_stages.Goals as goal

pub loop-number-preserved : goal.loop-number-preserved
loop-number-preserved c =
    stages_kept c.args.stages.now c.loop-number.number c.index-stages-number.result c.args.text.now c.loop-number.text c.push_stage.new.text c.loop-number-test.true c.loop-number.invariant
    (c.in_ok-push_stage.ensures ∙ ap (λ s. c.loop-number.text ++ stage_line c.loop-number.number s) c.index-stages-number.is)
