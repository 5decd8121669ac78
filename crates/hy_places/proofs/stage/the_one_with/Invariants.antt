use Rattle.std.proofs.Common.{take}
use Rattle.std.specs.List.{Contains}
use Rattle.hy_job.specs.Stages.{activities_in}
use Rattle.hy_places.proofs.stage.the_one_with.Given as goal

abbrev pub invariant-loop-stage : goal.invariant-loop-stage
invariant-loop-stage l = Contains (activities_in (take l.stage-index l.stages)) l.activity → ⊥
