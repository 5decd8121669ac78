-- The order of a job's lists, and what its stages are determined by.
use Rattle.std.specs.Prelude.{◌≡◌, ◌⊎◌, ◌<◌, List, map, length}
use Rattle.std.specs.List.{AllPairs, range_with_len}
use Rattle.hy_job.specs.declared.job.Edge.{Edge}
use Rattle.hy_job.specs.declared.job.Block.{Block}
use Rattle.hy_job.specs.declared.job.Job.{Job}
use Rattle.hy_job.specs.declared.job.Stage.{Stage}
use Rattle.hy_job.specs.Stages.{StageOf}

-- by the activity that an edge ends in, and then by its input
abbrev pub IsEdgeBefore : Edge → Edge → Type 0
IsEdgeBefore e f = (e.to < f.to) ⊎ ((e.to ≡ f.to) × (e.input < f.input))

-- by the activity that a block begins at
abbrev pub IsBlockBefore : Block → Block → Type 0
IsBlockBefore a b = a.before < b.before

-- activities stand by number, edges by where they end, and blocks by where they begin
pub record IsInOrder (job : Job) : Type 0 where
  pub activities : map (λ a. a.number) job.activities ≡ range_with_len 0 (length job.activities)
  pub edges : AllPairs IsEdgeBefore job.edges
  pub blocks : AllPairs IsBlockBefore job.blocks

-- a job has one list of stages
abbrev pub StagesAreOne : Type 0
StagesAreOne = (job : Job) (stages others : List Stage) → StageOf job stages → StageOf job others → stages ≡ others
