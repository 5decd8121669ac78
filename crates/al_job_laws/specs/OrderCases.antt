-- Small jobs that stand in order, and others.
use Rattle.std.specs.Prelude.{ℕ, List, [], ◌∷◌}
use Rattle.hy_job.specs.declared.job.Kind.TheVariants as K
use Rattle.hy_job.specs.declared.job.Wire.TheVariants as W
use Rattle.hy_job.specs.declared.job.Edge.{Edge}
use Rattle.hy_job.specs.declared.job.Block.{Block}
use Rattle.hy_job.specs.declared.job.Job.{Job}
use Rattle.hy_job.specs.Cases.{act, block}
use Rattle.al_job_laws.specs.InOrder.{IsInOrder}

-- an edge into this input
abbrev pub feeds : ℕ → ℕ → ℕ → Edge
feeds from to input = record { from = from; to = to; input = input; wire = W.OneToOne }

-- two scans, a union of both, and a sort in two activities
abbrev pub joining : List Edge → List Block → Job
joining edges blocks = record {
  activities = act 0 (K.Scan []) 1 ∷ act 1 (K.Scan []) 1 ∷ act 2 (K.Union [] []) 1 ∷ act 3 (K.SortBuild []) 1 ∷ act 4 (K.SortEmit []) 1 ∷ [];
  edges = edges;
  blocks = blocks;
  partitions = 2;
}

abbrev pub EdgesStand : Type 0
EdgesStand = IsInOrder (joining (feeds 0 2 0 ∷ feeds 1 2 1 ∷ feeds 2 3 0 ∷ []) (block 3 4 ∷ []))

-- the edge into the sort does not stand before those into the union
abbrev pub EdgesTurned : Type 0
EdgesTurned = IsInOrder (joining (feeds 2 3 0 ∷ feeds 0 2 0 ∷ feeds 1 2 1 ∷ []) (block 3 4 ∷ []))

-- nor that of the second input before that of the first
abbrev pub InputsTurned : Type 0
InputsTurned = IsInOrder (joining (feeds 1 2 1 ∷ feeds 0 2 0 ∷ feeds 2 3 0 ∷ []) (block 3 4 ∷ []))

-- nor a block before one that begins earlier
abbrev pub BlocksTurned : Type 0
BlocksTurned = IsInOrder (joining [] (block 3 4 ∷ block 1 2 ∷ []))
