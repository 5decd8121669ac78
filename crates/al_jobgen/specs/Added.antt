-- What is added to the lists of a job while it is built.
use Rattle.std.specs.Prelude.{◌≡◌, ℕ, zero, suc, ◌-◌, List, [], ◌∷◌, ◌++◌, map, length}
use Rattle.std.specs.List.{enumerate_from}
use Rattle.hy_job.specs.declared.job.Activity.{Activity}
use Rattle.hy_job.specs.declared.job.Edge.{Edge}
use Rattle.hy_job.specs.declared.job.Block.{Block}
use Rattle.hy_job.specs.declared.job.Wire.{Wire}
use Rattle.al_phys.specs.declared.phys.Phys.{Phys, out-Phys}
use Rattle.al_jobgen.specs.declared.builder.Builder.{Builder}
use Rattle.al_jobgen.specs.declared.builder.Tail.{Tail}
use Rattle.al_jobgen.specs.JobOf.{Step, own_steps, activity, piece_of, block_at}

-- the activities of an operator by its plan
abbrev pub own_of : Phys → List Step
own_of p = own_steps p (out-Phys p)

-- these steps as activities, of which the first has this number
abbrev pub activities_from : ℕ → List Step → List Activity
activities_from start steps = map activity (enumerate_from start steps)

-- what stands in the lists afterwards
pub record Added (old new : Builder) (steps : List Step) (es : List Edge) (bs : List Block) : Type 0 where
  pub activities : new.activities ≡ old.activities ++ activities_from (length old.activities) steps
  pub edges : new.edges ≡ old.edges ++ es
  pub blocks : new.blocks ≡ old.blocks ++ bs

-- an edge from where the rows of a plan come
abbrev pub edge_of : Tail → ℕ → ℕ → Edge
edge_of tail to input = record { from = tail.last; to = to; input = input; wire = tail.wire }

-- the last activity of a builder, and the wire by which its rows go on
pub record EndsAt (b : Builder) (w : Wire) (tail : Tail) : Type 0 where
  pub last : tail.last ≡ length b.activities - 1
  pub wire : tail.wire ≡ w

-- the edge and the block over one input, by how many activities there are, of which the first has the given number
abbrev pub over_edges : Tail → ℕ → ℕ → List Edge
over_edges tail to zero = []
over_edges tail to (suc n) = edge_of tail to 0 ∷ []

abbrev pub own_blocks : ℕ → ℕ → List Block
own_blocks to zero = []
own_blocks to (suc zero) = []
own_blocks to (suc (suc n)) = block_at to

-- the edges over two inputs
abbrev pub both_edges : Tail → Tail → ℕ → ℕ → List Edge
both_edges left right to zero = edge_of left to 0 ∷ edge_of right to 1 ∷ []
both_edges left right to (suc zero) = edge_of left to 0 ∷ edge_of right to 1 ∷ []
both_edges left right to (suc (suc n)) = edge_of right to 0 ∷ edge_of left (suc to) 0 ∷ []

pub record AddedSource (old new : Builder) (own : List Step) (wire : Wire) (tail : Tail) : Type 0 where
  pub added : Added old new own [] []
  pub ends : EndsAt new wire tail

pub record AddedOver (old new : Builder) (input : Tail) (own : List Step) (wire : Wire) (tail : Tail) : Type 0 where
  pub added : Added old new own (over_edges input (length old.activities) (length own)) (own_blocks (length old.activities) (length own))
  pub ends : EndsAt new wire tail

pub record AddedBoth (old new : Builder) (left right : Tail) (own : List Step) (wire : Wire) (tail : Tail) : Type 0 where
  pub added : Added old new own (both_edges left right (length old.activities) (length own)) (own_blocks (length old.activities) (length own))
  pub ends : EndsAt new wire tail

-- the piece of a plan
pub record AddedPlan (old new : Builder) (p : Phys) (tail : Tail) : Type 0 where
  pub added : Added old new (piece_of p).steps ((piece_of p).edges (length old.activities)) ((piece_of p).blocks (length old.activities))
  pub ends : EndsAt new (piece_of p).wire tail
