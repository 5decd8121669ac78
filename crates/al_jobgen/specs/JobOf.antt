-- The job of a physical plan: each operator is one activity, or two of which the first ends before the second begins, and exchanges are wires.
use Rattle.std.specs.Prelude.{ℕ, suc, ◌+◌, ◌-◌, List, [], ◌∷◌, ◌++◌, map, length, sum, Option, Some, None}
use Rattle.std.specs.List.{enumerate_from, range_with_len}
use Rattle.al_agg.specs.declared.agg.Agg.{Agg}
use Rattle.al_agg.specs.Part.{width}
use Rattle.al_plan.specs.declared.plan.Plan.{Plan}
use Rattle.al_phys.specs.declared.phys.Phys.{Phys, rec-Phys, roll-Phys, map-Phys}
use Rattle.al_phys.specs.declared.phys.Phys.TheOpen.{Phys-F}
use Rattle.al_phys.specs.declared.phys.Phys.TheOpen as P
use Rattle.al_phys.specs.Operators.{phys_live}
use Rattle.al_phys.specs.Gives.{is_hash, is_outer}
use Rattle.al_phys.specs.Properties.{old_of}
use Rattle.hy_job.specs.declared.job.Kind.{Kind}
use Rattle.hy_job.specs.declared.job.Kind.TheVariants as K
use Rattle.hy_job.specs.declared.job.GroupArg.{GroupArg}
use Rattle.hy_job.specs.declared.job.Wire.{Wire}
use Rattle.hy_job.specs.declared.job.Wire.TheVariants as W
use Rattle.hy_job.specs.declared.job.Activity.{Activity}
use Rattle.hy_job.specs.declared.job.Edge.{Edge}
use Rattle.hy_job.specs.declared.job.Block.{Block}
use Rattle.hy_job.specs.declared.job.Job.{Job}
use Rattle.al_jobgen.specs.Columns.{columns_of, rex_of, gen_rex, sort_keys, agg_kind, made_rexes, made_aggs, nested_of, aggs_of, join_arg}

-- ---- what an operator does

-- what an activity does, and the number of values of the rows that it puts or hands on
pub record Step : Type 0 where
  pub kind : Kind
  pub arity : ℕ

abbrev pub step : Kind → ℕ → Step
step kind arity = record { kind = kind; arity = arity }

-- the number of state fields of aggregates
abbrev pub state_width : List Agg → ℕ
state_width aggs = sum (map width aggs)

abbrev pub group_arg : List ℕ → Option Plan → Phys → GroupArg
group_arg keys None p = record { keys = keys; nested = None }
group_arg keys (Some inner) p = record { keys = keys; nested = Some (nested_of (phys_live p) inner) }

-- every column, for a distinct
abbrev pub all_columns : Phys → List ℕ
all_columns p = range_with_len 0 (length (phys_live p))

-- the activities of an operator over its inputs, the first of two before the second; `own` is the operator itself
abbrev pub own_steps : Phys → Phys-F Phys → List Step
own_steps own (P.Scan set vars) = step (K.Scan set) (length (phys_live own)) ∷ []
own_steps own P.One = step K.One (length (phys_live own)) ∷ []
own_steps own (P.Assign made p) = step (K.Assign (made_rexes (phys_live p) made)) (length (phys_live own)) ∷ []
own_steps own (P.Select c p) = step (K.Select (rex_of (phys_live p) c)) (length (phys_live own)) ∷ []
own_steps own (P.Project vars p) = step (K.Project (columns_of (phys_live p) vars)) (length (phys_live own)) ∷ []
own_steps own (P.Unnest v g p) = step (K.Unnest (gen_rex (phys_live p) g)) (length (phys_live own)) ∷ []
own_steps own (P.Subplan inner p) = step (K.Subplan (nested_of (phys_live p) inner)) (length (phys_live own)) ∷ []
own_steps own (P.Check name c p) = step (K.Check name (rex_of (phys_live p) c)) (length (phys_live own)) ∷ []
own_steps own (P.Join form c l r) =
    (let arg = join_arg (is_hash form) (is_outer form) (phys_live l) (phys_live r) c in step (K.JoinBuild arg) (length (phys_live r)) ∷ step (K.JoinProbe arg) (length (phys_live own)) ∷ [])
own_steps own (P.HashGroup keys inner p) =
    (let arg = group_arg (columns_of (phys_live p) (old_of keys)) (Some inner) p in
    step (K.GroupBuild arg) (length keys + state_width (aggs_of inner)) ∷ step (K.GroupEmit arg) (length (phys_live own)) ∷ [])
own_steps own (P.PreGroup keys inner p) = step (K.PreGroup (columns_of (phys_live p) (old_of keys)) (nested_of (phys_live p) inner)) (length (phys_live own)) ∷ []
own_steps own (P.HashDistinct p) =
    (let arg = group_arg (all_columns p) None p in step (K.GroupBuild arg) (length (phys_live p)) ∷ step (K.GroupEmit arg) (length (phys_live own)) ∷ [])
own_steps own (P.AggPart made p) = step (K.AggPart (made_aggs (phys_live p) made)) (state_width (map (λ m. agg_kind m.1) made)) ∷ []
own_steps own (P.AggFinal made p) = step (K.AggFinal (map (λ m. agg_kind m.1) made)) (length (phys_live own)) ∷ []
own_steps own (P.Union made ls rs l r) = step (K.Union (columns_of (phys_live l) ls) (columns_of (phys_live r) rs)) (length (phys_live own)) ∷ []
own_steps own (P.Sort keys p) =
    (let by = sort_keys (phys_live p) keys in step (K.SortBuild by) (length (phys_live p)) ∷ step (K.SortEmit by) (length (phys_live own)) ∷ [])
own_steps own (P.Limit m k p) = step (K.Limit m k) (length (phys_live own)) ∷ []
own_steps own (P.LocalLimit m p) = step (K.LocalLimit m) (length (phys_live own)) ∷ []
own_steps own (P.Result vars p) = step (K.Result (columns_of (phys_live p) vars)) (length (phys_live own)) ∷ []
own_steps own (P.HashExchange vars p) = []
own_steps own (P.Broadcast p) = []
own_steps own (P.Gather p) = []
own_steps own (P.Merge keys p) = []

-- how the rows of a plan go on: by its exchange, else to the same partition
abbrev pub wire_step : Phys-F Phys → Wire
wire_step (P.HashExchange vars p) = W.Hash (columns_of (phys_live p) vars)
wire_step (P.Broadcast p) = W.Broadcast
wire_step (P.Gather p) = W.Gather
wire_step (P.Merge keys p) = W.Merge (sort_keys (phys_live p) keys)
wire_step _ = W.OneToOne

-- ---- the parts of a job

-- what a plan adds to a job: its activities in post-order; its edges and blocks, where its first activity has a given number;
-- and the wire by which its rows go on
pub record Piece : Type 1 where
  pub steps : List Step
  pub edges : ℕ → List Edge
  pub blocks : ℕ → List Block
  pub wire : Wire

-- the number of a piece's last activity, whose rows are the plan's
abbrev pub last_of : Piece → ℕ → ℕ
last_of q start = start + length q.steps - 1

-- an edge from the last activity of a piece
abbrev pub edge_from : Piece → ℕ → ℕ → ℕ → List Edge
edge_from q start to input = record { from = last_of q start; to = to; input = input; wire = q.wire } ∷ []

abbrev pub block_at : ℕ → List Block
block_at first = record { before = first; after = suc first } ∷ []

-- a source has no inputs
abbrev pub source_piece : List Step → Wire → Piece
source_piece own wire = record { steps = own; edges = λ start. []; blocks = λ start. []; wire = wire }

-- an exchange adds no activity
abbrev pub exchange_piece : Piece → Wire → Piece
exchange_piece q wire = record { steps = q.steps; edges = q.edges; blocks = q.blocks; wire = wire }

-- an operator of one activity over one input
abbrev pub one_piece : Piece → List Step → Wire → Piece
one_piece q own wire =
    record {
      steps = q.steps ++ own;
      edges = λ start. q.edges start ++ edge_from q start (start + length q.steps) 0;
      blocks = q.blocks;
      wire = wire;
    }

-- an operator of two activities over one input, which the first takes
abbrev pub two_piece : Piece → List Step → Wire → Piece
two_piece q own wire =
    record {
      steps = q.steps ++ own;
      edges = λ start. q.edges start ++ edge_from q start (start + length q.steps) 0;
      blocks = λ start. q.blocks start ++ block_at (start + length q.steps);
      wire = wire;
    }

-- a union takes both inputs
abbrev pub union_piece : Piece → Piece → List Step → Wire → Piece
union_piece l r own wire =
    record {
      steps = l.steps ++ (r.steps ++ own);
      edges = λ start. (let right = start + length l.steps in let to = right + length r.steps in
          l.edges start ++ (r.edges right ++ (edge_from l start to 0 ++ edge_from r right to 1)));
      blocks = λ start. l.blocks start ++ r.blocks (start + length l.steps);
      wire = wire;
    }

-- a join's build takes the right input, and its probe the left one
abbrev pub join_piece : Piece → Piece → List Step → Wire → Piece
join_piece l r own wire =
    record {
      steps = l.steps ++ (r.steps ++ own);
      edges = λ start. (let right = start + length l.steps in let build = right + length r.steps in
          l.edges start ++ (r.edges right ++ (edge_from r right build 0 ++ edge_from l start (suc build) 0)));
      blocks = λ start. (let right = start + length l.steps in
          l.blocks start ++ (r.blocks right ++ block_at (right + length r.steps)));
      wire = wire;
    }

abbrev pub piece_by : (X : Type 0) → (X → Piece) → List Step → Wire → Phys-F X → Piece
piece_by X piece own wire (P.Scan set vars) = source_piece own wire
piece_by X piece own wire P.One = source_piece own wire
piece_by X piece own wire (P.Assign made p) = one_piece (piece p) own wire
piece_by X piece own wire (P.Select c p) = one_piece (piece p) own wire
piece_by X piece own wire (P.Project vars p) = one_piece (piece p) own wire
piece_by X piece own wire (P.Unnest v g p) = one_piece (piece p) own wire
piece_by X piece own wire (P.Subplan inner p) = one_piece (piece p) own wire
piece_by X piece own wire (P.Check name c p) = one_piece (piece p) own wire
piece_by X piece own wire (P.Join form c l r) = join_piece (piece l) (piece r) own wire
piece_by X piece own wire (P.HashGroup keys inner p) = two_piece (piece p) own wire
piece_by X piece own wire (P.PreGroup keys inner p) = one_piece (piece p) own wire
piece_by X piece own wire (P.HashDistinct p) = two_piece (piece p) own wire
piece_by X piece own wire (P.AggPart made p) = one_piece (piece p) own wire
piece_by X piece own wire (P.AggFinal made p) = one_piece (piece p) own wire
piece_by X piece own wire (P.Union made ls rs l r) = union_piece (piece l) (piece r) own wire
piece_by X piece own wire (P.Sort keys p) = two_piece (piece p) own wire
piece_by X piece own wire (P.Limit m k p) = one_piece (piece p) own wire
piece_by X piece own wire (P.LocalLimit m p) = one_piece (piece p) own wire
piece_by X piece own wire (P.Result vars p) = one_piece (piece p) own wire
piece_by X piece own wire (P.HashExchange vars p) = exchange_piece (piece p) wire
piece_by X piece own wire (P.Broadcast p) = exchange_piece (piece p) wire
piece_by X piece own wire (P.Gather p) = exchange_piece (piece p) wire
piece_by X piece own wire (P.Merge keys p) = exchange_piece (piece p) wire

abbrev pub piece_step : (X : Type 0) → (X → Phys) → (X → Piece) → Phys-F X → Piece
piece_step X plan piece x = (let p = map-Phys X Phys plan x in piece_by X piece (own_steps (roll-Phys p) p) (wire_step p) x)

unfoldable pub piece_of : Phys → Piece
piece_of = rec-Phys Piece piece_step

-- ---- the job

abbrev pub activity : ℕ × Step → Activity
activity s = record { number = s.0; kind = s.1.kind; arity = s.1.arity }

-- the job of a physical plan on this many partitions
abbrev pub job_of : Phys → ℕ → Job
job_of p n =
    record {
      activities = map activity (enumerate_from 0 (piece_of p).steps);
      edges = (piece_of p).edges 0;
      blocks = (piece_of p).blocks 0;
      partitions = n;
    }
