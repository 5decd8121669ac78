-- Small jobs, and what holds of them.
use Rattle.std.specs.Prelude.{◌≡◌, pos, Some, ℕ, true, false, None, List, [], ◌∷◌}
use Rattle.al_value.specs.declared.settings.SortKey.{SortKey}
use Rattle.al_value.specs.declared.value.Value.{Value}
use Rattle.al_value.specs.declared.value.Value.TheVariants as V
use Rattle.al_agg.specs.declared.agg.Agg.TheVariants as A
use Rattle.hy_job.specs.declared.nested.AggRex.TheVariants as C
use Rattle.hy_job.specs.declared.nested.NestedPlan.{NestedPlan}
use Rattle.hy_job.specs.declared.nested.NestedPlan.TheVariants as N
use Rattle.hy_job.specs.Columns.{Row, joined}
use Rattle.hy_job.specs.Runs.{Output}
use Rattle.al_func.specs.declared.func.Func.TheVariants as F
use Rattle.al_func.specs.declared.rex.Rex.{Rex}
use Rattle.al_func.specs.declared.rex.Rex.TheVariants as R
use Rattle.hy_job.specs.declared.job.GroupArg.{GroupArg}
use Rattle.hy_job.specs.declared.job.JoinArg.{JoinArg}
use Rattle.hy_job.specs.declared.job.Kind.{Kind}
use Rattle.hy_job.specs.declared.job.Kind.TheVariants as K
use Rattle.hy_job.specs.declared.job.Wire.{Wire}
use Rattle.hy_job.specs.declared.job.Wire.TheVariants as W
use Rattle.hy_job.specs.declared.job.Activity.{Activity}
use Rattle.hy_job.specs.declared.job.Edge.{Edge}
use Rattle.hy_job.specs.declared.job.Block.{Block}
use Rattle.hy_job.specs.declared.job.Job.{Job}
use Rattle.hy_job.specs.declared.job.Stage.{Stage}
use Rattle.hy_job.specs.Sound.{SoundJob}
use Rattle.hy_job.specs.Stages.{StageOf}

abbrev pub act : ℕ → Kind → ℕ → Activity
act number kind arity = record { number = number; kind = kind; arity = arity }

abbrev pub wire : ℕ → ℕ → Wire → Edge
wire from to w = record { from = from; to = to; input = 0; wire = w }

abbrev pub block : ℕ → ℕ → Block
block before after = record { before = before; after = after }

abbrev pub stage : List ℕ → Stage
stage activities = record { activities = activities }

-- the first column, ascending
abbrev pub by_first : List SortKey
by_first = record { column = 0; descending = false } ∷ []

-- on two partitions, a dataset's rows of one column are sorted, and merged for the result
abbrev pub sorting : List ℕ → List Block → Job
sorting set blocks = record {
  activities = act 0 (K.Scan set) 1 ∷ act 1 (K.SortBuild by_first) 1 ∷ act 2 (K.SortEmit by_first) 1 ∷ act 3 (K.Result (0 ∷ [])) 1 ∷ [];
  edges = wire 0 1 W.OneToOne ∷ wire 2 3 (W.Merge by_first) ∷ [];
  blocks = blocks;
  partitions = 2;
}

abbrev pub SortingIsSound : Type 0
SortingIsSound = (set : List ℕ) → SoundJob (sorting set (block 1 2 ∷ []))

-- the build and the scan run before the emit and the result
abbrev pub SortingHasTwoStages : Type 0
SortingHasTwoStages = (set : List ℕ) → StageOf (sorting set (block 1 2 ∷ [])) (stage (0 ∷ 1 ∷ []) ∷ stage (2 ∷ 3 ∷ []) ∷ [])

-- without its block the job is not sound
abbrev pub BlockIsNeeded : Type 0
BlockIsNeeded = (set : List ℕ) → SoundJob (sorting set []) → ⊥

-- whether the second column is this text
abbrev pub is_text : List ℕ → Rex
is_text text = R.Call F.Eq (R.Col 1 ∷ R.Lit (V.Text text) ∷ [])

-- on two partitions, rows are selected between two projects, and gathered for the result
abbrev pub reading : List ℕ → List ℕ → Job
reading set text = record {
  activities = act 0 (K.Scan set) 4 ∷ act 1 (K.Project (0 ∷ 2 ∷ [])) 2 ∷ act 2 (K.Select (is_text text)) 2 ∷ act 3 (K.Project (0 ∷ [])) 1 ∷ act 4 (K.Result (0 ∷ [])) 1 ∷ [];
  edges = wire 0 1 W.OneToOne ∷ wire 1 2 W.OneToOne ∷ wire 2 3 W.OneToOne ∷ wire 3 4 W.Gather ∷ [];
  blocks = [];
  partitions = 2;
}

abbrev pub ReadingIsSound : Type 0
ReadingIsSound = (set text : List ℕ) → SoundJob (reading set text)

-- on one partition, the different rows of two datasets are joined by their one column
abbrev pub all_of_one : GroupArg
all_of_one = record { keys = 0 ∷ []; nested = None }

abbrev pub on_first : JoinArg
on_first = record { left = 0 ∷ []; right = 0 ∷ []; rest = R.Lit (V.Bool true); outer = false }

abbrev pub joining : List ℕ → List ℕ → Job
joining left right = record {
  activities = act 0 (K.Scan left) 1 ∷ act 1 (K.GroupBuild all_of_one) 1 ∷ act 2 (K.GroupEmit all_of_one) 1
      ∷ act 3 (K.Scan right) 1 ∷ act 4 (K.GroupBuild all_of_one) 1 ∷ act 5 (K.GroupEmit all_of_one) 1
      ∷ act 6 (K.JoinBuild on_first) 1 ∷ act 7 (K.JoinProbe on_first) 2 ∷ act 8 (K.Result (0 ∷ [])) 1 ∷ [];
  edges = wire 0 1 W.OneToOne ∷ wire 3 4 W.OneToOne ∷ wire 5 6 W.OneToOne ∷ wire 2 7 W.OneToOne ∷ wire 7 8 W.OneToOne ∷ [];
  blocks = block 1 2 ∷ block 4 5 ∷ block 6 7 ∷ [];
  partitions = 1;
}

abbrev pub JoiningIsSound : Type 0
JoiningIsSound = (left right : List ℕ) → SoundJob (joining left right)

-- the part with the probing side has the least activity but one, and is the last stage
abbrev pub JoiningHasFourStages : Type 0
JoiningHasFourStages = (left right : List ℕ) → StageOf (joining left right) (stage (0 ∷ 1 ∷ []) ∷ stage (3 ∷ 4 ∷ []) ∷ stage (5 ∷ 6 ∷ []) ∷ stage (2 ∷ 7 ∷ 8 ∷ []) ∷ [])

-- on two partitions, the rows of each value of the first column are counted, and their second column summed
abbrev pub counting : NestedPlan
counting = N.Aggregate (C.CountAll ∷ C.Sum (R.Col 1) ∷ []) N.Nested

abbrev pub by_value : GroupArg
by_value = record { keys = 0 ∷ []; nested = Some counting }

-- a built row has the key, two fields of the count's state and three of the sum's, and an emitted one the key and two values
abbrev pub grouping : List ℕ → ℕ → ℕ → Job
grouping set built emitted = record {
  activities = act 0 (K.Scan set) 2 ∷ act 1 (K.GroupBuild by_value) built ∷ act 2 (K.GroupEmit by_value) emitted ∷ act 3 (K.Result (0 ∷ 1 ∷ 2 ∷ [])) 3 ∷ [];
  edges = wire 0 1 (W.Hash (0 ∷ [])) ∷ wire 2 3 W.Gather ∷ [];
  blocks = block 1 2 ∷ [];
  partitions = 2;
}

abbrev pub GroupingIsSound : Type 0
GroupingIsSound = (set : List ℕ) → SoundJob (grouping set 6 3)

-- with another number of fields it is not
abbrev pub StatesHaveFields : Type 0
StatesHaveFields = (set : List ℕ) (built emitted : ℕ) → SoundJob (grouping set built emitted) → built ≡ 6

-- ---- what small activities make

abbrev pub int : ℕ → Value
int n = V.Int (pos n)

-- a row of one value
abbrev pub row_of : ℕ → Row
row_of n = int n ∷ []

-- states of two rows and of one are joined to a count of three, and fields that are no state count nothing
abbrev pub StatesAreJoined : Type 0
StatesAreJoined = Output (K.AggFinal (A.CountAll ∷ [])) 1 1 0 (λ input. (int 0 ∷ int 2 ∷ []) ∷ (int 0 ∷ int 1 ∷ []) ∷ (V.Null ∷ V.Null ∷ []) ∷ []) [] [] ((int 3 ∷ []) ∷ [])

-- a row without a partner is kept with NULL for the columns of the right, and NULL has no partner
abbrev pub outer_on_first : JoinArg
outer_on_first = record { left = 0 ∷ []; right = 0 ∷ []; rest = R.Lit (V.Bool true); outer = true }

abbrev pub NullHasNoPartner : Type 0
NullHasNoPartner = joined 2 outer_on_first ((int 1 ∷ []) ∷ (V.Null ∷ []) ∷ []) ((int 1 ∷ []) ∷ (V.Null ∷ []) ∷ []) ≡ (int 1 ∷ int 1 ∷ []) ∷ (V.Null ∷ V.Null ∷ []) ∷ []

-- ---- a job that is not sound

-- the probing side of a join stands before the building side
abbrev pub probing_first : List ℕ → JoinArg → List Block → Job
probing_first set arg blocks = record {
  activities = act 0 (K.Scan set) 1 ∷ act 1 (K.JoinProbe arg) 2 ∷ act 2 (K.Scan set) 1 ∷ act 3 (K.JoinBuild arg) 1 ∷ act 4 (K.Result (0 ∷ [])) 1 ∷ [];
  edges = wire 0 1 W.OneToOne ∷ wire 2 3 W.OneToOne ∷ wire 1 4 W.Gather ∷ [];
  blocks = blocks;
  partitions = 2;
}

-- however its blocks stand, it is not sound
abbrev pub BuildComesFirst : Type 0
BuildComesFirst = (set : List ℕ) (arg : JoinArg) (blocks : List Block) → SoundJob (probing_first set arg blocks) → ⊥
