-- What small activities make, what tasks may put, and what they may not.
use Rattle.std.specs.Prelude.{pos, ◌^◌, ◌≡◌, ◌⊎◌, ◌↔◌, ℕ, nat_eq, Bool, true, false, if◌then◌else◌, List, [], ◌∷◌, ◌++◌, map}
use Rattle.al_value.specs.declared.value.Value.TheVariants as V
use Rattle.al_func.specs.declared.func.Func.TheVariants as F
use Rattle.al_func.specs.declared.rex.Rex.{Rex}
use Rattle.al_func.specs.declared.rex.Rex.TheVariants as R
use Rattle.hy_job.specs.declared.nested.AggRex.TheVariants as C
use Rattle.hy_job.specs.declared.nested.NestedPlan.{NestedPlan}
use Rattle.hy_job.specs.declared.job.GroupArg.{GroupArg}
use Rattle.hy_job.specs.declared.job.Kind.TheVariants as K
use Rattle.hy_job.specs.declared.job.Wire.TheVariants as W
use Rattle.hy_job.specs.declared.job.Job.{Job}
use Rattle.al_agg.specs.declared.agg.Agg.TheVariants as A
use Rattle.hy_job.specs.Columns.{Row, cut, holds, state_row, Group, AreStretches}
use Rattle.hy_job.specs.Runs.{Took, Put, Output, IsReceiver, TaskPart}
use Rattle.hy_rest.specs.Words.{Open, Rows, Fail, Close, WriterWord, IsWordSoFar}
use Rattle.hy_job.specs.Settled.{IsCompleted, IsFailedSoFar, IsLiveSoFar, TaskRecord, Records, Completed, IsRaisedBeside}
use Rattle.al_value.specs.declared.settings.SortKey.{SortKey}
use Rattle.hy_job.specs.Drivers.{Left, received_of, driver_out}
use Rattle.hy_job.specs.Boxes.{StageBox, boxes_of, box_to, task_of, task_at}
use Rattle.hy_job.specs.Cases.{act, wire, block, stage, row_of, is_text, sorting, reading, grouping}
use Rattle.hy_job.specs.SettledCases.{listing, checking, take_first, check_record}

-- ---- what activities make

-- rows at the first input, and others at the second
abbrev pub at_inputs : List Row → List Row → ℕ → List Row
at_inputs left right input = if nat_eq input 0 then left else right

-- of three rows a limit of one behind one gives the second: it skips before it cuts
abbrev pub LimitSkips : Type 0
LimitSkips = (out : List Row) → Output (K.Limit 1 1) 1 1 0 (at_inputs (row_of 1 ∷ row_of 2 ∷ row_of 3 ∷ []) []) [] [] out ↔ (out ≡ row_of 2 ∷ [])

-- a union has the rows of both inputs, either first
abbrev pub UnionHasBoth : Type 0
UnionHasBoth = (out : List Row) → Output (K.Union (0 ∷ []) (0 ∷ [])) 1 1 0 (at_inputs (row_of 1 ∷ []) (row_of 2 ∷ [])) [] [] out
    ↔ ((out ≡ row_of 1 ∷ row_of 2 ∷ []) ⊎ (out ≡ row_of 2 ∷ row_of 1 ∷ []))

-- the second of two partitions has the second of three rows
abbrev pub ScanIsDealt : Type 0
ScanIsDealt = (set : List ℕ) (out : List Row) → Output (K.Scan set) 1 2 1 (at_inputs [] []) (row_of 1 ∷ row_of 2 ∷ row_of 3 ∷ []) [] out ↔ (out ≡ row_of 2 ∷ [])

-- the stretches of one row are it alone, so none is empty
abbrev pub StretchesHaveRows : Type 0
StretchesHaveRows = (groups : List Group) → AreStretches (0 ∷ []) (row_of 1 ∷ []) groups ↔ (groups ≡ (row_of 1, []) ∷ [])

-- of no rows there are no stretches and no pieces
abbrev pub NoneOfNone : Type 0
NoneOfNone = (keys : List ℕ) (inner : NestedPlan) (arg : GroupArg) (out : List Row)
    → (Output (K.PreGroup keys inner) 1 1 0 (at_inputs [] []) [] [] out → out ≡ []) × (Output (K.GroupBuild arg) 1 1 0 (at_inputs [] []) [] [] out → out ≡ [])

-- ---- words

-- what no sender puts: rows behind a Fail, a second Open, a second Close
abbrev pub WordsEnd : Type 0
WordsEnd = (rows : List Row) → (WriterWord {A = Row} (Open ∷ Fail ∷ Rows rows ∷ Close ∷ []) → ⊥) × (WriterWord {A = Row} (Open ∷ Open ∷ Close ∷ []) → ⊥) × (WriterWord {A = Row} (Open ∷ Close ∷ Close ∷ []) → ⊥)

-- what a sender may put: rows before a Fail, and as a beginning an Open
abbrev pub WordsMay : Type 0
WordsMay = (rows : List Row) → WriterWord {A = Row} (Open ∷ Rows rows ∷ Close ∷ []) × WriterWord {A = Row} (Open ∷ Rows rows ∷ Fail ∷ Close ∷ []) × IsWordSoFar {A = Row} (Open ∷ [])

-- ---- who receives, and who raised

-- over a gathering wire the second partition sends to the first alone
abbrev pub FirstGathers : Type 0
FirstGathers = (set text : List ℕ) → IsReceiver (reading set text) 3 1 0 × (IsReceiver (reading set text) 3 1 1 → ⊥)

-- the scan of the first stage raised the word
abbrev pub raising : Records
raising a j = record {
  took = [];
  put = λ r. [];
  scanned = [];
  handed = [];
  hands_on = [];
  raised = nat_eq a 0;
  saw = false;
  outcome = Completed;
}

-- it did so beside the build, which is of its stage, and not beside the result, which is of the next one
abbrev pub RaisedInStage : Type 0
RaisedInStage = (set : List ℕ) → IsRaisedBeside (sorting set (block 1 2 ∷ [])) (stage (0 ∷ 1 ∷ []) ∷ stage (2 ∷ 3 ∷ []) ∷ []) raising 1
    × (IsRaisedBeside (sorting set (block 1 2 ∷ [])) (stage (0 ∷ 1 ∷ []) ∷ stage (2 ∷ 3 ∷ []) ∷ []) raising 3 → ⊥)

-- ---- completed checks

-- the check took one row, and passed it on
abbrev pub passing_record : Row → TaskRecord
passing_record row = record {
  took = take_first Open ∷ take_first (Rows (row ∷ [])) ∷ take_first Close ∷ [];
  put = λ r. Open ∷ Rows (row ∷ []) ∷ Close ∷ [];
  scanned = [];
  handed = [];
  hands_on = [];
  raised = false;
  saw = false;
  outcome = Completed;
}

-- so it may, exactly where the condition is TRUE on the row
abbrev pub CheckPasses : Type 0
CheckPasses = (set name text : List ℕ) (row : Row) → IsCompleted (checking set name text) (act 1 (K.Check name (is_text text)) 2) 0 (passing_record row) ↔ (holds (is_text text) row ≡ true)

-- ---- parts of runs

-- rows of the first partition at the first input
abbrev pub took_first : List Row → Took
took_first rows = record { rows = map (λ row. record { input = 0; sender = 0; row = row }) rows; scanned = []; handed = [] }

abbrev pub none_ended : ℕ → ℕ → Bool
none_ended input sender = false

-- a result that goes on has handed on a front of the rows that it makes, and nothing else
abbrev pub PartIsFront : Type 0
PartIsFront = (set : List ℕ) (rows on : List Row) → TaskPart (listing set) (act 1 (K.Result (0 ∷ [])) 1) 0 none_ended (took_first rows) (record { to = λ r. []; on = on })
    ↔ ((rest : List Row) × (map (cut (0 ∷ [])) rows ≡ on ++ rest))

-- on two partitions, the rows of a dataset are counted in parts
abbrev pub totalling : List ℕ → Job
totalling set = record {
  activities = act 0 (K.Scan set) 1 ∷ act 1 (K.AggPart (C.CountAll ∷ [])) 2 ∷ act 2 (K.AggFinal (A.CountAll ∷ [])) 1 ∷ act 3 (K.Result (0 ∷ [])) 1 ∷ [];
  edges = wire 0 1 W.OneToOne ∷ wire 1 2 W.Gather ∷ wire 2 3 W.OneToOne ∷ [];
  blocks = [];
  partitions = 2;
}

-- the second partition counted no rows, and put its one row
abbrev pub counted_none : Put
counted_none = record { to = λ r. if nat_eq r 0 then state_row (C.CountAll ∷ []) [] ∷ [] else []; on = [] }

-- while its sender, the scan of its partition, is open, that is no part; once it has closed it is, although the scan of the other
-- partition is open
abbrev pub RowEndsPart : Type 0
RowEndsPart = (set : List ℕ) → (TaskPart (totalling set) (act 1 (K.AggPart (C.CountAll ∷ [])) 2) 1 none_ended (took_first []) counted_none → ⊥)
    × TaskPart (totalling set) (act 1 (K.AggPart (C.CountAll ∷ [])) 2) 1 (λ input sender. nat_eq sender 1) (took_first []) counted_none

-- on one partition, the values of rows that have none are counted
abbrev pub counting_none : Job
counting_none = record {
  activities = act 0 K.One 0 ∷ act 1 (K.AggPart (C.Count (R.Col 0) ∷ [])) 2 ∷ act 2 (K.Result (0 ∷ [])) 1 ∷ [];
  edges = wire 0 1 W.OneToOne ∷ wire 1 2 W.OneToOne ∷ [];
  blocks = [];
  partitions = 1;
}

-- so its row may be put although its sender is open: no row with a value comes
abbrev pub RowsComeFitting : Type 0
RowsComeFitting = TaskPart counting_none (act 1 (K.AggPart (C.Count (R.Col 0) ∷ [])) 2) 0 none_ended (took_first []) (record { to = λ r. state_row (C.Count (R.Col 0) ∷ []) [] ∷ []; on = [] })

-- whether the first column is an int past those of 64 bits, which no value is
abbrev pub too_large : Rex
too_large = R.Call F.Le (R.Lit (V.Int (pos (2 ^ 63))) ∷ R.Col 0 ∷ [])

-- on one partition, the greatest of these truths
abbrev pub telling : List ℕ → Job
telling set = record {
  activities = act 0 (K.Scan set) 1 ∷ act 1 (K.AggPart (C.Max too_large ∷ [])) 1 ∷ act 2 (K.Result (0 ∷ [])) 1 ∷ [];
  edges = wire 0 1 W.OneToOne ∷ wire 1 2 W.OneToOne ∷ [];
  blocks = [];
  partitions = 1;
}

-- it is FALSE from the first int on, so the row may be put although its sender is open: nothing but values comes
abbrev pub ValuesCome : Type 0
ValuesCome = (set : List ℕ) → TaskPart (telling set) (act 1 (K.AggPart (C.Max too_large ∷ [])) 1) 0 none_ended (took_first (row_of 0 ∷ [])) (record { to = λ r. (V.Bool false ∷ []) ∷ []; on = [] })

-- ---- drivers on their way

-- what a driver takes is told apart by its input
abbrev pub InputsApart : Type 0
InputsApart = received_of ((0, row_of 1) ∷ (1, row_of 2) ∷ (0, row_of 3) ∷ []) 0 ≡ row_of 1 ∷ row_of 3 ∷ []

abbrev pub left_of : ℕ → ℕ → List Row → Bool → Left
left_of skip give handed last = record { skip = skip; give = give; own = []; handed = handed; last = last }

-- a limit of two behind one that has skipped its row and given one gives one more
abbrev pub LimitGoesOn : Type 0
LimitGoesOn = (out : List Row) → driver_out (K.Limit 2 1) 1 (left_of 0 1 [] false) ((0, row_of 2) ∷ (0, row_of 3) ∷ []) out ↔ (out ≡ row_of 2 ∷ [])

-- a sort that has given all its rows but one gives that one
abbrev pub EmitsWhatIsLeft : Type 0
EmitsWhatIsLeft = (keys : List SortKey) (out : List Row) → driver_out (K.SortEmit keys) 1 (left_of 0 0 (row_of 2 ∷ []) false) [] out ↔ (out ≡ row_of 2 ∷ [])

-- the row of partial states comes once
abbrev pub LastRowOnce : Type 0
LastRowOnce = (out : List Row) → (driver_out (K.AggPart (C.CountAll ∷ [])) 2 (left_of 0 0 [] true) [] out ↔ (out ≡ state_row (C.CountAll ∷ []) [] ∷ []))
    × (driver_out (K.AggPart (C.CountAll ∷ [])) 2 (left_of 0 0 [] false) [] out ↔ (out ≡ []))

-- ---- tasks on their way

-- a check that took one row and failed, and has put its Open
abbrev pub failing_record : List ℕ → Row → TaskRecord
failing_record name row = record (check_record name row) { took = take_first Open ∷ take_first (Rows (row ∷ [])) ∷ []; put = λ r. Open ∷ [] }

-- it has failed so far exactly where the condition is not TRUE on the row, if it owes a Fail and a Close, and not if it owes a Close alone
abbrev pub FailedSoFar : Type 0
FailedSoFar = (set name text : List ℕ) (row : Row)
    → (IsFailedSoFar (checking set name text) (act 1 (K.Check name (is_text text)) 2) 0 (failing_record name row) (λ r. Fail ∷ Close ∷ []) ↔ (holds (is_text text) row ≡ false))
    × (IsFailedSoFar (checking set name text) (act 1 (K.Check name (is_text text)) 2) 0 (failing_record name row) (λ r. Close ∷ []) → ⊥)

-- a check that took one row: while it has still to work on it nothing is known of the row, and then its condition is TRUE there
abbrev pub LiveSoFar : Type 0
LiveSoFar = (set name text : List ℕ) (row : Row) → IsLiveSoFar (checking set name text) (act 1 (K.Check name (is_text text)) 2) 0 (passing_record row) (row ∷ [])
    × (IsLiveSoFar (checking set name text) (act 1 (K.Check name (is_text text)) 2) 0 (passing_record row) [] ↔ (holds (is_text text) row ≡ true))

-- ---- numbers

-- over a hash wire each of two partitions has one mailbox, in which both send
abbrev pub HashHasTwoBoxes : Type 0
HashHasTwoBoxes = (set : List ℕ) → boxes_of (grouping set 6 3) (stage (0 ∷ 1 ∷ []))
    ≡ record { edge = wire 0 1 (W.Hash (0 ∷ [])); receiver = 0; senders = 0 ∷ 1 ∷ []; capacity = 4; arity = 2 }
    ∷ record { edge = wire 0 1 (W.Hash (0 ∷ [])); receiver = 1; senders = 0 ∷ 1 ∷ []; capacity = 4; arity = 2 } ∷ []

-- a merging wire has one for each sender, and the first partition takes of both
abbrev pub merging : List ℕ → List StageBox
merging set = boxes_of (sorting set (block 1 2 ∷ [])) (stage (2 ∷ 3 ∷ []))

abbrev pub MergeHasTwoBoxes : Type 0
MergeHasTwoBoxes = (set : List ℕ) → (merging set
    ≡ record { edge = wire 2 3 (W.Merge (record { column = 0; descending = false } ∷ [])); receiver = 0; senders = 0 ∷ []; capacity = 2; arity = 1 }
    ∷ record { edge = wire 2 3 (W.Merge (record { column = 0; descending = false } ∷ [])); receiver = 0; senders = 1 ∷ []; capacity = 2; arity = 1 } ∷ [])
    × (box_to (merging set) (wire 2 3 (W.Merge (record { column = 0; descending = false } ∷ []))) 0 1 ≡ 1)

-- the third task of a stage of two activities on two partitions is of the second activity and the first partition
abbrev pub ThirdTask : Type 0
ThirdTask = (task_of 2 (stage (2 ∷ 3 ∷ [])) 2 ≡ (3, 0)) × (task_at 2 (stage (2 ∷ 3 ∷ [])) 3 0 ≡ 2)
