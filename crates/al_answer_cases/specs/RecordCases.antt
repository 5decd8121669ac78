-- Records of a group, a join and a count on two partitions, and records that do not fit together.
use Rattle.std.specs.Prelude.{ℕ, nat_eq, if◌then◌else◌, List, [], ◌∷◌}
use Rattle.al_agg.specs.declared.agg.Agg.TheVariants as A
use Rattle.hy_rest.specs.Words.{Signal, Open, Rows, Close}
use Rattle.hy_job.specs.declared.nested.AggRex.TheVariants as C
use Rattle.hy_job.specs.declared.job.Kind.TheVariants as K
use Rattle.hy_job.specs.declared.job.Wire.TheVariants as W
use Rattle.hy_job.specs.declared.job.Job.{Job}
use Rattle.hy_job.specs.declared.job.Stage.{Stage}
use Rattle.hy_job.specs.Columns.{Row}
use Rattle.hy_job.specs.Cases.{act, wire, block, stage, row_of, int, all_of_one, on_first}
use Rattle.hy_job.specs.Settled.{Take, Records, Settled}
use Rattle.hy_job.specs.SettledCases.{word_of, take_of, done}

-- ---- the signals of a wire

-- nothing, but for this receiver
abbrev pub for_one : ℕ → List Row → ℕ → List (Signal Row)
for_one to rows r = if nat_eq r to then word_of rows else []

-- the word of one sender
abbrev pub from_one : ℕ → List Row → List Take
from_one s rows = take_of s Open ∷ take_of s (Rows rows) ∷ take_of s Close ∷ []

-- the words of both
abbrev pub from_both : List Row → List Row → List Take
from_both first second = take_of 0 Open ∷ take_of 1 Open ∷ take_of 0 (Rows first) ∷ take_of 1 (Rows second) ∷ take_of 0 Close ∷ take_of 1 Close ∷ []

-- these rows in that partition, and none in the other
abbrev pub only_in : ℕ → List Row → ℕ → List Row
only_in home rows j = if nat_eq j home then rows else []

-- ---- groups behind a hash wire

-- the different rows of a dataset of one column
abbrev pub grouping : List ℕ → Job
grouping set = record {
  activities = act 0 (K.Scan set) 1 ∷ act 1 (K.GroupBuild all_of_one) 1 ∷ act 2 (K.GroupEmit all_of_one) 1 ∷ act 3 (K.Result (0 ∷ [])) 1 ∷ [];
  edges = wire 0 1 (W.Hash (0 ∷ [])) ∷ wire 2 3 W.Gather ∷ [];
  blocks = block 1 2 ∷ [];
  partitions = 2;
}

-- each partition scans a row of 1 and puts it to the same one, whose build takes both and hands on a row for each of them; the
-- emit of that partition is handed both and gives one row
abbrev pub group_records : ℕ → Records
group_records home a j =
    if nat_eq a 0 then done [] (λ r. word_of (only_in home (row_of 1 ∷ []) r)) (row_of 1 ∷ row_of 1 ∷ []) [] []
    else if nat_eq a 1 then done (from_both (only_in home (row_of 1 ∷ []) j) (only_in home (row_of 1 ∷ []) j)) (λ r. []) [] [] (only_in home (row_of 1 ∷ row_of 1 ∷ []) j)
    else if nat_eq a 2 then done [] (for_one 0 (only_in home (row_of 1 ∷ []) j)) [] (only_in home (row_of 1 ∷ row_of 1 ∷ []) j) []
    else if nat_eq j 0 then done (from_both (only_in home (row_of 1 ∷ []) 0) (only_in home (row_of 1 ∷ []) 1)) (λ r. []) [] [] (row_of 1 ∷ [])
    else done [] (λ r. []) [] [] []

abbrev pub two_stages : List Stage
two_stages = stage (0 ∷ 1 ∷ []) ∷ stage (2 ∷ 3 ∷ []) ∷ []

-- the hash of 1 names the second of two partitions
abbrev pub GroupSettles : Type 0
GroupSettles = (set : List ℕ) → Settled (grouping set) two_stages (group_records 1)

-- in the first one all that is taken and made would be the same
abbrev pub WrongHomeSettles : Type 0
WrongHomeSettles = (set : List ℕ) → Settled (grouping set) two_stages (group_records 0)

-- ---- a count

-- the rows of a dataset of one column are counted in each partition, and the counts joined
abbrev pub counting : List ℕ → Job
counting set = record {
  activities = act 0 (K.Scan set) 1 ∷ act 1 (K.AggPart (C.CountAll ∷ [])) 2 ∷ act 2 (K.AggFinal (A.CountAll ∷ [])) 1 ∷ act 3 (K.Result (0 ∷ [])) 1 ∷ [];
  edges = wire 0 1 W.OneToOne ∷ wire 1 2 W.Gather ∷ wire 2 3 W.OneToOne ∷ [];
  blocks = [];
  partitions = 2;
}

-- the fields of the state of one row
abbrev pub one_counted : Row
one_counted = int 0 ∷ int 1 ∷ []

-- each partition scans one row and puts its state; the first one takes these, and tells the count
abbrev pub count_records : List Take → ℕ → Records
count_records states count a j =
    if nat_eq a 0 then done [] (for_one j (row_of 1 ∷ [])) (row_of 1 ∷ row_of 1 ∷ []) [] []
    else if nat_eq a 1 then done (from_one j (row_of 1 ∷ [])) (for_one 0 (one_counted ∷ [])) [] [] []
    else if nat_eq a 2 then done (if nat_eq j 0 then states else []) (for_one j (only_in 0 (row_of count ∷ []) j)) [] [] []
    else done (from_one j (only_in 0 (row_of count ∷ []) j)) (λ r. []) [] [] (only_in 0 (row_of count ∷ []) j)

abbrev pub one_stage : List Stage
one_stage = stage (0 ∷ 1 ∷ 2 ∷ 3 ∷ []) ∷ []

abbrev pub CountSettles : Type 0
CountSettles = (set : List ℕ) → Settled (counting set) one_stage (count_records (from_both (one_counted ∷ []) (one_counted ∷ [])) 2)

-- the state of the first partition is taken twice
abbrev pub twice_taken : List Take
twice_taken = take_of 0 Open ∷ take_of 1 Open ∷ take_of 0 (Rows (one_counted ∷ [])) ∷ take_of 0 (Rows (one_counted ∷ [])) ∷ take_of 1 (Rows (one_counted ∷ [])) ∷ take_of 0 Close ∷ take_of 1 Close ∷ []

abbrev pub TwiceTakenSettles : Type 0
TwiceTakenSettles = (set : List ℕ) → Settled (counting set) one_stage (count_records twice_taken 3)

-- that of the second is not taken at all
abbrev pub HalfTakenSettles : Type 0
HalfTakenSettles = (set : List ℕ) → Settled (counting set) one_stage (count_records (from_both (one_counted ∷ []) []) 1)

-- ---- a join

-- the row of the right dataset, of two columns
abbrev pub right_row : Row
right_row = int 1 ∷ int 7 ∷ []

-- the pair of the left row of 1 with it
abbrev pub pair : Row
pair = int 1 ∷ int 1 ∷ int 7 ∷ []

-- a dataset of one column and one of two are joined by their first columns
abbrev pub joining : List ℕ → List ℕ → Job
joining left right = record {
  activities = act 0 (K.Scan left) 1 ∷ act 1 (K.Scan right) 2 ∷ act 2 (K.JoinBuild on_first) 2 ∷ act 3 (K.JoinProbe on_first) 3 ∷ act 4 (K.Result (0 ∷ 1 ∷ 2 ∷ [])) 3 ∷ [];
  edges = wire 1 2 (W.Hash (0 ∷ [])) ∷ wire 0 3 (W.Hash (0 ∷ [])) ∷ wire 3 4 W.Gather ∷ [];
  blocks = block 2 3 ∷ [];
  partitions = 2;
}

-- the row of this number goes to the partition of that number: of 1 and 2 the first partition has 2, and the second 1
abbrev pub other : ℕ → Row
other j = if nat_eq j 0 then row_of 2 else row_of 1

-- of the left rows 1 and 2, and the right row, the pairs that the probes give are these
abbrev pub join_records : (ℕ → List Row) → List Row → Records
join_records made on a j =
    if nat_eq a 0 then done [] (λ r. word_of (if nat_eq r j then [] else other r ∷ [])) (row_of 1 ∷ row_of 2 ∷ []) [] []
    else if nat_eq a 1 then done [] (λ r. word_of (if nat_eq j 0 then only_in 1 (right_row ∷ []) r else [])) (right_row ∷ []) [] []
    else if nat_eq a 2 then done (from_both (only_in 1 (right_row ∷ []) j) []) (λ r. []) [] [] (only_in 1 (right_row ∷ []) j)
    else if nat_eq a 3 then done (from_both (if nat_eq j 0 then [] else other 1 ∷ []) (if nat_eq j 0 then other 0 ∷ [] else [])) (for_one 0 (made j)) [] (only_in 1 (right_row ∷ []) j) []
    else if nat_eq j 0 then done (from_both (made 0) (made 1)) (λ r. []) [] [] on
    else done [] (λ r. []) [] [] []

abbrev pub join_stages : List Stage
join_stages = stage (1 ∷ 2 ∷ []) ∷ stage (0 ∷ 3 ∷ 4 ∷ []) ∷ []

abbrev pub JoinSettles : Type 0
JoinSettles = (left right : List ℕ) → Settled (joining left right) join_stages (join_records (only_in 1 (pair ∷ [])) (pair ∷ []))

-- the probe of the first partition gives 2 with 1
abbrev pub NoMatchSettles : Type 0
NoMatchSettles = (left right : List ℕ) (rest on : List Row) → Settled (joining left right) join_stages (join_records (only_in 0 ((int 2 ∷ int 1 ∷ int 7 ∷ []) ∷ rest)) on)

-- the probe of the second one gives nothing
abbrev pub NoPairSettles : Type 0
NoPairSettles = (left right : List ℕ) (on : List Row) → Settled (joining left right) join_stages (join_records (λ j. []) on)
