-- Small jobs whose tasks have run, and what their records tell.
use Rattle.std.specs.Prelude.{◌≡◌, ◌↔◌, ◌<◌, ℕ, nat_eq, true, false, if◌then◌else◌, List, [], ◌∷◌, ◌++◌, map, filter}
use Rattle.hy_job.specs.declared.job.Kind.TheVariants as K
use Rattle.hy_job.specs.declared.job.Wire.TheVariants as W
use Rattle.hy_job.specs.declared.job.Job.{Job}
use Rattle.hy_job.specs.declared.job.Stage.{Stage}
use Rattle.hy_job.specs.Columns.{Row, cut, dealt, holds, part_of}
use Rattle.hy_job.specs.Cases.{act, wire, block, stage, row_of, sorting, is_text}
use Rattle.hy_rest.specs.Words.{Signal, Open, Rows, Fail, Close}
use Rattle.hy_job.specs.Settled.{Outcome, Completed, Stopped, Check, IsFailed, Take, TaskRecord, Records, Settled}

-- on one partition, the first column of a dataset
abbrev pub listing : List ℕ → Job
listing set = record {
  activities = act 0 (K.Scan set) 2 ∷ act 1 (K.Result (0 ∷ [])) 1 ∷ [];
  edges = wire 0 1 W.OneToOne ∷ [];
  blocks = [];
  partitions = 1;
}

abbrev pub take_first : Signal Row → Take
take_first signal = record { input = 0; sender = 0; signal = signal }

-- the scan was given these rows, and put them
abbrev pub scan_record : List Row → TaskRecord
scan_record rows = record {
  took = [];
  put = λ r. if nat_eq r 0 then Open ∷ Rows rows ∷ Close ∷ [] else [];
  scanned = rows;
  handed = [];
  hands_on = [];
  raised = false;
  saw = false;
  outcome = Completed;
}

-- the result took them, and hands these on
abbrev pub result_record : List Row → List Row → TaskRecord
result_record rows on = record {
  took = take_first Open ∷ take_first (Rows rows) ∷ take_first Close ∷ [];
  put = λ r. [];
  scanned = [];
  handed = [];
  hands_on = on;
  raised = false;
  saw = false;
  outcome = Completed;
}

abbrev pub listing_records : List Row → List Row → Records
listing_records rows on a j = if nat_eq a 0 then scan_record rows else result_record rows on

-- the records fit together exactly where the result hands on the first column of the rows
abbrev pub ListingSettles : Type 0
ListingSettles = (set : List ℕ) (rows on : List Row) → Settled (listing set) (stage (0 ∷ 1 ∷ []) ∷ []) (listing_records rows on) ↔ (on ≡ map (cut (0 ∷ [])) rows)

-- a result that also took a row of a sender that is none
abbrev pub with_stray : List Row → Row → List Row → Records
with_stray rows row on a j =
    if nat_eq a 0 then scan_record rows
    else record (result_record rows on) { took = take_first Open ∷ take_first (Rows rows) ∷ record { input = 0; sender = 7; signal = Rows (row ∷ []) } ∷ take_first Close ∷ [] }

-- they do not fit together, whatever it hands on
abbrev pub NobodySends : Type 0
NobodySends = (set : List ℕ) (rows on : List Row) (row : Row) → Settled (listing set) (stage (0 ∷ 1 ∷ []) ∷ []) (with_stray rows row on) → ⊥

-- a result that stopped though no Fail came, and it saw no raised word
abbrev pub stopped_alone : List Row → List Row → Records
stopped_alone rows on a j = if nat_eq a 0 then scan_record rows else record (result_record rows on) { outcome = Stopped }

abbrev pub NoneStopsAlone : Type 0
NoneStopsAlone = (set : List ℕ) (rows on : List Row) → Settled (listing set) (stage (0 ∷ 1 ∷ []) ∷ []) (stopped_alone rows on) → ⊥

-- ---- a check that fails

-- on one partition, the second column of each row of a dataset is to be this text
abbrev pub checking : List ℕ → List ℕ → List ℕ → Job
checking set name text = record {
  activities = act 0 (K.Scan set) 2 ∷ act 1 (K.Check name (is_text text)) 2 ∷ act 2 (K.Result (0 ∷ [])) 1 ∷ [];
  edges = wire 0 1 W.OneToOne ∷ wire 1 2 W.OneToOne ∷ [];
  blocks = [];
  partitions = 1;
}

-- the check took one row, and failed
abbrev pub check_record : List ℕ → Row → TaskRecord
check_record name row = record {
  took = take_first Open ∷ take_first (Rows (row ∷ [])) ∷ take_first Close ∷ [];
  put = λ r. Open ∷ Fail ∷ Close ∷ [];
  scanned = [];
  handed = [];
  hands_on = [];
  raised = true;
  saw = false;
  outcome = Check name;
}

-- so it may, exactly where the condition is not TRUE on the row
abbrev pub CheckFails : Type 0
CheckFails = (set name text : List ℕ) (row : Row) → IsFailed (checking set name text) (act 1 (K.Check name (is_text text)) 2) 0 (check_record name row) ↔ (holds (is_text text) row ≡ false)

-- the result took its Fail, and ended so
abbrev pub after_check : List ℕ → Row → Outcome → Records
after_check name row outcome a j =
    if nat_eq a 0 then scan_record (row ∷ [])
    else if nat_eq a 1 then check_record name row
    else record {
      took = take_first Open ∷ take_first Fail ∷ take_first Close ∷ [];
      put = λ r. [];
      scanned = [];
      handed = [];
      hands_on = [];
      raised = false;
      saw = false;
      outcome = outcome;
    }

-- where it stopped all fits together, exactly where the condition is not TRUE on the row
abbrev pub FailStops : Type 0
FailStops = (set name text : List ℕ) (row : Row) → Settled (checking set name text) (stage (0 ∷ 1 ∷ 2 ∷ []) ∷ []) (after_check name row Stopped) ↔ (holds (is_text text) row ≡ false)

-- it did not complete
abbrev pub FailCompletesNone : Type 0
FailCompletesNone = (set name text : List ℕ) (row : Row) → Settled (checking set name text) (stage (0 ∷ 1 ∷ 2 ∷ []) ∷ []) (after_check name row Completed) → ⊥

-- ---- a hash wire

-- on two partitions, rows go to the partition that the hash of their one column names
abbrev pub hashing : List ℕ → Job
hashing set = record {
  activities = act 0 (K.Scan set) 1 ∷ act 1 (K.Result (0 ∷ [])) 1 ∷ [];
  edges = wire 0 1 (W.Hash (0 ∷ [])) ∷ [];
  blocks = [];
  partitions = 2;
}

abbrev pub word_of : List Row → List (Signal Row)
word_of rows = Open ∷ Rows rows ∷ Close ∷ []

abbrev pub take_of : ℕ → Signal Row → Take
take_of sender signal = record { input = 0; sender = sender; signal = signal }

-- a task that completed
abbrev pub done : List Take → (ℕ → List (Signal Row)) → List Row → List Row → List Row → TaskRecord
done took put scanned handed on = record { took = took; put = put; scanned = scanned; handed = handed; hands_on = on; raised = false; saw = false; outcome = Completed }

-- the scans put these rows for each receiver; the results took them of both, those of the second partition first
abbrev pub hash_records : List Row → (ℕ → ℕ → List Row) → (ℕ → List Row) → Records
hash_records scanned sent on a j =
    if nat_eq a 0 then done [] (λ r. word_of (sent j r)) scanned [] []
    else done (take_of 1 Open ∷ take_of 0 Open ∷ take_of 1 (Rows (sent 1 j)) ∷ take_of 0 (Rows (sent 0 j)) ∷ take_of 0 Close ∷ take_of 1 Close ∷ []) (λ r. []) [] [] (on j)

-- they fit together exactly where each receiver has its rows of what each partition is dealt, and hands on what came, as it came
abbrev pub HashSettles : Type 0
HashSettles = (set : List ℕ) (scanned : List Row) (sent : ℕ → ℕ → List Row) (on : ℕ → List Row) → Settled (hashing set) (stage (0 ∷ 1 ∷ []) ∷ []) (hash_records scanned sent on)
    ↔ (((j r : ℕ) → j < 2 → r < 2 → sent j r ≡ filter (λ row. nat_eq (part_of 2 (0 ∷ []) row) r) (dealt 2 j scanned)) × ((r : ℕ) → r < 2 → on r ≡ map (cut (0 ∷ [])) (sent 1 r ++ sent 0 r)))

-- ---- a sort

-- of two rows the second partition has the lesser one
abbrev pub row_at : ℕ → Row
row_at j = if nat_eq j 0 then row_of 2 else row_of 1

-- each partition sorts its row, and the result merges them; the emitting tasks were handed these rows
abbrev pub sort_records : (ℕ → List Row) → Records
sort_records handed a j =
    if nat_eq a 0 then done [] (λ r. if nat_eq r j then word_of (row_at j ∷ []) else []) (row_of 2 ∷ row_of 1 ∷ []) [] []
    else if nat_eq a 1 then done (take_of j Open ∷ take_of j (Rows (row_at j ∷ [])) ∷ take_of j Close ∷ []) (λ r. []) [] [] (row_at j ∷ [])
    else if nat_eq a 2 then done [] (λ r. if nat_eq r 0 then word_of (row_at j ∷ []) else []) [] (handed j) []
    else if nat_eq j 0 then done (take_of 0 Open ∷ take_of 1 Open ∷ take_of 0 (Rows (row_of 2 ∷ [])) ∷ take_of 1 (Rows (row_of 1 ∷ [])) ∷ take_of 0 Close ∷ take_of 1 Close ∷ []) (λ r. []) [] [] (row_of 1 ∷ row_of 2 ∷ [])
    else done [] (λ r. []) [] [] []

abbrev pub sort_stages : List Stage
sort_stages = stage (0 ∷ 1 ∷ []) ∷ stage (2 ∷ 3 ∷ []) ∷ []

-- that fits together where each was handed what the build of its partition handed on, and then alone
abbrev pub SortSettles : Type 0
SortSettles = (set : List ℕ) → Settled (sorting set (block 1 2 ∷ [])) sort_stages (sort_records (λ j. row_at j ∷ []))

abbrev pub SortIsHanded : Type 0
SortIsHanded = (set : List ℕ) (handed : ℕ → List Row) → Settled (sorting set (block 1 2 ∷ [])) sort_stages (sort_records handed) → (j : ℕ) → j < 2 → handed j ≡ row_at j ∷ []
