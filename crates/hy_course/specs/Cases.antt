-- Small tasks, and what their steps may do and may not.
use Rattle.std.specs.Prelude.{◌≡◌, ◌↔◌, ◌<◌, ℕ, zero, suc, nat_eq, Bool, true, false, ◌&&◌, ◌||◌, if◌then◌else◌, Some, None, List, [], ◌∷◌, ◌++◌, filter}
use Rattle.al_func.specs.declared.rex.Rex.{Rex}
use Rattle.hy_rest.specs.Words.{Signal, Open, Rows, Fail, Close, WriterWord}
use Rattle.hy_job.specs.declared.job.Kind.TheVariants as K
use Rattle.hy_job.specs.declared.job.Wire.TheVariants as W
use Rattle.hy_job.specs.declared.job.Activity.{Activity}
use Rattle.hy_job.specs.declared.job.Job.{Job}
use Rattle.hy_job.specs.Cases.{act, is_text, wire}
use Rattle.hy_job.specs.Columns.{Row, holds, part_of}
use Rattle.hy_job.specs.Runs.{Put, Taken, rows_at}
use Rattle.hy_job.specs.Settled.{Check, Outcome, Stopped, Store, Take}
use Rattle.hy_job.specs.SettledCases.{checking}
use Rattle.hy_course.specs.Task.{Deed, Looks, Moves, Puts, Takes, TaskOf, Work}
use Rattle.hy_course.specs.Course.{IsDoneTask, IsNewTask, Ran}

-- ---- a select

-- on two partitions, the rows of a dataset that pass go by their hash to the result
abbrev pub passing : List ℕ → Rex → Job
passing set c = record {
  activities = act 0 (K.Scan set) 1 ∷ act 1 (K.Select c) 1 ∷ act 2 (K.Result (0 ∷ [])) 1 ∷ [];
  edges = wire 0 1 W.OneToOne ∷ wire 1 2 (W.Hash (0 ∷ [])) ∷ [];
  blocks = [];
  partitions = 2;
}

abbrev pub selects : Rex → Activity
selects c = act 1 (K.Select c) 1

abbrev pub results : Activity
results = act 2 (K.Result (0 ∷ [])) 1

-- of these rows, those for the receiver
abbrev pub sent_part : ℕ → List Row → List Row
sent_part r rows = filter (λ row. nat_eq (part_of 2 (0 ∷ []) row) r) rows

-- of these rows, those that pass and are for the receiver
abbrev pub part_for : Rex → ℕ → List Row → List Row
part_for c r rows = sent_part r (filter (holds c) rows)

-- the rows that wait for each receiver, and then those that are still to come
pub record SelectPuts (c : Rex) (waits : ℕ → List Row) (took : List Taken) (put : Put) : Type 0 where
  pub to : (r : ℕ) → r < 2 → put.to r ≡ waits r ++ part_for c r (rows_at 0 took)
  pub on : put.on ≡ []

abbrev pub select : Rex → (ℕ → List Row) → (ℕ → ℕ → Bool) → TaskOf
select c waits closed = record {
  sound = Unit {0};
  rest = SelectPuts c waits;
  untested = [];
  closed = closed;
  failure = None;
  owed = λ r. [];
  raised = false;
  saw = false;
  hands_on = [];
}

-- one that failed, and owes this to each receiver
abbrev pub failed : Rex → Outcome → (ℕ → List (Signal Row)) → TaskOf
failed c outcome owed = record {
  sound = Unit {0};
  rest = SelectPuts c (λ r. []);
  untested = [];
  closed = λ input sender. false;
  failure = Some outcome;
  owed = owed;
  raised = false;
  saw = false;
  hands_on = [];
}

abbrev pub nothing : ℕ → List Row
nothing r = []

abbrev pub for_first : {A : Type 0} → List A → List A → ℕ → List A
for_first {A} xs ys r = if nat_eq r 0 then xs else ys

abbrev pub to_both : {A : Type 0} → (ℕ → List A) → ℕ → List A
to_both f zero = f 0
to_both f (suc zero) = f 1
to_both f (suc (suc r)) = []

abbrev pub none_closed : ℕ → ℕ → Bool
none_closed input sender = false

abbrev pub scan_closed : ℕ → ℕ → Bool
scan_closed input sender = nat_eq 0 input && nat_eq 1 sender

-- one that failed, and took the Close of its sender
abbrev pub failed_and_closed : Rex → Outcome → (ℕ → List (Signal Row)) → TaskOf
failed_and_closed c outcome owed = record (failed c outcome owed) { closed = scan_closed }

-- at the result: by the select of the first partition, and by that of the second too
abbrev pub first_closed : ℕ → ℕ → Bool
first_closed input sender = nat_eq 0 input && nat_eq 0 sender

abbrev pub both_closed : ℕ → ℕ → Bool
both_closed input sender = first_closed input sender || scan_closed input sender

-- a step of the select in the second partition
abbrev pub SelectMoves : List ℕ → Rex → TaskOf → Deed → TaskOf → Type 0
SelectMoves set c old deed new = Moves (passing set c) (selects c) 1 old deed new

-- ---- rows

-- of a row that was taken, what passes waits for its receiver; where it passes it may not be lost
abbrev pub TakenRowWaits : Type 0
TakenRowWaits = (set : List ℕ) (c : Rex) (row : Row) → SelectMoves set c (select c nothing none_closed) (Takes 0 1 (Rows (row ∷ []))) (select c (λ r. part_for c r (row ∷ [])) none_closed)

abbrev pub LostRowIsNone : Type 0
LostRowIsNone = (set : List ℕ) (c : Rex) (row : Row) → holds c row ≡ true → nat_eq (part_of 2 (0 ∷ []) row) 0 ≡ true
    → SelectMoves set c (select c nothing none_closed) (Takes 0 1 (Rows (row ∷ []))) (select c nothing none_closed) → ⊥

-- a row that waits is put, and waits no more; one that doesn't is not put, nor one for another receiver
abbrev pub WaitingRowIsPut : Type 0
WaitingRowIsPut = (set : List ℕ) (c : Rex) (row : Row)
    → SelectMoves set c (select c (for_first (row ∷ []) []) none_closed) (Puts 0 (Rows (row ∷ []))) (select c nothing none_closed)

abbrev pub UnowedRowIsNone : Type 0
UnowedRowIsNone = (set : List ℕ) (c : Rex) (row : Row) → SelectMoves set c (select c nothing none_closed) (Puts 0 (Rows (row ∷ []))) (select c nothing none_closed) → ⊥

abbrev pub WrongReceiverIsNone : Type 0
WrongReceiverIsNone = (set : List ℕ) (c : Rex) (row : Row)
    → SelectMoves set c (select c (for_first (row ∷ []) []) none_closed) (Puts 1 (Rows (row ∷ []))) (select c nothing none_closed) → ⊥

-- the scan of the first partition sends nothing to the second, and there is no third receiver
abbrev pub StrayIsNone : Type 0
StrayIsNone = (set : List ℕ) (c : Rex)
    → (SelectMoves set c (select c nothing none_closed) (Takes 0 0 Open) (select c nothing none_closed) → ⊥)
    × (SelectMoves set c (select c nothing none_closed) (Puts 2 Open) (select c nothing none_closed) → ⊥)

-- a Close that was taken is counted
abbrev pub CloseIsCounted : Type 0
CloseIsCounted = (set : List ℕ) (c : Rex)
    → SelectMoves set c (select c nothing none_closed) (Takes 0 1 Close) (select c nothing scan_closed)
    × (SelectMoves set c (select c nothing none_closed) (Takes 0 1 Close) (select c nothing none_closed) → ⊥)

-- ---- failures

-- who takes a Fail stops, and owes a front of what waited, and word of its failure; not to stop is no step
abbrev pub FailStopsIt : Type 0
FailStopsIt = (set : List ℕ) (c : Rex) (row next : Row)
    → SelectMoves set c (select c (for_first (row ∷ next ∷ []) []) none_closed) (Takes 0 1 Fail) (failed c Stopped (for_first (Rows (row ∷ []) ∷ Fail ∷ Close ∷ []) (Fail ∷ Close ∷ [])))
    × (SelectMoves set c (select c nothing none_closed) (Takes 0 1 Fail) (select c nothing none_closed) → ⊥)

-- nor is to see a raised word
abbrev pub SightStopsIt : Type 0
SightStopsIt = (set : List ℕ) (c : Rex)
    → SelectMoves set c (select c nothing none_closed) (Looks true) (record (failed c Stopped (λ r. Fail ∷ Close ∷ [])) { saw = true })
    × SelectMoves set c (select c nothing none_closed) (Looks false) (select c nothing none_closed)
    × (SelectMoves set c (select c nothing none_closed) (Looks true) (record (select c nothing none_closed) { saw = true }) → ⊥)
    × (SelectMoves set c (select c nothing none_closed) (Looks false) (failed c Stopped (λ r. Fail ∷ Close ∷ [])) → ⊥)

-- it owes word of its failure, not just a Close, and no row that it might not have put
abbrev pub CloseAloneIsNone : Type 0
CloseAloneIsNone = (set : List ℕ) (c : Rex) → SelectMoves set c (select c nothing none_closed) (Takes 0 1 Fail) (failed c Stopped (λ r. Close ∷ [])) → ⊥

abbrev pub StrayRowFailsNone : Type 0
StrayRowFailsNone = (set : List ℕ) (c : Rex) (row : Row)
    → SelectMoves set c (select c nothing none_closed) (Takes 0 1 Fail) (failed c Stopped (for_first (Rows (row ∷ []) ∷ Fail ∷ Close ∷ []) (Fail ∷ Close ∷ []))) → ⊥

-- a fault is met in work, and is no stop
abbrev pub FaultIsMetInWork : Type 0
FaultIsMetInWork = (set : List ℕ) (c : Rex)
    → SelectMoves set c (select c nothing none_closed) Work (failed c Store (λ r. Fail ∷ Close ∷ []))
    × (SelectMoves set c (select c nothing none_closed) Work (failed c Stopped (λ r. Fail ∷ Close ∷ [])) → ⊥)
    × (SelectMoves set c (select c nothing none_closed) (Takes 0 1 Fail) (failed c Store (λ r. Fail ∷ Close ∷ [])) → ⊥)

-- who failed puts what it owes, in order, and has failed for good
abbrev pub OwedIsPut : Type 0
OwedIsPut = (set : List ℕ) (c : Rex)
    → SelectMoves set c (failed c Stopped (λ r. Fail ∷ Close ∷ [])) (Puts 0 Fail) (failed c Stopped (for_first (Close ∷ []) (Fail ∷ Close ∷ [])))
    × (SelectMoves set c (failed c Stopped (λ r. Fail ∷ Close ∷ [])) (Puts 0 Close) (failed c Stopped (for_first (Fail ∷ []) (Fail ∷ Close ∷ []))) → ⊥)

abbrev pub FailureStays : Type 0
FailureStays = (set : List ℕ) (c : Rex)
    → (SelectMoves set c (failed c Stopped (λ r. [])) Work (select c nothing none_closed) → ⊥)
    × (SelectMoves set c (failed c Stopped (λ r. [])) Work (failed c Store (λ r. [])) → ⊥)

-- ---- a check

-- on one partition, a check that has these rows to test, and as many waiting
pub record CheckPuts (waits : List Row) (took : List Taken) (put : Put) : Type 0 where
  pub to : (r : ℕ) → r < 1 → put.to r ≡ waits ++ rows_at 0 took
  pub on : put.on ≡ []

abbrev pub check : List Row → List Row → TaskOf
check waits untested = record {
  sound = Unit {0};
  rest = CheckPuts waits;
  untested = untested;
  closed = none_closed;
  failure = None;
  owed = λ r. [];
  raised = false;
  saw = false;
  hands_on = [];
}

abbrev pub CheckMoves : List ℕ → List ℕ → List ℕ → TaskOf → Deed → TaskOf → Type 0
CheckMoves set name text old deed new = Moves (checking set name text) (act 1 (K.Check name (is_text text)) 2) 0 old deed new

-- it goes on exactly where its condition is TRUE on the row
abbrev pub TestedRowPasses : Type 0
TestedRowPasses = (set name text : List ℕ) (row : Row) → CheckMoves set name text (check (row ∷ []) (row ∷ [])) Work (check (row ∷ []) []) ↔ (holds (is_text text) row ≡ true)

-- and fails where it isn't
abbrev pub TestedRowFails : Type 0
TestedRowFails = (set name text : List ℕ) (row : Row)
    → CheckMoves set name text (check (row ∷ []) (row ∷ [])) Work (record (check (row ∷ []) []) { failure = Some (Check name); owed = λ r. Fail ∷ Close ∷ [] }) ↔ (holds (is_text text) row ≡ false)

-- ---- at the end

abbrev pub SelectIsDone : List ℕ → Rex → TaskOf → Type 0
SelectIsDone set c t = IsDoneTask (passing set c) (selects c) 1 t

-- it is done where nothing waits; where a row waits, or word of a failure is owed, it isn't
abbrev pub DoneOwesNothing : Type 0
DoneOwesNothing = (set : List ℕ) (c : Rex) (row : Row)
    → SelectIsDone set c (select c nothing scan_closed)
    × SelectIsDone set c (failed_and_closed c Stopped (λ r. []))
    × (SelectIsDone set c (select c (for_first (row ∷ []) []) scan_closed) → ⊥)
    × (SelectIsDone set c (failed_and_closed c Stopped (λ r. Close ∷ [])) → ⊥)

-- where the Close of a sender is still to come it isn't done, whether it failed or not
abbrev pub CloseIsAwaited : Type 0
CloseIsAwaited = (set : List ℕ) (c : Rex)
    → (SelectIsDone set c (select c nothing none_closed) → ⊥)
    × (SelectIsDone set c (failed c Stopped (λ r. [])) → ⊥)

-- the result has two senders: it is done with the Close of both, and not with that of one
abbrev pub BothAreAwaited : Type 0
BothAreAwaited = (set : List ℕ) (c : Rex)
    → IsDoneTask (passing set c) results 1 (record (failed c Stopped (λ r. [])) { closed = both_closed })
    × (IsDoneTask (passing set c) results 1 (record (failed c Stopped (λ r. [])) { closed = first_closed }) → ⊥)

-- who raised without a fault isn't done, nor who met a fault and did not raise
abbrev pub RaisesForFaults : Type 0
RaisesForFaults = (set : List ℕ) (c : Rex)
    → SelectIsDone set c (record (failed_and_closed c Store (λ r. [])) { raised = true })
    × (SelectIsDone set c (record (select c nothing scan_closed) { raised = true }) → ⊥)
    × (SelectIsDone set c (record (failed_and_closed c Stopped (λ r. [])) { raised = true }) → ⊥)
    × (SelectIsDone set c (failed_and_closed c Store (λ r. [])) → ⊥)

-- ---- from its beginning to its end

abbrev pub came : Signal Row → Take
came signal = record { input = 0; sender = 1; signal = signal }

-- it took one row, and put what passes of it
pub record IsWholeCourse (set : List ℕ) (c : Rex) (row : Row) (put : ℕ → List (Signal Row)) : Type 0 where
  pub begins : IsNewTask (passing set c) (selects c) 1 [] [] (select c nothing none_closed)
  pub ran : Ran (passing set c) (selects c) 1 (select c nothing none_closed) (came Open ∷ came (Rows (row ∷ [])) ∷ came Close ∷ []) put (select c nothing scan_closed)
  pub ends : IsDoneTask (passing set c) (selects c) 1 (select c nothing scan_closed)
  pub words : (r : ℕ) → r < 2 → WriterWord (put r)

abbrev pub SelectsWhole : Type 0
SelectsWhole = (set : List ℕ) (c : Rex) (row : Row) → IsWholeCourse set c row (to_both (λ r. Open ∷ Rows (part_for c r (row ∷ [])) ∷ Close ∷ []))

-- it does not run so where it puts nothing of a row that passes
abbrev pub SelectsAll : Type 0
SelectsAll = (set : List ℕ) (c : Rex) (row : Row) → holds c row ≡ true → nat_eq (part_of 2 (0 ∷ []) row) 0 ≡ true → IsWholeCourse set c row (to_both (λ r. Open ∷ Close ∷ [])) → ⊥
