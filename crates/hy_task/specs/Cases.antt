-- A small task between its steps: what is true of it, and what is not.
use Rattle.std.specs.Prelude.{◌≡◌, ◌+◌, ℕ, zero, suc, Bool, true, false, Option, Some, None, List, [], ◌∷◌}
use Rattle.al_func.specs.declared.rex.Rex.{Rex}
use Rattle.hy_frame.specs.Row.{Fields}
use Rattle.hy_frame.specs.declared.writer.WriterState.{WriterState}
use Rattle.hy_frame.specs.declared.writer.WriterState.TheVariants.{Initial, Opened, Failed, Closed}
use Rattle.hy_job.specs.Settled as S
use Rattle.hy_job.specs.Settled.{Outcome}
use Rattle.hy_mail.specs.declared.parcel.Parcel.{Parcel}
use Rattle.hy_mail.specs.declared.parcel.Parcel.TheVariants as P
use Rattle.hy_store.specs.declared.fault.OpFault.TheVariants as F
use Rattle.hy_driver.specs.Forms.{storeless}
use Rattle.hy_driver.specs.Rows.{Row}
use Rattle.hy_driver.specs.Seen.{Fixed, Seen}
use Rattle.hy_driver.specs.declared.phase.Phase.{Phase}
use Rattle.hy_driver.specs.declared.phase.Phase.TheVariants.{Ended, Hungry}
use Rattle.hy_connect.specs.declared.route.Route.TheVariants as R
use Rattle.hy_output.specs.declared.way.Way.{Way}
use Rattle.hy_output.specs.declared.way.Way.TheVariants as W
use Rattle.hy_output.specs.Cases.{frame, keeping, no, yes}
use Rattle.hy_output.specs.Outputs.{OutputOf, output_of}
use Rattle.hy_output.specs.Ways.{HasNoFail}
use Rattle.hy_input.specs.declared.taker.Taker.TheVariants as T
use Rattle.hy_input.specs.Inputs.{InputOf, input_of}
use Rattle.hy_course.specs.Cases.{passing, results, selects}
use Rattle.hy_pipeline.specs.Cases.{all_for_first, first_waits, no_row, outlet_with, swapped, yes_row}
use Rattle.hy_pipeline.specs.Pipeline.{PipelineOf}
use Rattle.hy_pipeline.specs.Tasks.{Tells}
use Rattle.hy_task.specs.Standing.{HasFinished, IsFrom, IsPlaced, IsThrough, Lives, OnlyWaits, Stands, WorkOf, hands_on_of}
use Rattle.hy_task.specs.Laws.{IsAtEnd, outcome_by}

-- ---- places and senders

-- the select of a partition sends to both tasks of the result: each has a place of its own
abbrev pub PlacesAreReceivers : Type 0
PlacesAreReceivers = (set : List ℕ) (c : Rex)
    → IsPlaced (passing set c) (selects c) 1 swapped (first_waits [])
    × (IsPlaced (passing set c) (selects c) 1 all_for_first (first_waits []) → ⊥)
    × (IsPlaced (passing set c) (selects c) 1 (λ k. k + 1) (first_waits []) → ⊥)
    × (IsPlaced (passing set c) (selects c) 1 swapped (keeping []) → ⊥)

-- an input of one sender, the task of a partition, that is open, or of none; these rows are at hand, of which so many were gone on to
abbrev pub of_one : ℕ → List Bool → List Fields → ℕ → InputOf
of_one from closed rows next = input_of (T.One (record { mailbox = 3; closed = closed })) from (Some (frame rows)) next false

abbrev pub of_many : List Bool → InputOf
of_many closed = input_of (T.Many (record { mailbox = 3; closed = closed })) 0 None 0 false

-- the select takes of the scan of its own partition, and the result of the selects of both
abbrev pub SendersAreOfEdges : Type 0
SendersAreOfEdges = (set : List ℕ) (c : Rex)
    → IsFrom (passing set c) (selects c) 1 0 (of_one 1 (false ∷ []) [] 0)
    × (IsFrom (passing set c) (selects c) 1 0 (of_one 0 (false ∷ []) [] 0) → ⊥)
    × (IsFrom (passing set c) (selects c) 1 0 (of_one 1 [] [] 0) → ⊥)
    × IsFrom (passing set c) results 1 0 (of_many (false ∷ false ∷ []))
    × (IsFrom (passing set c) results 1 0 (of_many (false ∷ [])) → ⊥)
    × (IsFrom (passing set c) results 1 0 (of_many (false ∷ false ∷ false ∷ [])) → ⊥)

-- ---- operators

-- rows of one value
abbrev pub narrow : Fixed
narrow = record { unit = 256; memory = 4; cost = 0; width = λ k. 1; arity = 1; check = None }

abbrev pub first_ended : Bool → ℕ → Bool
first_ended ended zero = ended
first_ended ended (suc k) = true

-- it owes these rows, and has only its first input
abbrev pub owing : List Row → Bool → Phase → List Row → List Row → Seen
owing owed ended phase untested hands_on = storeless (λ took put. (took ≡ []) × (put ≡ owed)) (first_ended ended) phase 2 untested hands_on narrow

-- one that ended tells, where what it may still put is what it hands on
abbrev pub TellsWhatIsLeft : Type 0
TellsWhatIsLeft = Tells (owing (yes_row ∷ []) true Ended [] (yes_row ∷ []))
    × (Tells (owing (yes_row ∷ []) true Ended [] []) → ⊥)
    × Tells (owing (yes_row ∷ []) true Hungry [] [])

-- it is through, where each input has ended and no row is to be tested
abbrev pub ThroughHasTested : Type 0
ThroughHasTested = IsThrough (owing [] true Ended [] []) × (IsThrough (owing [] false Ended [] []) → ⊥) × (IsThrough (owing [] true Ended (yes_row ∷ []) []) → ⊥)

-- ---- what goes out

-- to two receivers, of whom a frame with a row is filled for the second
abbrev pub filling_second : List Parcel → WriterState → Way
filling_second waits state =
    W.Wire (record { route = R.Whole; arity = 1; unit = 256; outlets = outlet_with waits ∷ record { mailbox = 4; filling = Some (frame (no ∷ [])); waits = []; spare = 9 } ∷ []; state = state })

abbrev pub both_wait : List Parcel → List Parcel → WriterState → Way
both_wait first second state = W.Wire (record { route = R.Whole; arity = 1; unit = 256; outlets = outlet_with first ∷ outlet_with second ∷ []; state = state })

-- a frame that is filled is owed beside what waits
abbrev pub FilledIsOwed : Type 0
FilledIsOwed = OnlyWaits (both_wait (P.Frame (frame (yes ∷ [])) ∷ P.Close ∷ []) (P.Close ∷ []) Closed) × (OnlyWaits (filling_second (P.Close ∷ []) Closed) → ⊥)

-- a Fail in any place is one
abbrev pub FailWaitsInOne : Type 0
FailWaitsInOne = HasNoFail (both_wait (P.Open ∷ P.Close ∷ []) (P.Frame (frame (yes ∷ [])) ∷ P.Close ∷ []) Closed)
    × (HasNoFail (both_wait (P.Open ∷ []) (P.Open ∷ P.Fail ∷ P.Close ∷ []) Closed) → ⊥)
    × (HasNoFail (both_wait (P.Fail ∷ []) [] Failed) → ⊥)

-- ---- the task

abbrev pub first_input : InputOf → ℕ → InputOf
first_input input zero = input
first_input input (suc k) = of_one 0 [] [] 0

abbrev pub parts : InputOf → Seen → OutputOf → PipelineOf
parts input operator output = record { input = first_input input; operator = operator; output = output }

abbrev pub writing : Way → OutputOf
writing way = output_of 1 256 None way

-- what is kept comes before what the operator leaves; over a wire nothing is handed on, nor by a task that failed
abbrev pub HandsOnByWay : Type 0
HandsOnByWay = (hands_on_of None (parts (of_one 1 (true ∷ []) [] 0) (owing (no_row ∷ []) true Ended [] (no_row ∷ [])) (writing (keeping (frame (yes ∷ []) ∷ [])))) ≡ yes_row ∷ no_row ∷ [])
    × (hands_on_of None (parts (of_one 1 (true ∷ []) [] 0) (owing (no_row ∷ []) true Ended [] (no_row ∷ [])) (writing (keeping (frame (yes ∷ []) ∷ [])))) ≡ no_row ∷ yes_row ∷ [] → ⊥)
    × (hands_on_of None (parts (of_one 1 (true ∷ []) [] 0) (owing (no_row ∷ []) true Ended [] (no_row ∷ [])) (writing (first_waits []))) ≡ [])
    × (hands_on_of (Some S.Stopped) (parts (of_one 1 (true ∷ []) [] 0) (owing (no_row ∷ []) true Ended [] (no_row ∷ [])) (writing (keeping (frame (yes ∷ []) ∷ [])))) ≡ [])

-- it has finished where its operator has ended, nothing is packed, and over a wire nothing is left
abbrev pub FinishedLeavesNothing : Type 0
FinishedLeavesNothing = HasFinished (parts (of_one 1 (true ∷ []) [] 0) (owing [] true Ended [] []) (writing (both_wait (P.Close ∷ []) (P.Close ∷ []) Closed)))
    × (HasFinished (parts (of_one 1 (true ∷ []) [] 0) (owing [] true Hungry [] []) (writing (both_wait [] [] Closed))) → ⊥)
    × (HasFinished (parts (of_one 1 (true ∷ []) [] 0) (owing [] true Ended [] []) (output_of 1 256 (Some (frame (yes ∷ []))) (both_wait [] [] Closed))) → ⊥)
    × (HasFinished (parts (of_one 1 (true ∷ []) [] 0) (owing (yes_row ∷ []) true Ended [] (yes_row ∷ [])) (writing (both_wait [] [] Closed))) → ⊥)

-- a select in the second partition, which hungers with a row at hand
abbrev pub hungry : List Fields → ℕ → Bool → Way → PipelineOf
hungry rows next ended way = parts (of_one 1 (false ∷ []) rows next) (owing [] ended Hungry [] []) (writing way)

-- a row at hand is of an input that the operator was not told to be over, and as wide as it takes them; no Fail waits, and it hasn't ended
abbrev pub RowsAtHandAreToCome : Type 0
RowsAtHandAreToCome = (c : Rex)
    → Lives (selects c) (hungry (yes ∷ []) 0 false (both_wait (P.Open ∷ []) [] Opened))
    × (Lives (selects c) (hungry (yes ∷ []) 0 true (both_wait (P.Open ∷ []) [] Opened)) → ⊥)
    × (Lives (selects c) (hungry (yes ∷ []) 0 false (both_wait (P.Open ∷ P.Fail ∷ []) [] Opened)) → ⊥)
    × (Lives (selects c) (hungry (([] ∷ yes) ∷ []) 0 false (both_wait [] [] Opened)) → ⊥)
    × (Lives (selects c) (hungry [] 0 false (both_wait [] [] Closed)) → ⊥)

abbrev pub task : PipelineOf → Option Outcome → Bool → Bool → WorkOf
task pipeline failure raised owes_raise = record { pipeline = pipeline; failure = failure; raised = raised; owes_raise = owes_raise; saw = false }

-- it raised the word or still has to where it met a fault, and only there; one that failed had opened its output
abbrev pub FaultsAreRaised : Type 0
FaultsAreRaised = (set : List ℕ) (c : Rex)
    → Stands (passing set c) (selects c) 1 swapped (task (hungry (yes ∷ []) 0 false (both_wait (P.Open ∷ []) [] Opened)) None false false)
    × (Stands (passing set c) (selects c) 1 swapped (task (hungry (yes ∷ []) 0 false (both_wait (P.Open ∷ []) [] Opened)) None true false) → ⊥)
    × Stands (passing set c) (selects c) 1 swapped (task (hungry (yes ∷ []) 0 false (both_wait (P.Open ∷ []) [] Opened)) (Some S.Store) false true)
    × (Stands (passing set c) (selects c) 1 swapped (task (hungry (yes ∷ []) 0 false (both_wait (P.Open ∷ []) [] Opened)) (Some S.Store) false false) → ⊥)
    × (Stands (passing set c) (selects c) 1 swapped (task (hungry (yes ∷ []) 0 false (both_wait (P.Open ∷ []) [] Opened)) (Some S.Stopped) true false) → ⊥)
    × (Stands (passing set c) (selects c) 1 swapped (task (hungry (yes ∷ []) 0 false (both_wait [] [] Initial)) (Some S.Stopped) false false) → ⊥)

-- it is at its end where its sender has closed, and nothing waits or is to be raised
abbrev pub EndsWithoutDuties : Type 0
EndsWithoutDuties = (c : Rex)
    → IsAtEnd (selects c) (task (parts (of_one 1 (true ∷ []) [] 0) (owing [] true Ended [] []) (writing (both_wait [] [] Closed))) None false false)
    × (IsAtEnd (selects c) (task (parts (of_one 1 (true ∷ []) [] 0) (owing [] true Ended [] []) (writing (both_wait [] (P.Close ∷ []) Closed))) None false false) → ⊥)
    × (IsAtEnd (selects c) (task (parts (of_one 1 (false ∷ []) [] 0) (owing [] true Ended [] []) (writing (both_wait [] [] Closed))) (Some S.Stopped) false false) → ⊥)
    × (IsAtEnd (selects c) (task (parts (of_one 1 (true ∷ []) [] 0) (owing [] true Ended [] []) (writing (both_wait [] [] Closed))) (Some S.Store) false true) → ⊥)

-- a fault of the operator is the task's
abbrev pub FaultsAreOutcomes : Type 0
FaultsAreOutcomes = (name : List ℕ) → (outcome_by (F.Check name) ≡ S.Check name) × (outcome_by F.Store ≡ S.Store) × (outcome_by F.NoMemory ≡ S.NoMemory) × (outcome_by F.Store ≡ S.NoMemory → ⊥)
