-- What parcels say, and what may be put for whom: small cases.
use Rattle.std.specs.Prelude.{◌≡◌, ℕ, zero, suc, List, [], ◌∷◌, Some, None, true, false}
use Rattle.al_value.specs.declared.value.Value.TheVariants as V
use Rattle.al_func.specs.declared.rex.Rex.{Rex}
use Rattle.hy_frame.specs.Row.{Fields}
use Rattle.hy_rest.specs.Words.{Open, Rows, Fail, Close}
use Rattle.hy_frame.specs.declared.writer.WriterState.TheVariants.{Initial, Opened, Failed, Closed}
use Rattle.hy_job.specs.declared.job.Wire.TheVariants as J
use Rattle.hy_job.specs.declared.job.Kind.TheVariants as K
use Rattle.hy_job.specs.Cases.{wire}
use Rattle.hy_job.specs.Columns.{holds}
use Rattle.hy_mail.specs.declared.parcel.Parcel.{Parcel}
use Rattle.hy_mail.specs.declared.parcel.Parcel.TheVariants as P
use Rattle.hy_driver.specs.Rows.{Row}
use Rattle.hy_connect.specs.declared.route.Route.TheVariants as R
use Rattle.hy_connect.specs.Outlets.{OutletOf}
use Rattle.hy_connect.specs.Sources.{SourceOf}
use Rattle.hy_connect.specs.Merges.{merger_of}
use Rattle.hy_output.specs.declared.way.Way.{Way}
use Rattle.hy_output.specs.declared.way.Way.TheVariants as W
use Rattle.hy_output.specs.Cases.{frame, keeping, no, yes}
use Rattle.hy_input.specs.declared.taker.Taker.TheVariants as T
use Rattle.hy_input.specs.Inputs.{InputOf, input_of}
use Rattle.hy_pipeline.specs.Pipeline.{AreApart, OffersTo, keeps_on, put_for, signal_of, take_of, waits_for}
use Rattle.hy_pipeline.specs.Laws.{IsNewWay, Leaves, OwesNothing}
use Rattle.hy_pipeline.specs.Tasks.{lacks, owes}
use Rattle.hy_pipeline.specs.Tests.{at_hand, check_of}

abbrev pub yes_row : Row
yes_row = V.Bool true ∷ []

abbrev pub no_row : Row
no_row = V.Bool false ∷ []

-- ---- parcels

-- a frame says its rows of values in order, of the input and the sender of whom it was taken
abbrev pub FramesAreRows : Type 0
FramesAreRows = (signal_of (P.Frame (frame (yes ∷ no ∷ []))) ≡ Rows (yes_row ∷ no_row ∷ []))
    × (signal_of (P.Frame (frame (yes ∷ no ∷ []))) ≡ Rows (no_row ∷ yes_row ∷ []) → ⊥)
    × (take_of 0 1 P.Close ≡ record { input = 0; sender = 1; signal = Close } ∷ [])
    × (take_of 0 1 P.Close ≡ record { input = 1; sender = 0; signal = Close } ∷ [] → ⊥)

-- what is put is put for its receiver alone
abbrev pub PutForOne : Type 0
PutForOne = (put_for 1 P.Open 1 ≡ Open ∷ []) × (put_for 1 P.Open 0 ≡ []) × (put_for 1 P.Open 2 ≡ [])

-- ---- what goes out

abbrev pub outlet_with : List Parcel → OutletOf
outlet_with waits = record { mailbox = 3; filling = None; waits = waits; spare = 9 }

-- over a broadcast to two tasks: these parcels wait in the first place, and none in the second
abbrev pub first_waits : List Parcel → Way
first_waits waits = W.Wire (record { route = R.Whole; arity = 1; unit = 256; outlets = outlet_with waits ∷ outlet_with [] ∷ []; state = Opened })

-- the first place is for the second task, and the second place for the first one
abbrev pub swapped : ℕ → ℕ
swapped zero = 1
swapped (suc k) = 0

abbrev pub all_for_first : ℕ → ℕ
all_for_first k = 0

abbrev pub SwappedAreApart : Type 0
SwappedAreApart = AreApart swapped 2 × (AreApart all_for_first 2 → ⊥)

-- what waits in the first place is for the second task, and for no other
abbrev pub WaitsForSecond : Type 0
WaitsForSecond = (waits_for swapped (first_waits (P.Open ∷ [])) 1 ≡ Open ∷ []) × (waits_for swapped (first_waits (P.Open ∷ [])) 0 ≡ []) × (waits_for swapped (first_waits (P.Open ∷ [])) 2 ≡ [])

-- and it comes before what is still given; a task in no place is put nothing
abbrev pub OfferedToSecond : Type 0
OfferedToSecond = OffersTo swapped (first_waits (P.Frame (frame (yes ∷ [])) ∷ [])) 1 (no_row ∷ []) (yes_row ∷ no_row ∷ [])
    × (OffersTo swapped (first_waits (P.Frame (frame (yes ∷ [])) ∷ [])) 1 (no_row ∷ []) (no_row ∷ yes_row ∷ []) → ⊥)
    × (OffersTo swapped (first_waits (P.Frame (frame (yes ∷ [])) ∷ [])) 0 (no_row ∷ []) (yes_row ∷ no_row ∷ []) → ⊥)
    × OffersTo swapped (first_waits (P.Frame (frame (yes ∷ [])) ∷ [])) 2 (no_row ∷ []) []
    × (OffersTo swapped (first_waits (P.Frame (frame (yes ∷ [])) ∷ [])) 2 (no_row ∷ []) (no_row ∷ []) → ⊥)

-- what was kept comes first, and over a wire nothing is handed on
abbrev pub KeptComesFirst : Type 0
KeptComesFirst = keeps_on (keeping (frame (yes ∷ []) ∷ [])) (no_row ∷ []) (yes_row ∷ no_row ∷ [])
    × (keeps_on (keeping (frame (yes ∷ []) ∷ [])) (no_row ∷ []) (no_row ∷ yes_row ∷ []) → ⊥)
    × (keeps_on (keeping (frame (yes ∷ []) ∷ [])) (no_row ∷ []) (yes_row ∷ []) → ⊥)
    × keeps_on (first_waits []) (no_row ∷ []) []
    × (keeps_on (first_waits []) (no_row ∷ []) (no_row ∷ []) → ⊥)

-- ---- at the beginning and at the end

-- without an edge rows are kept, and with one they are not; a wire to two is none of a gather, and one that owes something isn't new
abbrev pub NewWaysAreOfEdges : Type 0
NewWaysAreOfEdges = IsNewWay 2 0 [] (λ k. k) (keeping [])
    × (IsNewWay 2 0 [] (λ k. k) (keeping (frame (yes ∷ []) ∷ [])) → ⊥)
    × (IsNewWay 2 0 [] (λ k. k) (first_waits []) → ⊥)
    × IsNewWay 2 0 (wire 0 1 J.Broadcast ∷ []) (λ k. k) (first_waits [])
    × (IsNewWay 2 0 (wire 0 1 J.Gather ∷ []) (λ k. k) (first_waits []) → ⊥)
    × (IsNewWay 2 0 (wire 0 1 J.Broadcast ∷ []) swapped (first_waits []) → ⊥)
    × (IsNewWay 2 0 (wire 0 1 J.Broadcast ∷ []) (λ k. k) (first_waits (P.Frame (frame (yes ∷ [])) ∷ [])) → ⊥)

-- over a wire an operator leaves nothing; where rows are kept, what it leaves comes last
abbrev pub LeftComesLast : Type 0
LeftComesLast = Leaves (first_waits []) [] [] × (Leaves (first_waits []) (yes_row ∷ []) (yes_row ∷ []) → ⊥)
    × Leaves (keeping (frame (yes ∷ []) ∷ [])) (no_row ∷ []) (yes_row ∷ no_row ∷ [])
    × (Leaves (keeping (frame (yes ∷ []) ∷ [])) (no_row ∷ []) (no_row ∷ yes_row ∷ []) → ⊥)

-- words are no rows, so a Close that waits leaves nothing owed, and a frame does
abbrev pub RowsAreOwed : Type 0
RowsAreOwed = OwesNothing (first_waits (P.Close ∷ [])) × (OwesNothing (first_waits (P.Frame (frame (yes ∷ [])) ∷ [])) → ⊥)

-- ---- tasks

-- what waits comes first, then word of the failure and the end; a task that closed lacks nothing
abbrev pub FailedOwes : Type 0
FailedOwes = (owes swapped (first_waits (P.Open ∷ [])) 1 ≡ Open ∷ Fail ∷ Close ∷ []) × (owes swapped (first_waits (P.Open ∷ [])) 0 ≡ Fail ∷ Close ∷ [])
    × (owes swapped (first_waits (P.Open ∷ [])) 1 ≡ Fail ∷ Close ∷ Open ∷ [] → ⊥) × (lacks Failed ≡ Close ∷ []) × (lacks Initial ≡ Open ∷ Fail ∷ Close ∷ []) × (lacks Closed ≡ [])

-- an input of one sender, with these rows at hand, of which so many were gone on to
abbrev pub holding : List Fields → ℕ → InputOf
holding rows next = input_of (T.One (record { mailbox = 3; closed = false ∷ [] })) 0 (Some (frame rows)) next false

-- of rows at hand those are still to be tested that were not gone on to
abbrev pub HandsAreLeft : Type 0
HandsAreLeft = (at_hand (holding (yes ∷ no ∷ []) 1) ≡ no_row ∷ []) × (at_hand (holding (yes ∷ no ∷ []) 0) ≡ yes_row ∷ no_row ∷ []) × (at_hand (holding (yes ∷ no ∷ []) 1) ≡ yes_row ∷ [] → ⊥)

abbrev pub sending : List Fields → SourceOf
sending rows = record { mailbox = 3; closed = false; frame = Some (frame rows); next = 0 }

-- a merge of two senders has the rows of both at hand
abbrev pub merging : List Fields → List Fields → InputOf
merging first second = input_of (T.Merge (merger_of [] (sending first ∷ sending second ∷ []) None false)) 0 None 0 false

abbrev pub HandsOfBoth : Type 0
HandsOfBoth = (at_hand (merging (no ∷ []) (yes ∷ [])) ≡ no_row ∷ yes_row ∷ []) × (at_hand (merging (no ∷ []) (yes ∷ [])) ≡ no_row ∷ [] → ⊥)

-- a select is no check, and a check tests by its condition
abbrev pub ChecksTest : Type 0
ChecksTest = (c : Rex) (name : List ℕ) → (check_of (K.Select c) ≡ None) × (check_of (K.Check name c) ≡ Some (name, holds c))
