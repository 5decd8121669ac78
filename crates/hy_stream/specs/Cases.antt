-- Worked cases of what comes of rows.
use Rattle.std.specs.Prelude.{pos, ◌≡◌, ◌↔◌, ℕ, true, false, List, [], ◌∷◌, ◌++◌}
use Rattle.al_value.specs.declared.value.Value.TheVariants as V
use Rattle.al_func.specs.declared.rex.Rex.{Rex}
use Rattle.al_func.specs.declared.rex.Rex.TheVariants as R
use Rattle.hy_store.specs.declared.fault.OpFault.TheVariants as F
use Rattle.hy_driver.specs.Rows.{Row, Fed}
use Rattle.hy_job.specs.declared.nested.GenRex.{GenRex}
use Rattle.hy_job.specs.declared.nested.GenRex.TheVariants as G
use Rattle.hy_job.specs.Cases.{row_of}
use Rattle.hy_rows.specs.State.{two_ended}
use Rattle.hy_stream.specs.declared.work.RowWork.TheVariants as W
use Rattle.hy_stream.specs.declared.work.Window.{Window}
use Rattle.hy_stream.specs.Source.{one_row}
use Rattle.hy_stream.specs.Places.{own_of}
use Rattle.hy_stream.specs.Unnest.{longer_rows, unnest_out}
use Rattle.hy_stream.specs.Work.{Faulted, IsPassed, Reads, arity_of, check_of, first_window, work_out}

abbrev pub window_of : ℕ → ℕ → Window
window_of skip give = record { skip = skip; give = give }

abbrev pub three : List Fed
three = (0, row_of 1) ∷ (0, row_of 2) ∷ (0, row_of 3) ∷ []

-- of three rows a limit of one behind one gives the second, and where it has skipped one already the first that still comes
abbrev pub LimitGoesOn : Type 0
LimitGoesOn = (out : List Row) → (work_out (W.Limit 1 1) (first_window (W.Limit 1 1)) three out ↔ (out ≡ row_of 2 ∷ []))
    × (work_out (W.Limit 1 1) (window_of 0 1) three out ↔ (out ≡ row_of 1 ∷ []))
    × (work_out (W.Limit 1 1) (window_of 0 0) three out ↔ (out ≡ []))

-- the row that is skipped leaves one less to skip, and the one that is given one less to give; neither may be kept back or given
-- too often
abbrev pub WindowsMove : Type 0
WindowsMove = IsPassed (window_of 1 1) false (window_of 0 1) × IsPassed (window_of 0 1) true (window_of 0 0) × IsPassed (window_of 0 0) false (window_of 0 0)
    × (IsPassed (window_of 1 1) true (window_of 0 1) → ⊥)
    × (IsPassed (window_of 0 1) true (window_of 0 1) → ⊥)
    × (IsPassed (window_of 0 1) false (window_of 0 1) → ⊥)
    × (IsPassed (window_of 0 0) true (window_of 0 0) → ⊥)

-- a union gives the rows of both inputs, each by its own columns
abbrev pub UnionCutsEach : Type 0
UnionCutsEach = (out : List Row)
    → work_out (W.Union (0 ∷ []) (1 ∷ [])) (window_of 0 0) ((1, row_of 3 ++ row_of 4) ∷ []) out ↔ (out ≡ row_of 4 ∷ [])

-- of two inputs the second is open still, and there is no third
abbrev pub SecondIsOpen : Type 0
SecondIsOpen = (two_ended true false 0 ≡ true) × (two_ended true false 1 ≡ false) × (two_ended false false 2 ≡ true)

-- a union of sides that differ in their number of columns reads what isn't there; its rows have as many values as columns
abbrev pub UnionsAreEven : Type 0
UnionsAreEven = Reads (W.Union (0 ∷ 1 ∷ []) (2 ∷ 0 ∷ [])) 3 × (Reads (W.Union (0 ∷ 1 ∷ []) (2 ∷ [])) 3 → ⊥) × (arity_of (W.Union (0 ∷ 1 ∷ []) (2 ∷ 0 ∷ [])) 3 ≡ 2)

-- whether the first column is TRUE
abbrev pub on_first : Rex
on_first = R.Col 0

-- a check fails by its own name on a row that doesn't pass, and on no other; a select never fails
abbrev pub ChecksFault : Type 0
ChecksFault = (name : List ℕ) → Faulted (check_of (W.Check name on_first)) (V.Bool false ∷ []) (F.Check name)
    × (Faulted (check_of (W.Check name on_first)) (V.Bool true ∷ []) (F.Check name) → ⊥)
    × (Faulted (check_of (W.Select on_first)) (V.Bool false ∷ []) (F.Check name) → ⊥)

-- of three rows the first of two partitions has the first and the last, the second one the one between; from the second place on
-- the first partition has the last alone
abbrev pub RowsAreShared : Type 0
RowsAreShared = (own_of 2 0 0 (row_of 1 ∷ row_of 2 ∷ row_of 3 ∷ []) ≡ row_of 1 ∷ row_of 3 ∷ [])
    × (own_of 2 1 0 (row_of 1 ∷ row_of 2 ∷ row_of 3 ∷ []) ≡ row_of 2 ∷ [])
    × (own_of 2 0 1 (row_of 1 ∷ row_of 2 ∷ row_of 3 ∷ []) ≡ row_of 3 ∷ [])
    × (own_of 2 1 0 (row_of 1 ∷ row_of 2 ∷ row_of 3 ∷ []) ≡ row_of 1 ∷ row_of 2 ∷ row_of 3 ∷ [] → ⊥)

-- the one row has no values, and where it was given there is none
abbrev pub OneIsEmpty : Type 0
OneIsEmpty = (one_row true ≡ [] ∷ []) × (one_row false ≡ []) × (one_row true ≡ [] → ⊥)

-- the ints from one to that of the first column
abbrev pub up_to_first : GenRex
up_to_first = G.Range (R.Lit (V.Int (pos 1))) (R.Col 0)

-- of a row with two items the second is left behind the first; of two rows that come all have their items, in order
abbrev pub ItemsAreBehind : Type 0
ItemsAreBehind = (longer_rows (row_of 7) (row_of 1 ++ row_of 2) 1 ≡ (row_of 7 ++ row_of 2) ∷ [])
    × (longer_rows (row_of 7) (row_of 1 ++ row_of 2) 2 ≡ [])
    × ((out : List Row) → unnest_out up_to_first ((0, row_of 2) ∷ (0, row_of 0) ∷ (0, row_of 1) ∷ []) out
    ↔ (out ≡ (row_of 2 ++ row_of 1) ∷ (row_of 2 ++ row_of 2) ∷ (row_of 1 ++ row_of 1) ∷ []))
