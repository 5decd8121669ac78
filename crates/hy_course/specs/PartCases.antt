-- The parts of a select, and what their steps may do and may not.
use Rattle.std.specs.Prelude.{◌≡◌, ℕ, true, false, List, [], ◌∷◌, ◌++◌, filter}
use Rattle.al_func.specs.declared.rex.Rex.{Rex}
use Rattle.hy_rest.specs.Words.{Rows}
use Rattle.hy_job.specs.Columns.{Row, holds}
use Rattle.hy_job.specs.Drivers.{received_of}
use Rattle.hy_job.specs.Runs.{rows_at}
use Rattle.hy_course.specs.Parts.{AreAlive, AreDoneParts, AreNewParts, IsMadeOf, PartsOf, PartsStep}
use Rattle.hy_course.specs.Cases.{came, for_first, none_closed, nothing, passing, select, selects, sent_part}

-- the rows that it gave and that have not gone on, and those that wait for each receiver
abbrev pub select_parts : Rex → List Row → (ℕ → List Row) → PartsOf
select_parts c packed waits = record {
  brings = λ input took rows. rows ≡ rows_at 0 took;
  works = λ fed made. made ≡ filter (holds c) (received_of fed 0);
  packed = packed;
  offers = λ r given put. put ≡ waits r ++ sent_part r given;
  keeps = λ given on. on ≡ [];
}

-- it is new and done where nothing is packed and nothing waits, and it always has something to do
abbrev pub SelectPartsBegin : Type 0
SelectPartsBegin = (set : List ℕ) (c : Rex) → AreNewParts (passing set c) (selects c) 1 [] [] (select_parts c [] nothing)

abbrev pub SelectPartsEnd : Type 0
SelectPartsEnd = (set : List ℕ) (c : Rex) (row : Row)
    → AreDoneParts (passing set c) (selects c) [] (select_parts c [] nothing)
    × (AreDoneParts (passing set c) (selects c) [] (select_parts c (row ∷ []) nothing) → ⊥)
    × (AreDoneParts (passing set c) (selects c) [] (select_parts c [] (for_first (row ∷ []) [])) → ⊥)

abbrev pub SelectPartsLive : Type 0
SelectPartsLive = (set : List ℕ) (c : Rex) (packed : List Row) (waits : ℕ → List Row) → AreAlive (passing set c) (selects c) 1 none_closed (λ input. false) (select_parts c packed waits)

-- they make up the select
abbrev pub SelectIsMade : Type 0
SelectIsMade = (set : List ℕ) (c : Rex) (waits : ℕ → List Row) → IsMadeOf (passing set c) (selects c) (select c waits none_closed) (select_parts c [] waits)

-- a row that comes and passes is given and packed; it may not be lost there
abbrev pub FedRowIsPacked : Type 0
FedRowIsPacked = (set : List ℕ) (c : Rex) (row : Row)
    → PartsStep (passing set c) (selects c) (select_parts c [] nothing) (came (Rows (row ∷ [])) ∷ []) ((0, row) ∷ []) (filter (holds c) (row ∷ [])) [] (λ r. []) (select_parts c (filter (holds c) (row ∷ [])) nothing)

abbrev pub LostPackedIsNone : Type 0
LostPackedIsNone = (set : List ℕ) (c : Rex) (row : Row) → holds c row ≡ true
    → PartsStep (passing set c) (selects c) (select_parts c [] nothing) (came (Rows (row ∷ [])) ∷ []) ((0, row) ∷ []) (filter (holds c) (row ∷ [])) [] (λ r. []) (select_parts c [] nothing) → ⊥

-- packed rows go on, and wait for their receivers; they may not wait for another one
abbrev pub PackedRowsGoOn : Type 0
PackedRowsGoOn = (set : List ℕ) (c : Rex) (rows : List Row)
    → PartsStep (passing set c) (selects c) (select_parts c rows nothing) [] [] [] rows (λ r. []) (select_parts c [] (λ r. sent_part r rows))

abbrev pub WrongWayIsNone : Type 0
WrongWayIsNone = (set : List ℕ) (c : Rex) (row : Row) → sent_part 0 (row ∷ []) ≡ []
    → PartsStep (passing set c) (selects c) (select_parts c (row ∷ []) nothing) [] [] [] (row ∷ []) (λ r. []) (select_parts c [] (for_first (row ∷ []) [])) → ⊥
