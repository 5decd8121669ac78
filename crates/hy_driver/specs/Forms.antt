-- The forms in which drivers say what they may still put, and what most of them have in common.
use Rattle.std.specs.Prelude.{◌≡◌, ◌==◌, ℕ, Bool, true, false, if◌then◌else◌, List, length}
use Rattle.std.specs.List.{AllByRecursion}
use Rattle.hy_rest.specs.Rest.{InOrder, Free, FreeForEach}
use Rattle.hy_driver.specs.Rows.{Row, AreValues, Fed}
use Rattle.hy_driver.specs.Seen.{Fixed, Seen, no_store}
use Rattle.hy_driver.specs.declared.phase.Phase.{Phase}

-- a row of values, of an input that has not ended, and as wide as that input's rows are
abbrev pub MayBeFed : (ℕ → Bool) → (ℕ → ℕ) → Fed → Type 0
MayBeFed ended width x = (ended x.0 ≡ false) × (length x.1 ≡ width x.0) × AreValues x.1

abbrev pub may_come : (ℕ → Bool) → (ℕ → ℕ) → List Fed → Type 0
may_come ended width = AllByRecursion (MayBeFed ended width)

-- in order: what is owed, and then the output over the rows that are held and those that still come
abbrev pub in_order : (ℕ → Bool) → (ℕ → ℕ) → List Row → List Fed → (List Fed → List Row → Type 0) → List Fed → List Row → Type 0
in_order ended width owed held out took put = may_come ended width took × InOrder owed held out took put

-- the same in any order
abbrev pub free : (ℕ → Bool) → (ℕ → ℕ) → List Row → List Fed → (List Fed → List Row → Type 0) → List Fed → List Row → Type 0
free ended width owed held out took put = may_come ended width took × Free owed held out took put

-- and for each list of rows for which a state stands
abbrev pub free_for_each : (ℕ → Bool) → (ℕ → ℕ) → List Row → (List Fed → Type 0) → (List Fed → List Row → Type 0) → List Fed → List Row → Type 0
free_for_each ended width owed stands out took put = may_come ended width took × FreeForEach owed stands out took put

-- whether an input has ended where there is but one
abbrev pub one_ended : Bool → ℕ → Bool
one_ended ended input = if input == 0 then ended else true

-- a driver without a store, which holds no frames
abbrev pub storeless : (List Fed → List Row → Type 0) → (ℕ → Bool) → Phase → ℕ → List Row → List Row → Fixed → Seen
storeless rest ended phase turns untested hands_on fixed = record {
  rest = rest;
  sound = Unit {0};
  ended = ended;
  phase = phase;
  turns = turns;
  frames = 0;
  untested = untested;
  hands_on = hands_on;
  store = no_store;
  makes = λ took. 0;
  fixed = fixed;
}
