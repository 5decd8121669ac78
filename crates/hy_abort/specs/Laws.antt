-- What the rule says of the word at every moment.
use Rattle.std.specs.Prelude.{◌≡◌, ◌<◌, ◌≤◌, ◌+◌, ◌%◌, ◌^◌, ℕ, [], ◌∷◌, All, slice_index}
use Rattle.atomic_table.specs.Table.{Allows, Joins, Me, Splits, State, opening}
use Rattle.hy_abort.specs.declared.rule.SeatView.{SeatView}
use Rattle.hy_abort.specs.Rule.{IsSum, Looked, Raised, joined, less_one, raises_in, stands_for}

abbrev pub WordIsSum : Type 0
WordIsSum = (seats : ℕ) (s : State ℕ SeatView) → IsSum seats s → slice_index s.words 0 ≡ raises_in s.views

-- it is at most the number of seats, so it never wraps
abbrev pub NeverWraps : Type 0
NeverWraps = (seats : ℕ) (s : State ℕ SeatView) → IsSum seats s → (slice_index s.words 0 ≤ seats) × (slice_index s.words 0 < 2 ^ 32)

-- a token that has found the word raised stands only beside a word above 0
abbrev pub SeenIsRaised : Type 0
SeenIsRaised = (seats : ℕ) (s : State ℕ SeatView) → IsSum seats s → All (λ v. 0 < v.found → 0 < slice_index s.words 0) s.views

-- The rule holds at the start, and each kind of step keeps it
abbrev pub Begins : Type 0
Begins = (seats : ℕ) → seats < 2 ^ 32 → IsSum seats (opening (0 ∷ []) [] (stands_for seats))

abbrev pub LookKeeps : Type 0
LookKeeps = (seats slots id : ℕ) (me : Me ℕ SeatView) → Allows (IsSum seats) slots id me 0 (λ x. x) (λ x. Looked me x)

-- of a token with a seat that hasn't raised
abbrev pub RaiseKeeps : Type 0
RaiseKeeps = (seats slots id : ℕ) (me : Me ℕ SeatView) → me.0.raises + 1 ≤ me.0.seats
    → Allows (IsSum seats) slots id me 0 (λ x. (x + 1) % 2 ^ 64) (λ x. Raised me x)

abbrev pub DealKeeps : Type 0
DealKeeps = (seats id : ℕ) (v : SeatView) → v.raises + 1 ≤ v.seats → Splits (IsSum seats) id v (less_one v) (stands_for 1)

abbrev pub TakeInKeeps : Type 0
TakeInKeeps = (seats id other : ℕ) (v w : SeatView) → Joins (IsSum seats) id v other w (joined v w) (stands_for 0)
