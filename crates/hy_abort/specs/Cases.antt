-- Worked cases of the rule and of what seats tell.
use Rattle.std.specs.Prelude.{◌≡◌, ℕ, Bool, true, false, List, [], ◌∷◌, count_by}
use Rattle.atomic_table.specs.Seated.{TableId}
use Rattle.atomic_table.specs.Table.{State}
use Rattle.hy_abort.specs.declared.rule.SeatView.{SeatView}
use Rattle.hy_abort.specs.Rule.{Fits, IsSum, stands_for}
use Rattle.hy_abort.specs.Seats.{Looks, Raises, SeatState}

-- a word beside tokens
abbrev beside : ℕ → List SeatView → State ℕ SeatView
beside word views = record { words = word ∷ []; homes = []; views = views }

-- a token of one seat that has raised, and found the word at this number
abbrev raised_at : ℕ → SeatView
raised_at found = record { seats = 1; raises = 1; found = found; steps = 1 }

-- the seats 0 and 2 of three have raised
abbrev two_of_three : List SeatView
two_of_three = raised_at 2 ∷ stands_for 1 ∷ raised_at 1 ∷ []

abbrev pub TwoRaisesAreTwo : Type 0
TwoRaisesAreTwo = IsSum 3 (beside 2 two_of_three)

abbrev pub TwoRaisesAreNoOther : Type 0
TwoRaisesAreNoOther = (word : ℕ) → IsSum 3 (beside word two_of_three) → word ≡ 2

-- a token that was taken in counts in the one that took it, and no more for itself
abbrev pub JoinedCountOnce : Type 0
JoinedCountOnce = IsSum 3 (beside 2 (record { seats = 3; raises = 2; found = 2; steps = 2 } ∷ stands_for 0 ∷ stands_for 0 ∷ []))

-- two tokens of a seat each don't stand for three seats
abbrev pub NoneIsMissing : Type 0
NoneIsMissing = IsSum 3 (beside 0 (stands_for 1 ∷ stands_for 1 ∷ [])) → ⊥

abbrev pub NoneRaisesTwice : Type 0
NoneRaisesTwice = (word : ℕ) → Fits word record { seats = 1; raises = 2; found = 2; steps = 2 } → ⊥

abbrev pub SeenNeedsRaised : Type 0
SeenNeedsRaised = Fits 0 record { seats = 1; raises = 0; found = 1; steps = 1 } → ⊥

module _ (word : TableId) where
  abbrev seat : Bool → ℕ → ℕ → SeatState
  seat raised found steps = record { word = word; raised = raised; found = found; steps = steps }

abbrev pub TwoSeatsRaised : Type 0
TwoSeatsRaised = (word : TableId) → count_by (λ s. s.raised) (seat word true 2 1 ∷ seat word false 2 4 ∷ seat word true 1 1 ∷ []) ≡ 2

-- a seat that found 1 finds 2, and is no seat that raised; and it doesn't find 0
abbrev pub LooksTellMore : Type 0
LooksTellMore = (word : TableId) → Looks (seat word false 1 1) (seat word false 2 2)

abbrev pub LooksDontRaise : Type 0
LooksDontRaise = (word : TableId) (found steps : ℕ) → Looks (seat word false 1 1) (seat word true found steps) → ⊥

abbrev pub LooksTellNoLess : Type 0
LooksTellNoLess = (word : TableId) (steps : ℕ) → Looks (seat word false 1 1) (seat word false 0 steps) → ⊥

-- a raise is one step, after which the word is above 0
abbrev pub RaiseIsSeen : Type 0
RaiseIsSeen = (word : TableId) → Raises (seat word false 0 3) (seat word true 1 4)

abbrev pub RaiseIsNotUnseen : Type 0
RaiseIsNotUnseen = (word : TableId) (steps : ℕ) → Raises (seat word false 0 3) (seat word true 0 steps) → ⊥
