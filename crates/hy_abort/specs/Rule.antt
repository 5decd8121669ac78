-- The abort word is the sum of the raises.
use Rattle.std.specs.Prelude.{◌≡◌, ◌<◌, ◌≤◌, ◌+◌, ◌-◌, ◌^◌, ℕ, List, [], ◌∷◌, All, max, sum_by}
use Rattle.atomic_table.specs.Table.{Me, State}
use Rattle.hy_abort.specs.declared.rule.SeatView.{SeatView}

-- a token that stands for so many seats, none of which has made a step
abbrev pub stands_for : ℕ → SeatView
stands_for seats = record { seats = seats; raises = 0; found = 0; steps = 0 }

abbrev pub seats_in : List SeatView → ℕ
seats_in views = sum_by (λ v. v.seats) views

abbrev pub raises_in : List SeatView → ℕ
raises_in views = sum_by (λ v. v.raises) views

-- beside this word a token has at most a raise for each of its seats, and found no more than the word
abbrev pub Fits : ℕ → SeatView → Type 0
Fits word v = (v.raises ≤ v.seats) × (v.found ≤ word)

-- the tokens stand for all seats, and the word is the sum of their raises
pub record IsSum (seats : ℕ) (s : State ℕ SeatView) : Type 0 where
  pub few : seats < 2 ^ 32
  pub all : seats_in s.views ≡ seats
  pub word : s.words ≡ raises_in s.views ∷ []
  pub each : All (Fits (raises_in s.views)) s.views

-- a load that finds n
abbrev pub Looked : Me ℕ SeatView → ℕ → Me ℕ SeatView → Type 0
Looked old n new = (new ≡ (record (old.0) { found = n; steps = old.0.steps + 1 }, old.1)) × (old.0.found ≤ n)

-- 1 is added where n was found
abbrev pub Raised : Me ℕ SeatView → ℕ → Me ℕ SeatView → Type 0
Raised old n new = (new ≡ (record (old.0) { raises = old.0.raises + 1; found = n + 1; steps = old.0.steps + 1 }, old.1)) × (old.0.found ≤ n)

-- one seat is dealt out
abbrev pub less_one : SeatView → SeatView
less_one v = record v { seats = v.seats - 1 }

-- what two tokens know together
abbrev pub joined : SeatView → SeatView → SeatView
joined v w = record { seats = v.seats + w.seats; raises = v.raises + w.raises; found = max v.found w.found; steps = v.steps + w.steps }
