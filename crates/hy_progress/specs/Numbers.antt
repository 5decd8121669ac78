-- Lists of numbers that are compared from the left, and one number that falls where such a list does.
use Rattle.std.specs.Prelude.{◌⊎◌, ◌<◌, ◌≤◌, ◌+◌, ◌*◌, ℕ, List, [], ◌∷◌}

-- each rises by `c` at most
abbrev pub RiseBy : ℕ → List ℕ → List ℕ → Type 0
RiseBy c [] [] = Unit {0}
RiseBy c [] (m ∷ ms) = ⊥
RiseBy c (n ∷ ns) [] = ⊥
RiseBy c (n ∷ ns) (m ∷ ms) = (m ≤ n + c) × RiseBy c ns ms

-- one of them falls, none before it rises, and those behind it rise by `c` at most
abbrev pub Falls : ℕ → List ℕ → List ℕ → Type 0
Falls c [] ms = ⊥
Falls c (n ∷ ns) [] = ⊥
Falls c (n ∷ ns) (m ∷ ms) = ((m < n) × RiseBy c ns ms) ⊎ ((m ≤ n) × Falls c ns ms)

-- what the number in front of these counts
abbrev pub weight : ℕ → List ℕ → ℕ
weight c [] = 1
weight c (n ∷ ns) = (c + 1) * weight c ns

abbrev pub total : ℕ → List ℕ → ℕ
total c [] = 0
total c (n ∷ ns) = n * weight c ns + total c ns

abbrev pub FallingLowers : Type 0
FallingLowers = (c : ℕ) (before after : List ℕ) → Falls c before after → total c after < total c before

-- ---- cases

-- one parcel less in a mailbox, two rows more to be fed and one look more to be made
abbrev pub LaterMayRise : Type 0
LaterMayRise = Falls 2 (3 ∷ 0 ∷ 5 ∷ 0 ∷ []) (2 ∷ 2 ∷ 5 ∷ 1 ∷ [])

-- a rise in front of what falls is none that lowers
abbrev pub RiseAloneIsNone : Type 0
RiseAloneIsNone = Falls 2 (3 ∷ 1 ∷ []) (4 ∷ 0 ∷ []) → ⊥
