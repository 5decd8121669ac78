-- Worked cases of what may still be put, of steps, and of words.
use Rattle.std.specs.Prelude.{◌≡◌, ◌↔◌, ◌+◌, ℕ, nat_eq, Bool, List, [], ◌∷◌, map}
use Rattle.std.specs.List.Sorted.{IsPermutation}
use Rattle.hy_rest.specs.Rest.{InOrder, Free, FreeForEach, IsOpen, Continues, Alive, Finished, FinishedWith, Through}
use Rattle.hy_rest.specs.Words.{Open, Rows, Fail, Close, WriterWord, IsWordSoFar, put_rows}

-- ten more than each number, in order
abbrev pub tens : List ℕ → List ℕ → Type 0
tens took put = put ≡ map (λ x. x + 10) took

-- and in any order
abbrev pub moved_tens : List ℕ → List ℕ → Type 0
moved_tens took put = IsPermutation (map (λ x. x + 10) took) put

-- ---- states

-- what is owed comes first, then what is held is worked on, and then what is still to be taken
abbrev pub InOrderStands : Type 0
InOrderStands = (put : List ℕ) → InOrder (1 ∷ []) (2 ∷ []) tens (3 ∷ []) put ↔ (put ≡ 1 ∷ 12 ∷ 13 ∷ [])

-- where rows are free, what is owed may come anywhere among the others
abbrev pub FreeMoves : Type 0
FreeMoves = (put : List ℕ) → Free (1 ∷ []) (2 ∷ []) tens (3 ∷ []) put ↔ IsPermutation (1 ∷ 12 ∷ 13 ∷ []) put

-- where nothing is owed, an output that has one order keeps it; and a state that stands for two lists may put what both may, here nothing
abbrev pub FreeStands : Type 0
FreeStands = ((put : List ℕ) → Free [] (2 ∷ []) tens (3 ∷ []) put ↔ (put ≡ 12 ∷ 13 ∷ []))
    × ((put : List ℕ) → FreeForEach [] (λ held. held ≡ 2 ∷ []) tens (3 ∷ []) put ↔ (put ≡ 12 ∷ 13 ∷ []))
    × ((put : List ℕ) → FreeForEach [] (λ held. Unit {0}) tens (3 ∷ []) put → ⊥)

-- ---- steps

-- the one that owes a row may send it and owe it no more, and may send no other
abbrev pub SendIsOwed : Type 0
SendIsOwed = Continues (InOrder (1 ∷ []) [] tens) [] (1 ∷ []) (InOrder [] [] tens)
    × (Continues (InOrder (1 ∷ []) [] tens) [] (2 ∷ []) (InOrder [] [] tens) → ⊥)
    × (Continues (InOrder (1 ∷ []) [] tens) [] [] (InOrder [] [] tens) → ⊥)

-- what it takes it holds, or owes what comes of it; to hold it without having taken it is no step
abbrev pub FeedIsHeld : Type 0
FeedIsHeld = Continues (InOrder [] [] tens) (5 ∷ []) [] (InOrder [] (5 ∷ []) tens)
    × Continues (InOrder [] [] tens) (5 ∷ []) [] (InOrder (15 ∷ []) [] tens)
    × (Continues (InOrder [] [] tens) [] [] (InOrder [] (5 ∷ []) tens) → ⊥)

-- of two inputs the first has ended
abbrev pub first_ended : ℕ → Bool
first_ended input = nat_eq input 0

abbrev pub EndedStaysAway : Type 0
EndedStaysAway = IsOpen {A = ℕ} first_ended ((1, 5) ∷ (1, 6) ∷ []) × (IsOpen {A = ℕ} first_ended ((1, 5) ∷ (0, 6) ∷ []) → ⊥)

-- where nothing may be put for something that may come, a state is not alive; one that works in order always is
abbrev pub AliveHasSome : Type 0
AliveHasSome = Alive (λ took. Unit {0}) (InOrder (1 ∷ []) (2 ∷ []) tens)
    × (Alive (λ (took : List ℕ). Unit {0}) (λ (took put : List ℕ). took ≡ []) → ⊥)

-- who owes a row has not finished, nor who may still take one, nor who may put nothing at all
abbrev pub FinishedOwesNone : Type 0
FinishedOwesNone = Finished (λ took put. (took ≡ []) × InOrder [] [] tens took put)
    × (Finished (λ took put. (took ≡ []) × InOrder (1 ∷ []) [] tens took put) → ⊥)
    × (Finished (InOrder [] [] tens) → ⊥)
    × (Finished (λ (took put : List ℕ). ⊥) → ⊥)
    × FinishedWith (1 ∷ []) (λ took put. (took ≡ []) × InOrder (1 ∷ []) [] tens took put)

-- one that works in order and owes a row, with a row in front that it has not been given and one behind it that it has made
abbrev pub PassesThrough : Type 0
PassesThrough = (put : List ℕ) → Through (λ took. 5 ∷ took) (InOrder (1 ∷ []) [] tens) (λ made put. put ≡ 7 ∷ made) (3 ∷ []) put ↔ (put ≡ 7 ∷ 1 ∷ 15 ∷ 13 ∷ [])

-- ---- words

-- a word begins with Open, once; without it there is no word
abbrev pub WordsBegin : Type 0
WordsBegin = WriterWord {A = ℕ} (Open ∷ Close ∷ []) × (WriterWord {A = ℕ} [] → ⊥) × (WriterWord {A = ℕ} (Close ∷ []) → ⊥) × (WriterWord {A = ℕ} (Rows (1 ∷ []) ∷ Open ∷ Close ∷ []) → ⊥)

-- while it has not ended it may go on, also behind a Fail; its rows are those of its signals
abbrev pub WordsGoOn : Type 0
WordsGoOn = IsWordSoFar {A = ℕ} [] × IsWordSoFar {A = ℕ} (Open ∷ Rows (1 ∷ []) ∷ Rows (2 ∷ 3 ∷ []) ∷ Fail ∷ []) × (IsWordSoFar {A = ℕ} (Open ∷ Fail ∷ Fail ∷ []) → ⊥)
    × (put_rows {A = ℕ} (Open ∷ Rows (1 ∷ []) ∷ Rows (2 ∷ 3 ∷ []) ∷ Fail ∷ []) ≡ 1 ∷ 2 ∷ 3 ∷ [])
