-- What generators give.
use Rattle.std.specs.Prelude.{ℕ, zero, suc, ◌-◌, ℤ, pos, negsuc, ◌+ℤ◌, ◌-ℤ◌, if◌then◌else◌, List, [], ◌∷◌, map, length, nat_eq, nat_lt}
use Rattle.std.specs.List.{range_with_len, starts_with}
use Rattle.al_value.specs.declared.value.Value.{Value}
use Rattle.al_value.specs.declared.value.Value.TheVariants as V

-- `n` ints from `a` on
abbrev pub ints_from : ℤ → ℕ → List Value
ints_from a n = map (λ k. V.Int (a +ℤ pos k)) (range_with_len 0 n)

-- how many ints there are up to this distance, none where it is negative or there are more than 10,000
abbrev pub span : ℤ → ℕ
span (pos d) = if nat_lt d 10000 then suc d else 0
span (negsuc d) = 0

-- the ints from the first to the second
abbrev pub range : Value → Value → List Value
range (V.Int a) (V.Int b) = ints_from a (span (b -ℤ a))
range _ _ = []

-- a byte at the front of the first piece
abbrev pub onto_first : ℕ → List (List ℕ) → List (List ℕ)
onto_first b [] = (b ∷ []) ∷ []
onto_first b (p ∷ ps) = (b ∷ p) ∷ ps

-- the pieces between the occurrences of `s` from the left, with `skip` bytes of an occurrence still to pass
abbrev pub pieces : List ℕ → ℕ → List ℕ → List (List ℕ)
pieces s skip [] = [] ∷ []
pieces s (suc skip) (b ∷ bs) = pieces s skip bs
pieces s zero (b ∷ bs) = if starts_with nat_eq (b ∷ bs) s then [] ∷ pieces s (length s - 1) bs else onto_first b (pieces s zero bs)

-- the pieces of the first text between the occurrences of the second, and the first alone where the second is empty
abbrev pub split : Value → Value → List Value
split (V.Text t) (V.Text []) = V.Text t ∷ []
split (V.Text t) (V.Text (b ∷ bs)) = map V.Text (pieces (b ∷ bs) 0 t)
split _ _ = []
