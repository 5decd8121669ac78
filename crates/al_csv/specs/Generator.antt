-- The text of a generated dataset: numbers that follow from a seed, four fields to a row.
use Rattle.std.specs.Prelude.{ℕ, zero, suc, ◌+◌, ◌*◌, ◌/◌, ◌%◌, ◌^◌, List, [], ◌∷◌, ◌++◌, map, flat_map, codes}
use Rattle.std.specs.List.{range_with_len}
use Rattle.std.specs.Fmt.{decimal}

-- the number after x
abbrev pub next : ℕ → ℕ
next x = (x * 6364136223846793005 + 1442695040888963407) % 2 ^ 64

-- the number after this many steps from the seed
unfoldable pub number_after : ℕ → ℕ → ℕ
number_after seed zero = seed
number_after seed (suc steps) = next (number_after seed steps)

-- the letter that these bits of x pick
abbrev pub letter : ℕ → ℕ → ℕ
letter x shift = 97 + (x / 2 ^ shift) % 26

-- six letters, eight bits apart
abbrev pub tag : ℕ → List ℕ
tag x = map (λ j. letter x (8 * j)) (0 ∷ 1 ∷ 2 ∷ 3 ∷ 4 ∷ 5 ∷ [])

-- a row of this id, whose other fields come from x
unfoldable pub generated_row : ℕ → ℕ → List ℕ
generated_row id x = decimal id ++ codes "," ++ decimal ((x / 2 ^ 33) % 100) ++ codes "," ++ decimal ((x / 2 ^ 20) % 1000000) ++ codes "," ++ tag x ++ codes "\n"

-- row i comes from the number after i + 1 steps
abbrev pub row_at : ℕ → ℕ → List ℕ
row_at seed i = generated_row i (number_after seed (i + 1))

abbrev pub generated : ℕ → ℕ → List ℕ
generated seed rows = codes "id,grp,val,tag\n" ++ flat_map (row_at seed) (range_with_len 0 rows)
