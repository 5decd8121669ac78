-- Lines of fields, joined by commas and quoted where they must be.
use Rattle.std.specs.Prelude.{ℕ, List, [], ◌∷◌, ◌++◌, ◌==◌, ◌||◌, Bool, if◌then◌else◌}
use Rattle.std.specs.List.{list_any}

-- a comma, a double quote, CR and LF
abbrev pub must_quote : ℕ → Bool
must_quote b = (b == 44) || (b == 34) || (b == 13) || (b == 10)

-- a field with its quotes doubled
unfoldable pub doubled : List ℕ → List ℕ
doubled [] = []
doubled (b ∷ rest) = if b == 34 then 34 ∷ b ∷ doubled rest else b ∷ doubled rest

abbrev pub field_line : List ℕ → List ℕ
field_line field = if list_any must_quote field then 34 ∷ (doubled field ++ (34 ∷ [])) else field

-- fields after the first, a comma in front of each
unfoldable pub joined : List (List ℕ) → List ℕ
joined [] = []
joined (field ∷ rest) = 44 ∷ (field_line field ++ joined rest)

-- a line that would be empty is two quotes
unfoldable pub line : List (List ℕ) → List ℕ
line [] = 34 ∷ 34 ∷ 10 ∷ []
line ([] ∷ []) = 34 ∷ 34 ∷ 10 ∷ []
line (field ∷ rest) = (field_line field ++ joined rest) ++ (10 ∷ [])

unfoldable pub lines : List (List (List ℕ)) → List ℕ
lines [] = []
lines (first ∷ rest) = line first ++ lines rest
