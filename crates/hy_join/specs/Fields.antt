-- Fields by their bytes.
use Rattle.std.specs.Prelude.{ℕ, nat_eq, Bool, true, List, [], ◌∷◌}

-- whether this is the field of NULL, or none
abbrev pub is_null_field : List ℕ → Bool
is_null_field [] = true
is_null_field (tag ∷ rest) = nat_eq tag 0
