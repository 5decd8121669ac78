-- The text of a result: a line of its names, and a line for each row.
use Rattle.std.specs.Prelude.{ℕ, List, [], ◌∷◌, map, true, false, codes}
use Rattle.std.specs.Fmt.{signed_decimal}
use Rattle.al_value.specs.declared.value.Value.{Value}
use Rattle.al_value.specs.declared.value.Value.TheVariants as V
use Rattle.al_csv.specs.Lines.{lines}

-- how a value prints: NULL as nothing, an int in decimal, a text as it is
abbrev pub value_text : Value → List ℕ
value_text V.Null = []
value_text (V.Bool true) = codes "true"
value_text (V.Bool false) = codes "false"
value_text (V.Int n) = signed_decimal n
value_text (V.Text bytes) = bytes

abbrev pub out_text : List (List ℕ) → List (List Value) → List ℕ
out_text names rows = lines (names ∷ map (map value_text) rows)
