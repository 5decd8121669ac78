use Rattle.std.proofs.Common.{◌≡◌, map, take}
use Rattle.csv.specs.Records.{fields_of}
use Rattle.al_csv.specs.OutText.{value_text}
use Rattle.al_csv.proofs.text.fill_values.Given as goal

abbrev pub invariant-loop-value : goal.invariant-loop-value
invariant-loop-value l = fields_of l.fields ≡ map value_text (take l.value-index l.values)
