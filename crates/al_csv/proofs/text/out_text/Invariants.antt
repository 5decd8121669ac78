use Rattle.std.proofs.Common.{◌∷◌, map, take}
use Rattle.al_csv.specs.Lines.{lines}
use Rattle.al_csv.specs.OutText.{value_text}
use Rattle.al_csv.specs.Written.{Wrote}
use Rattle.al_csv.proofs.text.out_text.Given as goal

abbrev pub invariant-loop-row : goal.invariant-loop-row
invariant-loop-row l = Wrote l.writer (lines (l.names ∷ map (map value_text) (take l.row-index l.rows)))
