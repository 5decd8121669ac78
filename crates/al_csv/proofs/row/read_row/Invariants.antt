use Rattle.std.proofs.Common.{◌≡◌, take, Ok}
use Rattle.csv.specs.Records.{fields_of}
use Rattle.al_csv.specs.Records.{all_ok}
use Rattle.al_csv.proofs.Cells.{cells}
use Rattle.al_csv.proofs.row.read_row.Given as goal

abbrev pub invariant-loop-j : goal.invariant-loop-j
invariant-loop-j l = all_ok (take l.j (cells l.number l.columns (fields_of l.fields))) ≡ Ok l.row
