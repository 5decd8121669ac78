use Rattle.std.proofs.Common.{◌≡◌, ℕ, List, Some, Ok, length, drop}
use Rattle.csv.specs.Reading.{Reached, Ready, default_config, source_of, strip_bom}
use Rattle.csv.specs.declared.parser.State.TheVariants as st
use Rattle.csv.specs.declared.reader.Trim.TheVariants as trim
use Rattle.al_csv.specs.Records.{all_ok}
use Rattle.al_csv.proofs.Rows.{rows_from}
use Rattle.al_csv.proofs.records.load.Given as goal

abbrev pub invariant-loop-number : goal.invariant-loop-number
invariant-loop-number l = (l.reader.trim ≡ trim.None) × Ready l.reader × (l.reader.config ≡ default_config)
    × (seen : List (List (List ℕ))) × (y : List ℕ) × (source_of (λ s. Some s.now) l.reader ≡ Some y)
    × Reached default_config st.StartRecord (strip_bom l.fn.bytes) seen l.reader.state y
    × (length seen ≡ l.number) × (all_ok (rows_from l.decl.columns 1 (drop 1 seen)) ≡ Ok l.rows)
