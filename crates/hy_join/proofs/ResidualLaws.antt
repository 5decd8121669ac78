-- The value of a column of a row.
use Rattle.std.proofs.Common.{◌≡◌, ◌<◌, ℕ, List, [], length, get_or, sym, ap, ◌∙◌}
use Rattle.al_value.specs.declared.value.Value.{Value}
use Rattle.hy_frame.specs.Row.{Fields}
use Rattle.hy_driver.specs.Rows.{value_of, values_of}
use Rattle.hy_job.specs.Columns.{column}
use Rattle.hy_join.proofs.FieldLaws.{column_there}

pub column_read : (row : Fields) (j : ℕ) (field : List ℕ) (v : Value) → j < length row → field ≡ get_or row j [] → v ≡ value_of field → v ≡ column (values_of row) j
column_read row j field v low is same = same ∙ ap value_of is ∙ sym (column_there row j low)
