-- The row that is made of a group.
use Rattle.std.specs.Prelude.{◌≡◌, ℕ, Bool, true, false, List, [], ◌∷◌, ◌++◌, Result, Ok, Err}
use Rattle.std.specs.List.{flat_map}
use Rattle.al_agg.specs.Part.{part_fields}
use Rattle.al_value.specs.declared.fault.NoMemory.{NoMemory}
use Rattle.hy_frame.specs.Row.{Fields, IsRow}
use Rattle.hy_driver.specs.Rows.{Row, values_of}
use Rattle.hy_group.specs.Groups.{Entry}

-- the row that is handed on for a group
abbrev pub entry_row : Entry → Row
entry_row e = e.0 ++ flat_map part_fields e.1

-- the last group was taken out, and its row stands behind others
pub record IsMade (arity : ℕ) (old new : List Entry) (rows rows' : List Fields) : Type 0 where
  pub entry : Entry
  pub row : Fields
  pub last : old ≡ new ++ entry ∷ []
  pub made : rows' ≡ rows ++ row ∷ []
  pub values : values_of row ≡ entry_row entry
  pub is_row : IsRow arity row

-- where memory ran out a group was taken out all the same
abbrev pub Makes : ℕ → List Entry → List Entry → List Fields → List Fields → Result Bool NoMemory → Type 0
Makes arity old new rows rows' (Ok true) = IsMade arity old new rows rows'
Makes arity old new rows rows' (Ok false) = (old ≡ []) × (new ≡ []) × (rows' ≡ rows)
Makes arity old new rows rows' (Err e) = (entry : Entry) × (old ≡ new ++ entry ∷ []) × (rows' ≡ rows)
