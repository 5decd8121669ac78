-- The row that a driver holds until it is asked for.
use Rattle.std.specs.Prelude.{Bool, if◌then◌else◌, List, [], ◌∷◌}
use Rattle.hy_frame.specs.Row.{Fields}
use Rattle.hy_driver.specs.Rows.{Row, values_of}

-- the row that is held, if one is
abbrev pub held_row : Bool → Fields → List Row
held_row holds row = if holds then values_of row ∷ [] else []
