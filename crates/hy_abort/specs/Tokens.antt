-- What the code keeps below its contracts: the table of a word, and what a token knows that has taken in seats.
use Rattle.std.specs.Prelude.{◌≡◌, ◌≤◌, ◌+◌, List, All, count_by, length}
use Rattle.atomic_table.specs.Seated.{TableId}
use Rattle.hy_abort.specs.declared.rule.SeatView.{SeatView}
use Rattle.hy_abort.specs.Seats.{SeatState}

-- a table of one word, and no slots
abbrev pub IsAbortTable : TableId → Type 0
IsAbortTable id = (id.words ≡ 1) × (id.slots ≡ 0)

-- the seats, their raises, and no less than any of them found
pub record Gathered (old new : SeatView) (taken : List SeatState) : Type 0 where
  pub seats : new.seats ≡ old.seats + length taken
  pub raises : new.raises ≡ old.raises + count_by (λ s. s.raised) taken
  pub found : (old.found ≤ new.found) × All (λ s. s.found ≤ new.found) taken
