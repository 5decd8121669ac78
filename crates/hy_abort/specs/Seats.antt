-- What contracts see of an abort word and of its seats.
use Rattle.std.specs.Prelude.{◌≡◌, ◌<◌, ◌≤◌, ◌+◌, ℕ, Bool, true, false, cond}
use Rattle.atomic_table.specs.Seated.{TableId}

-- which word it is, and how many seats it has
pub record WordState : Type 0 where
  pub id : TableId
  pub seats : ℕ

-- of which word it is a seat, whether it has raised that word, the word as its last step left it, and how many steps it made
pub record SeatState : Type 0 where
  pub word : TableId
  pub raised : Bool
  pub found : ℕ
  pub steps : ℕ

abbrev pub IsSeatOf : WordState → SeatState → Type 0
IsSeatOf w s = s.word ≡ w.id

-- a seat that has made no step
abbrev pub fresh_of : TableId → SeatState
fresh_of id = record { word = id; raised = false; found = 0; steps = 0 }

abbrev pub fresh : WordState → SeatState
fresh w = fresh_of w.id

-- it has raised the word, or found it raised
abbrev pub HasSeen : SeatState → Type 0
HasSeen s = 0 < s.found

-- one step, which reads the word: it is no less than at the seat's last step
abbrev pub Looks : SeatState → SeatState → Type 0
Looks old new = (new ≡ record old { found = new.found; steps = old.steps + 1 }) × (old.found ≤ new.found)

-- one step, which adds 1 to the word
abbrev pub Raises : SeatState → SeatState → Type 0
Raises old new = (new ≡ record old { raised = true; found = new.found; steps = old.steps + 1 }) × (old.found < new.found)

abbrev pub once_if : Bool → ℕ
once_if b = cond b 1 0
