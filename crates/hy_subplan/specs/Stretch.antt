-- Stretches of rows with equal keys, and the state of an operator that gives a row for each.
use Rattle.std.specs.Prelude.{◌≡◌, ◌≢◌, ◌+◌, ℕ, Bool, List, [], ◌∷◌, ◌++◌, map, length}
use Rattle.std.specs.List.{All}
use Rattle.hy_driver.specs.Rows.{Row, Fed}
use Rattle.hy_driver.specs.Seen.{Fixed, Seen, turns_in}
use Rattle.hy_driver.specs.Forms.{in_order, one_ended, storeless}
use Rattle.hy_driver.specs.declared.phase.Phase.{Phase}
use Rattle.hy_job.specs.declared.nested.NestedPlan.{NestedPlan}
use Rattle.hy_job.specs.Columns.{key_of}
use Rattle.hy_job.specs.Drivers.{received_of}
use Rattle.hy_job.specs.Nested.{Gives, IsPreGrouped}

-- a row for each stretch of the rows that come
abbrev pub pre_out : List ℕ → NestedPlan → List Fed → List Row → Type 0
pre_out keys n took out = IsPreGrouped keys n (received_of took 0) out

-- the rows as they were taken
abbrev pub as_fed : List Row → List Fed
as_fed rows = map (λ row. (0, row)) rows

-- all have the keys of the first one
abbrev pub IsStretch : List ℕ → List Row → Type 0
IsStretch keys [] = Unit {0}
IsStretch keys (row ∷ rows) = All (λ r. key_of keys r ≡ key_of keys row) rows

-- the row has the keys of the stretch, which it has of none
abbrev pub GoesOn : List ℕ → List Row → Row → Type 0
GoesOn keys [] row = Unit {0}
GoesOn keys (first ∷ rows) row = key_of keys row ≡ key_of keys first

-- it has others
abbrev pub Breaks : List ℕ → List Row → Row → Type 0
Breaks keys [] row = ⊥
Breaks keys (first ∷ rows) row = key_of keys row ≢ key_of keys first

-- the row of a stretch
abbrev pub IsRowOf : List ℕ → NestedPlan → List Row → Row → Type 0
IsRowOf keys n [] made = ⊥
IsRowOf keys n (first ∷ rows) made = Gives n (first ∷ rows) (λ inner. made ≡ key_of keys first ++ inner)

-- two turns for the row of a stretch, which may be asked for when it has asked for input
abbrev pub stretch_turns : List Row → ℕ
stretch_turns [] = 0
stretch_turns (row ∷ rows) = 2

-- a driver that owes these rows, and holds the rows of a stretch that may go on; that they have equal keys holds between its calls
abbrev pub pre_state : Fixed → List ℕ → NestedPlan → Bool → List Row → List Row → Phase → Seen
pre_state fixed keys n ended owed rows phase =
    record (storeless (in_order (one_ended ended) fixed.width owed (as_fed rows) (pre_out keys n)) (one_ended ended) phase (length owed + stretch_turns rows + turns_in phase) [] [] fixed) { sound = IsStretch keys rows }
