-- What an operator is made of, by its activity's kind.
use Rattle.std.specs.Prelude.{◌≡◌, ◌≤◌, ◌+◌, ℕ, Bool, true, false, Option, Some, None, [], length}
use Rattle.std.specs.List.{All}
use Rattle.hy_job.specs.declared.job.Kind.{Kind}
use Rattle.hy_job.specs.declared.job.Kind.TheVariants as K
use Rattle.hy_job.specs.Sound.{Widths, IsInRange, HasSoundNested, HasKeyPairs, TakesStates, HasArity, built_fields}
use Rattle.hy_driver.specs.declared.handed.Handed.{Handed}
use Rattle.hy_operator.specs.declared.input.RowShape.{RowShape}

-- whether it has a store
abbrev pub has_store : Kind → Bool
has_store (K.GroupBuild arg) = true
has_store (K.GroupEmit arg) = true
has_store (K.JoinBuild arg) = true
has_store (K.JoinProbe arg) = true
has_store _ = false

-- whether it may hand rows on, once it has ended
abbrev pub hands_rows : Kind → Bool
hands_rows (K.SortBuild keys) = true
hands_rows (K.GroupBuild arg) = true
hands_rows (K.JoinBuild arg) = true
hands_rows _ = false

-- whether it works on each row alone, as it comes
abbrev pub works_on_rows : Kind → Bool
works_on_rows (K.Assign made) = true
works_on_rows (K.Select cond) = true
works_on_rows (K.Project columns) = true
works_on_rows (K.Check name cond) = true
works_on_rows (K.Union left right) = true
works_on_rows (K.Limit n k) = true
works_on_rows (K.LocalLimit n) = true
works_on_rows (K.Result columns) = true
works_on_rows _ = false

-- whether it is given nothing beside its kind: no dataset, nothing that was handed, and no store
abbrev pub is_alone : Kind → Bool
is_alone (K.Scan set) = false
is_alone (K.SortEmit keys) = false
is_alone (K.GroupBuild arg) = false
is_alone (K.GroupEmit arg) = false
is_alone (K.JoinBuild arg) = false
is_alone (K.JoinProbe arg) = false
is_alone _ = true

-- ---- widths

-- the rows that a group-emit is handed have its keys, and behind them the fields of its states
abbrev pub IsHandedGroups : Kind → ℕ → Type 0
IsHandedGroups (K.GroupEmit arg) handed = handed ≡ length arg.keys + built_fields arg.nested
IsHandedGroups _ handed = Unit {0}

-- what the kind names is there in rows of these widths, and what it makes has so many values
pub record Fits (kind : Kind) (w : Widths) (arity : ℕ) : Type 0 where
  pub in_range : IsInRange kind w
  pub nested : HasSoundNested kind w
  pub pairs : HasKeyPairs kind
  pub states : TakesStates kind w
  pub groups : IsHandedGroups kind w.handed
  pub wide : HasArity kind w arity
  pub narrow : arity ≤ 1024

-- it fits rows of some widths, of which the shape has those that an operator sees
pub record Suits (kind : Kind) (shape : RowShape) : Type 0 where
  pub widths : Widths
  pub left : widths.taken 0 ≡ shape.left
  pub right : widths.taken 1 ≡ shape.right
  pub handed : widths.handed ≡ shape.handed
  pub fits : Fits kind widths shape.arity

-- ---- what comes beside the kind

-- it is there exactly where it is wanted, and then this holds of it
abbrev pub There : {A : Type 0} → Bool → Option A → (A → Type 0) → Type 0
There true (Some x) P = P x
There true None P = ⊥
There false (Some x) P = ⊥
There false None P = Unit {0}

-- all that was handed stands beside the bank, in rows of this width
pub record StandsBeside (width : ℕ) (h : Handed) : Type 0 where
  pub fit : All (λ row. length row ≡ width) h.rows
  pub frames : h.frames ≡ []
  pub runs : h.runs ≡ []
