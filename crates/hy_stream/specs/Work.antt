-- What comes of each row that an operator takes, of those that work on each row alone.
use Rattle.std.specs.Prelude.{◌≡◌, ◌<◌, ◌+◌, ℕ, suc, Bool, true, false, if◌then◌else◌, Option, Some, None, List, [], ◌∷◌, ◌++◌, length, Result, Ok, Err}
use Rattle.std.specs.Coded.{Coded-set, coded_bool, coded_ℕ, Unit-prop}
use Rattle.std.specs.List.{AllByRecursion-prop}
use Rattle.al_func.specs.Rex.{IsSound, is_sound}
use Rattle.al_func.specs.declared.rex.Rex.{Rex}
use Rattle.hy_frame.specs.Row.{Fields}
use Rattle.hy_store.specs.declared.fault.OpFault.{OpFault}
use Rattle.hy_store.specs.declared.fault.OpFault.TheVariants as F
use Rattle.hy_driver.specs.Rows.{Row, Fed, values_of}
use Rattle.hy_driver.specs.Seen.{Check}
use Rattle.hy_driver.specs.Steps.{Pass, Fails}
use Rattle.hy_job.specs.declared.job.Kind.{Kind}
use Rattle.hy_job.specs.declared.job.Kind.TheVariants as K
use Rattle.hy_job.specs.Columns.{holds}
use Rattle.hy_job.specs.Drivers.{Left, driver_out}
use Rattle.hy_job.specs.declared.nested.GenRex.{GenRex}
use Rattle.hy_job.specs.Sound.{AreSound, item_exprs}
use Rattle.hy_stream.specs.declared.work.RowWork.{RowWork}
use Rattle.hy_stream.specs.declared.work.RowWork.TheVariants as W
use Rattle.hy_stream.specs.declared.work.Window.{Window}

-- the activity's kind
abbrev pub kind_of : RowWork → Kind
kind_of (W.Assign made) = K.Assign made
kind_of (W.Select c) = K.Select c
kind_of (W.Project columns) = K.Project columns
kind_of (W.Check name c) = K.Check name c
kind_of (W.Union ls rs) = K.Union ls rs
kind_of (W.Limit n k) = K.Limit n k
kind_of (W.LocalLimit n) = K.LocalLimit n
kind_of (W.Result columns) = K.Result columns

abbrev pub first_window : RowWork → Window
first_window (W.Limit n k) = record { skip = k; give = n }
first_window (W.LocalLimit n) = record { skip = 0; give = n }
first_window _ = record { skip = 0; give = 0 }

-- what is left of the work beside the rows that come
abbrev pub left_of : Window → Left
left_of window = record { skip = window.skip; give = window.give; own = []; handed = []; last = false }

-- the output for the rows that come
abbrev pub work_out : RowWork → Window → List Fed → List Row → Type 0
work_out work window = driver_out (kind_of work) 0 (left_of window)

abbrev pub check_of : RowWork → Option Check
check_of (W.Check name c) = Some (name, holds c)
check_of _ = None

-- what it reads of rows of this width is there; both sides of a union give as many columns
abbrev pub Reads : RowWork → ℕ → Type 0
Reads (W.Assign made) width = AreSound width made
Reads (W.Select c) width = IsSound width c
Reads (W.Check name c) width = IsSound width c
Reads (W.Union ls rs) width = length rs ≡ length ls
Reads _ width = Unit {0}

pub Reads-prop : (work : RowWork) (width : ℕ) → IsProp (Reads work width)
Reads-prop (W.Assign made) width = AllByRecursion-prop (IsSound width) (λ e. Coded-set coded_bool (is_sound width e) true) made
Reads-prop (W.Select c) width = Coded-set coded_bool (is_sound width c) true
Reads-prop (W.Project columns) width = Unit-prop
Reads-prop (W.Check name c) width = Coded-set coded_bool (is_sound width c) true
Reads-prop (W.Union ls rs) width = Coded-set coded_ℕ (length rs) (length ls)
Reads-prop (W.Limit n k) width = Unit-prop
Reads-prop (W.LocalLimit n) width = Unit-prop
Reads-prop (W.Result columns) width = Unit-prop

-- what the expressions of a generator read of such rows is there
abbrev pub ReadsItems : ℕ → GenRex → Type 0
ReadsItems width g = AreSound width (item_exprs g)

pub ReadsItems-prop : (width : ℕ) (g : GenRex) → IsProp (ReadsItems width g)
ReadsItems-prop width g = AllByRecursion-prop (IsSound width) (λ e. Coded-set coded_bool (is_sound width e) true) (item_exprs g)

-- how many values the rows have that come of rows of this width
abbrev pub arity_of : RowWork → ℕ → ℕ
arity_of (W.Assign made) width = width + length made
arity_of (W.Project columns) width = length columns
arity_of (W.Union ls rs) width = length ls
arity_of (W.Result columns) width = length columns
arity_of _ width = width

-- the row that comes of one, if one does
abbrev pub held_row : Bool → Fields → List Row
held_row kept row = if kept then values_of row ∷ [] else []

-- this comes of a row: behind it the output is that of the rows that are still to come
abbrev pub Makes : RowWork → Window → Fed → List Row → Window → Type 0
Makes work window fed made window' = (took : List Fed) (rest : List Row) → work_out work window' took rest → work_out work window (fed ∷ took) (made ++ rest)

pub record Worked (work : RowWork) (window : Window) (input : ℕ) (row : Fields) (window' : Window) (out : Fields) (kept : Bool) : Type 0 where
  pub makes : Makes work window (input, values_of row) (held_row kept out) window'
  pub passes : Pass (check_of work) (values_of row ∷ [])
  pub wide : kept ≡ true → length out ≡ arity_of work (length row)

-- why none can come: the check's test fails on the row, or no memory was left
abbrev pub Faulted : Option Check → Row → OpFault → Type 0
Faulted check row (F.Check name) = Fails check name (row ∷ [])
Faulted check row F.Store = ⊥
Faulted check row F.NoMemory = Unit {0}

abbrev pub Works : RowWork → Window → ℕ → Fields → Window → Fields → Result Bool OpFault → Type 0
Works work window input row window' out (Ok kept) = Worked work window input row window' out kept
Works work window input row window' out (Err fault) = Faulted (check_of work) (values_of row) fault

-- ---- single kinds of work

-- a check passes the row, or has one that doesn't pass
abbrev pub Checks : List ℕ → Rex → Fields → Fields → Result Bool OpFault → Type 0
Checks name c row out (Ok kept) = (kept ≡ true) × (holds c (values_of row) ≡ true) × (out ≡ row)
Checks name c row out (Err fault) = Faulted (Some (name, holds c)) (values_of row) fault

-- one row less is to be given where this one was, and none where it wasn't
pub record IsGiven (give : ℕ) (kept : Bool) (give' : ℕ) : Type 0 where
  pub given : kept ≡ true → give ≡ suc give'
  pub over : kept ≡ false → (give ≡ 0) × (give' ≡ 0)

-- one row less is to be skipped, or where none is any more the row is given
pub record IsPassed (window : Window) (kept : Bool) (window' : Window) : Type 0 where
  pub skipped : 0 < window.skip → (kept ≡ false) × (window.skip ≡ suc window'.skip) × (window'.give ≡ window.give)
  pub given : window.skip ≡ 0 → (window'.skip ≡ 0) × IsGiven window.give kept window'.give
