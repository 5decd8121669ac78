-- How the conditions of drivers come of what suits an operator.
use Rattle.std.proofs.Common.{◌≡◌, ◌<◌, ◌+◌, ℕ, zero, suc, List, [], ◌∷◌, ◌++◌, length, refl, sym, ap, subst, ◌∙◌, arith}
use Rattle.std.specs.List.{AllByRecursion}
use Rattle.al_value.specs.declared.settings.Settings.{Settings}
use Rattle.al_func.specs.Rex.{IsSound}
use Rattle.hy_frame.specs.Row.{Fields, IsRow}
use Rattle.hy_driver.specs.Seen.{Fixed}
use Rattle.hy_job.specs.declared.job.Kind.TheVariants as K
use Rattle.hy_job.specs.Sound.{AreColumns, AreSound, HasArity, IsInRange, Widths}
use Rattle.hy_stream.specs.Stream.{width_of}
use Rattle.hy_stream.specs.Work.{check_of, kind_of}
use Rattle.hy_stream.specs.declared.stream.Shape.{Shape}
use Rattle.hy_stream.specs.declared.work.RowWork.{RowWork}
use Rattle.hy_stream.specs.declared.work.RowWork.TheVariants as W
use Rattle.hy_operator.specs.Begins.{IsFixed, width_at}
use Rattle.hy_operator.specs.declared.input.RowShape.{RowShape}
use Rattle.hy_operator.proofs.Making.{fixed_of}

-- ---- rows

-- it is a row as it stands
abbrev pub is_own_row : Fields → Type 0
is_own_row row = IsRow (length row) row

pub more_rows : (rows : List Fields) (row : Fields) → AllByRecursion is_own_row rows → is_own_row row → AllByRecursion is_own_row (rows ++ row ∷ [])
more_rows [] row are is = (is, tt)
more_rows (other ∷ rows) row are is = (are.0, more_rows rows row are.1 is)

-- rows of one width are rows of that width
pub rows_of : (width : ℕ) (rows : List Fields) → AllByRecursion is_own_row rows → AllByRecursion (λ row. length row ≡ width) rows → AllByRecursion (IsRow width) rows
rows_of width [] are wide = tt
rows_of width (row ∷ rows) are wide = (subst (λ n. IsRow n row) wide.0 are.0, rows_of width rows are.1 wide.1)

-- ---- widths

-- what is read of rows by work on each row alone is that of the first two widths
pub row_range : (work : RowWork) (w v : Widths) → w.taken 0 ≡ v.taken 0 → w.taken 1 ≡ v.taken 1 → IsInRange (kind_of work) w → IsInRange (kind_of work) v
row_range (W.Assign made) w v e f h = subst (λ n. AreSound n made) e h
row_range (W.Select c) w v e f h = subst (λ n. IsSound n c) e h
row_range (W.Project columns) w v e f h = subst (λ n. AreColumns n columns) e h
row_range (W.Check name c) w v e f h = subst (λ n. IsSound n c) e h
row_range (W.Union ls rs) w v e f h = (subst (λ n. AreColumns n ls) e h.0, subst (λ n. AreColumns n rs) f h.1)
row_range (W.Limit n k) w v e f h = tt
row_range (W.LocalLimit n) w v e f h = tt
row_range (W.Result columns) w v e f h = subst (λ n. AreColumns n columns) e h

pub row_arity : (work : RowWork) (w v : Widths) (arity : ℕ) → w.taken 0 ≡ v.taken 0 → HasArity (kind_of work) w arity → HasArity (kind_of work) v arity
row_arity (W.Assign made) w v arity e h = subst (λ n. arity ≡ n + length made) e h
row_arity (W.Select c) w v arity e h = h ∙ e
row_arity (W.Project columns) w v arity e h = h
row_arity (W.Check name c) w v arity e h = h ∙ e
row_arity (W.Union ls rs) w v arity e h = h
row_arity (W.Limit n k) w v arity e h = h ∙ e
row_arity (W.LocalLimit n) w v arity e h = h ∙ e
row_arity (W.Result columns) w v arity e h = h

-- a driver that works on each row alone, of one of two inputs
pub row_fixed : (work : RowWork) (settings : Settings) (shape : RowShape) (handed : ℕ) (fixed : Fixed) (width : ℕ → ℕ) → ((input : ℕ) → width input ≡ width_at shape input)
    → fixed ≡ record { unit = settings.frame_size; memory = settings.memory; cost = 2; width = width; arity = shape.arity; check = check_of work }
    → IsFixed (kind_of work) settings shape handed fixed
row_fixed (W.Assign made) settings shape handed fixed width same is = fixed_of (K.Assign made) settings shape handed fixed width _ is (λ input lt. same input) refl
row_fixed (W.Select c) settings shape handed fixed width same is = fixed_of (K.Select c) settings shape handed fixed width _ is (λ input lt. same input) refl
row_fixed (W.Project columns) settings shape handed fixed width same is = fixed_of (K.Project columns) settings shape handed fixed width _ is (λ input lt. same input) refl
row_fixed (W.Check name c) settings shape handed fixed width same is = fixed_of (K.Check name c) settings shape handed fixed width _ is (λ input lt. same input) refl
row_fixed (W.Union ls rs) settings shape handed fixed width same is = fixed_of (K.Union ls rs) settings shape handed fixed width _ is (λ input lt. same input) refl
row_fixed (W.Limit n k) settings shape handed fixed width same is = fixed_of (K.Limit n k) settings shape handed fixed width _ is (λ input lt. same input) refl
row_fixed (W.LocalLimit n) settings shape handed fixed width same is = fixed_of (K.LocalLimit n) settings shape handed fixed width _ is (λ input lt. same input) refl
row_fixed (W.Result columns) settings shape handed fixed width same is = fixed_of (K.Result columns) settings shape handed fixed width _ is (λ input lt. same input) refl

pub stream_width : (shape : RowShape) (input : ℕ) → width_of (record { width = shape.left; right_width = shape.right; arity = shape.arity }) input ≡ width_at shape input
stream_width shape zero = refl
stream_width shape (suc input) = refl
