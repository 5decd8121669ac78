-- The steps of an operator that works on each row alone.
use Rattle.std.proofs.Common.{◌≡◌, ◌≢◌, ◌<◌, ◌↔◌, ◌&&◌, ℕ, zero, suc, nat_eq, not, Bool, true, false, true≢false, List, [], ◌∷◌, ◌++◌, length, Option, Ok, refl, sym, ap, subst, ◌∙◌, arith}
use Rattle.hy_frame.specs.Row.{Fields, IsRow}
use Rattle.hy_store.specs.Fields.{fields_of}
use Rattle.hy_store.specs.declared.fault.OpFault.{OpFault}
use Rattle.hy_store.specs.declared.fault.OpFault.TheVariants as F
use Rattle.hy_store.specs.declared.fault.Next.TheVariants as N
use Rattle.hy_driver.specs.Rows.{Row, AreValues, Fed, values_of}
use Rattle.hy_driver.specs.Seen.{Check, Fixed, Seen}
use Rattle.hy_driver.specs.Steps.{Fails, IsNew, Pass, Steps, TellsFault, TellsTurn}
use Rattle.hy_driver.specs.declared.phase.Phase.{Phase}
use Rattle.hy_driver.specs.declared.phase.Phase.TheVariants.{Working, Hungry, Ended, GivenUp}
use Rattle.hy_driver.proofs.Values.{values_again, fields_again, as_many}
use Rattle.hy_driver.proofs.Forms.{EndsMore, ends_none}
use Rattle.hy_job.specs.Drivers.{all_left, driver_out}
use Rattle.hy_job.specs.Sound.{HasArity, IsInRange, inputs}
use Rattle.hy_stream.specs.Work.{Faulted, Reads, Works, arity_of, check_of, first_window, held_row, kind_of, work_out}
use Rattle.hy_rows.specs.State.{row_state, two_ended}
use Rattle.hy_stream.specs.Stream.{width_of, widths_of}
use Rattle.hy_stream.specs.declared.stream.Shape.{Shape}
use Rattle.hy_stream.specs.declared.work.RowWork.{RowWork}
use Rattle.hy_stream.specs.declared.work.RowWork.TheVariants as W
use Rattle.hy_stream.specs.declared.work.Window.{Window}
use Rattle.hy_rows.proofs.RowSteps.{row_asks, row_ends, row_fed, row_gives, row_new, row_stays}
use Rattle.hy_stream.proofs.WorkLaws.{work_ends, work_lives}

-- ---- two inputs

pub both_ended : (left right : Bool) → (left && right) ≡ true → (input : ℕ) → two_ended left right input ≡ true
both_ended true true e zero = refl
both_ended true true e (suc zero) = refl
both_ended true true e (suc (suc n)) = refl
both_ended true false e input = absurd (true≢false (sym e))
both_ended false right e input = absurd (true≢false (sym e))

pub one_open : (left right : Bool) → (left && right) ≡ false → (input : ℕ) × (two_ended left right input ≡ false)
one_open false right e = (0, refl)
one_open true false e = (1, refl)
one_open true true e = absurd (true≢false e)

pub left_ends : (left right : Bool) → EndsMore (two_ended left right) (two_ended true right)
left_ends left right zero e = absurd (true≢false e)
left_ends left right (suc zero) e = e
left_ends left right (suc (suc k)) e = e

pub right_ends : (left right : Bool) → EndsMore (two_ended left right) (two_ended left true)
right_ends left right zero e = e
right_ends left right (suc zero) e = absurd (true≢false e)
right_ends left right (suc (suc k)) e = e

of_two : (left right : Bool) (input : ℕ) → two_ended left right input ≡ false → input < 2
of_two left right zero open_ = omega arith
of_two left right (suc zero) open_ = omega arith
of_two left right (suc (suc input)) open_ = absurd (true≢false open_)

of_one : (left right : Bool) (input : ℕ) → right ≡ true → two_ended left right input ≡ false → input < 1
of_one left right zero one open_ = omega arith
of_one left right (suc zero) one open_ = absurd (true≢false (sym one ∙ open_))
of_one left right (suc (suc input)) one open_ = absurd (true≢false open_)

-- an input that has not ended is one of the work's
pub is_input : (work : RowWork) (left right : Bool) (input : ℕ) → (inputs (kind_of work) ≡ 1 → right ≡ true) → two_ended left right input ≡ false → input < inputs (kind_of work)
is_input (W.Union ls rs) left right input one open_ = of_two left right input open_
is_input (W.Assign made) left right input one open_ = of_one left right input (one refl) open_
is_input (W.Select c) left right input one open_ = of_one left right input (one refl) open_
is_input (W.Project columns) left right input one open_ = of_one left right input (one refl) open_
is_input (W.Check name c) left right input one open_ = of_one left right input (one refl) open_
is_input (W.Limit n k) left right input one open_ = of_one left right input (one refl) open_
is_input (W.LocalLimit n) left right input one open_ = of_one left right input (one refl) open_
is_input (W.Result columns) left right input one open_ = of_one left right input (one refl) open_

module _ (work : RowWork) (shape : Shape) where
  at_first : (input n : ℕ) → input < 1 → n ≡ width_of shape input → (Reads work shape.width → Reads work n) × (arity_of work n ≡ arity_of work shape.width)
  at_first zero n known is = (subst (Reads work) (sym is), ap (arity_of work) is)
  at_first (suc input) n known is = absurd (omega (arith, known))

-- what holds of the width of the first input's rows holds of those of the input at hand
at_input : (work : RowWork) (shape : Shape) (input n : ℕ) → input < inputs (kind_of work) → n ≡ width_of shape input → (Reads work shape.width → Reads work n) × (arity_of work n ≡ arity_of work shape.width)
at_input (W.Union ls rs) shape input n known is = (λ h. h, refl)
at_input (W.Assign made) shape input n known is = at_first (W.Assign made) shape input n known is
at_input (W.Select c) shape input n known is = at_first (W.Select c) shape input n known is
at_input (W.Project columns) shape input n known is = at_first (W.Project columns) shape input n known is
at_input (W.Check name c) shape input n known is = at_first (W.Check name c) shape input n known is
at_input (W.Limit m k) shape input n known is = at_first (W.Limit m k) shape input n known is
at_input (W.LocalLimit m) shape input n known is = at_first (W.LocalLimit m) shape input n known is
at_input (W.Result columns) shape input n known is = at_first (W.Result columns) shape input n known is

pub reads_at : (work : RowWork) (shape : Shape) (input n : ℕ) → input < inputs (kind_of work) → n ≡ width_of shape input → Reads work shape.width → Reads work n
reads_at work shape input n known is = (at_input work shape input n known is).0

pub arity_at : (work : RowWork) (shape : Shape) (input n : ℕ) → input < inputs (kind_of work) → n ≡ width_of shape input → shape.arity ≡ arity_of work shape.width → arity_of work n ≡ shape.arity
arity_at work shape input n known is arity = (at_input work shape input n known is).1 ∙ sym arity

pub sound_reads : (work : RowWork) (shape : Shape) → IsInRange (kind_of work) (widths_of shape) → HasArity (kind_of work) (widths_of shape) shape.arity → Reads work shape.width
sound_reads (W.Union ls rs) shape range arity = sym arity.1 ∙ arity.0
sound_reads (W.Assign made) shape range arity = range
sound_reads (W.Select c) shape range arity = range
sound_reads (W.Project columns) shape range arity = tt
sound_reads (W.Check name c) shape range arity = range
sound_reads (W.Limit n k) shape range arity = tt
sound_reads (W.LocalLimit n) shape range arity = tt
sound_reads (W.Result columns) shape range arity = tt

pub sound_arity : (work : RowWork) (shape : Shape) → HasArity (kind_of work) (widths_of shape) shape.arity → shape.arity ≡ arity_of work shape.width
sound_arity (W.Union ls rs) shape arity = arity.0
sound_arity (W.Assign made) shape arity = arity
sound_arity (W.Select c) shape arity = arity
sound_arity (W.Project columns) shape arity = arity
sound_arity (W.Check name c) shape arity = arity
sound_arity (W.Limit n k) shape arity = arity
sound_arity (W.LocalLimit n) shape arity = arity
sound_arity (W.Result columns) shape arity = arity

pub one_right : (n : ℕ) (right : Bool) → right ≡ not (nat_eq n 2) → n ≡ 1 → right ≡ true
one_right n right is one = is ∙ ap (λ m. not (nat_eq m 2)) one

-- ---- steps

pub holds_none : (holds : Bool) (phase : Phase) → phase ≡ Hungry → (holds ≡ true → phase ≡ Working) → holds ≡ false
holds_none false phase hungry works = refl
holds_none true phase hungry works = absurd (no (sym hungry ∙ works refl))
  where
    no : Hungry ≡ Working → ⊥
    no e = cc

module _ (fixed : Fixed) (work : RowWork) (checks : fixed.check ≡ check_of work) where
  -- a row is taken, and what comes of it is owed
  pub stream_fed : (window window' : Window) (ended : ℕ → Bool) (row row' out : Fields) (holds kept : Bool) (phase : Phase) (input : ℕ) (values : Row) → holds ≡ false → ended input ≡ false
      → length row' ≡ fixed.width input → AreValues values → fields_of values ≡ row' → Works work window input row' window' out (Ok kept)
      → Steps (row_state fixed (work_out work window) ended (held_row holds row) phase) ((input, values) ∷ []) [] (row_state fixed (work_out work window') ended (held_row kept out) Working)
  stream_fed window window' ended row row' out true kept phase input values none open_ wide are is worked = absurd (true≢false none)
  stream_fed window window' ended row row' out false kept phase input values none open_ wide are is worked =
      let same : values_of row' ≡ values = ap values_of (sym is) ∙ values_again values are in
      row_fed fixed ended ended (ends_none ended) (work_out work window) (work_out work window') (work_lives work window') (held_row kept out) phase Working input values open_ (as_many values row' (fixed.width input) is wide) are
      (subst (λ (check : Option Check). Pass check (values ∷ [])) (sym checks) (subst (λ (v : Row). Pass (check_of work) (v ∷ [])) same worked.passes))
      (subst (λ (v : Row). (took : List Fed) (rest : List Row) → work_out work window' took rest → work_out work window ((input, v) ∷ took) (held_row kept out ++ rest)) same worked.makes)

  pub stream_faulted : (old new : Seen) (row : Fields) (values : Row) (fault : OpFault) → old.fixed.check ≡ fixed.check → old.untested ≡ [] → AreValues values → fields_of values ≡ row → Faulted (check_of work) (values_of row) fault
      → TellsFault old (values ∷ []) new fault
  stream_faulted old new row values (F.Check name) same_check none are is h =
      let same : values_of row ≡ values = ap values_of (sym is) ∙ values_again values are in
      subst (λ (rows : List Row). Fails old.fixed.check name (rows ++ values ∷ [])) (sym none)
      (subst (λ (check : Option Check). Fails check name (values ∷ [])) (sym (same_check ∙ checks)) (subst (λ (v : Row). Fails (check_of work) name (v ∷ [])) same h))
  stream_faulted old new row values F.Store same_check none are is h = absurd h
  stream_faulted old new row values F.NoMemory same_check none are is h = tt

module _ (fixed : Fixed) (work : RowWork) (window : Window) where
  abbrev state : (ℕ → Bool) → Bool → Fields → Phase → Seen
  state ended holds row phase = row_state fixed (work_out work window) ended (held_row holds row) phase

  pub stream_stays : (ended ended' : ℕ → Bool) (holds : Bool) (row : Fields) (phase phase' : Phase) → EndsMore ended ended' → Steps (state ended holds row phase) [] [] (state ended' holds row phase')
  stream_stays ended ended' holds row phase phase' less = row_stays fixed ended ended' less (work_out work window) (work_lives work window) (held_row holds row) phase phase'

  pub stream_gives : (ended : ℕ → Bool) (holds : Bool) (row out : Fields) (phase : Phase) → holds ≡ true → (holds ≡ true → phase ≡ Working)
      → IsRow (length row) row → (holds ≡ true → length row ≡ fixed.arity) → row ≡ out
      → TellsTurn (state ended holds row phase) out (state ended false row phase) N.Row
  stream_gives ended false row out phase held works is wide same = absurd (true≢false (sym held))
  stream_gives ended true row out phase held works is wide same =
      let again = fields_again (length row) row is in
      row_gives fixed ended (work_out work window) (work_lives work window) (values_of row) [] out phase (works refl) again.0 (again.2 ∙ wide refl) (again.1 ∙ same)

  pub stream_asks : (left right holds : Bool) (row out : Fields) (phase : Phase) → holds ≡ false → (left && right) ≡ false → phase ≢ GivenUp → (phase ≡ Ended → left ≡ true) → (phase ≡ Ended → right ≡ true)
      → TellsTurn (state (two_ended left right) holds row phase) out (state (two_ended left right) holds row Hungry) N.NeedInput
  stream_asks left right true row out phase none going live over over' = absurd (true≢false none)
  stream_asks left right false row out phase none going live over over' =
      let found = one_open left right going in
      row_asks fixed (two_ended left right) (work_out work window) (work_lives work window) out phase found.0 found.1 live
      (λ e. both_ended left right (λ i. over e i && over' e i) found.0)

  pub stream_ends : (left right holds : Bool) (row out : Fields) (phase : Phase) → holds ≡ false → (left && right) ≡ true → phase ≢ GivenUp
      → TellsTurn (state (two_ended left right) holds row phase) out (state (two_ended left right) holds row Ended) N.End
  stream_ends left right true row out phase none over live = absurd (true≢false none)
  stream_ends left right false row out phase none over live =
      row_ends fixed (two_ended left right) (work_out work window) (work_lives work window) out phase (work_ends work window) (both_ended left right over) live

-- ---- new ones

first_of : (fixed : Fixed) (ended : ℕ → Bool) (work : RowWork) (arity n j : ℕ) (scanned handed : List Row)
    → IsNew (row_state fixed (work_out work (first_window work)) ended [] Working) (driver_out (kind_of work) arity (all_left (kind_of work) n j scanned handed))
first_of fixed ended (W.Assign made) arity n j scanned handed = row_new fixed ended _ (work_lives (W.Assign made) (first_window (W.Assign made)))
first_of fixed ended (W.Select c) arity n j scanned handed = row_new fixed ended _ (work_lives (W.Select c) (first_window (W.Select c)))
first_of fixed ended (W.Project columns) arity n j scanned handed = row_new fixed ended _ (work_lives (W.Project columns) (first_window (W.Project columns)))
first_of fixed ended (W.Check name c) arity n j scanned handed = row_new fixed ended _ (work_lives (W.Check name c) (first_window (W.Check name c)))
first_of fixed ended (W.Union ls rs) arity n j scanned handed = row_new fixed ended _ (work_lives (W.Union ls rs) (first_window (W.Union ls rs)))
first_of fixed ended (W.Limit m k) arity n j scanned handed = row_new fixed ended _ (work_lives (W.Limit m k) (first_window (W.Limit m k)))
first_of fixed ended (W.LocalLimit m) arity n j scanned handed = row_new fixed ended _ (work_lives (W.LocalLimit m) (first_window (W.LocalLimit m)))
first_of fixed ended (W.Result columns) arity n j scanned handed = row_new fixed ended _ (work_lives (W.Result columns) (first_window (W.Result columns)))

pub stream_new : (fixed : Fixed) (ended : ℕ → Bool) (work : RowWork) (window : Window) → window ≡ first_window work → (arity n j : ℕ) (scanned handed : List Row)
    → IsNew (row_state fixed (work_out work window) ended [] Working) (driver_out (kind_of work) arity (all_left (kind_of work) n j scanned handed))
stream_new fixed ended work window is arity n j scanned handed =
    subst (λ (w : Window). IsNew (row_state fixed (work_out work w) ended [] Working) (driver_out (kind_of work) arity (all_left (kind_of work) n j scanned handed))) (sym is)
    (first_of fixed ended work arity n j scanned handed)

-- an input has not ended where it is one of the work's
one_input : (right : Bool) → right ≡ true → (k : ℕ) → (k < 1) ↔ (two_ended false right k ≡ false)
one_input right is zero = (λ h. refl, λ h. omega arith)
one_input right is (suc zero) = (λ h. absurd (omega (arith, h)), λ h. absurd (true≢false (sym is ∙ h)))
one_input right is (suc (suc k)) = (λ h. absurd (omega (arith, h)), λ h. absurd (true≢false h))

two_inputs : (right : Bool) → right ≡ false → (k : ℕ) → (k < 2) ↔ (two_ended false right k ≡ false)
two_inputs right is zero = (λ h. refl, λ h. omega arith)
two_inputs right is (suc zero) = (λ h. is, λ h. omega arith)
two_inputs right is (suc (suc k)) = (λ h. absurd (omega (arith, h)), λ h. absurd (true≢false h))

pub stream_inputs : (work : RowWork) (right : Bool) → right ≡ not (nat_eq (inputs (kind_of work)) 2) → (k : ℕ) → (k < inputs (kind_of work)) ↔ (two_ended false right k ≡ false)
stream_inputs (W.Union ls rs) right is = two_inputs right is
stream_inputs (W.Assign made) right is = one_input right is
stream_inputs (W.Select c) right is = one_input right is
stream_inputs (W.Project columns) right is = one_input right is
stream_inputs (W.Check name c) right is = one_input right is
stream_inputs (W.Limit m k) right is = one_input right is
stream_inputs (W.LocalLimit m) right is = one_input right is
stream_inputs (W.Result columns) right is = one_input right is
