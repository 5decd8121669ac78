-- What comes of a row, by the kind of work.
use Rattle.std.proofs.Common.{◌≡◌, ◌<◌, ◌+◌, ℕ, zero, suc, Bool, true, false, true≢false, cond, if◌then◌else◌, List, [], ◌∷◌, ◌++◌, map, filter, take, drop, length, Result, Ok, Err, refl, sym, ap, subst, ◌∙◌, inl, inr, arith}
use Rattle.std.proofs.lemmas.List.Elements.{All-from_recursion}
use Rattle.al_func.specs.declared.rex.Rex.{Rex}
use Rattle.hy_frame.specs.Row.{Fields}
use Rattle.hy_store.specs.declared.fault.OpFault.{OpFault}
use Rattle.hy_store.specs.declared.fault.OpFault.TheVariants as F
use Rattle.hy_driver.specs.Rows.{Row, Fed, values_of}
use Rattle.hy_job.specs.Columns.{holds, cut, assigned, Takes, Interleaves}
use Rattle.hy_job.proofs.Members.{in_here}
use Rattle.hy_job.specs.Drivers.{received_of}
use Rattle.hy_job.specs.Sound.{inputs}
use Rattle.hy_stream.specs.Work.{Checks, IsGiven, IsPassed, Reads, Worked, Works, held_row, kind_of, work_out}
use Rattle.hy_stream.specs.declared.work.RowWork.{RowWork}
use Rattle.hy_stream.specs.declared.work.RowWork.TheVariants as W
use Rattle.hy_stream.specs.declared.work.Window.{Window}
use Rattle.hy_rows.proofs.RowSteps.{Lives, Ends}

-- ---- another row for each

abbrev Mapped : (List Fed → List Row → Type 0) → (Row → Row) → Type 0
Mapped out f = (took : List Fed) (rest : List Row) → out took rest → rest ≡ map f (received_of took 0)

one_more : (f : Row → Row) (values made : Row) (rows rest : List Row) → made ≡ f values → rest ≡ map f rows → made ∷ rest ≡ f values ∷ map f rows
one_more f values made rows rest is h = λ i. is i ∷ h i

pub assign_worked : (made : List Rex) (window : Window) (input : ℕ) (row out : Fields) → input < 1 → values_of out ≡ assigned made (values_of row) → length out ≡ length row + length made
    → Works (W.Assign made) window input row window out (Ok true)
assign_worked made window zero row out low is wide = record {
  makes = λ took rest h. one_more (assigned made) (values_of row) (values_of out) (received_of took 0) rest is h;
  passes = tt;
  wide = λ e. wide;
}
assign_worked made window (suc n) row out low is wide = absurd (omega (arith, low))

pub project_worked : (columns : List ℕ) (window : Window) (input : ℕ) (row out : Fields) → input < 1 → values_of out ≡ cut columns (values_of row) → length out ≡ length columns
    → Works (W.Project columns) window input row window out (Ok true)
project_worked columns window zero row out low is wide = record {
  makes = λ took rest h. one_more (cut columns) (values_of row) (values_of out) (received_of took 0) rest is h;
  passes = tt;
  wide = λ e. wide;
}
project_worked columns window (suc n) row out low is wide = absurd (omega (arith, low))

pub result_worked : (columns : List ℕ) (window : Window) (input : ℕ) (row out : Fields) → input < 1 → values_of out ≡ cut columns (values_of row) → length out ≡ length columns
    → Works (W.Result columns) window input row window out (Ok true)
result_worked columns window zero row out low is wide = record {
  makes = λ took rest h. one_more (cut columns) (values_of row) (values_of out) (received_of took 0) rest is h;
  passes = tt;
  wide = λ e. wide;
}
result_worked columns window (suc n) row out low is wide = absurd (omega (arith, low))

-- ---- some of the rows

-- the row itself, if it is kept
abbrev if_kept : Bool → Row → List Row
if_kept kept values = if kept then values ∷ [] else []

same_kept : (kept : Bool) (row out : Fields) → (kept ≡ true → out ≡ row) → held_row kept out ≡ if_kept kept (values_of row)
same_kept true row out same = ap (λ fields. values_of fields ∷ []) (same refl)
same_kept false row out same = refl

same_wide : (kept : Bool) (row out : Fields) → (kept ≡ true → out ≡ row) → kept ≡ true → length out ≡ length row
same_wide kept row out same e = ap (λ (fields : Fields). length fields) (same e)

filter_more : (p : Row → Bool) (values : Row) (rows : List Row) (kept : Bool) → kept ≡ p values → if_kept kept values ++ filter p rows ≡ filter p (values ∷ rows)
filter_more p values rows true e = ap (λ b. cond b (values ∷ filter p rows) (filter p rows)) e
filter_more p values rows false e = ap (λ b. cond b (values ∷ filter p rows) (filter p rows)) e

pub select_worked : (c : Rex) (window : Window) (input : ℕ) (row out : Fields) (kept : Bool) → input < 1 → kept ≡ holds c (values_of row) → (kept ≡ true → out ≡ row)
    → Works (W.Select c) window input row window out (Ok kept)
select_worked c window zero row out kept low is same = record {
  makes = λ took rest h. (λ i. same_kept kept row out same i ++ h i) ∙ filter_more (holds c) (values_of row) (received_of took 0) kept is;
  passes = tt;
  wide = same_wide kept row out same;
}
select_worked c window (suc n) row out kept low is same = absurd (omega (arith, low))

pub check_worked : (name : List ℕ) (c : Rex) (window : Window) (input : ℕ) (row out : Fields) (result : Result Bool OpFault) → input < 1 → Checks name c row out result
    → Works (W.Check name c) window input row window out result
check_worked name c window zero row out (Ok true) low h = record {
  makes = λ took rest is. (λ i. values_of (h.2 i) ∷ is i);
  passes = (h.1, tt);
  wide = λ e. ap (λ (fields : Fields). length fields) h.2;
}
check_worked name c window zero row out (Ok false) low h = absurd (true≢false (sym h.0))
check_worked name c window zero row out (Err fault) low h = h
check_worked name c window (suc n) row out result low h = absurd (omega (arith, low))

pub check_fails : (name name' : List ℕ) (c : Rex) (row out : Fields) (kept : Bool) → kept ≡ holds c (values_of row) → kept ≡ false → name' ≡ name → Checks name c row out (Err (F.Check name'))
check_fails name name' c row out kept is fails same = (sym same, (values_of row, in_here (values_of row) [], sym is ∙ fails))

-- ---- limits

given_more : (give give' : ℕ) (kept : Bool) (values : Row) (rows : List Row) → IsGiven give kept give' → if_kept kept values ++ take give' rows ≡ take give (values ∷ rows)
given_more give give' true values rows h = ap (λ n. take n (values ∷ rows)) (sym (h.given refl))
given_more give give' false values rows h = let over = h.over refl in ap (λ n. take n rows) over.1 ∙ ap (λ n. take n (values ∷ rows)) (sym over.0)

passed_more : (skip give skip' give' : ℕ) (kept : Bool) (values : Row) (rows : List Row) → (0 < skip → (kept ≡ false) × (skip ≡ suc skip') × (give' ≡ give)) → (skip ≡ 0 → (skip' ≡ 0) × IsGiven give kept give')
    → if_kept kept values ++ take give' (drop skip' rows) ≡ take give (drop skip (values ∷ rows))
passed_more zero give skip' give' kept values rows skipped given =
    let h = given refl in ap (λ n. if_kept kept values ++ take give' (drop n rows)) h.0 ∙ given_more give give' kept values rows h.1
passed_more (suc skip) give skip' give' kept values rows skipped given =
    let h = skipped (omega arith) in
    let less : skip' ≡ skip = omega (arith, h.1) in
    ap (λ b. if_kept b values ++ take give' (drop skip' rows)) h.0 ∙ (λ i. take (h.2 i) (drop (less i) rows))

pub limit_worked : (n k : ℕ) (window window' : Window) (input : ℕ) (row out : Fields) (kept : Bool) → input < 1 → IsPassed window kept window' → (kept ≡ true → out ≡ row)
    → Works (W.Limit n k) window input row window' out (Ok kept)
limit_worked n k window window' zero row out kept low h same = record {
  makes = λ took rest is. (λ i. same_kept kept row out same i ++ is i) ∙ passed_more window.skip window.give window'.skip window'.give kept (values_of row) (received_of took 0) h.skipped h.given;
  passes = tt;
  wide = same_wide kept row out same;
}
limit_worked n k window window' (suc m) row out kept low h same = absurd (omega (arith, low))

pub local_limit_worked : (n : ℕ) (window window' : Window) (input : ℕ) (row out : Fields) (kept : Bool) → input < 1 → IsGiven window.give kept window'.give → (kept ≡ true → out ≡ row)
    → Works (W.LocalLimit n) window input row window' out (Ok kept)
local_limit_worked n window window' zero row out kept low h same = record {
  makes = λ took rest is. (λ i. same_kept kept row out same i ++ is i) ∙ given_more window.give window'.give kept (values_of row) (received_of took 0) h;
  passes = tt;
  wide = same_wide kept row out same;
}
local_limit_worked n window window' (suc m) row out kept low h same = absurd (omega (arith, low))

-- ---- unions

left_first : {X : Type 0} (x : X) (xs ys out : List X) → Interleaves (xs ∷ ys ∷ []) out → Interleaves ((x ∷ xs) ∷ ys ∷ []) (x ∷ out)
unfolding Takes Interleaves
left_first x xs ys out h = (xs ∷ ys ∷ [], inl (xs, refl, refl), h)

pub right_first : {X : Type 0} (x : X) (xs ys out : List X) → Interleaves (xs ∷ ys ∷ []) out → Interleaves (xs ∷ (x ∷ ys) ∷ []) (x ∷ out)
unfolding Takes Interleaves
right_first x xs ys out h = (xs ∷ ys ∷ [], inr (ys ∷ [], inl (ys, refl, refl), refl), h)

pub none_interleaved : (X : Type 0) → Interleaves {A = X} ([] ∷ [] ∷ []) []
unfolding Interleaves
none_interleaved X = All-from_recursion (λ (xs : List X). xs ≡ []) ([] ∷ [] ∷ []) (refl, (refl, tt))

interleaved : {X : Type 0} (xs ys : List X) → (out : List X) × Interleaves (xs ∷ ys ∷ []) out
interleaved {X} [] [] = ([], none_interleaved X)
interleaved [] (y ∷ ys) = let h = interleaved [] ys in (y ∷ h.0, right_first y [] ys h.0 h.1)
interleaved (x ∷ xs) ys = let h = interleaved xs ys in (x ∷ h.0, left_first x xs ys h.0 h.1)

pub only_right : {X : Type 0} (ys out : List X) → Interleaves ([] ∷ ys ∷ []) out → out ≡ ys
unfolding Takes Interleaves
only_right ys [] h = sym (h 1 [] (omega arith))
only_right ys (x ∷ out) h = elim h.1 [
  | inl q ↦ absurd (no q.0 q.1)
  | inr q ↦ elim q.1 [
    | inl p ↦ ap (λ zs. x ∷ zs) (only_right p.0 out (subst (λ r. Interleaves r out) (q.2 ∙ ap (λ others. [] ∷ others) p.2) h.2)) ∙ sym p.1
    | inr p ↦ absurd p.1
  ]
]
  where
    no : (more : List _) → [] ≡ x ∷ more → ⊥
    no more e = cc

pub union_worked : (ls rs : List ℕ) (window : Window) (input : ℕ) (row out : Fields) → input < 2 → length rs ≡ length ls
    → (input ≡ 0 → values_of out ≡ cut ls (values_of row)) → (input ≡ 0 → length out ≡ length ls) → (0 < input → values_of out ≡ cut rs (values_of row)) → (0 < input → length out ≡ length rs)
    → Works (W.Union ls rs) window input row window out (Ok true)
union_worked ls rs window zero row out low same left left_wide right right_wide = record {
  makes = λ took rest h.
      subst (λ (made : Row). Interleaves ((cut ls (values_of row) ∷ map (cut ls) (received_of took 0)) ∷ map (cut rs) (received_of took 1) ∷ []) (made ∷ rest)) (sym (left refl))
      (left_first (cut ls (values_of row)) (map (cut ls) (received_of took 0)) (map (cut rs) (received_of took 1)) rest h);
  passes = tt;
  wide = λ e. left_wide refl;
}
union_worked ls rs window (suc zero) row out low same left left_wide right right_wide = record {
  makes = λ took rest h.
      subst (λ (made : Row). Interleaves (map (cut ls) (received_of took 0) ∷ (cut rs (values_of row) ∷ map (cut rs) (received_of took 1)) ∷ []) (made ∷ rest)) (sym (right (omega arith)))
      (right_first (cut rs (values_of row)) (map (cut ls) (received_of took 0)) (map (cut rs) (received_of took 1)) rest h);
  passes = tt;
  wide = λ e. right_wide (omega arith) ∙ same;
}
union_worked ls rs window (suc (suc n)) row out low same left left_wide right right_wide = absurd (omega (arith, low))

pub union_made : (work : RowWork) (ls rs ls' rs' : List ℕ) (window : Window) (input : ℕ) (row out : Fields) → work ≡ W.Union ls rs → ls' ≡ ls → rs' ≡ rs → input < inputs (kind_of work) → Reads work (length row)
    → (input ≡ 0 → values_of out ≡ cut ls' (values_of row)) → (input ≡ 0 → length out ≡ length ls') → (0 < input → values_of out ≡ cut rs' (values_of row)) → (0 < input → length out ≡ length rs')
    → Worked work window input row window out true
union_made work ls rs ls' rs' window input row out is left_is right_is known reads left left_wide right right_wide =
    subst (λ (w : RowWork). Worked w window input row window out true) (sym is)
    (union_worked ls rs window input row out (subst (λ (w : RowWork). input < inputs (kind_of w)) is known) (subst (λ (w : RowWork). Reads w (length row)) is reads)
    (λ e. left e ∙ ap (λ (columns : List ℕ). cut columns (values_of row)) left_is) (λ e. left_wide e ∙ ap (λ (columns : List ℕ). length columns) left_is)
    (λ e. right e ∙ ap (λ (columns : List ℕ). cut columns (values_of row)) right_is) (λ e. right_wide e ∙ ap (λ (columns : List ℕ). length columns) right_is))

-- ---- all kinds

pub work_lives : (work : RowWork) (window : Window) → Lives (work_out work window)
work_lives (W.Union ls rs) window took = interleaved (map (cut ls) (received_of took 0)) (map (cut rs) (received_of took 1))
work_lives (W.Assign made) window took = (_, refl)
work_lives (W.Select c) window took = (_, refl)
work_lives (W.Project columns) window took = (_, refl)
work_lives (W.Check name c) window took = (_, refl)
work_lives (W.Limit n k) window took = (_, refl)
work_lives (W.LocalLimit n) window took = (_, refl)
work_lives (W.Result columns) window took = (_, refl)

take_none : (n : ℕ) → ◌≡◌ {A = List Row} (take n []) []
take_none zero = refl
take_none (suc n) = refl

drop_none : (n : ℕ) → ◌≡◌ {A = List Row} (drop n []) []
drop_none zero = refl
drop_none (suc n) = refl

none_of : (give skip : ℕ) → ◌≡◌ {A = List Row} (take give (drop skip [])) []
none_of give skip = ap (take give) (drop_none skip) ∙ take_none give

pub work_ends : (work : RowWork) (window : Window) → Ends (work_out work window)
work_ends (W.Union ls rs) window = (none_interleaved Row, λ rest h. only_right [] rest h)
work_ends (W.Assign made) window = (refl, λ rest h. h)
work_ends (W.Select c) window = (refl, λ rest h. h)
work_ends (W.Project columns) window = (refl, λ rest h. h)
work_ends (W.Check name c) window = (refl, λ rest h. h)
work_ends (W.Limit n k) window = (sym (none_of window.give window.skip), λ rest h. h ∙ none_of window.give window.skip)
work_ends (W.LocalLimit n) window = (sym (take_none window.give), λ rest h. h ∙ take_none window.give)
work_ends (W.Result columns) window = (refl, λ rest h. h)

pub ruleset work_laws = (assign_worked, project_worked, result_worked, select_worked, check_worked, limit_worked, local_limit_worked, union_worked)
