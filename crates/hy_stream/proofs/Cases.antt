-- The worked cases of what comes of rows.
use Rattle.std.proofs.Common.{◌≡◌, ◌↔◌, ℕ, Bool, true, false, true≢false, List, [], ◌∷◌, ◌++◌, map, length, refl, sym, ap, subst, ◌∙◌, arith}
use Rattle.std.specs.List.{Contains, flat_map}
use Rattle.std.proofs.lemmas.List.Elements.{All-contains, All-from_recursion}
use Rattle.al_value.specs.declared.value.Value.TheVariants as V
use Rattle.al_func.specs.Func.{is_true}
use Rattle.al_func.specs.Items.{range}
use Rattle.al_func.proofs.RexLaws.{eval_rex-Col, eval_rex-Lit}
use Rattle.hy_driver.specs.Rows.{Row}
use Rattle.hy_job.specs.Cases.{int, row_of}
use Rattle.hy_job.specs.Columns.{Interleaves, expanded, holds, items}
use Rattle.hy_stream.specs.Cases.{ChecksFault, ItemsAreBehind, LimitGoesOn, OneIsEmpty, RowsAreShared, SecondIsOpen, UnionCutsEach, UnionsAreEven, WindowsMove, on_first, up_to_first}
use Rattle.hy_job.proofs.Members.{in_here}
use Rattle.hy_stream.proofs.WorkLaws.{only_right, none_interleaved, right_first}

same : {P : Type 0} → P ↔ P
same = (λ h. h, λ h. h)

pub limit_goes_on : LimitGoesOn
limit_goes_on out = (same, same, same)

pub windows_move : WindowsMove
windows_move = (
  record { skipped = λ low. (refl, refl, refl); given = λ e. absurd (omega (arith, e)) },
  record { skipped = λ low. absurd (omega (arith, low)); given = λ e. (refl, record { given = λ k. refl; over = λ k. absurd (true≢false k) }) },
  record { skipped = λ low. absurd (omega (arith, low)); given = λ e. (refl, record { given = λ k. absurd (true≢false (sym k)); over = λ k. (refl, refl) }) },
  λ h. true≢false (h.skipped (omega arith)).0,
  λ h. (let q = (h.given refl).1.given refl in omega (arith, q)),
  λ h. (let q = ((h.given refl).1.over refl).0 in omega (arith, q)),
  λ h. (let q = (h.given refl).1.given refl in omega (arith, q)),
)

pub union_cuts_each : UnionCutsEach
union_cuts_each out = (
  λ h. only_right (row_of 4 ∷ []) out h,
  λ e. subst (λ (rows : List Row). Interleaves ([] ∷ (row_of 4 ∷ []) ∷ []) rows) (sym e) (right_first (row_of 4) [] [] [] (none_interleaved Row)),
)

pub second_is_open : SecondIsOpen
second_is_open = (refl, refl, refl)

pub unions_are_even : UnionsAreEven
unions_are_even = (refl, λ h. omega (arith, h), refl)

first_holds : (b : Bool) → holds on_first (V.Bool b ∷ []) ≡ is_true (V.Bool b)
first_holds b = ap is_true (eval_rex-Col 0 (V.Bool b ∷ []))

passes : (row : Row) → Contains ((V.Bool true ∷ []) ∷ []) row → holds on_first row ≡ true
passes row among = All-contains (λ r. holds on_first r ≡ true) ((V.Bool true ∷ []) ∷ []) row (All-from_recursion (λ r. holds on_first r ≡ true) ((V.Bool true ∷ []) ∷ []) (first_holds true, tt)) among

pub checks_fault : ChecksFault
checks_fault name = (
  (refl, (V.Bool false ∷ [], in_here (V.Bool false ∷ []) [], first_holds false)),
  λ h. true≢false (sym (passes h.1.0 h.1.1) ∙ h.1.2),
  λ h. h,
)

pub rows_are_shared : RowsAreShared
rows_are_shared = (refl, refl, refl, λ h. (let q = ap (λ (rows : List Row). length rows) h in omega (arith, q)))

pub one_is_empty : OneIsEmpty
one_is_empty = (refl, refl, λ h. (let q = ap (λ (rows : List Row). length rows) h in omega (arith, q)))

-- one up to the number in the first column
ranged : (n : ℕ) → expanded up_to_first (row_of n) ≡ map (λ x. row_of n ++ x ∷ []) (range (int 1) (int n))
unfolding items
ranged n = λ i. map (λ x. row_of n ++ x ∷ []) (range (eval_rex-Lit (int 1) (row_of n) i) (eval_rex-Col 0 (row_of n) i))

all_ranged : flat_map (expanded up_to_first) (row_of 2 ∷ row_of 0 ∷ row_of 1 ∷ []) ≡ (row_of 2 ++ row_of 1) ∷ (row_of 2 ++ row_of 2) ∷ (row_of 1 ++ row_of 1) ∷ []
all_ranged = λ i. ranged 2 i ++ (ranged 0 i ++ (ranged 1 i ++ []))

pub items_are_behind : ItemsAreBehind
items_are_behind = (refl, refl, λ out. (λ h. h ∙ all_ranged, λ h. h ∙ sym all_ranged))
