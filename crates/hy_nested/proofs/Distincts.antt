-- Sorted rows of which neighbours that are the same are kept once are the different rows.
use Rattle.std.proofs.Common.{◌≡◌, ◌≢◌, Bool, true, false, List, [], ◌∷◌, refl, ap, sym, subst, ◌∙◌, arith}
use Rattle.std.specs.Cmp.{IsTotalOrder}
use Rattle.std.specs.Cmp.Lexicographic.{slice_cmp}
use Rattle.std.specs.Ordering.{bool_cmp, eq_by_cmp, is_eq, ordering_then}
use Rattle.std.specs.declared.cmp.Ordering.{Ordering}
use Rattle.std.specs.declared.cmp.Ordering.TheVariants.{Less, Equal, Greater}
use Rattle.std.specs.List.{AllPairs, Contains, dedup}
use Rattle.std.specs.List.Sorted.{IsPermutation, IsSorted, IsStrictlySortedBy}
use Rattle.std.proofs.lemmas.Cmp.{tied_itself, lists_total, eq_by_cmp_equiv}
use Rattle.std.proofs.lemmas.List.Elements.{All-weaker, All-from_recursion, All-contains_itself}
use Rattle.std.proofs.lemmas.List.Kept.{AllPairs-cons, Contains-dedup, Contains-from_dedup, IsStrictlySortedBy-dedup}
use Rattle.std.proofs.lemmas.List.Sorted.{Contains-permutation, IsPermutation-sym}
use Rattle.std.proofs.lemmas.Map.Lookups.{exact_signed, exact_bytes}
use Rattle.al_value.specs.declared.value.Value.{Value}
use Rattle.al_value.specs.declared.value.Value.TheVariants as V
use Rattle.al_value.specs.Value.{value_cmp}
use Rattle.al_value.proofs.ValueLaws.{value_cmp_total}
use Rattle.hy_job.specs.Columns.{Row, IsDistinctOf}

-- the order of rows by their values from the left
abbrev pub row_cmp : Row → Row → Ordering
row_cmp = slice_cmp value_cmp

pub row_cmp_total : IsTotalOrder row_cmp
row_cmp_total = lists_total value_cmp_total

bool_exact : (a b : Bool) → bool_cmp a b ≡ Equal → a ≡ b
bool_exact true true e = refl
bool_exact true false e = cc
bool_exact false true e = cc
bool_exact false false e = refl

value_exact : (x y : Value) → value_cmp x y ≡ Equal → x ≡ y
value_exact V.Null V.Null e = refl
value_exact V.Null (V.Bool b) e = cc
value_exact V.Null (V.Int b) e = cc
value_exact V.Null (V.Text b) e = cc
value_exact (V.Bool a) V.Null e = cc
value_exact (V.Bool a) (V.Bool b) e = ap V.Bool (bool_exact a b e)
value_exact (V.Bool a) (V.Int b) e = cc
value_exact (V.Bool a) (V.Text b) e = cc
value_exact (V.Int a) V.Null e = cc
value_exact (V.Int a) (V.Bool b) e = cc
value_exact (V.Int a) (V.Int b) e = ap V.Int (exact_signed a b e)
value_exact (V.Int a) (V.Text b) e = cc
value_exact (V.Text a) V.Null e = cc
value_exact (V.Text a) (V.Bool b) e = cc
value_exact (V.Text a) (V.Int b) e = cc
value_exact (V.Text a) (V.Text b) e = ap V.Text (exact_bytes a b e)

both_equal : (o p : Ordering) → ordering_then o p ≡ Equal → (o ≡ Equal) × (p ≡ Equal)
both_equal Less p e = absurd (cc)
both_equal Equal p e = (refl, e)
both_equal Greater p e = absurd (cc)

-- rows that no order tells apart are the same
row_exact : (xs ys : Row) → row_cmp xs ys ≡ Equal → xs ≡ ys
row_exact [] [] e = refl
row_exact [] (y ∷ ys) e = cc
row_exact (x ∷ xs) [] e = cc
row_exact (x ∷ xs) (y ∷ ys) e =
    let both = both_equal (value_cmp x y) (row_cmp xs ys) e in λ i. value_exact x y both.0 i ∷ row_exact xs ys both.1 i

is_tied : (o : Ordering) → is_eq o ≡ true → o ≡ Equal
is_tied Less e = absurd (cc)
is_tied Equal e = refl
is_tied Greater e = absurd (cc)

-- each is below all that stand behind it, so it is none of them
apart : (rows : List Row) → IsStrictlySortedBy row_cmp rows → AllPairs ◌≢◌ rows
unfolding IsStrictlySortedBy
apart [] h = λ i j d low high. absurd (omega arith)
apart (x ∷ rows) h =
    AllPairs-cons ◌≢◌ x rows
    (All-weaker (λ y. row_cmp x y ≡ Less) (λ y. x ≢ y)
    (λ y less same. let tied = tied_itself row_cmp_total x in let e : Less ≡ Equal = sym less ∙ ap (row_cmp x) (sym same) ∙ tied in cc) rows (All-from_recursion (λ y. row_cmp x y ≡ Less) rows h.0))
    (apart rows h.1)

pub distinct_sorted : (rows sorted kept : List Row) → IsPermutation rows sorted → IsSorted row_cmp sorted → kept ≡ dedup (eq_by_cmp row_cmp) sorted → IsDistinctOf rows kept
distinct_sorted rows sorted kept moved up is = subst (IsDistinctOf rows) (sym is) (record {
  within = All-weaker (Contains (dedup (eq_by_cmp row_cmp) sorted)) (Contains rows) (λ x h. Contains-permutation sorted rows x (IsPermutation-sym rows sorted moved) (Contains-from_dedup (eq_by_cmp row_cmp) sorted x h)) (dedup (eq_by_cmp row_cmp) sorted) (All-contains_itself (dedup (eq_by_cmp row_cmp) sorted));
  all = All-weaker (Contains rows) (Contains (dedup (eq_by_cmp row_cmp) sorted)) (λ x h. Contains-dedup (eq_by_cmp_equiv row_cmp_total) (λ x y e. row_exact x y (is_tied (row_cmp x y) e)) sorted x (Contains-permutation rows sorted x moved h)) rows (All-contains_itself rows);
  once = apart (dedup (eq_by_cmp row_cmp) sorted) (IsStrictlySortedBy-dedup row_cmp_total (λ x y. refl) sorted up);
})
