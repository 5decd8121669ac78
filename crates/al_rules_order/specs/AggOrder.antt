-- An aggregate gives the same for its values in any order.
use Rattle.std.proofs.Common.{◌≡◌, ℤ, pos, Bool, true, false, not, List, [], ◌∷◌, map, flat_map, length, refl, ap, sym, ◌∙◌, arith}
use Rattle.std.specs.Prelude.{◌+ℤ◌, if◌then◌else◌}
use Rattle.std.specs.Ordering.{bool_cmp, ordering_reverse}
use Rattle.std.specs.declared.cmp.Ordering.{Ordering}
use Rattle.std.specs.declared.cmp.Ordering.TheVariants.{Less, Equal, Greater}
use Rattle.std.specs.List.Sorted.{IsPermutation}
use Rattle.std.proofs.lemmas.Int.{ints}
use Rattle.std.proofs.lemmas.Map.Lookups.{exact_signed, exact_bytes}
use Rattle.std.proofs.lemmas.List.Sorted.{IsPermutation-map, length_permutation}
use Rattle.al_value.specs.declared.value.Value.{Value}
use Rattle.al_value.specs.declared.value.Value.TheVariants as V
use Rattle.al_value.specs.Value.{value_cmp}
use Rattle.al_value.proofs.ValueLaws.{value_cmp_total}
use Rattle.al_agg.specs.Agg.{agg, is_null, is_less, lesser, greater, least, greatest, present, ints_of, total, sum_of, counted}
use Rattle.al_agg.specs.declared.agg.Agg.{Agg}
use Rattle.al_agg.specs.declared.agg.Agg.TheVariants as A
use Rattle.al_agg.proofs.AggLaws.{least-append, greatest-append, least-one, greatest-one}
use Rattle.al_plan.specs.declared.expr.Var.{Var}
use Rattle.al_plan.specs.declared.plan.AggCall.{AggCall}
use Rattle.al_plan.specs.declared.plan.AggCall.TheVariants as C
use Rattle.al_plan.specs.Eval.{Env, bind, eval}
use Rattle.al_plan.specs.Calls.{agg_call}
use Rattle.al_plan.specs.Allows.{agg_row}
use Rattle.al_plan.proofs.Moves.{along_permutation, IsPermutation-flat_map, IsPermutation-filter}

-- ---- values of equal order are equal

same_bools : (a b : Bool) → bool_cmp a b ≡ Equal → a ≡ b
same_bools false false e = refl
same_bools false true e = cc
same_bools true false e = cc
same_bools true true e = refl

same_values : (v w : Value) → value_cmp v w ≡ Equal → v ≡ w
same_values V.Null V.Null e = refl
same_values V.Null (V.Bool b) e = cc
same_values V.Null (V.Int b) e = cc
same_values V.Null (V.Text b) e = cc
same_values (V.Bool a) V.Null e = cc
same_values (V.Bool a) (V.Bool b) e = ap V.Bool (same_bools a b e)
same_values (V.Bool a) (V.Int b) e = cc
same_values (V.Bool a) (V.Text b) e = cc
same_values (V.Int a) V.Null e = cc
same_values (V.Int a) (V.Bool b) e = cc
same_values (V.Int a) (V.Int b) e = ap V.Int (exact_signed a b e)
same_values (V.Int a) (V.Text b) e = cc
same_values (V.Text a) V.Null e = cc
same_values (V.Text a) (V.Bool b) e = cc
same_values (V.Text a) (V.Int b) e = cc
same_values (V.Text a) (V.Text b) e = ap V.Text (exact_bytes a b e)

-- ---- the least and the greatest

turned : (v w : Value) (o : Ordering) → value_cmp w v ≡ o → value_cmp v w ≡ ordering_reverse o
turned v w o e = value_cmp_total.antisymm v w ∙ ap ordering_reverse e

lesser_one : (v w : Value) (o : Ordering) → value_cmp w v ≡ o → (if is_less (value_cmp w v) then w else v) ≡ (if is_less (value_cmp v w) then v else w)
lesser_one v w Less e = ap (λ o. if is_less o then w else v) e ∙ sym (ap (λ o. if is_less o then v else w) (turned v w Less e))
lesser_one v w Equal e = ap (λ o. if is_less o then w else v) e ∙ sym (same_values w v e) ∙ sym (ap (λ o. if is_less o then v else w) (turned v w Equal e))
lesser_one v w Greater e = ap (λ o. if is_less o then w else v) e ∙ sym (ap (λ o. if is_less o then v else w) (turned v w Greater e))

lesser-comm : (v w : Value) → lesser v w ≡ lesser w v
lesser-comm V.Null V.Null = refl
lesser-comm V.Null (V.Bool b) = refl
lesser-comm V.Null (V.Int b) = refl
lesser-comm V.Null (V.Text b) = refl
lesser-comm (V.Bool a) V.Null = refl
lesser-comm (V.Bool a) (V.Bool b) = lesser_one (V.Bool a) (V.Bool b) (value_cmp (V.Bool b) (V.Bool a)) refl
lesser-comm (V.Bool a) (V.Int b) = lesser_one (V.Bool a) (V.Int b) (value_cmp (V.Int b) (V.Bool a)) refl
lesser-comm (V.Bool a) (V.Text b) = lesser_one (V.Bool a) (V.Text b) (value_cmp (V.Text b) (V.Bool a)) refl
lesser-comm (V.Int a) V.Null = refl
lesser-comm (V.Int a) (V.Bool b) = lesser_one (V.Int a) (V.Bool b) (value_cmp (V.Bool b) (V.Int a)) refl
lesser-comm (V.Int a) (V.Int b) = lesser_one (V.Int a) (V.Int b) (value_cmp (V.Int b) (V.Int a)) refl
lesser-comm (V.Int a) (V.Text b) = lesser_one (V.Int a) (V.Text b) (value_cmp (V.Text b) (V.Int a)) refl
lesser-comm (V.Text a) V.Null = refl
lesser-comm (V.Text a) (V.Bool b) = lesser_one (V.Text a) (V.Bool b) (value_cmp (V.Bool b) (V.Text a)) refl
lesser-comm (V.Text a) (V.Int b) = lesser_one (V.Text a) (V.Int b) (value_cmp (V.Int b) (V.Text a)) refl
lesser-comm (V.Text a) (V.Text b) = lesser_one (V.Text a) (V.Text b) (value_cmp (V.Text b) (V.Text a)) refl

greater_one : (v w : Value) (o : Ordering) → value_cmp w v ≡ o → (if is_less (value_cmp v w) then w else v) ≡ (if is_less (value_cmp w v) then v else w)
greater_one v w Less e = ap (λ o. if is_less o then w else v) (turned v w Less e) ∙ sym (ap (λ o. if is_less o then v else w) e)
greater_one v w Equal e = ap (λ o. if is_less o then w else v) (turned v w Equal e) ∙ sym (same_values w v e) ∙ sym (ap (λ o. if is_less o then v else w) e)
greater_one v w Greater e = ap (λ o. if is_less o then w else v) (turned v w Greater e) ∙ sym (ap (λ o. if is_less o then v else w) e)

greater-comm : (v w : Value) → greater v w ≡ greater w v
greater-comm V.Null V.Null = refl
greater-comm V.Null (V.Bool b) = refl
greater-comm V.Null (V.Int b) = refl
greater-comm V.Null (V.Text b) = refl
greater-comm (V.Bool a) V.Null = refl
greater-comm (V.Bool a) (V.Bool b) = greater_one (V.Bool a) (V.Bool b) (value_cmp (V.Bool b) (V.Bool a)) refl
greater-comm (V.Bool a) (V.Int b) = greater_one (V.Bool a) (V.Int b) (value_cmp (V.Int b) (V.Bool a)) refl
greater-comm (V.Bool a) (V.Text b) = greater_one (V.Bool a) (V.Text b) (value_cmp (V.Text b) (V.Bool a)) refl
greater-comm (V.Int a) V.Null = refl
greater-comm (V.Int a) (V.Bool b) = greater_one (V.Int a) (V.Bool b) (value_cmp (V.Bool b) (V.Int a)) refl
greater-comm (V.Int a) (V.Int b) = greater_one (V.Int a) (V.Int b) (value_cmp (V.Int b) (V.Int a)) refl
greater-comm (V.Int a) (V.Text b) = greater_one (V.Int a) (V.Text b) (value_cmp (V.Text b) (V.Int a)) refl
greater-comm (V.Text a) V.Null = refl
greater-comm (V.Text a) (V.Bool b) = greater_one (V.Text a) (V.Bool b) (value_cmp (V.Bool b) (V.Text a)) refl
greater-comm (V.Text a) (V.Int b) = greater_one (V.Text a) (V.Int b) (value_cmp (V.Int b) (V.Text a)) refl
greater-comm (V.Text a) (V.Text b) = greater_one (V.Text a) (V.Text b) (value_cmp (V.Text b) (V.Text a)) refl

least-turn : (v w : Value) (vs : List Value) → least (v ∷ w ∷ vs) ≡ least (w ∷ v ∷ vs)
least-turn v w vs = least-append (v ∷ w ∷ []) vs ∙ ap (λ x. lesser x (least vs)) (ap (lesser v) (least-one w) ∙ lesser-comm v w ∙ sym (ap (lesser w) (least-one v))) ∙ sym (least-append (w ∷ v ∷ []) vs)

greatest-turn : (v w : Value) (vs : List Value) → greatest (v ∷ w ∷ vs) ≡ greatest (w ∷ v ∷ vs)
greatest-turn v w vs = greatest-append (v ∷ w ∷ []) vs ∙ ap (λ x. greater x (greatest vs)) (ap (greater v) (greatest-one w) ∙ greater-comm v w ∙ sym (ap (greater w) (greatest-one v))) ∙ sym (greatest-append (w ∷ v ∷ []) vs)

least-moved : (vs ws : List Value) → IsPermutation vs ws → least vs ≡ least ws
least-moved = along_permutation (λ vs ws. least vs ≡ least ws) (λ vs. refl) (λ v vs ws h. ap (lesser v) h) least-turn (λ us vs ws h g. h ∙ g)

greatest-moved : (vs ws : List Value) → IsPermutation vs ws → greatest vs ≡ greatest ws
greatest-moved = along_permutation (λ vs ws. greatest vs ≡ greatest ws) (λ vs. refl) (λ v vs ws h. ap (greater v) h) greatest-turn (λ us vs ws h g. h ∙ g)

-- ---- sums

abbrev int_in : Value → List ℤ
int_in V.Null = []
int_in (V.Bool b) = []
int_in (V.Int z) = z ∷ []
int_in (V.Text t) = []

ints_by_each : (vs : List Value) → flat_map int_in vs ≡ ints_of vs
ints_by_each [] = refl
ints_by_each (V.Null ∷ vs) = ints_by_each vs
ints_by_each (V.Bool b ∷ vs) = ints_by_each vs
ints_by_each (V.Int z ∷ vs) = ap (λ ns. z ∷ ns) (ints_by_each vs)
ints_by_each (V.Text t ∷ vs) = ints_by_each vs

total-moved : (ms ns : List ℤ) → IsPermutation ms ns → total ms ≡ total ns
total-moved = along_permutation (λ ms ns. total ms ≡ total ns) (λ ms. refl) (λ m ms ns h. ap (λ z. m +ℤ z) h) (λ m n ms. omega (arith, ints)) (λ ls ms ns h g. h ∙ g)

sum_by_total : (ms ns : List ℤ) → length ms ≡ length ns → total ms ≡ total ns → sum_of ms ≡ sum_of ns
sum_by_total [] [] long e = refl
sum_by_total [] (n ∷ ns) long e = absurd (omega (arith, long))
sum_by_total (m ∷ ms) [] long e = absurd (omega (arith, long))
sum_by_total (m ∷ ms) (n ∷ ns) long e = ap counted e

sum-moved : (vs ws : List Value) → IsPermutation vs ws → sum_of (ints_of vs) ≡ sum_of (ints_of ws)
sum-moved vs ws h =
    let each = IsPermutation-flat_map int_in vs ws h in
    sym (ap sum_of (ints_by_each vs)) ∙ sum_by_total (flat_map int_in vs) (flat_map int_in ws) (sym (length_permutation _ _ each)) (total-moved _ _ each) ∙ ap sum_of (ints_by_each ws)

-- ---- aggregates

agg-moved : (a : Agg) (vs ws : List Value) → IsPermutation vs ws → agg a vs ≡ agg a ws
unfolding agg
agg-moved A.CountAll vs ws h = ap (λ n. counted (pos n)) (sym (length_permutation vs ws h))
agg-moved A.Count vs ws h = ap (λ n. counted (pos n)) (sym (length_permutation (present vs) (present ws) (IsPermutation-filter (λ v. not (is_null v)) vs ws h)))
agg-moved A.Sum vs ws h = sum-moved vs ws h
agg-moved A.Min vs ws h = least-moved vs ws h
agg-moved A.Max vs ws h = greatest-moved vs ws h

call-moved : (a : AggCall) (rows moved : List Env) → IsPermutation rows moved → agg_call a rows ≡ agg_call a moved
unfolding agg_call
call-moved C.CountAll rows moved h = agg-moved A.CountAll _ _ (IsPermutation-map (λ r. V.Null) rows moved h)
call-moved (C.Count e) rows moved h = agg-moved A.Count _ _ (IsPermutation-map (eval e) rows moved h)
call-moved (C.Sum e) rows moved h = agg-moved A.Sum _ _ (IsPermutation-map (eval e) rows moved h)
call-moved (C.Min e) rows moved h = agg-moved A.Min _ _ (IsPermutation-map (eval e) rows moved h)
call-moved (C.Max e) rows moved h = agg-moved A.Max _ _ (IsPermutation-map (eval e) rows moved h)

-- the row of the aggregates' values is the same for the rows in another order
pub agg_row-moved : (made : List (Var × AggCall)) (rows moved : List Env) → IsPermutation rows moved → agg_row made rows ≡ agg_row made moved
agg_row-moved made rows moved h i = bind (map (λ m. m.0) made) (map (λ m. call-moved m.1 rows moved h i) made)
