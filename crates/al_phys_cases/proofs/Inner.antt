-- The cases of nested plans, and of joins with two pairs and with more than their keys.
use Rattle.std.proofs.Common.{◌≡◌, ⊎_elim, ℕ, true, false, cond, List, [], ◌∷◌, ◌++◌, filter, take, drop, length, get_or, refl, ap, sym, subst, ◌∙◌, arith}
use Rattle.std.specs.Prelude.{◌≢◌}
use Rattle.std.specs.Int.{int_wrap}
use Rattle.std.specs.List.{All, AllByRecursion, AllPairs, Contains}
use Rattle.std.specs.List.Sorted.{IsPermutation, IsSorted}
use Rattle.std.proofs.lemmas.List.Elements.{All-from_recursion, recursion_from_All, All-contains}
use Rattle.std.proofs.lemmas.List.Sorted.{IsPermutation-refl, IsPermutation-trans, length_permutation, All-permutation}
use Rattle.al_value.specs.declared.value.Value.{Value}
use Rattle.al_value.specs.declared.value.Value.TheVariants as V
use Rattle.al_func.specs.declared.func.Func.TheVariants as F
use Rattle.al_func.specs.Func.{apply, and3, equal, less, is_true}
use Rattle.al_agg.specs.Agg.{agg}
use Rattle.al_plan.specs.declared.expr.Expr.TheVariants as E
use Rattle.al_plan.specs.declared.plan.Plan.{Plan}
use Rattle.al_plan.specs.declared.plan.Plan.TheVariants as P
use Rattle.al_plan.specs.Eval.{Env, bind, eval, holds}
use Rattle.al_plan.specs.Calls.{agg_call}
use Rattle.al_plan.specs.Allows.{Sets, nulls, beside, matches, or_alone, left_pairs, agg_row, keys_cmp, IsDistinctOf}
use Rattle.al_plan.proofs.EvalLaws.{eval-Call, eval-Var, eval-Lit}
use Rattle.al_plan.proofs.PlanLaws.{allows_Nested, from_Nested, allows_Order, from_Order, allows_Limit, from_Limit, allows_Distinct, from_Distinct, allows_Aggregate, from_Aggregate, allows_Scan, from_Scan, allows_LeftJoin, from_LeftJoin}
use Rattle.al_plan.proofs.Moves.{IsPermutation-one, IsPermutation-turn}
use Rattle.al_cases.specs.Cases.{u, a, b, n, int, row, pair, one_column, two_sets, scan_a, scan_b, by_a, same, Answers, AllowsOnly}
use Rattle.al_cases.specs.RefineCases.{few}
use Rattle.al_cases.proofs.Simple.{scanned, of_scan, two_orders}
use Rattle.al_cases.proofs.Ordered.{sorted}
use Rattle.al_cases.proofs.Joined.{beside-rows, live_a, pair_b}
use Rattle.al_cases.proofs.Nests.{count, same_count}
use Rattle.al_phys_cases.specs.PartCases.{at}
use Rattle.al_phys_cases.specs.InnerCases.{Within, both, NestedIsFree, OrderInside, DistinctInside, TwoPairs, same_and_few, RestDecides, RestAllows}
use Rattle.al_phys_cases.proofs.Two.{heads}
use Rattle.al_phys_cases.proofs.Exchanges.{at_is, unsorted}
use Rattle.al_phys_cases.proofs.Hashing.{beside_null, eval_same}

abbrev none : Sets
none = one_column []

-- ---- nested

of_nested : (outer rows : List Env) → Within outer P.Nested rows → IsPermutation outer rows
of_nested outer rows h = from_Nested false none (a ∷ []) outer rows h

to_nested : (outer rows : List Env) → IsPermutation outer rows → Within outer P.Nested rows
to_nested outer rows h = allows_Nested false none (a ∷ []) outer rows h

turned : IsPermutation both (at 1 ∷ at 2 ∷ [])
turned = IsPermutation-turn (at 2) (at 1) []

-- what holds of two rows holds of rows in another order
not_twice : IsPermutation both (at 1 ∷ at 1 ∷ []) → ⊥
not_twice h = ⊎_elim
    (λ e. absurd (omega (arith, at_is 1 2 (heads (at 1) (at 2) (at 1 ∷ []) (at 1 ∷ []) e))))
    (λ e. absurd (omega (arith, at_is 1 2 (ap (λ (rows : List Env). get_or rows 1 nulls) e))))
    (two_orders (at 2) (at 1) (at 1 ∷ at 1 ∷ []) h)

pub nested_is_free : NestedIsFree
nested_is_free = record {
  as_given = to_nested both (at 2 ∷ at 1 ∷ []) (IsPermutation-refl both);
  turned = to_nested both (at 1 ∷ at 2 ∷ []) turned;
  one_left = λ h. absurd (omega (arith, length_permutation _ _ (of_nested both (at 2 ∷ []) h)));
  one_twice = λ h. not_twice (of_nested both (at 1 ∷ at 1 ∷ []) h);
}

-- ---- an order inside

abbrev up : Plan
up = P.Order (by_a false) P.Nested

pub order_inside : OrderInside
order_inside = record {
  least = allows_Limit 1 0 up false none (a ∷ []) both (at 1 ∷ [])
      (at 1 ∷ at 2 ∷ [], allows_Order (by_a false) P.Nested false none (a ∷ []) both (at 1 ∷ at 2 ∷ []) (both, to_nested both both (IsPermutation-refl both), (turned, sorted false (int 1) (int 2) refl refl)), refl);
  no_other = λ rows h.
      let over = from_Limit 1 0 up false none (a ∷ []) both rows h in
      let under = from_Order (by_a false) P.Nested false none (a ∷ []) both over.0 over.1 in
      let moved = IsPermutation-trans both under.0 over.0 (of_nested both under.0 under.1) under.2.0 in
      over.2 ∙ ap (λ (input : List Env). take 1 (drop 0 input)) (⊎_elim (λ e. absurd (unsorted (subst (IsSorted (keys_cmp (by_a false))) e under.2.1))) (λ e. e) (two_orders (at 2) (at 1) over.0 moved));
}

-- ---- a distinct inside

abbrev twins : List Env
twins = at 1 ∷ at 1 ∷ []

one_row : agg_row count (nulls ∷ []) ≡ row n (int 1)
unfolding agg_call agg int_wrap
one_row = refl

abbrev IsOne : Env → Type 0
IsOne r = r ≡ at 1

all_ones : All IsOne twins
all_ones = All-from_recursion IsOne twins (refl, (refl, tt))

kept_one : (kept : List Env) → AllByRecursion IsOne kept → Contains kept (at 1) → AllPairs ◌≢◌ kept → length kept ≡ 1
kept_one [] h some once = absurd (let lt = some.1 in omega arith)
kept_one (r ∷ []) h some once = refl
kept_one (r ∷ s ∷ kept) h some once = absurd (once 0 1 r (omega arith) (omega arith) (h.0 ∙ sym h.1.0))

distinct_one : (input kept : List Env) → IsPermutation twins input → IsDistinctOf input kept → length kept ≡ 1
distinct_one input kept moved is =
    let alike = All-permutation IsOne twins input moved all_ones in
    let long = length_permutation twins input moved in
    kept_one kept (recursion_from_All IsOne kept (λ k d lt. All-contains IsOne input _ alike (is.within k d lt)))
    (subst (Contains kept) (alike 0 nulls (omega arith)) (is.all 0 nulls (omega arith))) is.once

pub distinct_inside : DistinctInside
distinct_inside = record {
  one = allows_Aggregate count (P.Distinct P.Nested) false none (a ∷ []) twins (row n (int 1) ∷ []) (
    at 1 ∷ [],
    allows_Distinct P.Nested false none (a ∷ []) twins (at 1 ∷ []) (
      twins,
      to_nested twins twins (IsPermutation-refl twins),
      record {
        within = All-from_recursion (Contains twins) (at 1 ∷ []) ((0, omega arith, refl), tt);
        all = All-from_recursion (Contains (at 1 ∷ [])) twins ((0, omega arith, refl), ((0, omega arith, refl), tt));
        once = λ i j d lt low. absurd (omega arith);
      },
    ),
    ap (λ (r : Env). r ∷ []) (sym (same_count (at 1 ∷ []) (nulls ∷ []) refl ∙ one_row)),
  );
  no_other = λ rows h.
      let over = from_Aggregate count (P.Distinct P.Nested) false none (a ∷ []) twins rows h in
      let under = from_Distinct P.Nested false none (a ∷ []) twins over.0 over.1 in
      over.2 ∙ ap (λ (r : Env). r ∷ []) (same_count over.0 (nulls ∷ []) (distinct_one under.0 over.0 (of_nested twins under.0 under.1) under.2) ∙ one_row);
}

-- ---- two pairs

abbrev pair_sets : Sets
pair_sets = two_sets (int 1 ∷ []) (int 1 ∷ int 1 ∷ [])

abbrev rights : List Env
rights = row b (int 1) ∷ row b (int 1) ∷ []

abbrev ones : List Env
ones = pair (int 1) (int 1) ∷ pair (int 1) (int 1) ∷ []

pair_first : (v w : Value) → pair v w a.name ≡ v
unfolding bind
pair_first v w = refl

holds_ones : holds same (pair (int 1) (int 1)) ≡ true
holds_ones = ap is_true (eval_same (pair (int 1) (int 1)) ∙ (λ i. equal (pair_first (int 1) (int 1) i) (pair_b (int 1) (int 1) i)))

kept_ones : filter (holds same) (pair (int 1) (int 1) ∷ pair (int 1) (int 1) ∷ []) ≡ pair (int 1) (int 1) ∷ pair (int 1) (int 1) ∷ []
kept_ones = rw (holds_ones) refl

two_matched : matches (a ∷ []) same (row b (int 1) ∷ row b (int 1) ∷ []) (at 1) ≡ pair (int 1) (int 1) ∷ pair (int 1) (int 1) ∷ []
two_matched = (λ i. filter (holds same) (beside-rows a b (int 1) (int 1) i ∷ beside-rows a b (int 1) (int 1) i ∷ [])) ∙ kept_ones

two_paired : left_pairs (a ∷ []) same (at 1 ∷ []) (row b (int 1) ∷ row b (int 1) ∷ []) ≡ pair (int 1) (int 1) ∷ pair (int 1) (int 1) ∷ []
two_paired = λ i. or_alone (beside (a ∷ []) (at 1) nulls) (two_matched i) ++ []

left_one : Answers pair_sets scan_a (at 1 ∷ [])
left_one = scanned pair_sets (at 1 ∷ []) (IsPermutation-refl (at 1 ∷ []))

right_two : Answers pair_sets scan_b rights
right_two = allows_Scan u (b ∷ []) false pair_sets [] [] rights (IsPermutation-refl rights)

pub two_pairs : TwoPairs
two_pairs = record {
  allowed = allows_LeftJoin same scan_a scan_b false pair_sets [] [] ones
      (at 1 ∷ [], left_one, (rights, right_two, subst (λ (rows : List Env). IsPermutation rows ones) (sym ((λ i. left_pairs (live_a i) same (at 1 ∷ []) rights) ∙ two_paired)) (IsPermutation-refl ones)));
  no_other = λ others h.
      let over = from_LeftJoin same scan_a scan_b false pair_sets [] [] others h in
      let left = IsPermutation-one (at 1) over.0 (of_scan pair_sets over.0 over.1) in
      let right = ⊎_elim (λ e. e) (λ e. e) (two_orders (row b (int 1)) (row b (int 1)) over.2.0 (from_Scan u (b ∷ []) false pair_sets [] [] over.2.0 over.2.1)) in
      let known = (λ i. left_pairs (live_a i) same (left i) (right i)) ∙ two_paired in
      ⊎_elim (λ e. e) (λ e. e) (two_orders (pair (int 1) (int 1)) (pair (int 1) (int 1)) others (subst (λ (rows : List Env). IsPermutation rows others) known over.2.2));
}

-- ---- a condition with more than its keys

eval_few : (r : Env) → eval few r ≡ less (r b.name) (int 15)
unfolding apply
eval_few r = eval-Call F.Lt (E.Var b ∷ E.Lit (int 15) ∷ []) r ∙ (λ i. less (eval-Var b r i) (eval-Lit (int 15) r i))

eval_both : (r : Env) → eval same_and_few r ≡ and3 (equal (r a.name) (r b.name)) (less (r b.name) (int 15))
unfolding apply
eval_both r = eval-Call F.And (same ∷ few ∷ []) r ∙ (λ i. and3 (eval_same r i) (eval_few r i))

holds_both : (v w : Value) → holds same_and_few (pair v w) ≡ is_true (and3 (equal v w) (less w (int 15)))
holds_both v w = ap is_true (eval_both (pair v w) ∙ (λ i. and3 (equal (pair_first v w i) (pair_b v w i)) (less (pair_b v w i) (int 15))))

rest_matched : (v w : Value) → matches (a ∷ []) same_and_few (row b w ∷ []) (row a v) ≡ cond (is_true (and3 (equal v w) (less w (int 15)))) (pair v w ∷ []) []
rest_matched v w = ap (λ (r : Env). filter (holds same_and_few) (r ∷ [])) (beside-rows a b v w) ∙ ap (λ h. cond h (pair v w ∷ []) []) (holds_both v w)

-- one left row, one right row, and what they are joined to
module _ (k : ℕ) (out : Env) (joined : left_pairs (a ∷ []) same_and_few (row a (int k) ∷ []) (row b (int k) ∷ []) ≡ out ∷ []) where
  abbrev sets : Sets
  sets = two_sets (int k ∷ []) (int k ∷ [])

  right_there : Answers sets scan_b (row b (int k) ∷ [])
  right_there = allows_Scan u (b ∷ []) false sets [] [] (row b (int k) ∷ []) (IsPermutation-refl (row b (int k) ∷ []))

  rest_only : AllowsOnly (two_sets (int k ∷ []) (int k ∷ [])) (P.LeftJoin same_and_few scan_a scan_b) (out ∷ [])
  rest_only = record {
    allowed = allows_LeftJoin same_and_few scan_a scan_b false sets [] [] (out ∷ []) (
      row a (int k) ∷ [],
      scanned sets (row a (int k) ∷ []) (IsPermutation-refl (row a (int k) ∷ [])),
      (row b (int k) ∷ [], right_there, subst (λ (rows : List Env). IsPermutation rows (out ∷ [])) (sym ((λ i. left_pairs (live_a i) same_and_few (row a (int k) ∷ []) (row b (int k) ∷ [])) ∙ joined)) (IsPermutation-refl (out ∷ []))),
    );
    no_other = λ others h.
        let over = from_LeftJoin same_and_few scan_a scan_b false sets [] [] others h in
        let left = IsPermutation-one (row a (int k)) over.0 (of_scan sets over.0 over.1) in
        let right = IsPermutation-one (row b (int k)) over.2.0 (from_Scan u (b ∷ []) false sets [] [] over.2.0 over.2.1) in
        IsPermutation-one out others (subst (λ (rows : List Env). IsPermutation rows others) ((λ i. left_pairs (live_a i) same_and_few (left i) (right i)) ∙ joined) over.2.2);
  }

pub rest_decides : RestDecides
rest_decides = rest_only 20 (pair (int 20) V.Null) (λ i. or_alone (beside_null (int 20) i) (rest_matched (int 20) (int 20) i) ++ [])

pub rest_allows : RestAllows
rest_allows = rest_only 1 (pair (int 1) (int 1)) (λ i. or_alone (beside (a ∷ []) (row a (int 1)) nulls) (rest_matched (int 1) (int 1) i) ++ [])
