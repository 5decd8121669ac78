-- The cases over one scan.
use Rattle.std.proofs.Common.{◌≡◌, ℕ, false, List, [], ◌∷◌, map, length, take, drop, refl, ap, sym, subst, ◌∙◌, ◌⊎◌, inl, inr, ⊎_elim, arith}
use Rattle.std.specs.List.Sorted.{IsPermutation}
use Rattle.std.proofs.lemmas.List.Sorted.{IsPermutation-refl, length_permutation}
use Rattle.std.specs.List.{All, AllByRecursion, AllPairs, Contains}
use Rattle.std.specs.Prelude.{◌≢◌, filter}
use Rattle.std.proofs.lemmas.List.Elements.{All-from_recursion, recursion_from_All, All-contains}
use Rattle.std.proofs.lemmas.List.Sorted.{All-permutation, Contains-permutation}
use Rattle.std.specs.Int.{int_wrap}
use Rattle.al_value.specs.declared.value.Value.{Value}
use Rattle.al_value.specs.declared.value.Value.TheVariants as V
use Rattle.al_func.specs.declared.func.Func.TheVariants as F
use Rattle.al_func.specs.Func.{apply, less, is_true}
use Rattle.al_agg.specs.Agg.{agg}
use Rattle.al_plan.specs.declared.expr.Expr.TheVariants as E
use Rattle.al_plan.specs.declared.plan.AggCall.TheVariants as C
use Rattle.al_plan.specs.Eval.{Env, bind, eval, holds}
use Rattle.al_plan.specs.Calls.{agg_call}
use Rattle.al_plan.proofs.EvalLaws.{eval-Call, eval-Var, eval-Lit}
use Rattle.al_plan.proofs.RowLaws.{bind-cut}
use Rattle.al_plan.specs.Allows.{Sets, nulls, cut, agg_row}
use Rattle.al_plan.proofs.PlanLaws.{allows_Scan, from_Scan, allows_Limit, from_Limit, allows_Select, from_Select, allows_Aggregate, from_Aggregate, allows_Distinct, from_Distinct, allows_Empty, from_Empty, allows_Project, from_Project, allows_Result, from_Result}
use Rattle.al_plan.proofs.Moves.{IsPermutation-turn, IsPermutation-one, IsPermutation-filter}
use Rattle.al_cases.specs.Cases.{t, a, b, n, pair, scan_ab, below, SelectDropsNull, NothingIsCounted, DistinctNull, EmptyIsOneRow, ProjectCuts, ResultCuts, ScanIsFree, a_pair, int, row, scan_a, Answers, one_and_two, first_one, LimitTakesAny}

-- what a scan allows
pub scanned : (sets : Sets) (rows : List Env) → IsPermutation (map (bind (a ∷ [])) (sets t)) rows → Answers sets scan_a rows
scanned sets rows h = allows_Scan t (a ∷ []) false sets [] [] rows h

pub of_scan : (sets : Sets) (rows : List Env) → Answers sets scan_a rows → IsPermutation (map (bind (a ∷ [])) (sets t)) rows
of_scan sets rows h = from_Scan t (a ∷ []) false sets [] [] rows h

-- a list of two rows in each of its orders
pub two_orders : (x y : Env) (rows : List Env) → IsPermutation (x ∷ y ∷ []) rows → (rows ≡ x ∷ y ∷ []) ⊎ (rows ≡ y ∷ x ∷ [])
two_orders x y [] h = absurd (omega (arith, length_permutation _ _ h))
two_orders x y (p ∷ []) h = absurd (omega (arith, length_permutation _ _ h))
two_orders x y (p ∷ q ∷ r ∷ rows) h = absurd (omega (arith, length_permutation _ _ h))
two_orders x y (p ∷ q ∷ []) h =
    let either = All-permutation Either (x ∷ y ∷ []) (p ∷ q ∷ []) h (All-from_recursion Either (x ∷ y ∷ []) (inl refl, (inr refl, tt))) in
    by_cases (either 0 x (omega arith)) (either 1 x (omega arith))
  where
    Either : Env → Type 0
    Either r = (r ≡ x) ⊎ (r ≡ y)

    again : (z w : Env) → p ≡ z → q ≡ z → Contains (p ∷ q ∷ []) w → w ≡ z
    again z w e f at = All-contains (λ (r : Env). r ≡ z) (p ∷ q ∷ []) w (All-from_recursion (λ (r : Env). r ≡ z) (p ∷ q ∷ []) (e, (f, tt))) at

    by_cases : Either p → Either q → (p ∷ q ∷ [] ≡ x ∷ y ∷ []) ⊎ (p ∷ q ∷ [] ≡ y ∷ x ∷ [])
    by_cases (inl e) (inr f) = inl (λ i. e i ∷ f i ∷ [])
    by_cases (inr e) (inl f) = inr (λ i. e i ∷ f i ∷ [])
    by_cases (inl e) (inl f) = inl (λ i. e i ∷ (f ∙ sym (again x y e f (Contains-permutation _ _ y h (1, omega arith, refl)))) i ∷ [])
    by_cases (inr e) (inr f) = inl (λ i. (e ∙ sym (again y x e f (Contains-permutation _ _ x h (0, omega arith, refl)))) i ∷ f i ∷ [])

pub scan_is_free : ScanIsFree
scan_is_free = record { allowed = λ others h. scanned one_and_two others h; no_other = λ others h. of_scan one_and_two others h }

no_more : (rows : List Env) → Answers one_and_two first_one rows → (rows ≡ row a (int 1) ∷ []) ⊎ (rows ≡ row a (int 2) ∷ [])
no_more rows h =
    let over = from_Limit 1 0 scan_a false one_and_two [] [] rows h in
    ⊎_elim (λ e. inl (over.2 ∙ ap (λ (input : List Env). take 1 (drop 0 input)) e)) (λ e. inr (over.2 ∙ ap (λ (input : List Env). take 1 (drop 0 input)) e))
    (two_orders (row a (int 1)) (row a (int 2)) over.0 (of_scan one_and_two over.0 over.1))

pub limit_takes_any : LimitTakesAny
limit_takes_any = record {
  one = allows_Limit 1 0 scan_a false one_and_two [] [] _ (_, scanned one_and_two _ (IsPermutation-refl _), refl);
  other = allows_Limit 1 0 scan_a false one_and_two [] [] _ (_, scanned one_and_two _ (IsPermutation-turn (row a (int 1)) (row a (int 2)) []), refl);
  no_more = no_more;
  not_none = λ h. ⊎_elim (λ e. omega (arith, ap length e)) (λ e. omega (arith, ap length e)) (no_more [] h);
}

pub row-at : (v : Value) → row a v a.name ≡ v
unfolding bind
row-at v = refl

pub eval-below : (k : ℕ) (r : Env) → eval (below k) r ≡ less (r a.name) (int k)
unfolding apply
eval-below k r = eval-Call F.Lt (E.Var a ∷ E.Lit (int k) ∷ []) r ∙ (λ i. less (eval-Var a r i) (eval-Lit (int k) r i))

pub holds-below : (k : ℕ) (v : Value) → holds (below k) (row a v) ≡ is_true (less v (int k))
holds-below k v = ap is_true (eval-below k (row a v) ∙ ap (λ x. less x (int k)) (row-at v))

abbrev three : List Env
three = row a V.Null ∷ row a (int 1) ∷ row a (int 20) ∷ []

kept : filter (holds (below 15)) three ≡ row a (int 1) ∷ []
kept = rw (holds-below 15 V.Null, holds-below 15 (int 1), holds-below 15 (int 20)) refl

pub select_drops_null : SelectDropsNull
select_drops_null = record {
  allowed = allows_Select (below 15) scan_a false _ [] [] _ (three, scanned _ _ (IsPermutation-refl _), sym kept);
  no_other = λ others h.
      let over = from_Select (below 15) scan_a false _ [] [] others h in
      over.2 ∙ IsPermutation-one (row a (int 1)) _ (subst (λ (rows : List Env). IsPermutation rows (filter (holds (below 15)) over.0)) kept (IsPermutation-filter (holds (below 15)) three over.0 (of_scan _ over.0 over.1)));
}

-- no rows have one order
pub empty_input : (input : List Env) → IsPermutation [] input → input ≡ []
empty_input [] h = refl
empty_input (x ∷ xs) h = absurd (omega (arith, length_permutation _ _ h))

count_none : agg_row ((n, C.CountAll) ∷ []) [] ≡ row n (int 0)
unfolding agg_call agg int_wrap
count_none = refl

pub nothing_is_counted : NothingIsCounted
nothing_is_counted = record {
  allowed = allows_Aggregate _ scan_a false _ [] [] _ ([], scanned _ _ (IsPermutation-refl _), ap (λ (r : Env). r ∷ []) (sym count_none));
  no_other = λ others h.
      let over = from_Aggregate _ scan_a false _ [] [] others h in
      over.2 ∙ ap (λ (rows : List Env). agg_row ((n, C.CountAll) ∷ []) rows ∷ []) (empty_input over.0 (of_scan _ over.0 over.1)) ∙ ap (λ (r : Env). r ∷ []) count_none;
}

pub empty_is_one_row : EmptyIsOneRow
empty_is_one_row sets = record {
  allowed = allows_Empty false sets [] [] _ refl;
  no_other = λ others h. from_Empty false sets [] [] others h;
}

cut_pair : (v w : Value) → cut (a ∷ []) (pair v w) ≡ row a v
unfolding bind
cut_pair v w = sym (bind-cut (a ∷ []) (pair v w))

abbrev whole : List Env
whole = pair (int 1) (int 2) ∷ []

whole_scanned : Answers a_pair scan_ab whole
whole_scanned = allows_Scan t (a ∷ b ∷ []) false a_pair [] [] whole (IsPermutation-refl whole)

cut_whole : (input : List Env) → Answers a_pair scan_ab input → map (cut (a ∷ [])) input ≡ row a (int 1) ∷ []
cut_whole input h = ap (map (cut (a ∷ []))) (IsPermutation-one (pair (int 1) (int 2)) input (from_Scan t (a ∷ b ∷ []) false a_pair [] [] input h)) ∙ ap (λ (r : Env). r ∷ []) (cut_pair (int 1) (int 2))

pub project_cuts : ProjectCuts
project_cuts = record {
  allowed = allows_Project (a ∷ []) scan_ab false a_pair [] [] _ (whole, whole_scanned, sym (cut_whole whole whole_scanned));
  no_other = λ others h. let over = from_Project (a ∷ []) scan_ab false a_pair [] [] others h in over.2 ∙ cut_whole over.0 over.1;
}

pub result_cuts : ResultCuts
result_cuts = record {
  allowed = allows_Result (a ∷ []) scan_ab false a_pair [] [] _ (whole, whole_scanned, sym (cut_whole whole whole_scanned));
  no_other = λ others h. let over = from_Result (a ∷ []) scan_ab false a_pair [] [] others h in over.2 ∙ cut_whole over.0 over.1;
}

-- rows that all are x, of which there is one and no two
single : (x : Env) (rows : List Env) → AllByRecursion (λ r. r ≡ x) rows → Contains rows x → AllPairs ◌≢◌ rows → rows ≡ x ∷ []
single x [] h some once = absurd (let lt = some.1 in omega arith)
single x (r ∷ []) h some once = ap (λ (y : Env). y ∷ []) h.0
single x (r ∷ s ∷ rows) h some once = absurd (once 0 1 x (omega arith) (omega arith) (h.0 ∙ sym h.1.0))

abbrev pub no_values : List Env
no_values = row a V.Null ∷ row a V.Null ∷ []

pub all_null : All (λ (r : Env). r ≡ row a V.Null) no_values
all_null = All-from_recursion (λ (r : Env). r ≡ row a V.Null) no_values (refl, (refl, tt))

pub distinct_null : DistinctNull
distinct_null = record {
  allowed = allows_Distinct scan_a false _ [] [] _ (
    no_values,
    scanned _ _ (IsPermutation-refl _),
    record {
      within = All-from_recursion (Contains no_values) (row a V.Null ∷ []) ((0, omega arith, refl), tt);
      all = All-from_recursion (Contains (row a V.Null ∷ [])) no_values ((0, omega arith, refl), ((0, omega arith, refl), tt));
      once = λ i j d lt low. absurd (omega arith);
    },
  );
  no_other = λ others h.
      let over = from_Distinct scan_a false _ [] [] others h in
      let moved = of_scan _ over.0 over.1 in
      let alike = All-permutation (λ (r : Env). r ≡ row a V.Null) no_values over.0 moved all_null in
      let long = length_permutation _ _ moved in
      single (row a V.Null) others (recursion_from_All _ others (λ k d lt. All-contains (λ (r : Env). r ≡ row a V.Null) over.0 _ alike (over.2.within k d lt)))
      (subst (Contains others) (alike 0 nulls (omega arith)) (over.2.all 0 nulls (omega arith))) over.2.once;
}
