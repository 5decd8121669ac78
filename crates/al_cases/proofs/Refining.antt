-- Which small plans fit, and which may stand for which.
use Rattle.std.specs.Prelude.{◌≢◌}
use Rattle.std.proofs.Common.{◌≡◌, ℕ, pos, Bool, true, false, true≢false, cond, List, [], ◌∷◌, ◌++◌, map, filter, take, drop, length, get_or, Option, None, Some, refl, ap, sym, subst, ◌∙◌, arith}
use Rattle.std.specs.List.{All, Contains}
use Rattle.std.specs.List.Sorted.{IsPermutation}
use Rattle.std.proofs.lemmas.List.Elements.{All-from_recursion}
use Rattle.std.proofs.lemmas.List.Sorted.{IsPermutation-refl, IsPermutation-trans}
use Rattle.al_value.specs.declared.value.Value.{Value}
use Rattle.al_value.specs.declared.value.Value.TheVariants as V
use Rattle.al_func.specs.declared.func.Func.TheVariants as F
use Rattle.al_func.specs.Func.{apply, less, is_true}
use Rattle.al_plan.specs.declared.expr.Var.{Var}
use Rattle.al_plan.specs.declared.expr.Expr.TheVariants as E
use Rattle.al_plan.specs.declared.plan.Plan.{Plan, roll-Plan}
use Rattle.al_plan.specs.declared.plan.Plan.TheOpen as L
use Rattle.al_plan.specs.declared.plan.Plan.TheVariants as P
use Rattle.al_plan.specs.Eval.{Env, eval, holds}
use Rattle.al_plan.specs.Allows.{Sets, Allows, Faults, live, ordered, nulls, is_among}
use Rattle.al_plan.specs.Refines.{IsNoMore, Scan, scans, makes, result_of, FitsEach, Narrow, Fit, Fills, Fitting, IsWithin, NoTwice, Refines}
use Rattle.al_plan.proofs.EvalLaws.{eval-Call, eval-Var, eval-Lit}
use Rattle.al_plan.proofs.PlanLaws.{EachLayer, NarrowLayer, each-roll, narrow-roll, result-roll, makes-roll, scans-roll, live-Scan, live-Project, live-Limit, live-Order, ordered-Scan, ordered-Limit, ordered-Order, scans-Scan, scans-Limit, scans-Order, scans-Select, scans-LeftJoin, result-Limit, result-Order, result-Result, allows_Scan, from_Scan, allows_Limit, from_Limit, from_Order, allows_Select, from_Select, allows_LeftJoin, from_Check, faults-Scan, faults-Limit, faults-Order}
use Rattle.al_plan.proofs.Idle.{refines_here}
use Rattle.al_cases.specs.Cases.{t, u, a, b, int, row, pair, scan_a, scan_b, below, same, small, by_a, first_one, one_and_two, one_and_twenty, two_and_one, one_column, Answers}
use Rattle.al_cases.specs.RefineCases.{least, greatest, few, above, pushed, checked, LeastForAny, AnyForLeast, GreatestForLeast, PushedForAbove, CheckForScan, ScanForCheck, ScanFits, EmptyProjectFits, InnerResultFits, LeastInPlace, noting, NotingInPlace}
use Rattle.al_cases.proofs.Simple.{scanned, row-at, holds-below}
use Rattle.al_cases.proofs.Ordered.{rows_up, rises_only, order_falls, both, lower_faults}
use Rattle.al_cases.proofs.Joined.{ones, one, lefts, rights, left_rows, live_a, row_b, pair_b}

-- ---- plans and their layers

each_of : (x : L.Plan-F Plan) (p : Plan) → roll-Plan x ≡ p → FitsEach p ≡ EachLayer x
each_of x p e = ap FitsEach (sym e) ∙ each-roll x

narrow_of : (x : L.Plan-F Plan) (p : Plan) → roll-Plan x ≡ p → Narrow p ≡ NarrowLayer x
narrow_of x p e = ap Narrow (sym e) ∙ narrow-roll x

into_each : (x : L.Plan-F Plan) (p : Plan) → roll-Plan x ≡ p → EachLayer x false [] → FitsEach p false []
into_each x p e h = subst (λ (f : Fitting). f false []) (sym (each_of x p e)) h

out_each : (x : L.Plan-F Plan) (p : Plan) → roll-Plan x ≡ p → FitsEach p false [] → EachLayer x false []
out_each x p e h = subst (λ (f : Fitting). f false []) (each_of x p e) h

into_narrow : (x : L.Plan-F Plan) (p : Plan) → roll-Plan x ≡ p → NarrowLayer x [] → Narrow p []
into_narrow x p e h = subst (λ (f : List Var → Type 0). f []) (sym (narrow_of x p e)) h

no_result : result_of scan_a ≡ None
no_result = ap result_of (sym (P.rolls-Scan t (a ∷ []))) ∙ result-roll (L.Scan t (a ∷ []))

scan_each : FitsEach scan_a false []
scan_each = into_each (L.Scan t (a ∷ [])) scan_a (P.rolls-Scan t (a ∷ [])) refl

scan_narrow : Narrow scan_a []
scan_narrow = into_narrow (L.Scan t (a ∷ [])) scan_a (P.rolls-Scan t (a ∷ [])) (omega arith)

a_lives : is_among (live scan_a []) a.name ≡ true
a_lives = subst (λ (vars : List Var). is_among vars a.name ≡ true) (sym live_a) refl

scan_makes : makes scan_a ≡ a ∷ []
scan_makes = ap makes (sym (P.rolls-Scan t (a ∷ []))) ∙ makes-roll (L.Scan t (a ∷ []))

-- ---- fits

pub scan_fits : ScanFits
scan_fits = record {
  each = into_each (L.Result (a ∷ []) scan_a) _ (P.rolls-Result (a ∷ []) scan_a) ((scan_each, no_result), refl, (a_lives, tt), (refl, tt));
  narrow = into_narrow (L.Result (a ∷ []) scan_a) _ (P.rolls-Result (a ∷ []) scan_a) (scan_narrow, omega arith);
  once = subst NoTwice (sym (ap makes (sym (P.rolls-Result (a ∷ []) scan_a)) ∙ makes-roll (L.Result (a ∷ []) scan_a) ∙ scan_makes)) (refl, tt);
}

abbrev no_variables : Plan
no_variables = P.Project [] scan_a

pub empty_project_fits : EmptyProjectFits → ⊥
empty_project_fits f =
    let layer = out_each (L.Result (a ∷ []) no_variables) _ (P.rolls-Result (a ∷ []) no_variables) f.each in
    let lives : is_among [] a.name ≡ true = subst (λ (vars : List Var). is_among vars a.name ≡ true) (live-Project [] scan_a []) layer.2.0 in
    true≢false (sym lives)

abbrev inner : Plan
inner = P.Result (a ∷ []) scan_a

some_none : (o : Option (List Var)) (vars : List Var) → o ≡ Some vars → o ≡ None → ⊥
some_none o vars e h = cc

pub inner_result_fits : InnerResultFits → ⊥
inner_result_fits f = some_none (result_of inner) (a ∷ []) (result-Result (a ∷ []) scan_a) (out_each (L.Distinct inner) _ (P.rolls-Distinct inner) f.each).1

-- ---- datasets

no_outer : All (IsWithin []) []
no_outer = All-from_recursion (IsWithin []) [] tt

two_rows : (v w : Value) → Fills ((t, a ∷ []) ∷ []) (one_column (v ∷ w ∷ []))
two_rows v w =
    All-from_recursion (λ (s : Scan). All (λ (r : List Value). length r ≡ length s.1) (one_column (v ∷ w ∷ []) s.0)) ((t, a ∷ []) ∷ [])
    (All-from_recursion (λ (r : List Value). length r ≡ 1) ((v ∷ []) ∷ (w ∷ []) ∷ []) (refl, (refl, tt)), tt)

scans_a : scans scan_a ≡ (t, a ∷ []) ∷ []
scans_a = scans-Scan t (a ∷ [])

scans_first : scans first_one ≡ (t, a ∷ []) ∷ []
scans_first = scans-Limit 1 0 scan_a ∙ scans_a

scans_least : scans least ≡ (t, a ∷ []) ∷ []
scans_least = scans-Limit 1 0 rows_up ∙ scans-Order (by_a false) scan_a ∙ scans_a

-- ---- limits

abbrev number : Value → ℕ
number (V.Int (pos k)) = k
number v = 0

apart : row a (int 2) ∷ [] ≡ row a (int 1) ∷ [] → ⊥
apart e =
    let v : int 2 ≡ int 1 = sym (row-at (int 2)) ∙ ap (λ (rows : List Env). get_or rows 0 nulls a.name) e ∙ row-at (int 1) in
    let n = ap number v in
    omega arith

pub greatest_for_least : GreatestForLeast → ⊥
greatest_for_least r =
    let given = allows_Limit 1 0 (P.Order (by_a true) scan_a) false one_and_two [] [] (row a (int 2) ∷ []) (row a (int 2) ∷ row a (int 1) ∷ [], order_falls.allowed, refl) in
    let taken = r.allowed false one_and_two [] [] (row a (int 2) ∷ []) (subst (λ ss. Fills ss one_and_two) (sym scans_least) (two_rows (int 1) (int 2))) no_outer given in
    let over = from_Limit 1 0 rows_up false one_and_two [] [] (row a (int 2) ∷ []) taken in
    apart (over.2 ∙ ap (λ (rows : List Env). take 1 (drop 0 rows)) (rises_only over.0 over.1))

free_first : ordered first_one ≡ false
free_first = ordered-Limit 1 0 scan_a ∙ ordered-Scan t (a ∷ [])

ordered_least : ordered least ≡ true
ordered_least = ordered-Limit 1 0 rows_up ∙ ordered-Order (by_a false) scan_a

pub any_for_least : AnyForLeast → ⊥
any_for_least r = true≢false (sym (r.order ordered_least) ∙ free_first)

first_fits : Fit first_one
first_fits = record {
  each = into_each (L.Limit 1 0 scan_a) _ (P.rolls-Limit 1 0 scan_a) (scan_each, no_result);
  narrow = into_narrow (L.Limit 1 0 scan_a) _ (P.rolls-Limit 1 0 scan_a) scan_narrow;
  once = subst NoTwice (sym (ap makes (sym (P.rolls-Limit 1 0 scan_a)) ∙ makes-roll (L.Limit 1 0 scan_a) ∙ scan_makes)) (refl, tt);
}

up_each : FitsEach rows_up false []
up_each = into_each (L.Order (by_a false) scan_a) _ (P.rolls-Order (by_a false) scan_a) ((scan_each, no_result), (a_lives, tt))

up_narrow : Narrow rows_up []
up_narrow = into_narrow (L.Order (by_a false) scan_a) _ (P.rolls-Order (by_a false) scan_a) scan_narrow

up_makes : makes rows_up ≡ a ∷ []
up_makes = ap makes (sym (P.rolls-Order (by_a false) scan_a)) ∙ makes-roll (L.Order (by_a false) scan_a) ∙ scan_makes

least_fits : Fit least
least_fits = record {
  each = into_each (L.Limit 1 0 rows_up) _ (P.rolls-Limit 1 0 rows_up) (up_each, result-Order (by_a false) scan_a);
  narrow = into_narrow (L.Limit 1 0 rows_up) _ (P.rolls-Limit 1 0 rows_up) up_narrow;
  once = subst NoTwice (sym (ap makes (sym (P.rolls-Limit 1 0 rows_up)) ∙ makes-roll (L.Limit 1 0 rows_up) ∙ up_makes)) (refl, tt);
}

live_first : live first_one [] ≡ a ∷ []
live_first = live-Limit 1 0 scan_a [] ∙ live_a

live_least : live least [] ≡ a ∷ []
live_least = live-Limit 1 0 rows_up [] ∙ live-Order (by_a false) scan_a [] ∙ live_a

the_scan : Contains {X = Scan} ((t, a ∷ []) ∷ []) (t, a ∷ [])
the_scan = (0, omega arith, refl)

pub least_for_any : LeastForAny
least_for_any = refines_here least first_one first_fits (record {
  fit = least_fits;
  scanned = subst (λ ss. All (Contains ss) (scans least)) (sym scans_first) (subst (λ ss. All (Contains ((t, a ∷ []) ∷ [])) ss) (sym scans_least) (All-from_recursion (λ (s : Scan). Contains {X = Scan} ((t, a ∷ []) ∷ []) s) ((t, a ∷ []) ∷ []) (the_scan, tt)));
  root = result-Limit 1 0 rows_up ∙ sym (result-Limit 1 0 scan_a);
  vars = subst (λ (vars : List Var). IsPermutation vars (live least [])) (sym live_first) (subst (λ (vars : List Var). IsPermutation (a ∷ []) vars) (sym live_least) (IsPermutation-refl (a ∷ [])));
  order = λ e. ordered_least;
  allowed = λ passing sets rows fills h.
      let over = from_Limit 1 0 rows_up passing sets [] [] rows h in
      let under = from_Order (by_a false) scan_a passing sets [] [] over.0 over.1 in
      let moved = IsPermutation-trans _ under.0 over.0 (from_Scan t (a ∷ []) passing sets [] [] under.0 under.1) under.2.0 in
      allows_Limit 1 0 scan_a passing sets [] [] rows (over.0, allows_Scan t (a ∷ []) passing sets [] [] over.0 moved, over.2);
  faults = λ sets name fills h.
      let lower = subst (λ (x : Type 0). x) (faults-Limit 1 0 rows_up sets [] [] name ∙ faults-Order (by_a false) scan_a sets [] [] name) h in
      subst (λ (x : Type 0). x) (sym (faults-Limit 1 0 scan_a sets [] [] name)) lower;
})

-- ---- checks

fills_twenty : Fills (scans scan_a) one_and_twenty
fills_twenty = subst (λ ss. Fills ss one_and_twenty) (sym scans_a) (two_rows (int 1) (int 20))

scans_checked : scans checked ≡ (t, a ∷ []) ∷ []
scans_checked = ap scans (sym (P.rolls-Check small (below 15) scan_a)) ∙ scans-roll (L.Check small (below 15) scan_a) ∙ scans_a

pub check_for_scan : CheckForScan → ⊥
check_for_scan r = subst (λ (x : Type 0). x) (faults-Scan t (a ∷ []) one_and_twenty [] [] small) (r.faults one_and_twenty [] [] small fills_twenty no_outer lower_faults)

pub scan_for_check : ScanForCheck → ⊥
scan_for_check r =
    let taken = r.allowed false one_and_twenty [] [] both (subst (λ ss. Fills ss one_and_twenty) (sym scans_checked) (two_rows (int 1) (int 20))) no_outer (scanned one_and_twenty both (IsPermutation-refl both)) in
    let passed = from_Check small (below 15) scan_a false one_and_twenty [] [] both taken in
    true≢false (sym (passed.1 1 (row a (int 1)) (omega arith)) ∙ holds-below 15 (int 20))

-- ---- a select and a left join

eval_few : (r : Env) → eval few r ≡ less (r b.name) (int 15)
unfolding apply
eval_few r = eval-Call F.Lt (E.Var b ∷ E.Lit (int 15) ∷ []) r ∙ (λ i. less (eval-Var b r i) (eval-Lit (int 15) r i))

few_right : (v : Value) → holds few (row b v) ≡ is_true (less v (int 15))
few_right v = ap is_true (eval_few (row b v) ∙ ap (λ x. less x (int 15)) (row_b v))

few_pair : (v w : Value) → holds few (pair v w) ≡ is_true (less w (int 15))
few_pair v w = ap is_true (eval_few (pair v w) ∙ ap (λ x. less x (int 15)) (pair_b v w))

kept_right : filter (holds few) one ≡ one
kept_right = rw (few_right (int 1)) refl

rights_few : Answers two_and_one (P.Select few scan_b) one
rights_few = allows_Select few scan_b false two_and_one [] [] one (one, rights, sym kept_right)

abbrev joined : List Env
joined = pair (int 1) (int 1) ∷ pair (int 2) V.Null ∷ []

pushed_allows : Answers two_and_one pushed joined
pushed_allows =
    allows_LeftJoin same scan_a (P.Select few scan_b) false two_and_one [] [] joined
    (ones, lefts, (one, rights_few, rw (live_a) (subst (λ (rows : List Env). IsPermutation rows joined) (sym left_rows) (IsPermutation-refl joined))))

scans_above : scans above ≡ (t, a ∷ []) ∷ (u, b ∷ []) ∷ []
scans_above = scans-Select few (P.LeftJoin same scan_a scan_b) ∙ scans-LeftJoin same scan_a scan_b ∙ (λ i. scans_a i ++ scans-Scan u (b ∷ []) i)

both_fill : Fills ((t, a ∷ []) ∷ (u, b ∷ []) ∷ []) two_and_one
both_fill =
    All-from_recursion (λ (s : Scan). All (λ (r : List Value). length r ≡ length s.1) (two_and_one s.0)) ((t, a ∷ []) ∷ (u, b ∷ []) ∷ [])
    (All-from_recursion (λ (r : List Value). length r ≡ 1) ((int 1 ∷ []) ∷ (int 2 ∷ []) ∷ []) (refl, (refl, tt)), (All-from_recursion (λ (r : List Value). length r ≡ 1) ((int 1 ∷ []) ∷ []) (refl, tt), tt))

first_passes : (p : Env → Bool) (r : Env) (rows : List Env) → p r ≡ true → filter p (r ∷ rows) ≡ r ∷ filter p rows
first_passes p r rows e = ap (λ h. cond h (r ∷ filter p rows) (filter p rows)) e

first_fails : (p : Env → Bool) (r : Env) (rows : List Env) → p r ≡ false → filter p (r ∷ rows) ≡ filter p rows
first_fails p r rows e = ap (λ h. cond h (r ∷ filter p rows) (filter p rows)) e

-- what passes a select passes it again
filter_again : (p : Env → Bool) (rows : List Env) → filter p (filter p rows) ≡ filter p rows
filter_again p [] = refl
filter_again p (r ∷ rows) = again (p r) refl (filter_again p rows) where
  again : (h : Bool) → p r ≡ h → filter p (filter p rows) ≡ filter p rows → filter p (filter p (r ∷ rows)) ≡ filter p (r ∷ rows)
  again true e more = ap (filter p) (first_passes p r rows e) ∙ first_passes p r (filter p rows) e ∙ ap (λ (others : List Env). r ∷ others) more ∙ sym (first_passes p r rows e)
  again false e more = ap (filter p) (first_fails p r rows e) ∙ more ∙ sym (first_fails p r rows e)

pub pushed_for_above : PushedForAbove → ⊥
pushed_for_above r =
    let taken = r.allowed false two_and_one [] [] joined (subst (λ ss. Fills ss two_and_one) (sym scans_above) both_fill) no_outer pushed_allows in
    let over = from_Select few (P.LeftJoin same scan_a scan_b) false two_and_one [] [] joined taken in
    let again : filter (holds few) joined ≡ joined = ap (filter (holds few)) over.2 ∙ filter_again (holds few) over.0 ∙ sym over.2 in
    let kept : filter (holds few) joined ≡ pair (int 1) (int 1) ∷ [] = rw (few_pair (int 1) (int 1), few_pair (int 2) V.Null) refl in
    let many = ap length (sym kept ∙ again) in
    omega arith

-- ---- in the place of another

least_makes : makes least ≡ a ∷ []
least_makes = ap makes (sym (P.rolls-Limit 1 0 rows_up)) ∙ makes-roll (L.Limit 1 0 rows_up) ∙ up_makes

first_makes : makes first_one ≡ a ∷ []
first_makes = ap makes (sym (P.rolls-Limit 1 0 scan_a)) ∙ makes-roll (L.Limit 1 0 scan_a) ∙ scan_makes

pub least_in_place : LeastInPlace
least_in_place = record {
  refines = least_for_any;
  makes_no_more = subst (λ (vars : List Var). IsNoMore vars (makes first_one)) (first_makes ∙ sym least_makes) (λ q none. none);
}

abbrev with_b : Plan
with_b = P.Assign ((b, below 15) ∷ []) scan_a

noting_makes : makes noting ≡ a ∷ b ∷ []
noting_makes =
    ap makes (sym (P.rolls-Project (a ∷ []) with_b)) ∙ makes-roll (L.Project (a ∷ []) with_b)
    ∙ ap makes (sym (P.rolls-Assign ((b, below 15) ∷ []) scan_a)) ∙ makes-roll (L.Assign ((b, below 15) ∷ []) scan_a) ∙ ap (λ (vars : List Var). vars ++ b ∷ []) scan_makes

pub noting_in_place : NotingInPlace → ⊥
noting_in_place r =
    let fresh : is_among (makes scan_a) b.name ≡ false = subst (λ (vars : List Var). is_among vars b.name ≡ false) (sym scan_makes) refl in
    let gone : is_among (a ∷ b ∷ []) b.name ≡ false = subst (λ (vars : List Var). is_among vars b.name ≡ false) noting_makes (r.makes_no_more b.name fresh) in
    true≢false gone
