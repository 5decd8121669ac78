-- The rules on limits are sound.
use Rattle.std.proofs.Common.{◌≡◌, ℕ, zero, suc, ◌+◌, ◌-◌, min, List, [], ◌∷◌, map, take, drop, refl, ap, sym, subst, ◌∙◌, None, arith}
use Rattle.std.proofs.lemmas.List.{drop-drop, take-map, drop-map}
use Rattle.al_plan.specs.declared.expr.Var.{Var}
use Rattle.al_plan.specs.declared.expr.Expr.{Expr}
use Rattle.al_plan.specs.declared.plan.Plan.{Plan}
use Rattle.al_plan.specs.declared.plan.Plan.TheVariants as P
use Rattle.al_plan.specs.Eval.{Env}
use Rattle.al_plan.specs.Allows.{cut, assigned}
use Rattle.al_plan.specs.Refines.{Fit, Replaces, result_of}
use Rattle.al_plan.proofs.PlanLaws.{allows_Limit, allows_Project, allows_Assign, from_Limit, from_Project, from_Assign, live-Limit, ordered-Limit, scans-Limit, makes-Limit, result-Limit, faults-Limit}
use Rattle.al_rule.proofs.Alike.{Alike, alike-sym, alike-trans, alike_replaces}
use Rattle.al_rule.proofs.FitLaws.{in_Limit, out_Limit}
use Rattle.al_rule.proofs.Passing.{Operator, operator_Assign, operator_Project}
use Rattle.al_rules_order.specs.OrderRules.{LimitOverLimit, LimitBelowProject, LimitBelowAssign}
use Rattle.al_rules_order.specs.Dropped.{Less}

-- ---- two limits

take_none : {X : Type 0} (n : ℕ) → ◌≡◌ {A = List X} (take n []) []
take_none zero = refl
take_none (suc n) = refl

drop_of_take : {X : Type 0} (k m : ℕ) (xs : List X) → drop k (take m xs) ≡ take (m - k) (drop k xs)
drop_of_take zero m xs = let e : m ≡ m - zero = omega arith in ap (λ n. take n xs) e
drop_of_take (suc k) zero xs = let e : zero ≡ zero - suc k = omega arith in ap (λ n. take n (drop (suc k) xs)) e
drop_of_take (suc k) (suc m) [] = sym (take_none (suc m - suc k))
drop_of_take (suc k) (suc m) (x ∷ xs) = let e : m - k ≡ suc m - suc k = omega arith in drop_of_take k m xs ∙ ap (λ n. take n (drop k xs)) e

take_of_take : {X : Type 0} (n m : ℕ) (xs : List X) → take n (take m xs) ≡ take (min n m) xs
take_of_take zero m xs = let e : zero ≡ min zero m = omega arith in ap (λ n. take n xs) e
take_of_take (suc n) zero xs = let e : zero ≡ min (suc n) zero = omega arith in ap (λ n. take n xs) e
take_of_take (suc n) (suc m) [] = sym (take_none (min (suc n) (suc m)))
take_of_take (suc n) (suc m) (x ∷ xs) = let e : suc (min n m) ≡ min (suc n) (suc m) = omega arith in ap (λ ys. x ∷ ys) (take_of_take n m xs) ∙ ap (λ n. take n (x ∷ xs)) e

-- some rows of some rows
limit_of_limit : {X : Type 0} (n k m j : ℕ) (xs : List X) → take n (drop k (take m (drop j xs))) ≡ take (min n (m - k)) (drop (k + j) xs)
limit_of_limit n k m j xs =
    let e : j + k ≡ k + j = omega arith in
    ap (take n) (drop_of_take k m (drop j xs)) ∙ take_of_take n (m - k) (drop k (drop j xs)) ∙ ap (take (min n (m - k))) (drop-drop k j xs ∙ ap (λ i. drop i xs) e)

-- a limit is like its input
alike_limit : (n k : ℕ) (p : Plan) → result_of p ≡ None → Alike (P.Limit n k p) p
alike_limit n k p root = record {
  vars = live-Limit n k p [];
  order = ordered-Limit n k p;
  scanned = scans-Limit n k p;
  made = makes-Limit n k p;
  root = result-Limit n k p ∙ sym root;
  faults = λ sets name. faults-Limit n k p sets [] [] name;
}

joined : (n k m j s t : ℕ) (p : Plan) → ((xs : List Env) → take n (drop k (take m (drop j xs))) ≡ take s (drop t xs)) → Fit (P.Limit n k (P.Limit m j p)) → Replaces (P.Limit s t p) (P.Limit n k (P.Limit m j p))
joined n k m j s t p same fit =
    let top = out_Limit n k (P.Limit m j p) fit in
    let below = out_Limit m j p top.input in
    let whole = in_Limit s t p (record { input = below.input; root = below.root }) in
    let like = alike-trans (P.Limit s t p) p (P.Limit n k (P.Limit m j p)) (alike_limit s t p below.root)
    (alike-sym (P.Limit n k (P.Limit m j p)) p (alike-trans (P.Limit n k (P.Limit m j p)) (P.Limit m j p) p (alike_limit n k (P.Limit m j p) top.root) (alike_limit m j p below.root))) in
    alike_replaces (P.Limit s t p) (P.Limit n k (P.Limit m j p)) fit whole like (λ b sets rows fills h.
    let o = from_Limit s t p b sets [] [] rows h in
    allows_Limit n k (P.Limit m j p) b sets [] [] rows (take m (drop j o.0), allows_Limit m j p b sets [] [] _ (o.0, o.1, refl), o.2 ∙ sym (same o.0)))

pub limit_over_limit : (p q : Plan) → Fit p → LimitOverLimit p q → Replaces q p
limit_over_limit p q fit (n, k, m, j, x, at, low, to) =
    subst (λ (z : Plan). Replaces z p) (sym to) (subst (Replaces (P.Limit (min n (m - k)) (k + j) x)) (sym at) (joined n k m j (min n (m - k)) (k + j) x (limit_of_limit n k m j) (subst Fit at fit)))

-- ---- a limit below an operator that gives a row for each row

lowered : (over : Plan → Plan) → Operator over → (n k : ℕ) (p : Plan) → Less (over (P.Limit n k p)) (P.Limit n k (over p)) → Fit (P.Limit n k (over p)) → Replaces (over (P.Limit n k p)) (P.Limit n k (over p))
lowered over o n k p less fit =
    let top = out_Limit n k (over p) fit in
    let root = o.input_root p top.input in
    let limited = in_Limit n k p (record { input = o.input p top.input; root = root }) in
    let whole = o.kept (P.Limit n k p) p top.input limited (result-Limit n k p) (live-Limit n k p []) (makes-Limit n k p) in
    let like = alike-trans (over (P.Limit n k p)) (over p) (P.Limit n k (over p)) (o.alike (P.Limit n k p) p (alike_limit n k p root)) (alike-sym (P.Limit n k (over p)) (over p) (alike_limit n k (over p) top.root)) in
    alike_replaces (over (P.Limit n k p)) (P.Limit n k (over p)) fit whole like (λ b sets rows fills h. less b sets rows h)

map_limited : {X Y : Type 0} (f : X → Y) (n k : ℕ) (xs : List X) → map f (take n (drop k xs)) ≡ take n (drop k (map f xs))
map_limited f n k xs = sym (take-map f n (drop k xs)) ∙ ap (take n) (sym (drop-map f k xs))

below_project : (n k : ℕ) (vars : List Var) (p : Plan) → Less (P.Project vars (P.Limit n k p)) (P.Limit n k (P.Project vars p))
below_project n k vars p b sets rows h =
    let o = from_Project vars (P.Limit n k p) b sets [] [] rows h in
    let l = from_Limit n k p b sets [] [] o.0 o.1 in
    allows_Limit n k (P.Project vars p) b sets [] [] rows (map (cut vars) l.0, allows_Project vars p b sets [] [] _ (l.0, l.1, refl), o.2 ∙ ap (map (cut vars)) l.2 ∙ map_limited (cut vars) n k l.0)

below_assign : (n k : ℕ) (made : List (Var × Expr)) (p : Plan) → Less (P.Assign made (P.Limit n k p)) (P.Limit n k (P.Assign made p))
below_assign n k made p b sets rows h =
    let o = from_Assign made (P.Limit n k p) b sets [] [] rows h in
    let l = from_Limit n k p b sets [] [] o.0 o.1 in
    allows_Limit n k (P.Assign made p) b sets [] [] rows (map (assigned made) l.0, allows_Assign made p b sets [] [] _ (l.0, l.1, refl), o.2 ∙ ap (map (assigned made)) l.2 ∙ map_limited (assigned made) n k l.0)

pub limit_below_project : (p q : Plan) → Fit p → LimitBelowProject p q → Replaces q p
limit_below_project p q fit (n, k, vars, x, at, to) =
    subst (λ (z : Plan). Replaces z p) (sym to) (subst (Replaces (P.Project vars (P.Limit n k x))) (sym at) (lowered (P.Project vars) (operator_Project vars) n k x (below_project n k vars x) (subst Fit at fit)))

pub limit_below_assign : (p q : Plan) → Fit p → LimitBelowAssign p q → Replaces q p
limit_below_assign p q fit (n, k, made, x, at, to) =
    subst (λ (z : Plan). Replaces z p) (sym to) (subst (Replaces (P.Assign made (P.Limit n k x))) (sym at) (lowered (P.Assign made) (operator_Assign made) n k x (below_assign n k made x) (subst Fit at fit)))
