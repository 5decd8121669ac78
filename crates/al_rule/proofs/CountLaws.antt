-- What rewriting lowers goes down in the whole plan too.
use Rattle.std.proofs.Common.{◌≡◌, ◌<◌, ◌≤◌, ◌+◌, ℕ, suc, List, [], ◌∷◌, refl, ap, sym, subst, ◌∙◌, arith}
use Rattle.std.specs.Prelude.{sum}
use Rattle.al_func.specs.declared.func.Func.TheVariants as F
use Rattle.al_plan.specs.declared.expr.Expr.{Expr, fold-roll-Expr}
use Rattle.al_plan.specs.declared.expr.Expr.TheVariants as E
use Rattle.al_plan.specs.declared.expr.Expr.TheOpen as LE
use Rattle.al_plan.specs.declared.expr.Var.{Var}
use Rattle.al_plan.specs.declared.plan.Generator.{Generator}
use Rattle.al_plan.specs.declared.plan.OrderKey.{OrderKey}
use Rattle.al_plan.specs.declared.plan.Plan.{Plan, map-Plan, roll-Plan, fold-roll-Plan, ind-Plan}
use Rattle.al_plan.specs.declared.plan.Plan.TheVariants as P
use Rattle.al_plan.specs.declared.plan.Plan.TheOpen as L
use Rattle.al_rule.specs.Counts.{Load, load, load_step, ands, ands_step, select_ands, select_ands_step}
use Rattle.al_rule.proofs.PlaceLaws.{Around, around, layer, rolls_around, assign, select, project, unnest, subplan, join_left, join_right, left_join_left, left_join_right, group, distinct, union_left, union_right, aggregate, order, limit, check, result, applied_goes_up}
use Rattle.al_plan.specs.Refines.{Fit}
use Rattle.al_rule.specs.Places.{Rewriting, Applied}

load-roll : (x : L.Plan-F Plan) → load (roll-Plan x) ≡ load_step (map-Plan Plan Load load x)
unfolding load
load-roll x = fold-roll-Plan Load load_step x

pub load-around : (a : Around) (p : Plan) → load (around a p) ≡ load_step (map-Plan Plan Load load (layer a p))
load-around a p = ap load (sym (rolls_around a p)) ∙ load-roll (layer a p)

-- as many operators, and fewer of them below selects
abbrev pub Lighter : Load → Load → Type 0
Lighter m n = (m.0 ≡ n.0) × (m.1 < n.1)

step_lighter : (a : Around) (q p : Plan) → Lighter (load q) (load p) → Lighter (load_step (map-Plan Plan Load load (layer a q))) (load_step (map-Plan Plan Load load (layer a p)))
step_lighter (assign made) q p (h, g) = (omega (arith, h), omega (arith, h, g))
step_lighter (select c) q p (h, g) = (omega (arith, h), omega (arith, h, g))
step_lighter (project vars) q p (h, g) = (omega (arith, h), omega (arith, h, g))
step_lighter (unnest v its) q p (h, g) = (omega (arith, h), omega (arith, h, g))
step_lighter (subplan n) q p (h, g) = (omega (arith, h), omega (arith, h, g))
step_lighter (join_left c r) q p (h, g) = (omega (arith, h), omega (arith, h, g))
step_lighter (join_right c l) q p (h, g) = (omega (arith, h), omega (arith, h, g))
step_lighter (left_join_left c r) q p (h, g) = (omega (arith, h), omega (arith, h, g))
step_lighter (left_join_right c l) q p (h, g) = (omega (arith, h), omega (arith, h, g))
step_lighter (group keys n) q p (h, g) = (omega (arith, h), omega (arith, h, g))
step_lighter distinct q p (h, g) = (omega (arith, h), omega (arith, h, g))
step_lighter (union_left made ls rs r) q p (h, g) = (omega (arith, h), omega (arith, h, g))
step_lighter (union_right made ls rs l) q p (h, g) = (omega (arith, h), omega (arith, h, g))
step_lighter (aggregate made) q p (h, g) = (omega (arith, h), omega (arith, h, g))
step_lighter (order keys) q p (h, g) = (omega (arith, h), omega (arith, h, g))
step_lighter (limit n k) q p (h, g) = (omega (arith, h), omega (arith, h, g))
step_lighter (check name c) q p (h, g) = (omega (arith, h), omega (arith, h, g))
step_lighter (result vars) q p (h, g) = (omega (arith, h), omega (arith, h, g))

pub lighter_around : (a : Around) (q p : Plan) → Lighter (load q) (load p) → Lighter (load (around a q)) (load (around a p))
lighter_around a q p h = subst (λ (m : Load). Lighter m (load (around a p))) (sym (load-around a q)) (subst (λ (n : Load). Lighter (load_step (map-Plan Plan Load load (layer a q))) n) (sym (load-around a p)) (step_lighter a q p h))

-- an operator that adds so much to its input's load
abbrev Adds : Around → Type 0
Adds a = (m : ℕ) × (n : ℕ) × ((p : Plan) → load (around a p) ≡ (suc (m + (load p).0), n + (load p).1))

both_are : (m n : Load) → m.0 ≡ n.0 → m.1 ≡ n.1 → m ≡ n
both_are m n h g i = (h i, g i)

one_input : (a : Around) → ((p : Plan) → load_step (map-Plan Plan Load load (layer a p)) ≡ (suc (load p).0, (load p).1)) → Adds a
one_input a h = (0, 0, λ p. load-around a p ∙ h p ∙ both_are (suc (load p).0, (load p).1) (suc (0 + (load p).0), 0 + (load p).1) (omega arith) (omega arith))

left_input : (a : Around) (r : Plan) → ((p : Plan) → load_step (map-Plan Plan Load load (layer a p)) ≡ (suc ((load p).0 + (load r).0), (load p).1 + (load r).1)) → Adds a
left_input a r h = ((load r).0, (load r).1, λ p. load-around a p ∙ h p ∙ both_are (suc ((load p).0 + (load r).0), (load p).1 + (load r).1) (suc ((load r).0 + (load p).0), (load r).1 + (load p).1) (omega arith) (omega arith))

-- a select below the operator is lighter than one above it
below_lighter : (a : Around) → Adds a → (e : Expr) (p : Plan) → Lighter (load (around a (P.Select e p))) (load (P.Select e (around a p)))
below_lighter a (m, n, adds) e p =
    let low : load (around a (P.Select e p)) ≡ (suc (m + (load (P.Select e p)).0), n + (load (P.Select e p)).1) = adds (P.Select e p) in
    let here : load (P.Select e p) ≡ ((load p).0, (load p).0 + (load p).1) = load-around (select e) p in
    let high : load (P.Select e (around a p)) ≡ ((load (around a p)).0, (load (around a p)).0 + (load (around a p)).1) = load-around (select e) (around a p) in
    let inner : load (around a p) ≡ (suc (m + (load p).0), n + (load p).1) = adds p in
    let here0 : (load (P.Select e p)).0 ≡ (load p).0 = ap (λ (l : Load). l.0) here in
    let here1 : (load (P.Select e p)).1 ≡ (load p).0 + (load p).1 = ap (λ (l : Load). l.1) here in
    let low0 : (load (around a (P.Select e p))).0 ≡ suc (m + (load (P.Select e p)).0) = ap (λ (l : Load). l.0) low in
    let low1 : (load (around a (P.Select e p))).1 ≡ n + (load (P.Select e p)).1 = ap (λ (l : Load). l.1) low in
    let high0 : (load (P.Select e (around a p))).0 ≡ (load (around a p)).0 = ap (λ (l : Load). l.0) high in
    let high1 : (load (P.Select e (around a p))).1 ≡ (load (around a p)).0 + (load (around a p)).1 = ap (λ (l : Load). l.1) high in
    let inner0 : (load (around a p)).0 ≡ suc (m + (load p).0) = ap (λ (l : Load). l.0) inner in
    let inner1 : (load (around a p)).1 ≡ n + (load p).1 = ap (λ (l : Load). l.1) inner in
    (omega (arith, here0, low0, high0, inner0), omega (arith, here0, here1, low1, high1, inner0, inner1))

pub lighter_assign : (made : List (Var × Expr)) (e : Expr) (p : Plan) → Lighter (load (around (assign made) (P.Select e p))) (load (P.Select e (around (assign made) p)))
lighter_assign made e p = below_lighter (assign made) (one_input (assign made) (λ x. refl)) e p

pub lighter_project : (vars : List Var) (e : Expr) (p : Plan) → Lighter (load (around (project vars) (P.Select e p))) (load (P.Select e (around (project vars) p)))
lighter_project vars e p = below_lighter (project vars) (one_input (project vars) (λ x. refl)) e p

pub lighter_unnest : (v : Var) (its : Generator) (e : Expr) (p : Plan) → Lighter (load (around (unnest v its) (P.Select e p))) (load (P.Select e (around (unnest v its) p)))
lighter_unnest v its e p = below_lighter (unnest v its) (one_input (unnest v its) (λ x. refl)) e p

pub lighter_subplan : (n : Plan) (e : Expr) (p : Plan) → Lighter (load (around (subplan n) (P.Select e p))) (load (P.Select e (around (subplan n) p)))
lighter_subplan n e p = below_lighter (subplan n) (one_input (subplan n) (λ x. refl)) e p

pub lighter_order : (keys : List OrderKey) (e : Expr) (p : Plan) → Lighter (load (around (order keys) (P.Select e p))) (load (P.Select e (around (order keys) p)))
lighter_order keys e p = below_lighter (order keys) (one_input (order keys) (λ x. refl)) e p

pub lighter_distinct : (e : Expr) (p : Plan) → Lighter (load (around distinct (P.Select e p))) (load (P.Select e (around distinct p)))
lighter_distinct e p = below_lighter distinct (one_input distinct (λ x. refl)) e p

pub lighter_join_left : (c : Expr) (r : Plan) (e : Expr) (p : Plan) → Lighter (load (around (join_left c r) (P.Select e p))) (load (P.Select e (around (join_left c r) p)))
lighter_join_left c r e p = below_lighter (join_left c r) (left_input (join_left c r) r (λ x. refl)) e p

pub lighter_left_join_left : (c : Expr) (r : Plan) (e : Expr) (p : Plan) → Lighter (load (around (left_join_left c r) (P.Select e p))) (load (P.Select e (around (left_join_left c r) p)))
lighter_left_join_left c r e p = below_lighter (left_join_left c r) (left_input (left_join_left c r) r (λ x. refl)) e p

pub lighter_join_right : (c : Expr) (l : Plan) (e : Expr) (p : Plan) → Lighter (load (around (join_right c l) (P.Select e p))) (load (P.Select e (around (join_right c l) p)))
lighter_join_right c l e p = below_lighter (join_right c l) ((load l).0, (load l).1, λ x. load-around (join_right c l) x) e p

-- each plan has an operator that is no select
layer_has : {S : Type 0} (up : S → Plan) → ((s : S) → 1 ≤ (load (up s)).0) → (y : L.Plan-F S) → 1 ≤ (load_step (map-Plan Plan Load load (map-Plan S Plan up y))).0
layer_has up ih (L.Select c s) = ih s
layer_has up ih _ = omega arith

pub has_operator : (p : Plan) → 1 ≤ (load p).0
has_operator = ind-Plan (λ p. 1 ≤ (load p).0) (λ x y e. subst (λ (z : L.Plan-F Plan). 1 ≤ (load (roll-Plan z)).0) e (subst (λ (l : Load). 1 ≤ l.0) (sym (load-roll (map-Plan _ Plan (λ s. s.0) y))) (layer_has (λ s. s.0) (λ s. s.1) y)))

pub lighter_without : (e : Expr) (p : Plan) → Lighter (load p) (load (P.Select e p))
lighter_without e p =
    let here : load (P.Select e p) ≡ ((load p).0, (load p).0 + (load p).1) = load-around (select e) p in
    let here0 : (load (P.Select e p)).0 ≡ (load p).0 = ap (λ (l : Load). l.0) here in
    let here1 : (load (P.Select e p)).1 ≡ (load p).0 + (load p).1 = ap (λ (l : Load). l.1) here in
    let some = has_operator p in
    (omega (arith, here0), omega (arith, here1, some))

pub lighter_join : (d e c : Expr) (l r : Plan) → Lighter (load (P.Join d l r)) (load (P.Select e (P.Join c l r)))
lighter_join d e c l r = subst (λ (m : Load). Lighter m (load (P.Select e (P.Join c l r)))) (load-around (join_left c r) l ∙ sym (load-around (join_left d r) l)) (lighter_without e (P.Join c l r))

-- ---- calls of `and`

select_ands-roll : (x : L.Plan-F Plan) → select_ands (roll-Plan x) ≡ select_ands_step (map-Plan Plan ℕ select_ands x)
unfolding select_ands
select_ands-roll x = fold-roll-Plan ℕ select_ands_step x

pub select_ands-around : (a : Around) (p : Plan) → select_ands (around a p) ≡ select_ands_step (map-Plan Plan ℕ select_ands (layer a p))
select_ands-around a p = ap select_ands (sym (rolls_around a p)) ∙ select_ands-roll (layer a p)

step_fewer : (a : Around) (q p : Plan) → select_ands q < select_ands p → select_ands_step (map-Plan Plan ℕ select_ands (layer a q)) < select_ands_step (map-Plan Plan ℕ select_ands (layer a p))
step_fewer (assign made) q p h = omega (arith, h)
step_fewer (select c) q p h = omega (arith, h)
step_fewer (project vars) q p h = omega (arith, h)
step_fewer (unnest v its) q p h = omega (arith, h)
step_fewer (subplan n) q p h = omega (arith, h)
step_fewer (join_left c r) q p h = omega (arith, h)
step_fewer (join_right c l) q p h = omega (arith, h)
step_fewer (left_join_left c r) q p h = omega (arith, h)
step_fewer (left_join_right c l) q p h = omega (arith, h)
step_fewer (group keys n) q p h = omega (arith, h)
step_fewer distinct q p h = omega (arith, h)
step_fewer (union_left made ls rs r) q p h = omega (arith, h)
step_fewer (union_right made ls rs l) q p h = omega (arith, h)
step_fewer (aggregate made) q p h = omega (arith, h)
step_fewer (order keys) q p h = omega (arith, h)
step_fewer (limit n k) q p h = omega (arith, h)
step_fewer (check name c) q p h = omega (arith, h)
step_fewer (result vars) q p h = omega (arith, h)

pub fewer_around : (a : Around) (q p : Plan) → select_ands q < select_ands p → select_ands (around a q) < select_ands (around a p)
fewer_around a q p h =
    let low = select_ands-around a q in
    let high = select_ands-around a p in
    let step = step_fewer a q p h in
    subst (λ n. n < select_ands (around a p)) (sym low) (subst (λ n. select_ands_step (map-Plan Plan ℕ select_ands (layer a q)) < n) (sym high) step)

ands-and : (a b : Expr) → ands (E.Call F.And (a ∷ b ∷ [])) ≡ suc (sum (ands a ∷ ands b ∷ []))
unfolding ands
ands-and a b = ap ands (sym (E.rolls-Call F.And (a ∷ b ∷ []))) ∙ fold-roll-Expr ℕ ands_step (LE.Call F.And (a ∷ b ∷ []))

pub fewer_split : (a b : Expr) (p : Plan) → select_ands (P.Select a (P.Select b p)) < select_ands (P.Select (E.Call F.And (a ∷ b ∷ [])) p)
fewer_split a b p =
    let outer : select_ands (P.Select a (P.Select b p)) ≡ ands a + select_ands (P.Select b p) = select_ands-around (select a) (P.Select b p) in
    let inner : select_ands (P.Select b p) ≡ ands b + select_ands p = select_ands-around (select b) p in
    let whole : select_ands (P.Select (E.Call F.And (a ∷ b ∷ [])) p) ≡ ands (E.Call F.And (a ∷ b ∷ [])) + select_ands p = select_ands-around (select (E.Call F.And (a ∷ b ∷ []))) p in
    let both : ands (E.Call F.And (a ∷ b ∷ [])) ≡ suc (0 + ands a + ands b) = ands-and a b in
    omega (arith, outer, inner, whole, both)

-- ---- at any place

pub lighter_at : (R : Rewriting) → ((x y : Plan) → Fit x → R x y → Lighter (load y) (load x)) → (place : List ℕ) (p q : Plan) → Fit p → Applied R place p q → Lighter (load q) (load p)
lighter_at R here place p q f h = applied_goes_up R (λ y x. Lighter (load y) (load x)) here (λ a x y fa k. lighter_around a y x k) place p q f h

pub fewer_at : (R : Rewriting) → ((x y : Plan) → Fit x → R x y → select_ands y < select_ands x) → (place : List ℕ) (p q : Plan) → Fit p → Applied R place p q → select_ands q < select_ands p
fewer_at R here place p q f h = applied_goes_up R (λ y x. select_ands y < select_ands x) here (λ a x y fa k. fewer_around a y x k) place p q f h
