-- The operators, or those below limits, become fewer wherever a rule is applied.
use Rattle.std.proofs.Common.{◌≡◌, ◌⊎◌, inl, inr, ◌<◌, ◌≤◌, ◌+◌, ◌-◌, ℕ, suc, min, List, [], ◌∷◌, ap, sym, subst, ◌∙◌, Some, arith}
use Rattle.al_plan.specs.declared.plan.OrderKey.{OrderKey}
use Rattle.al_plan.specs.declared.plan.Plan.{Plan, map-Plan, roll-Plan, fold-roll-Plan}
use Rattle.al_plan.specs.declared.plan.Plan.TheVariants as P
use Rattle.al_plan.specs.declared.plan.Plan.TheOpen as L
use Rattle.al_plan.specs.Refines.{Fit}
use Rattle.al_rule.specs.Places.{Rewriting, Applied}
use Rattle.al_rule.specs.Rules.{IsLower}
use Rattle.al_rule.proofs.PlaceLaws.{Around, around, layer, rolls_around, split_input, with_split, applied_goes_up, assign, select, project, unnest, subplan, join_left, join_right, left_join_left, left_join_right, group, distinct, union_left, union_right, aggregate, order, limit, check, result}
use Rattle.al_rules_order.specs.OrderRules.{DropOrder, OrderOverOrder, LimitOverLimit, LimitBelowProject, LimitBelowAssign}
use Rattle.al_rules_order.specs.OrderCounts.{Weight, weight_step, weighed, order_measure, order_weight}

weighed-roll : (x : L.Plan-F Plan) → weighed (roll-Plan x) ≡ weight_step (map-Plan Plan Weight weighed x)
unfolding weighed
weighed-roll x = fold-roll-Plan Weight weight_step x

weighed-around : (a : Around) (p : Plan) → weighed (around a p) ≡ weight_step (map-Plan Plan Weight weighed (layer a p))
weighed-around a p = ap weighed (sym (rolls_around a p)) ∙ weighed-roll (layer a p)

-- no more operators, no more of them below limits, and fewer of the one or the other
abbrev Lighter : Weight → Weight → Type 0
Lighter m n = (m.0 ≤ n.0) × (m.1 ≤ n.1) × (m.0 + m.1 < n.0 + n.1)

step_lighter : (a : Around) (q p : Plan) → Lighter (weighed q) (weighed p) → Lighter (weight_step (map-Plan Plan Weight weighed (layer a q))) (weight_step (map-Plan Plan Weight weighed (layer a p)))
step_lighter (assign made) q p (h, g, k) = (omega (arith, h, g, k), omega (arith, h, g, k), omega (arith, h, g, k))
step_lighter (select c) q p (h, g, k) = (omega (arith, h, g, k), omega (arith, h, g, k), omega (arith, h, g, k))
step_lighter (project vars) q p (h, g, k) = (omega (arith, h, g, k), omega (arith, h, g, k), omega (arith, h, g, k))
step_lighter (unnest v its) q p (h, g, k) = (omega (arith, h, g, k), omega (arith, h, g, k), omega (arith, h, g, k))
step_lighter (subplan n) q p (h, g, k) = (omega (arith, h, g, k), omega (arith, h, g, k), omega (arith, h, g, k))
step_lighter (join_left c r) q p (h, g, k) = (omega (arith, h, g, k), omega (arith, h, g, k), omega (arith, h, g, k))
step_lighter (join_right c l) q p (h, g, k) = (omega (arith, h, g, k), omega (arith, h, g, k), omega (arith, h, g, k))
step_lighter (left_join_left c r) q p (h, g, k) = (omega (arith, h, g, k), omega (arith, h, g, k), omega (arith, h, g, k))
step_lighter (left_join_right c l) q p (h, g, k) = (omega (arith, h, g, k), omega (arith, h, g, k), omega (arith, h, g, k))
step_lighter (group keys n) q p (h, g, k) = (omega (arith, h, g, k), omega (arith, h, g, k), omega (arith, h, g, k))
step_lighter distinct q p (h, g, k) = (omega (arith, h, g, k), omega (arith, h, g, k), omega (arith, h, g, k))
step_lighter (union_left made ls rs r) q p (h, g, k) = (omega (arith, h, g, k), omega (arith, h, g, k), omega (arith, h, g, k))
step_lighter (union_right made ls rs l) q p (h, g, k) = (omega (arith, h, g, k), omega (arith, h, g, k), omega (arith, h, g, k))
step_lighter (aggregate made) q p (h, g, k) = (omega (arith, h, g, k), omega (arith, h, g, k), omega (arith, h, g, k))
step_lighter (order keys) q p (h, g, k) = (omega (arith, h, g, k), omega (arith, h, g, k), omega (arith, h, g, k))
step_lighter (limit n m) q p (h, g, k) = (omega (arith, h, g, k), omega (arith, h, g, k), omega (arith, h, g, k))
step_lighter (check name c) q p (h, g, k) = (omega (arith, h, g, k), omega (arith, h, g, k), omega (arith, h, g, k))
step_lighter (result vars) q p (h, g, k) = (omega (arith, h, g, k), omega (arith, h, g, k), omega (arith, h, g, k))

lighter_around : (a : Around) (q p : Plan) → Lighter (weighed q) (weighed p) → Lighter (weighed (around a q)) (weighed (around a p))
lighter_around a q p h = subst (λ (m : Weight). Lighter m (weighed (around a p))) (sym (weighed-around a q)) (subst (λ (n : Weight). Lighter (weight_step (map-Plan Plan Weight weighed (layer a q))) n) (sym (weighed-around a p)) (step_lighter a q p h))

-- a rule that makes a plan lighter makes every plan lighter that it is applied in
abbrev pub Lightens : Rewriting → Type 0
Lightens R = (p q : Plan) → R p q → Lighter (weighed q) (weighed p)

lighter_at : (R : Rewriting) → Lightens R → (place : List ℕ) (p q : Plan) → Fit p → Applied R place p q → Lighter (weighed q) (weighed p)
lighter_at R here place p q f h = applied_goes_up R (λ y x. Lighter (weighed y) (weighed x)) (λ x y fx k. here x y k) (λ a x y fa k. lighter_around a y x k) place p q f h

pub lightens_at : (R : Rewriting) → Lightens R → (place : List ℕ) (p q : Plan) → Fit p → Applied R place p q → order_weight q < order_weight p
lightens_at R here place p q f h = (lighter_at R here place p q f h).2

lower : (m n : Weight) → Lighter m n → IsLower (m.0 ∷ m.1 ∷ []) (n.0 ∷ n.1 ∷ [])
lower m n (h, g, k) = by (less m.0 n.0 h)
  where
    less : (a b : ℕ) → a ≤ b → (a < b) ⊎ (a ≡ b)
    less a b low = grind (arith, low)

    by : (m.0 < n.0) ⊎ (m.0 ≡ n.0) → IsLower (m.0 ∷ m.1 ∷ []) (n.0 ∷ n.1 ∷ [])
    by (inl low) = inl low
    by (inr e) = inr (e, inl (omega (arith, e, k)))

pub falls_at : (R : Rewriting) → Lightens R → (place : List ℕ) (p q : Plan) → Fit p → Applied R place p q → IsLower (order_measure q) (order_measure p)
falls_at R here place p q f h = lower (weighed q) (weighed p) (lighter_at R here place p q f h)

-- ---- the rules

-- an order weighs one operator more than its input
weighed-order : (keys : List OrderKey) (p : Plan) → weighed (P.Order keys p) ≡ (suc (weighed p).0, (weighed p).1)
weighed-order keys p = weighed-around (order keys) p

weighed-limit : (n k : ℕ) (p : Plan) → weighed (P.Limit n k p) ≡ (suc (weighed p).0, (weighed p).0 + (weighed p).1)
weighed-limit n k p = weighed-around (limit n k) p

lighter_than_order : (keys : List OrderKey) (p : Plan) → Lighter (weighed p) (weighed (P.Order keys p))
lighter_than_order keys p = subst (Lighter (weighed p)) (sym (weighed-order keys p)) (omega arith, omega arith, omega arith)

pub drop_order : Lightens DropOrder
drop_order p q (i, x, forgets, ((y, there, (keys, is_order)), first), to) =
    let (a, is, n) = split_input p i (P.Order keys x) (there ∙ ap Some is_order) in
    subst (λ (z : Plan). Lighter (weighed z) (weighed p)) (sym (to ∙ with_split a p (P.Order keys x) x i is n)) (subst (λ (z : Plan). Lighter (weighed (around a x)) (weighed z)) (sym is) (lighter_around a x (P.Order keys x) (lighter_than_order keys x)))

same_sides : (p q x y : Plan) → p ≡ x → q ≡ y → Lighter (weighed y) (weighed x) → Lighter (weighed q) (weighed p)
same_sides p q x y at to h = subst (λ (z : Plan). Lighter (weighed z) (weighed p)) (sym to) (subst (λ (z : Plan). Lighter (weighed y) (weighed z)) (sym at) h)

pub order_over_order : Lightens OrderOverOrder
order_over_order p q (keys, inner, x, at, to) = same_sides p q (P.Order keys (P.Order inner x)) (P.Order keys x) at to (lighter_around (order keys) x (P.Order inner x) (lighter_than_order inner x))

-- of two operators over a plan with a limit below or above
two_limits : (n k m j s t : ℕ) (p : Plan) → Lighter (weighed (P.Limit s t p)) (weighed (P.Limit n k (P.Limit m j p)))
two_limits n k m j s t p =
    subst (λ (w : Weight). Lighter w (weighed (P.Limit n k (P.Limit m j p)))) (sym (weighed-limit s t p))
    (subst (Lighter (suc (weighed p).0, (weighed p).0 + (weighed p).1)) (sym (weighed-limit n k (P.Limit m j p) ∙ ap (λ (w : Weight). (suc w.0, w.0 + w.1)) (weighed-limit m j p))) (omega arith, omega arith, omega arith))

pub limit_over_limit : Lightens LimitOverLimit
limit_over_limit p q (n, k, m, j, x, at, low, to) = same_sides p q (P.Limit n k (P.Limit m j x)) (P.Limit (min n (m - k)) (k + j) x) at to (two_limits n k m j (min n (m - k)) (k + j) x)

-- below an operator that adds one to the operators a limit is lighter
below_one : (a : Around) → ((p : Plan) → weighed (around a p) ≡ (suc (weighed p).0, (weighed p).1)) → (n k : ℕ) (p : Plan) → Lighter (weighed (around a (P.Limit n k p))) (weighed (P.Limit n k (around a p)))
below_one a one n k p =
    subst (λ (w : Weight). Lighter w (weighed (P.Limit n k (around a p)))) (sym (one (P.Limit n k p) ∙ ap (λ (w : Weight). (suc w.0, w.1)) (weighed-limit n k p)))
    (subst (Lighter (suc (suc (weighed p).0), (weighed p).0 + (weighed p).1)) (sym (weighed-limit n k (around a p) ∙ ap (λ (w : Weight). (suc w.0, w.0 + w.1)) (one p))) (omega arith, omega arith, omega arith))

pub limit_below_project : Lightens LimitBelowProject
limit_below_project p q (n, k, vars, x, at, to) = same_sides p q (P.Limit n k (P.Project vars x)) (P.Project vars (P.Limit n k x)) at to (below_one (project vars) (λ y. weighed-around (project vars) y) n k x)

pub limit_below_assign : Lightens LimitBelowAssign
limit_below_assign p q (n, k, made, x, at, to) = same_sides p q (P.Limit n k (P.Assign made x)) (P.Assign made (P.Limit n k x)) at to (below_one (assign made) (λ y. weighed-around (assign made) y) n k x)
