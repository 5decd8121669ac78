-- What the functions that find a rule's left side tell.
use Rattle.std.proofs.Common.{◌≡◌, ◌<◌, ◌+◌, ◌-◌, ℕ, zero, suc, Bool, true, false, List, refl, ap, sym, subst, ◌∙◌, Option, Some, None, arith, le-leb}
use Rattle.std.specs.Prelude.{MatchOption, IfOk, is_some, nat_le, Result, Ok, Err}
use Rattle.al_value.specs.declared.fault.NoMemory.{NoMemory}
use Rattle.al_plan.specs.declared.plan.OrderKey.{OrderKey}
use Rattle.al_plan.specs.declared.plan.Plan.{Plan, out-Plan}
use Rattle.al_plan.specs.declared.plan.Plan.TheOpen as L
use Rattle.al_plan.specs.declared.plan.Plan.TheVariants as P
use Rattle.al_plan.specs.Refines.{Fit, Replaces}
use Rattle.al_rule.specs.declared.rule.ApplyFault.{ApplyFault}
use Rattle.al_rule.specs.Places.{Rewriting, input, with_input}
use Rattle.al_rule.specs.Rules.{Matches, Decides}
use Rattle.al_rule.proofs.PlaceLaws.{Around, around, number, out_around, input_around, with_around, no_third, order, limit, project, assign}
use Rattle.al_rules_order.specs.OrderRules.{forgets_order, IsOrder, AreOrders, HasOrder, IsFirstOrder, DropOrder, OrderOverOrder, most, LimitOverLimit, IsProject, LimitBelowProject, IsAssign, LimitBelowAssign}
use Rattle.al_rules_order.specs.Outcomes.{IsOther, Rewritten, outcome}

none_some : {X : Type 0} (x : X) → None ≡ Some x → ⊥
none_some x e = cc

some_same : {X : Type 0} (x y : X) → Some x ≡ Some y → x ≡ y
some_same x y e = cc

-- what is told of an option is told in other words
pub told : {A : Type 0} (o : Option A) (N M : Type 0) (S T : A → Type 0) → (N → M) → ((x : A) → S x → T x) → MatchOption o N S → MatchOption o M T
told None N M S T none some h = none h
told (Some x) N M S T none some h = some x h

-- where it is told when a rule matches, it is decided whether it does
pub decided : {A : Type 0} (R : Rewriting) (p : Plan) (o : Option A) (S : A → Type 0) → ((x : A) → S x → Matches R p) → MatchOption o (IsOther R p) S → (b : Bool) → b ≡ is_some o → Decides b (Matches R p)
decided R p None S some h b e = subst (λ (t : Bool). Decides t (Matches R p)) (sym e) h
decided R p (Some x) S some h b e = subst (λ (t : Bool). Decides t (Matches R p)) (sym e) (some x h)

-- what a rule makes may stand in the plan's place
pub refined : (R : Rewriting) → ((x y : Plan) → Fit x → R x y → Replaces y x) → (p : Plan) (made : Result (Option Plan) NoMemory) → IfOk made (Rewritten R p) → (answer : Result Plan ApplyFault) → answer ≡ outcome p made → Matches R p → Fit p → IfOk answer (λ q. Replaces q p)
refined R sound p (Ok (Some q)) h answer e m fit = subst (λ (a : Result Plan ApplyFault). IfOk a (λ q. Replaces q p)) (sym e) (sound p q fit h)
refined R sound p (Ok None) h answer e m fit = absurd (h m)
refined R sound p (Err x) h answer e m fit = subst (λ (a : Result Plan ApplyFault). IfOk a (λ q. Replaces q p)) (sym e) tt

-- what is put into a copy is put into the plan
pub put_into : (p copy x made q : Plan) (i : ℕ) → copy ≡ p → made ≡ x → ((y : Plan) → input copy i ≡ Some y → q ≡ with_input copy i made) → (y : Plan) → input p i ≡ Some y → q ≡ with_input p i x
put_into p copy x made q i same is h y e = h y (ap (λ z. input z i) same ∙ e) ∙ (λ j. with_input (same j) i (is j))

-- ---- an order among the inputs

pub no_input : (p : Plan) (i : ℕ) → input p i ≡ None → (x : Plan) → HasOrder p i x → ⊥
no_input p i e x (y, there, is) = none_some y (sym e ∙ there)

pub no_order_there : (p y : Plan) (i : ℕ) → input p i ≡ Some y → ((x : Plan) → IsOrder y x → ⊥) → (x : Plan) → HasOrder p i x → ⊥
no_order_there p y i e none x (z, there, (keys, is)) = none x (keys, some_same y z (sym e ∙ there) ∙ is)

pub order_there : (p y x : Plan) (i : ℕ) → input p i ≡ Some y → IsOrder y x → HasOrder p i x
order_there p y x i e is = (y, e, is)

pub first_left : (p x : Plan) → HasOrder p 0 x → IsFirstOrder p 0 x
first_left p x h = (h, λ j low y k. omega (arith, low))

pub first_right : (p x : Plan) → ((y : Plan) → HasOrder p 0 y → ⊥) → HasOrder p 1 x → IsFirstOrder p 1 x
first_right p x none h = (h, go)
  where
    go : (j : ℕ) → j < 1 → (y : Plan) → HasOrder p j y → ⊥
    go zero low y k = none y k
    go (suc j) low y k = omega (arith, low)

pub no_first : (p : Plan) → ((y : Plan) → HasOrder p 0 y → ⊥) → ((y : Plan) → HasOrder p 1 y → ⊥) → (i : ℕ) (x : Plan) → HasOrder p i x → ⊥
no_first p left right zero x h = left x h
no_first p left right (suc zero) x h = right x h
no_first p left right (suc (suc i)) x h = no_input p (suc (suc i)) (no_third p i) x h

not_both : (b : Bool) → b ≡ false → b ≡ true → ⊥
not_both b e t = cc

pub not_forgetting : (p : Plan) → forgets_order p ≡ false → IsOther DropOrder p
not_forgetting p e (q, (i, x, forgets, first, to)) = not_both (forgets_order p) e forgets

pub none_to_drop : (p : Plan) → ((i : ℕ) (x : Plan) → HasOrder p i x → ⊥) → IsOther DropOrder p
none_to_drop p none (q, (i, x, forgets, first, to)) = none i x first.0

pub drop_matches : (p x : Plan) (i : ℕ) → forgets_order p ≡ true → IsFirstOrder p i x → Matches DropOrder p
drop_matches p x i forgets first = (with_input p i x, (i, x, forgets, first, refl))

pub dropped_to : (p q x : Plan) (i : ℕ) → forgets_order p ≡ true → IsFirstOrder p i x → ((y : Plan) → input p i ≡ Some y → q ≡ with_input p i x) → DropOrder p q
dropped_to p q x i forgets first to = (i, x, forgets, first, to first.0.0 first.0.1)

-- ---- two orders

-- what an operator is over is one plan
same_input : (a b : Around) (x y : Plan) → around a x ≡ around b y → number a ≡ number b → x ≡ y
same_input a b x y e n = some_same x y (sym (input_around a x) ∙ (λ i. input (e i) (number a)) ∙ ap (input (around b y)) n ∙ input_around b y)

pub no_order : (p : Plan) → ((x : Plan) → IsOrder p x → ⊥) → IsOther OrderOverOrder p
no_order p none (q, (keys, inner, x, at, to)) = none (P.Order inner x) (keys, at)

pub no_inner_order : (p y : Plan) → IsOrder p y → ((x : Plan) → IsOrder y x → ⊥) → IsOther OrderOverOrder p
no_inner_order p y (ks, is) none (q, (keys, inner, x, at, to)) = none x (inner, same_input (order ks) (order keys) y (P.Order inner x) (sym is ∙ at) refl)

pub two_orders : (p y x : Plan) → IsOrder p y → IsOrder y x → AreOrders p x
two_orders p y x (keys, is) (inner, below) = (keys, inner, is ∙ ap (P.Order keys) below)

pub orders_match : (p x : Plan) → AreOrders p x → Matches OrderOverOrder p
orders_match p x (keys, inner, at) = (P.Order keys x, (keys, inner, x, at, refl))

with_order : (p x y : Plan) (keys : List OrderKey) → p ≡ P.Order keys y → with_input p 0 x ≡ P.Order keys x
with_order p x y keys at = ap (λ z. with_input z 0 x) at ∙ with_around (order keys) y x

pub ordered_once : (p q x : Plan) → AreOrders p x → ((y : Plan) → input p 0 ≡ Some y → q ≡ with_input p 0 x) → OrderOverOrder p q
ordered_once p q x (keys, inner, at) to =
    (keys, inner, x, at, to (P.Order inner x) (ap (λ z. input z 0) at ∙ input_around (order keys) (P.Order inner x)) ∙ with_order p x (P.Order inner x) keys at)

-- ---- limits

pub no_limit : (p : Plan) → ((n k : ℕ) (x : Plan) → p ≡ P.Limit n k x → ⊥) → IsOther LimitOverLimit p
no_limit p none (q, (n, k, m, j, x, at, low, to)) = none n k (P.Limit m j x) at

-- a limit's numbers and its input are its own
limit_parts : (n k m j : ℕ) (x y : Plan) → P.Limit n k x ≡ P.Limit m j y → (n ≡ m) × (k ≡ j) × (x ≡ y)
limit_parts n k m j x y e = same_limit (sym (out_around (limit n k) x) ∙ ap out-Plan e ∙ out_around (limit m j) y)
  where
    same_limit : L.Limit n k x ≡ L.Limit m j y → (n ≡ m) × (k ≡ j) × (x ≡ y)
    same_limit e = (cc, cc, cc)

pub no_inner_limit : (p y : Plan) (n k : ℕ) → p ≡ P.Limit n k y → ((m j : ℕ) (x : Plan) → y ≡ P.Limit m j x → ⊥) → IsOther LimitOverLimit p
no_inner_limit p y n k at none (q, (ns, ks, m, j, x, is, low, to)) = none m j x (limit_parts n k ns ks y (P.Limit m j x) (sym at ∙ is)).2

pub too_many : (p y x : Plan) (n k m j : ℕ) → p ≡ P.Limit n k y → y ≡ P.Limit m j x → nat_le (k + j) most ≡ false → IsOther LimitOverLimit p
too_many p y x n k m j at below high (q, (ns, ks, ms, js, z, is, low, to)) =
    let outer = limit_parts n k ns ks y (P.Limit ms js z) (sym at ∙ is) in
    let inner = limit_parts m j ms js x z (sym below ∙ outer.2) in
    not_both (nat_le (k + j) most) high (le-leb (k + j) most (omega (arith, low, outer.1, inner.1)))

pub limit_of_no_project : (p : Plan) → ((n k : ℕ) (x : Plan) → p ≡ P.Limit n k x → ⊥) → IsOther LimitBelowProject p
limit_of_no_project p none (q, (n, k, vars, x, at, to)) = none n k (P.Project vars x) at

pub no_project_below : (p y : Plan) (n k : ℕ) → p ≡ P.Limit n k y → ((x : Plan) → IsProject y x → ⊥) → IsOther LimitBelowProject p
no_project_below p y n k at none (q, (ns, ks, vars, x, is, to)) = none x (vars, (limit_parts n k ns ks y (P.Project vars x) (sym at ∙ is)).2)

pub project_matches : (p y x : Plan) (n k : ℕ) → p ≡ P.Limit n k y → IsProject y x → Matches LimitBelowProject p
project_matches p y x n k at (vars, below) = (P.Project vars (P.Limit n k x), (n, k, vars, x, at ∙ ap (P.Limit n k) below, refl))

pub project_lowers : (p y x q : Plan) (n k : ℕ) → p ≡ P.Limit n k y → IsProject y x → ((z : Plan) → input y 0 ≡ Some z → q ≡ with_input y 0 (P.Limit n k x)) → LimitBelowProject p q
project_lowers p y x q n k at (vars, below) to =
    (n, k, vars, x, at ∙ ap (P.Limit n k) below, to x (ap (λ z. input z 0) below ∙ input_around (project vars) x) ∙ ap (λ z. with_input z 0 (P.Limit n k x)) below ∙ with_around (project vars) x (P.Limit n k x))

pub limit_of_no_assign : (p : Plan) → ((n k : ℕ) (x : Plan) → p ≡ P.Limit n k x → ⊥) → IsOther LimitBelowAssign p
limit_of_no_assign p none (q, (n, k, made, x, at, to)) = none n k (P.Assign made x) at

pub no_assign_below : (p y : Plan) (n k : ℕ) → p ≡ P.Limit n k y → ((x : Plan) → IsAssign y x → ⊥) → IsOther LimitBelowAssign p
no_assign_below p y n k at none (q, (ns, ks, made, x, is, to)) = none x (made, (limit_parts n k ns ks y (P.Assign made x) (sym at ∙ is)).2)

pub assign_matches : (p y x : Plan) (n k : ℕ) → p ≡ P.Limit n k y → IsAssign y x → Matches LimitBelowAssign p
assign_matches p y x n k at (made, below) = (P.Assign made (P.Limit n k x), (n, k, made, x, at ∙ ap (P.Limit n k) below, refl))

pub assign_lowers : (p y x q : Plan) (n k : ℕ) → p ≡ P.Limit n k y → IsAssign y x → ((z : Plan) → input y 0 ≡ Some z → q ≡ with_input y 0 (P.Limit n k x)) → LimitBelowAssign p q
assign_lowers p y x q n k at (made, below) to =
    (n, k, made, x, at ∙ ap (P.Limit n k) below, to x (ap (λ z. input z 0) below ∙ input_around (assign made) x) ∙ ap (λ z. with_input z 0 (P.Limit n k x)) below ∙ with_around (assign made) x (P.Limit n k x))
