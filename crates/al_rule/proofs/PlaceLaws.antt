-- An operator around one of its inputs: what holds of the input and of the whole plan.
use Rattle.std.proofs.Common.{◌≡◌, ◌<◌, ℕ, zero, suc, Bool, true, false, List, [], ◌∷◌, Some, None, refl, ap, sym, subst, ◌∙◌, arith}
use Rattle.std.specs.Prelude.{if◌then◌else◌}
use Rattle.al_plan.specs.declared.expr.Var.{Var}
use Rattle.al_plan.specs.declared.expr.Expr.{Expr}
use Rattle.al_plan.specs.declared.plan.OrderKey.{OrderKey}
use Rattle.al_plan.specs.declared.plan.AggCall.{AggCall}
use Rattle.al_plan.specs.declared.plan.Generator.{Generator}
use Rattle.al_plan.specs.declared.plan.Plan.{Plan, map-Plan, roll-Plan, out-Plan, out-roll-Plan, fold-roll-Plan}
use Rattle.al_plan.specs.declared.plan.Plan.TheVariants as P
use Rattle.al_plan.specs.declared.plan.Plan.TheOpen as L
use Rattle.al_plan.specs.Eval.{Bytes}
use Rattle.al_plan.specs.Accept.{size, size_step}
use Rattle.al_plan.specs.Refines.{Fit, Replaces}
use Rattle.al_plan.proofs.Refine.{fit_inputs, replaces-refl, under_Assign, under_Select, under_Project, under_Unnest, under_Subplan, under_Join, under_LeftJoin, under_Group, under_Distinct, under_Union, under_Aggregate, under_Order, under_Limit, under_Check, under_Result}
use Rattle.al_rule.specs.Places.{Rewriting, input, input_step, with_input, with_input_step, Applied}
use Rattle.al_rule.proofs.Operators.{rolls-out}

-- an operator without one of its inputs
pub data Around : Type 0 where
  assign : List (Var × Expr) → Around
  select : Expr → Around
  project : List Var → Around
  unnest : Var → Generator → Around
  subplan : Plan → Around
  join_left : Expr → Plan → Around
  join_right : Expr → Plan → Around
  left_join_left : Expr → Plan → Around
  left_join_right : Expr → Plan → Around
  group : List (Var × Var) → Plan → Around
  distinct : Around
  union_left : List Var → List Var → List Var → Plan → Around
  union_right : List Var → List Var → List Var → Plan → Around
  aggregate : List (Var × AggCall) → Around
  order : List OrderKey → Around
  limit : ℕ → ℕ → Around
  check : Bytes → Expr → Around
  result : List Var → Around

-- the operator with that input
abbrev pub around : Around → Plan → Plan
around (assign made) p = P.Assign made p
around (select c) p = P.Select c p
around (project vars) p = P.Project vars p
around (unnest v its) p = P.Unnest v its p
around (subplan n) p = P.Subplan n p
around (join_left c r) p = P.Join c p r
around (join_right c l) p = P.Join c l p
around (left_join_left c r) p = P.LeftJoin c p r
around (left_join_right c l) p = P.LeftJoin c l p
around (group keys n) p = P.Group keys n p
around distinct p = P.Distinct p
around (union_left made ls rs r) p = P.Union made ls rs p r
around (union_right made ls rs l) p = P.Union made ls rs l p
around (aggregate made) p = P.Aggregate made p
around (order keys) p = P.Order keys p
around (limit n k) p = P.Limit n k p
around (check name c) p = P.Check name c p
around (result vars) p = P.Result vars p

-- the number of that input among its children
abbrev pub number : Around → ℕ
number (assign made) = zero
number (select c) = zero
number (project vars) = zero
number (unnest v its) = zero
number (subplan n) = suc zero
number (join_left c r) = zero
number (join_right c l) = suc zero
number (left_join_left c r) = zero
number (left_join_right c l) = suc zero
number (group keys n) = suc zero
number distinct = zero
number (union_left made ls rs r) = zero
number (union_right made ls rs l) = suc zero
number (aggregate made) = zero
number (order keys) = zero
number (limit n k) = zero
number (check name c) = zero
number (result vars) = zero

abbrev pub layer : Around → Plan → L.Plan-F Plan
layer (assign made) p = L.Assign made p
layer (select c) p = L.Select c p
layer (project vars) p = L.Project vars p
layer (unnest v its) p = L.Unnest v its p
layer (subplan n) p = L.Subplan n p
layer (join_left c r) p = L.Join c p r
layer (join_right c l) p = L.Join c l p
layer (left_join_left c r) p = L.LeftJoin c p r
layer (left_join_right c l) p = L.LeftJoin c l p
layer (group keys n) p = L.Group keys n p
layer distinct p = L.Distinct p
layer (union_left made ls rs r) p = L.Union made ls rs p r
layer (union_right made ls rs l) p = L.Union made ls rs l p
layer (aggregate made) p = L.Aggregate made p
layer (order keys) p = L.Order keys p
layer (limit n k) p = L.Limit n k p
layer (check name c) p = L.Check name c p
layer (result vars) p = L.Result vars p

pub rolls_around : (a : Around) (p : Plan) → roll-Plan (layer a p) ≡ around a p
rolls_around (assign made) p = P.rolls-Assign made p
rolls_around (select c) p = P.rolls-Select c p
rolls_around (project vars) p = P.rolls-Project vars p
rolls_around (unnest v its) p = P.rolls-Unnest v its p
rolls_around (subplan n) p = P.rolls-Subplan n p
rolls_around (join_left c r) p = P.rolls-Join c p r
rolls_around (join_right c l) p = P.rolls-Join c l p
rolls_around (left_join_left c r) p = P.rolls-LeftJoin c p r
rolls_around (left_join_right c l) p = P.rolls-LeftJoin c l p
rolls_around (group keys n) p = P.rolls-Group keys n p
rolls_around distinct p = P.rolls-Distinct p
rolls_around (union_left made ls rs r) p = P.rolls-Union made ls rs p r
rolls_around (union_right made ls rs l) p = P.rolls-Union made ls rs l p
rolls_around (aggregate made) p = P.rolls-Aggregate made p
rolls_around (order keys) p = P.rolls-Order keys p
rolls_around (limit n k) p = P.rolls-Limit n k p
rolls_around (check name c) p = P.rolls-Check name c p
rolls_around (result vars) p = P.rolls-Result vars p

pub out_around : (a : Around) (p : Plan) → out-Plan (around a p) ≡ layer a p
out_around a p = ap out-Plan (sym (rolls_around a p)) ∙ out-roll-Plan (layer a p)

step_around : (a : Around) (p : Plan) → input_step (layer a p) (number a) ≡ Some p
step_around (assign made) p = refl
step_around (select c) p = refl
step_around (project vars) p = refl
step_around (unnest v its) p = refl
step_around (subplan n) p = refl
step_around (join_left c r) p = refl
step_around (join_right c l) p = refl
step_around (left_join_left c r) p = refl
step_around (left_join_right c l) p = refl
step_around (group keys n) p = refl
step_around distinct p = refl
step_around (union_left made ls rs r) p = refl
step_around (union_right made ls rs l) p = refl
step_around (aggregate made) p = refl
step_around (order keys) p = refl
step_around (limit n k) p = refl
step_around (check name c) p = refl
step_around (result vars) p = refl

-- the input is where it was put
pub input_around : (a : Around) (p : Plan) → input (around a p) (number a) ≡ Some p
unfolding input
input_around a p = ap (λ l. input_step l (number a)) (out_around a p) ∙ step_around a p

step_with : (a : Around) (p q : Plan) → with_input_step (layer a p) (number a) q ≡ around a q
step_with (assign made) p q = refl
step_with (select c) p q = refl
step_with (project vars) p q = refl
step_with (unnest v its) p q = refl
step_with (subplan n) p q = refl
step_with (join_left c r) p q = refl
step_with (join_right c l) p q = refl
step_with (left_join_left c r) p q = refl
step_with (left_join_right c l) p q = refl
step_with (group keys n) p q = refl
step_with distinct p q = refl
step_with (union_left made ls rs r) p q = refl
step_with (union_right made ls rs l) p q = refl
step_with (aggregate made) p q = refl
step_with (order keys) p q = refl
step_with (limit n k) p q = refl
step_with (check name c) p q = refl
step_with (result vars) p q = refl

-- another plan may be put there
pub with_around : (a : Around) (p q : Plan) → with_input (around a p) (number a) q ≡ around a q
unfolding with_input
with_around a p q = ap (λ l. with_input_step l (number a) q) (out_around a p) ∙ step_with a p q

step_beside : (a : Around) (p q : Plan) (j : ℕ) → (j ≡ number a → ⊥) → input_step (layer a q) j ≡ input_step (layer a p) j
step_beside (assign made) p q zero other = absurd (other refl)
step_beside (assign made) p q (suc j) other = refl
step_beside (select c) p q zero other = absurd (other refl)
step_beside (select c) p q (suc j) other = refl
step_beside (project vars) p q zero other = absurd (other refl)
step_beside (project vars) p q (suc j) other = refl
step_beside (unnest v its) p q zero other = absurd (other refl)
step_beside (unnest v its) p q (suc j) other = refl
step_beside (subplan n) p q zero other = refl
step_beside (subplan n) p q (suc zero) other = absurd (other refl)
step_beside (subplan n) p q (suc (suc j)) other = refl
step_beside (join_left c r) p q zero other = absurd (other refl)
step_beside (join_left c r) p q (suc zero) other = refl
step_beside (join_left c r) p q (suc (suc j)) other = refl
step_beside (join_right c l) p q zero other = refl
step_beside (join_right c l) p q (suc zero) other = absurd (other refl)
step_beside (join_right c l) p q (suc (suc j)) other = refl
step_beside (left_join_left c r) p q zero other = absurd (other refl)
step_beside (left_join_left c r) p q (suc zero) other = refl
step_beside (left_join_left c r) p q (suc (suc j)) other = refl
step_beside (left_join_right c l) p q zero other = refl
step_beside (left_join_right c l) p q (suc zero) other = absurd (other refl)
step_beside (left_join_right c l) p q (suc (suc j)) other = refl
step_beside (group keys n) p q zero other = refl
step_beside (group keys n) p q (suc zero) other = absurd (other refl)
step_beside (group keys n) p q (suc (suc j)) other = refl
step_beside distinct p q zero other = absurd (other refl)
step_beside distinct p q (suc j) other = refl
step_beside (union_left made ls rs r) p q zero other = absurd (other refl)
step_beside (union_left made ls rs r) p q (suc zero) other = refl
step_beside (union_left made ls rs r) p q (suc (suc j)) other = refl
step_beside (union_right made ls rs l) p q zero other = refl
step_beside (union_right made ls rs l) p q (suc zero) other = absurd (other refl)
step_beside (union_right made ls rs l) p q (suc (suc j)) other = refl
step_beside (aggregate made) p q zero other = absurd (other refl)
step_beside (aggregate made) p q (suc j) other = refl
step_beside (order keys) p q zero other = absurd (other refl)
step_beside (order keys) p q (suc j) other = refl
step_beside (limit n k) p q zero other = absurd (other refl)
step_beside (limit n k) p q (suc j) other = refl
step_beside (check name c) p q zero other = absurd (other refl)
step_beside (check name c) p q (suc j) other = refl
step_beside (result vars) p q zero other = absurd (other refl)
step_beside (result vars) p q (suc j) other = refl

-- the other inputs stay
pub beside_around : (a : Around) (p q : Plan) (j : ℕ) → (j ≡ number a → ⊥) → input (around a q) j ≡ input (around a p) j
unfolding input
beside_around a p q j n = ap (λ l. input_step l j) (out_around a q) ∙ step_beside a p q j n ∙ sym (ap (λ l. input_step l j) (out_around a p))

step_split : (l : L.Plan-F Plan) (i : ℕ) (x : Plan) → input_step l i ≡ Some x → (a : Around) × (roll-Plan l ≡ around a x) × (i ≡ number a)
step_split (L.Assign made p) zero x e = let same : p ≡ x = cc in (assign made, P.rolls-Assign made p ∙ ap (λ z. P.Assign made z) same, refl)
step_split (L.Select c p) zero x e = let same : p ≡ x = cc in (select c, P.rolls-Select c p ∙ ap (λ z. P.Select c z) same, refl)
step_split (L.Project vars p) zero x e = let same : p ≡ x = cc in (project vars, P.rolls-Project vars p ∙ ap (λ z. P.Project vars z) same, refl)
step_split (L.Unnest v its p) zero x e = let same : p ≡ x = cc in (unnest v its, P.rolls-Unnest v its p ∙ ap (λ z. P.Unnest v its z) same, refl)
step_split (L.Subplan n p) (suc zero) x e = let same : p ≡ x = cc in (subplan n, P.rolls-Subplan n p ∙ ap (λ z. P.Subplan n z) same, refl)
step_split (L.Join c p r) zero x e = let same : p ≡ x = cc in (join_left c r, P.rolls-Join c p r ∙ ap (λ z. P.Join c z r) same, refl)
step_split (L.Join c l p) (suc zero) x e = let same : p ≡ x = cc in (join_right c l, P.rolls-Join c l p ∙ ap (λ z. P.Join c l z) same, refl)
step_split (L.LeftJoin c p r) zero x e = let same : p ≡ x = cc in (left_join_left c r, P.rolls-LeftJoin c p r ∙ ap (λ z. P.LeftJoin c z r) same, refl)
step_split (L.LeftJoin c l p) (suc zero) x e = let same : p ≡ x = cc in (left_join_right c l, P.rolls-LeftJoin c l p ∙ ap (λ z. P.LeftJoin c l z) same, refl)
step_split (L.Group keys n p) (suc zero) x e = let same : p ≡ x = cc in (group keys n, P.rolls-Group keys n p ∙ ap (λ z. P.Group keys n z) same, refl)
step_split (L.Distinct p) zero x e = let same : p ≡ x = cc in (distinct, P.rolls-Distinct p ∙ ap (λ z. P.Distinct z) same, refl)
step_split (L.Union made ls rs p r) zero x e = let same : p ≡ x = cc in (union_left made ls rs r, P.rolls-Union made ls rs p r ∙ ap (λ z. P.Union made ls rs z r) same, refl)
step_split (L.Union made ls rs l p) (suc zero) x e = let same : p ≡ x = cc in (union_right made ls rs l, P.rolls-Union made ls rs l p ∙ ap (λ z. P.Union made ls rs l z) same, refl)
step_split (L.Aggregate made p) zero x e = let same : p ≡ x = cc in (aggregate made, P.rolls-Aggregate made p ∙ ap (λ z. P.Aggregate made z) same, refl)
step_split (L.Order keys p) zero x e = let same : p ≡ x = cc in (order keys, P.rolls-Order keys p ∙ ap (λ z. P.Order keys z) same, refl)
step_split (L.Limit n k p) zero x e = let same : p ≡ x = cc in (limit n k, P.rolls-Limit n k p ∙ ap (λ z. P.Limit n k z) same, refl)
step_split (L.Check name c p) zero x e = let same : p ≡ x = cc in (check name c, P.rolls-Check name c p ∙ ap (λ z. P.Check name c z) same, refl)
step_split (L.Result vars p) zero x e = let same : p ≡ x = cc in (result vars, P.rolls-Result vars p ∙ ap (λ z. P.Result vars z) same, refl)
step_split _ _ x e = absurd cc

-- a plan with an input is an operator around it
pub split_input : (p : Plan) (i : ℕ) (x : Plan) → input p i ≡ Some x → (a : Around) × (p ≡ around a x) × (i ≡ number a)
unfolding input
split_input p i x e =
    let (a, s, n) = step_split (out-Plan p) i x e in
    (a, sym (rolls-out p) ∙ s, n)

step_third : (l : L.Plan-F Plan) (i : ℕ) → input_step l (suc (suc i)) ≡ None
step_third (L.Scan set vars) i = refl
step_third L.Empty i = refl
step_third L.Nested i = refl
step_third (L.Assign made p) i = refl
step_third (L.Select c p) i = refl
step_third (L.Project vars p) i = refl
step_third (L.Unnest v its p) i = refl
step_third (L.Subplan n p) i = refl
step_third (L.Join c p r) i = refl
step_third (L.LeftJoin c p r) i = refl
step_third (L.Group keys n p) i = refl
step_third (L.Distinct p) i = refl
step_third (L.Union made ls rs p r) i = refl
step_third (L.Aggregate made p) i = refl
step_third (L.Order keys p) i = refl
step_third (L.Limit n k p) i = refl
step_third (L.Check name c p) i = refl
step_third (L.Result vars p) i = refl

-- no operator has a third child
pub no_third : (p : Plan) (i : ℕ) → input p (suc (suc i)) ≡ None
unfolding input
no_third p i = step_third (out-Plan p) i

-- ---- what fits, and what may stand in an input's place

-- an input of a plan that fits fits
pub fit_input : (a : Around) (x : Plan) → Fit (around a x) → Fit x
fit_input (assign made) x f = fit_inputs {S = Unit {0}} (λ t. x) (L.Assign made tt) (subst Fit (sym (P.rolls-Assign made x)) f)
fit_input (select c) x f = fit_inputs {S = Unit {0}} (λ t. x) (L.Select c tt) (subst Fit (sym (P.rolls-Select c x)) f)
fit_input (project vars) x f = fit_inputs {S = Unit {0}} (λ t. x) (L.Project vars tt) (subst Fit (sym (P.rolls-Project vars x)) f)
fit_input (unnest v its) x f = fit_inputs {S = Unit {0}} (λ t. x) (L.Unnest v its tt) (subst Fit (sym (P.rolls-Unnest v its x)) f)
fit_input (subplan n) x f = fit_inputs {S = Bool} (λ t. if t then n else x) (L.Subplan true false) (subst Fit (sym (P.rolls-Subplan n x)) f)
fit_input (join_left c r) x f = (fit_inputs {S = Bool} (λ t. if t then x else r) (L.Join c true false) (subst Fit (sym (P.rolls-Join c x r)) f)).0
fit_input (join_right c l) x f = (fit_inputs {S = Bool} (λ t. if t then l else x) (L.Join c true false) (subst Fit (sym (P.rolls-Join c l x)) f)).1
fit_input (left_join_left c r) x f = (fit_inputs {S = Bool} (λ t. if t then x else r) (L.LeftJoin c true false) (subst Fit (sym (P.rolls-LeftJoin c x r)) f)).0
fit_input (left_join_right c l) x f = (fit_inputs {S = Bool} (λ t. if t then l else x) (L.LeftJoin c true false) (subst Fit (sym (P.rolls-LeftJoin c l x)) f)).1
fit_input (group keys n) x f = fit_inputs {S = Bool} (λ t. if t then n else x) (L.Group keys true false) (subst Fit (sym (P.rolls-Group keys n x)) f)
fit_input distinct x f = fit_inputs {S = Unit {0}} (λ t. x) (L.Distinct tt) (subst Fit (sym (P.rolls-Distinct x)) f)
fit_input (union_left made ls rs r) x f = (fit_inputs {S = Bool} (λ t. if t then x else r) (L.Union made ls rs true false) (subst Fit (sym (P.rolls-Union made ls rs x r)) f)).0
fit_input (union_right made ls rs l) x f = (fit_inputs {S = Bool} (λ t. if t then l else x) (L.Union made ls rs true false) (subst Fit (sym (P.rolls-Union made ls rs l x)) f)).1
fit_input (aggregate made) x f = fit_inputs {S = Unit {0}} (λ t. x) (L.Aggregate made tt) (subst Fit (sym (P.rolls-Aggregate made x)) f)
fit_input (order keys) x f = fit_inputs {S = Unit {0}} (λ t. x) (L.Order keys tt) (subst Fit (sym (P.rolls-Order keys x)) f)
fit_input (limit n k) x f = fit_inputs {S = Unit {0}} (λ t. x) (L.Limit n k tt) (subst Fit (sym (P.rolls-Limit n k x)) f)
fit_input (check name c) x f = fit_inputs {S = Unit {0}} (λ t. x) (L.Check name c tt) (subst Fit (sym (P.rolls-Check name c x)) f)
fit_input (result vars) x f = fit_inputs {S = Unit {0}} (λ t. x) (L.Result vars tt) (subst Fit (sym (P.rolls-Result vars x)) f)

-- what may stand in an input's place may stand there under the operator
pub replaces_under : (a : Around) (q p : Plan) → Fit (around a p) → Replaces q p → Replaces (around a q) (around a p)
replaces_under (assign made) q p f h = under_Assign made q p f h
replaces_under (select c) q p f h = under_Select c q p f h
replaces_under (project vars) q p f h = under_Project vars q p f h
replaces_under (unnest v its) q p f h = under_Unnest v its q p f h
replaces_under (subplan n) q p f h = under_Subplan n q p f h
replaces_under (join_left c r) q p f h = under_Join c q p r r f h (replaces-refl r (fit_input (join_right c p) r f))
replaces_under (join_right c l) q p f h = under_Join c l l q p f (replaces-refl l (fit_input (join_left c p) l f)) h
replaces_under (left_join_left c r) q p f h = under_LeftJoin c q p r r f h (replaces-refl r (fit_input (left_join_right c p) r f))
replaces_under (left_join_right c l) q p f h = under_LeftJoin c l l q p f (replaces-refl l (fit_input (left_join_left c p) l f)) h
replaces_under (group keys n) q p f h = under_Group keys n q p f h
replaces_under distinct q p f h = under_Distinct q p f h
replaces_under (union_left made ls rs r) q p f h = under_Union made ls rs q p r r f h (replaces-refl r (fit_input (union_right made ls rs p) r f))
replaces_under (union_right made ls rs l) q p f h = under_Union made ls rs l l q p f (replaces-refl l (fit_input (union_left made ls rs p) l f)) h
replaces_under (aggregate made) q p f h = under_Aggregate made q p f h
replaces_under (order keys) q p f h = under_Order keys q p f h
replaces_under (limit n k) q p f h = under_Limit n k q p f h
replaces_under (check name c) q p f h = under_Check name c q p f h
replaces_under (result vars) q p f h = under_Result vars q p f h

-- ---- an input has fewer operators

step_smaller : (a : Around) (x : Plan) → size x < size_step (map-Plan Plan ℕ size (layer a x))
step_smaller (assign made) x = omega arith
step_smaller (select c) x = omega arith
step_smaller (project vars) x = omega arith
step_smaller (unnest v its) x = omega arith
step_smaller (subplan n) x = omega arith
step_smaller (join_left c r) x = omega arith
step_smaller (join_right c l) x = omega arith
step_smaller (left_join_left c r) x = omega arith
step_smaller (left_join_right c l) x = omega arith
step_smaller (group keys n) x = omega arith
step_smaller distinct x = omega arith
step_smaller (union_left made ls rs r) x = omega arith
step_smaller (union_right made ls rs l) x = omega arith
step_smaller (aggregate made) x = omega arith
step_smaller (order keys) x = omega arith
step_smaller (limit n k) x = omega arith
step_smaller (check name c) x = omega arith
step_smaller (result vars) x = omega arith

pub size_around : (a : Around) (x : Plan) → size x < size (around a x)
unfolding size
size_around a x = subst (λ (n : ℕ). size x < n) (sym (ap size (sym (rolls_around a x)) ∙ fold-roll-Plan ℕ size_step (layer a x))) (step_smaller a x)

-- ---- the same of `input` and `with_input`

pub with_split : (a : Around) (p x y : Plan) (i : ℕ) → p ≡ around a x → i ≡ number a → with_input p i y ≡ around a y
with_split a p x y i is n = ap (λ z. with_input z i y) is ∙ ap (λ k. with_input (around a x) k y) n ∙ with_around a x y

pub input_smaller : (p : Plan) (i : ℕ) (x : Plan) → input p i ≡ Some x → size x < size p
input_smaller p i x e = let (a, is, n) = split_input p i x e in subst (λ (z : Plan). size x < size z) (sym is) (size_around a x)

-- what was put there is the input
pub input_with : (p : Plan) (i : ℕ) (x y : Plan) → input p i ≡ Some x → input (with_input p i y) i ≡ Some y
input_with p i x y e =
    let (a, is, n) = split_input p i x e in
    ap (λ z. input z i) (with_split a p x y i is n) ∙ ap (λ k. input (around a y) k) n ∙ input_around a y

pub input_beside : (p : Plan) (i : ℕ) (x y : Plan) (j : ℕ) → input p i ≡ Some x → (j ≡ i → ⊥) → input (with_input p i y) j ≡ input p j
input_beside p i x y j e other =
    let (a, is, n) = split_input p i x e in
    ap (λ z. input z j) (with_split a p x y i is n) ∙ beside_around a x y j (λ s. other (s ∙ sym n)) ∙ sym (ap (λ z. input z j) is)

-- with the input that it has the operator is as it was
pub with_same : (p : Plan) (i : ℕ) (x : Plan) → input p i ≡ Some x → with_input p i x ≡ p
with_same p i x e =
    let (a, is, n) = split_input p i x e in
    with_split a p x x i is n ∙ sym is

-- the later of two plans that are put there stays
pub with_twice : (p : Plan) (i : ℕ) (x y z : Plan) → input p i ≡ Some x → with_input (with_input p i y) i z ≡ with_input p i z
with_twice p i x y z e =
    let (a, is, n) = split_input p i x e in
    with_split a (with_input p i y) y z i (with_split a p x y i is n) n ∙ sym (with_split a p x z i is n)

-- ---- a rewriting at a place

-- what holds of a rewriting at its root, and goes up through each operator, holds of the whole plan
pub applied_goes_up : (R : Rewriting) (Down : Plan → Plan → Type 0)
    → ((x y : Plan) → Fit x → R x y → Down y x)
    → ((a : Around) (x y : Plan) → Fit (around a x) → Down y x → Down (around a y) (around a x))
    → (place : List ℕ) (p q : Plan) → Fit p → Applied R place p q → Down q p
unfolding Applied
applied_goes_up R Down here up [] p q f h = here p q f h
applied_goes_up R Down here up (i ∷ place) p q f h =
    let (x, y, e, inner, q_is) = h in
    let (a, is, n) = split_input p i x e in
    let fa : Fit (around a x) = subst Fit is f in
    let below : Down y x = applied_goes_up R Down here up place x y (fit_input a x fa) inner in
    let whole : Down (around a y) (around a x) = up a x y fa below in
    subst (λ (z : Plan). Down z p) (sym (q_is ∙ with_split a p x y i is n)) (subst (λ (z : Plan). Down (around a y) z) (sym is) whole)

-- what a sound rewriting makes of a part may stand in the plan's place
pub applied_replaces : (R : Rewriting) → ((x y : Plan) → Fit x → R x y → Replaces y x) → (place : List ℕ) (p q : Plan) → Fit p → Applied R place p q → Replaces q p
applied_replaces R sound place p q f h = applied_goes_up R Replaces sound (λ a x y fa k. replaces_under a y x fa k) place p q f h
