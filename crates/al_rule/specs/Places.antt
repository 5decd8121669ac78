-- The places of a plan outside its nested plans, and a rewriting at one of them.
use Rattle.std.specs.Prelude.{◌≡◌, ℕ, zero, suc, List, [], ◌∷◌, Option, Some, None}
use Rattle.al_plan.specs.declared.plan.Plan.{Plan, roll-Plan, out-Plan}
use Rattle.al_plan.specs.declared.plan.Plan.TheOpen.{Plan-F}
use Rattle.al_plan.specs.declared.plan.Plan.TheOpen as L
use Rattle.al_plan.specs.declared.plan.Plan.TheVariants as P

-- the input of an operator that is its child of this number; a nested plan is no input
abbrev pub input_step : Plan-F Plan → ℕ → Option Plan
input_step (L.Assign made p) zero = Some p
input_step (L.Select c p) zero = Some p
input_step (L.Project vars p) zero = Some p
input_step (L.Unnest v g p) zero = Some p
input_step (L.Subplan n p) (suc zero) = Some p
input_step (L.Join c l r) zero = Some l
input_step (L.Join c l r) (suc zero) = Some r
input_step (L.LeftJoin c l r) zero = Some l
input_step (L.LeftJoin c l r) (suc zero) = Some r
input_step (L.Group keys n p) (suc zero) = Some p
input_step (L.Distinct p) zero = Some p
input_step (L.Union made ls rs l r) zero = Some l
input_step (L.Union made ls rs l r) (suc zero) = Some r
input_step (L.Aggregate made p) zero = Some p
input_step (L.Order keys p) zero = Some p
input_step (L.Limit n k p) zero = Some p
input_step (L.Check name c p) zero = Some p
input_step (L.Result vars p) zero = Some p
input_step _ _ = None

unfoldable pub input : Plan → ℕ → Option Plan
input p i = input_step (out-Plan p) i

-- the operator with another plan as that input
abbrev pub with_input_step : Plan-F Plan → ℕ → Plan → Plan
with_input_step (L.Assign made p) zero q = P.Assign made q
with_input_step (L.Select c p) zero q = P.Select c q
with_input_step (L.Project vars p) zero q = P.Project vars q
with_input_step (L.Unnest v g p) zero q = P.Unnest v g q
with_input_step (L.Subplan n p) (suc zero) q = P.Subplan n q
with_input_step (L.Join c l r) zero q = P.Join c q r
with_input_step (L.Join c l r) (suc zero) q = P.Join c l q
with_input_step (L.LeftJoin c l r) zero q = P.LeftJoin c q r
with_input_step (L.LeftJoin c l r) (suc zero) q = P.LeftJoin c l q
with_input_step (L.Group keys n p) (suc zero) q = P.Group keys n q
with_input_step (L.Distinct p) zero q = P.Distinct q
with_input_step (L.Union made ls rs l r) zero q = P.Union made ls rs q r
with_input_step (L.Union made ls rs l r) (suc zero) q = P.Union made ls rs l q
with_input_step (L.Aggregate made p) zero q = P.Aggregate made q
with_input_step (L.Order keys p) zero q = P.Order keys q
with_input_step (L.Limit n k p) zero q = P.Limit n k q
with_input_step (L.Check name c p) zero q = P.Check name c q
with_input_step (L.Result vars p) zero q = P.Result vars q
with_input_step x i q = roll-Plan x

unfoldable pub with_input : Plan → ℕ → Plan → Plan
with_input p i q = with_input_step (out-Plan p) i q

abbrev pub and_then : {X Y : Type 0} → Option X → (X → Option Y) → Option Y
and_then None f = None
and_then (Some x) f = f x

-- the part of a plan at a place, the way to it from the root by the numbers of children
unfoldable pub plan_at : List ℕ → Plan → Option Plan
plan_at [] p = Some p
plan_at (i ∷ place) p = and_then (input p i) (plan_at place)

-- how one plan may be rewritten to another
abbrev pub Rewriting : Type 1
Rewriting = Plan → Plan → Type 0

-- the second plan is the first one, rewritten at this place
unfoldable pub Applied : Rewriting → List ℕ → Rewriting
Applied R [] p q = R p q
Applied R (i ∷ place) p q = (x : Plan) × (y : Plan) × (input p i ≡ Some x) × Applied R place x y × (q ≡ with_input p i y)
