-- Plans that fit, and plans that refine one another.
use Rattle.std.specs.Prelude.{◌≡◌, ◌≤◌, Bool, true, false, List, [], ◌∷◌, ◌++◌, map, length, Option, Some, None}
use Rattle.std.specs.List.{AllByRecursion, All, Contains}
use Rattle.std.specs.List.Sorted.{IsPermutation}
use Rattle.al_value.specs.declared.value.Value.TheVariants as V
use Rattle.al_plan.specs.declared.expr.Var.{Var}
use Rattle.al_plan.specs.declared.expr.Expr.{Expr}
use Rattle.al_plan.specs.declared.plan.Plan.{Plan, fold-Plan, rec-Plan}
use Rattle.al_plan.specs.declared.plan.Plan.TheOpen.{Plan-F}
use Rattle.al_plan.specs.declared.plan.Plan.TheOpen as P
use Rattle.al_plan.specs.Eval.{Bytes, Env}
use Rattle.al_plan.specs.Names.{names, has_arities, agg_exprs, item_exprs}
use Rattle.al_plan.specs.Allows.{Sets, live, ordered, is_among, Allows, Faults}

-- the datasets that a plan scans, each with its variables
abbrev pub Scan : Type 0
Scan = Bytes × List Var

abbrev pub scans_step : Plan-F (List Scan) → List Scan
scans_step (P.Scan set vars) = (set, vars) ∷ []
scans_step P.Empty = []
scans_step P.Nested = []
scans_step (P.Assign made p) = p
scans_step (P.Select c p) = p
scans_step (P.Project vars p) = p
scans_step (P.Unnest v g p) = p
scans_step (P.Subplan n p) = p ++ n
scans_step (P.Join c l r) = l ++ r
scans_step (P.LeftJoin c l r) = l ++ r
scans_step (P.Group keys n p) = p ++ n
scans_step (P.Distinct p) = p
scans_step (P.Union made ls rs l r) = l ++ r
scans_step (P.Aggregate made p) = p
scans_step (P.Order keys p) = p
scans_step (P.Limit n k p) = p
scans_step (P.Check name c p) = p
scans_step (P.Result vars p) = p

unfoldable pub scans : Plan → List Scan
scans = fold-Plan (List Scan) scans_step

-- the variables that a plan makes, in the order in which its operators are checked
abbrev pub makes_step : Plan-F (List Var) → List Var
makes_step (P.Scan set vars) = vars
makes_step P.Empty = []
makes_step P.Nested = []
makes_step (P.Assign made p) = p ++ map (λ m. m.0) made
makes_step (P.Select c p) = p
makes_step (P.Project vars p) = p
makes_step (P.Unnest v g p) = p ++ v ∷ []
makes_step (P.Subplan n p) = p ++ n
makes_step (P.Join c l r) = l ++ r
makes_step (P.LeftJoin c l r) = l ++ r
makes_step (P.Group keys n p) = p ++ (n ++ map (λ k. k.0) keys)
makes_step (P.Distinct p) = p
makes_step (P.Union made ls rs l r) = l ++ (r ++ made)
makes_step (P.Aggregate made p) = p ++ map (λ m. m.0) made
makes_step (P.Order keys p) = p
makes_step (P.Limit n k p) = p
makes_step (P.Check name c p) = p
makes_step (P.Result vars p) = p

unfoldable pub makes : Plan → List Var
makes = fold-Plan (List Var) makes_step

-- the list of a result, and none for another operator
abbrev pub result_step : Plan-F (Option (List Var)) → Option (List Var)
result_step (P.Result vars p) = Some vars
result_step _ = None

unfoldable pub result_of : Plan → Option (List Var)
result_of = fold-Plan (Option (List Var)) result_step

-- whether the root is an aggregate
abbrev pub aggregate_step : Plan-F Bool → Bool
aggregate_step (P.Aggregate made p) = true
aggregate_step _ = false

unfoldable pub is_aggregate : Plan → Bool
is_aggregate = fold-Plan Bool aggregate_step

-- no name stands twice
abbrev pub NoTwice : List Var → Type 0
NoTwice [] = Unit {0}
NoTwice (v ∷ vs) = (is_among vs v.name ≡ false) × NoTwice vs

-- each of these names is one of the variables'
abbrev pub AreAmong : List Var → List Bytes → Type 0
AreAmong vars = AllByRecursion (λ q. is_among vars q ≡ true)

-- an expression reads live variables alone, and each of its functions has its arity
pub record IsOver (vars : List Var) (e : Expr) : Type 0 where
  pub reads : AreAmong vars (names e)
  pub arities : has_arities e ≡ true

-- each of these variables is among the first ones
abbrev pub AreLive : List Var → List Var → Type 0
AreLive vars = AllByRecursion (λ v. is_among vars v.name ≡ true)

-- each expression reads these variables alone
abbrev pub AreOver : List Var → List Expr → Type 0
AreOver vars = AllByRecursion (IsOver vars)

-- a claim of a plan at a place: whether it stands in a nested plan, and the variables of the outer rows
abbrev pub Fitting : Type 1
Fitting = Bool → List Var → Type 0

-- an input fits and is no result
abbrev pub InputFits : Plan → Fitting → Bool → List Var → Type 0
InputFits p fit inside given = fit inside given × (result_of p ≡ None)

-- what each operator asks, inside a nested plan or outside; `plan` is the plan of an input
abbrev pub each_step : (X : Type 0) → (X → Plan) → (X → Fitting) → Plan-F X → Fitting
each_step X plan fit (P.Scan set vars) inside given = inside ≡ false
each_step X plan fit P.Empty inside given = inside ≡ false
each_step X plan fit P.Nested inside given = inside ≡ true
each_step X plan fit (P.Assign made p) inside given = InputFits (plan p) (fit p) inside given × AreOver (live (plan p) given) (map (λ m. m.1) made)
each_step X plan fit (P.Select c p) inside given = InputFits (plan p) (fit p) inside given × IsOver (live (plan p) given) c
each_step X plan fit (P.Project vars p) inside given = InputFits (plan p) (fit p) inside given × AreLive (live (plan p) given) vars × NoTwice vars
each_step X plan fit (P.Unnest v g p) inside given = InputFits (plan p) (fit p) inside given × AreOver (live (plan p) given) (item_exprs g)
each_step X plan fit (P.Subplan n p) inside given = InputFits (plan p) (fit p) inside given × (inside ≡ false) × fit n true (live (plan p) given) × (is_aggregate (plan n) ≡ true)
each_step X plan fit (P.Join c l r) inside given = InputFits (plan l) (fit l) inside given × InputFits (plan r) (fit r) inside given × (inside ≡ false) × IsOver (live (plan l) given ++ live (plan r) given) c
each_step X plan fit (P.LeftJoin c l r) inside given = InputFits (plan l) (fit l) inside given × InputFits (plan r) (fit r) inside given × (inside ≡ false) × IsOver (live (plan l) given ++ live (plan r) given) c
each_step X plan fit (P.Group keys n p) inside given = InputFits (plan p) (fit p) inside given × (inside ≡ false) × AreLive (live (plan p) given) (map (λ k. k.1) keys) × fit n true (live (plan p) given) × (is_aggregate (plan n) ≡ true)
each_step X plan fit (P.Distinct p) inside given = InputFits (plan p) (fit p) inside given
each_step X plan fit (P.Union made ls rs l r) inside given = InputFits (plan l) (fit l) inside given × InputFits (plan r) (fit r) inside given × (inside ≡ false)
    × AreLive (live (plan l) given) ls × AreLive (live (plan r) given) rs × (length ls ≡ length made) × (length rs ≡ length made)
each_step X plan fit (P.Aggregate made p) inside given = InputFits (plan p) (fit p) inside given × AllByRecursion (λ m. AreOver (live (plan p) given) (agg_exprs m.1)) made
each_step X plan fit (P.Order keys p) inside given = InputFits (plan p) (fit p) inside given × AreLive (live (plan p) given) (map (λ k. k.var) keys)
each_step X plan fit (P.Limit n k p) inside given = InputFits (plan p) (fit p) inside given
each_step X plan fit (P.Check name c p) inside given = InputFits (plan p) (fit p) inside given × (inside ≡ false) × IsOver (live (plan p) given) c
each_step X plan fit (P.Result vars p) inside given = InputFits (plan p) (fit p) inside given × (inside ≡ false) × AreLive (live (plan p) given) vars × NoTwice vars

unfoldable pub FitsEach : Plan → Fitting
FitsEach = rec-Plan Fitting each_step

abbrev pub AtMost64 : List Var → Type 0
AtMost64 vars = length vars ≤ 64

-- outside nested plans no operator has more than 64 live variables
abbrev pub narrow_step : (X : Type 0) → (X → Plan) → (X → List Var → Type 0) → Plan-F X → List Var → Type 0
narrow_step X plan narrow (P.Scan set vars) given = AtMost64 vars
narrow_step X plan narrow P.Empty given = Unit {0}
narrow_step X plan narrow P.Nested given = Unit {0}
narrow_step X plan narrow (P.Assign made p) given = narrow p given × AtMost64 (live (plan p) given ++ map (λ m. m.0) made)
narrow_step X plan narrow (P.Select c p) given = narrow p given
narrow_step X plan narrow (P.Project vars p) given = narrow p given × AtMost64 vars
narrow_step X plan narrow (P.Unnest v g p) given = narrow p given × AtMost64 (live (plan p) given ++ v ∷ [])
narrow_step X plan narrow (P.Subplan n p) given = narrow p given × AtMost64 (live (plan p) given ++ live (plan n) (live (plan p) given))
narrow_step X plan narrow (P.Join c l r) given = narrow l given × narrow r given × AtMost64 (live (plan l) given ++ live (plan r) given)
narrow_step X plan narrow (P.LeftJoin c l r) given = narrow l given × narrow r given × AtMost64 (live (plan l) given ++ live (plan r) given)
narrow_step X plan narrow (P.Group keys n p) given = narrow p given × AtMost64 (map (λ k. k.0) keys ++ live (plan n) (live (plan p) given))
narrow_step X plan narrow (P.Distinct p) given = narrow p given
narrow_step X plan narrow (P.Union made ls rs l r) given = narrow l given × narrow r given × AtMost64 made
narrow_step X plan narrow (P.Aggregate made p) given = narrow p given × AtMost64 (map (λ m. m.0) made)
narrow_step X plan narrow (P.Order keys p) given = narrow p given
narrow_step X plan narrow (P.Limit n k p) given = narrow p given
narrow_step X plan narrow (P.Check name c p) given = narrow p given
narrow_step X plan narrow (P.Result vars p) given = narrow p given × AtMost64 vars

unfoldable pub Narrow : Plan → List Var → Type 0
Narrow = rec-Plan (List Var → Type 0) narrow_step

-- a plan that stands outside nested plans: each operator gets what it asks, none is too wide, and no variable is made twice
pub record Fit (p : Plan) : Type 0 where
  pub each : FitsEach p false []
  pub narrow : Narrow p []
  pub once : NoTwice (makes p)

-- each scanned dataset has rows of as many values as the scan has variables
abbrev pub Fills : List Scan → Sets → Type 0
Fills ss sets = All (λ s. All (λ r. length r ≡ length s.1) (sets s.0)) ss

-- rows without values but at these variables
abbrev pub IsWithin : List Var → Env → Type 0
IsWithin vars r = (q : Bytes) → is_among vars q ≡ false → r q ≡ V.Null

-- `q` may stand for `p`: whatever it answers is an answer of `p`, for all datasets that fit and all outer rows over `given`
pub record Refines (q p : Plan) : Type 0 where
  pub fit : Fit q
  pub scanned : All (Contains (scans p)) (scans q)
  pub root : result_of q ≡ result_of p
  pub vars : (given : List Var) → IsPermutation (live p given) (live q given)
  pub order : ordered p ≡ true → ordered q ≡ true
  pub allowed : (passing : Bool) (sets : Sets) (given : List Var) (outer rows : List Env) → Fills (scans p) sets → All (IsWithin given) outer → Allows q passing sets given outer rows → Allows p passing sets given outer rows
  pub faults : (sets : Sets) (given : List Var) (outer : List Env) (name : Bytes) → Fills (scans p) sets → All (IsWithin given) outer → Faults q sets given outer name → Faults p sets given outer name

-- a variable that is not in the second list is not in the first
abbrev pub IsNoMore : List Var → List Var → Type 0
IsNoMore xs ys = (q : Bytes) → is_among ys q ≡ false → is_among xs q ≡ false

-- `q` may stand in the place of `p` within a greater plan: it refines `p`, and every variable that it makes `p` makes too
pub record Replaces (q p : Plan) : Type 0 where
  pub refines : Refines q p
  pub makes_no_more : IsNoMore (makes q) (makes p)
