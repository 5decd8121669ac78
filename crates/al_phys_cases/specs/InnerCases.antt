-- What small nested plans allow over a few outer rows, and joins with two pairs and with more than their keys.
use Rattle.std.specs.Prelude.{◌≡◌, false, List, [], ◌∷◌}
use Rattle.al_value.specs.declared.value.Value.TheVariants as V
use Rattle.al_func.specs.declared.func.Func.TheVariants as F
use Rattle.al_plan.specs.declared.expr.Expr.{Expr}
use Rattle.al_plan.specs.declared.expr.Expr.TheVariants as E
use Rattle.al_plan.specs.declared.plan.Plan.{Plan}
use Rattle.al_plan.specs.declared.plan.Plan.TheVariants as P
use Rattle.al_plan.specs.Eval.{Env}
use Rattle.al_plan.specs.Allows.{Allows}
use Rattle.al_cases.specs.Cases.{a, n, int, row, pair, one_column, two_sets, scan_a, scan_b, by_a, same, counting, AllowsOnly}
use Rattle.al_cases.specs.RefineCases.{few}
use Rattle.al_phys_cases.specs.PartCases.{at}

-- whether a nested plan allows these rows over those outer ones
abbrev pub Within : List Env → Plan → List Env → Type 0
Within outer p rows = Allows p false (one_column []) (a ∷ []) outer rows

abbrev pub both : List Env
both = at 2 ∷ at 1 ∷ []

-- `nested` has the outer rows, in any order, and no others
pub record NestedIsFree : Type 0 where
  pub as_given : Within both P.Nested (at 2 ∷ at 1 ∷ [])
  pub turned : Within both P.Nested (at 1 ∷ at 2 ∷ [])
  pub one_left : Within both P.Nested (at 2 ∷ []) → ⊥
  pub one_twice : Within both P.Nested (at 1 ∷ at 1 ∷ []) → ⊥

abbrev pub least_inside : Plan
least_inside = P.Limit 1 0 (P.Order (by_a false) P.Nested)

-- an order inside a nested plan tells which row a limit above it takes
pub record OrderInside : Type 0 where
  pub least : Within both least_inside (at 1 ∷ [])
  pub no_other : (rows : List Env) → Within both least_inside rows → rows ≡ at 1 ∷ []

-- two equal rows inside a nested plan are one for a distinct, and are counted so
pub record DistinctInside : Type 0 where
  pub one : Within (at 1 ∷ at 1 ∷ []) (counting (P.Distinct P.Nested)) (row n (int 1) ∷ [])
  pub no_other : (rows : List Env) → Within (at 1 ∷ at 1 ∷ []) (counting (P.Distinct P.Nested)) rows → rows ≡ row n (int 1) ∷ []

-- a left row has a pair with each right row that matches, and none alone
abbrev pub TwoPairs : Type 0
TwoPairs = AllowsOnly (two_sets (int 1 ∷ []) (int 1 ∷ int 1 ∷ [])) (P.LeftJoin same scan_a scan_b) (pair (int 1) (int 1) ∷ pair (int 1) (int 1) ∷ [])

-- $a = $b, and $b < 15
abbrev pub same_and_few : Expr
same_and_few = E.Call F.And (same ∷ few ∷ [])

-- a left row whose keys are equal to those of a right row stays alone where the rest of the condition is not TRUE
abbrev pub RestDecides : Type 0
RestDecides = AllowsOnly (two_sets (int 20 ∷ []) (int 20 ∷ [])) (P.LeftJoin same_and_few scan_a scan_b) (pair (int 20) V.Null ∷ [])

-- and has its pair where it is TRUE
abbrev pub RestAllows : Type 0
RestAllows = AllowsOnly (two_sets (int 1 ∷ []) (int 1 ∷ [])) (P.LeftJoin same_and_few scan_a scan_b) (pair (int 1) (int 1) ∷ [])
