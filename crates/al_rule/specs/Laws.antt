-- Laws of plans of which many rules are instances.
use Rattle.std.specs.Prelude.{◌≡◌, Bool, List, [], None}
use Rattle.std.specs.List.Sorted.{IsPermutation}
use Rattle.al_plan.specs.declared.expr.Expr.{Expr}
use Rattle.al_plan.specs.declared.plan.OrderKey.{OrderKey}
use Rattle.al_plan.specs.declared.plan.Plan.{Plan}
use Rattle.al_plan.specs.declared.plan.Plan.TheVariants as P
use Rattle.al_plan.specs.Eval.{Env, holds}
use Rattle.al_plan.specs.Allows.{Sets, Allows, live, beside}
use Rattle.al_plan.specs.Refines.{Fit, Refines, IsWithin, result_of}
use Rattle.al_rule.specs.Chains.{Link, chain, through}
use Rattle.al_rule.specs.Pairs.{SplitsLeft, SplitsRight}

-- two chains over one input that fit, have the same live variables and give the same rows for each row of the input: the first refines the second
abbrev pub ChainsRefine : Type 0
ChainsRefine = (ls ms : List Link) (p : Plan) → result_of p ≡ None → Fit (chain ls p) → Fit (chain ms p) → IsPermutation (live (chain ms p) []) (live (chain ls p) [])
    → ((r : Env) → IsWithin (live p []) r → through ls r ≡ through ms r) → Refines (chain ls p) (chain ms p)

-- a select may go below an operator, and come up again
pub record SelectPasses (over : Plan → Plan) : Type 0 where
  pub below : (c : Expr) (p : Plan) → Fit (P.Select c (over p)) → Refines (over (P.Select c p)) (P.Select c (over p))
  pub above : (c : Expr) (p : Plan) → Fit (over (P.Select c p)) → Refines (P.Select c (over p)) (over (P.Select c p))

abbrev pub SelectPassesOrder : Type 0
SelectPassesOrder = (keys : List OrderKey) → SelectPasses (P.Order keys)

abbrev pub SelectPassesDistinct : Type 0
SelectPassesDistinct = SelectPasses P.Distinct

-- two plans outside nested plans allow the same lists
abbrev pub SameLists : Plan → Plan → Type 0
SameLists p q = (passing : Bool) (sets : Sets) (rows : List Env) → (Allows p passing sets [] [] rows → Allows q passing sets [] [] rows) × (Allows q passing sets [] [] rows → Allows p passing sets [] [] rows)

-- a condition of the pairs of two plans' rows
abbrev pub OfPairs : Plan → Plan → (Env → Env → Type 0) → Type 0
OfPairs l r Q = (a b : Env) → IsWithin (live l []) a → IsWithin (live r []) b → Q a b

-- what joins allow hangs on the pairs alone for which their conditions are TRUE: also where rows that are in no pair are dropped first
pub record PairsDecide : Type 0 where
  pub joins : (c d : Expr) (l r : Plan) → OfPairs l r (λ a b. holds c (beside (live l []) a b) ≡ holds d (beside (live l []) a b)) → SameLists (P.Join c l r) (P.Join d l r)
  pub left_joins : (c d : Expr) (l r : Plan) → OfPairs l r (λ a b. holds c (beside (live l []) a b) ≡ holds d (beside (live l []) a b)) → SameLists (P.LeftJoin c l r) (P.LeftJoin d l r)
  pub join_left : (d e c : Expr) (l r : Plan) → OfPairs l r (SplitsLeft (live l []) d e c) → SameLists (P.Join d l r) (P.Join c (P.Select e l) r)
  pub join_right : (d e c : Expr) (l r : Plan) → OfPairs l r (SplitsRight (live l []) d e c) → SameLists (P.Join d l r) (P.Join c l (P.Select e r))
  pub left_join_right : (d e c : Expr) (l r : Plan) → OfPairs l r (SplitsRight (live l []) d e c) → SameLists (P.LeftJoin d l r) (P.LeftJoin c l (P.Select e r))
