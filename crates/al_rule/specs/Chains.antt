-- Chains of operators that work on each row alone.
use Rattle.std.specs.Prelude.{List, [], ◌∷◌, if◌then◌else◌}
use Rattle.std.specs.List.{flat_map}
use Rattle.al_plan.specs.declared.expr.Var.{Var}
use Rattle.al_plan.specs.declared.expr.Expr.{Expr}
use Rattle.al_plan.specs.declared.plan.Generator.{Generator}
use Rattle.al_plan.specs.declared.plan.Plan.{Plan}
use Rattle.al_plan.specs.declared.plan.Plan.TheVariants as P
use Rattle.al_plan.specs.Eval.{Env, holds}
use Rattle.al_plan.specs.Allows.{assigned, cut, expanded}

-- an operator that works on each row alone, without its input
pub data Link : Type 0 where
  assigning : List (Var × Expr) → Link
  selecting : Expr → Link
  projecting : List Var → Link
  unnesting : Var → Generator → Link

abbrev pub linked : Link → Plan → Plan
linked (assigning made) p = P.Assign made p
linked (selecting c) p = P.Select c p
linked (projecting vars) p = P.Project vars p
linked (unnesting v g) p = P.Unnest v g p

-- the links over a plan, the first one on top
abbrev pub chain : List Link → Plan → Plan
chain [] p = p
chain (l ∷ ls) p = linked l (chain ls p)

abbrev pub row_of : Link → Env → List Env
row_of (assigning made) r = assigned made r ∷ []
row_of (selecting c) r = if holds c r then r ∷ [] else []
row_of (projecting vars) r = cut vars r ∷ []
row_of (unnesting v g) r = expanded v g r

-- the rows that the links give for one row
abbrev pub through : List Link → Env → List Env
through [] r = r ∷ []
through (l ∷ ls) r = flat_map (row_of l) (through ls r)
