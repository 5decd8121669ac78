-- Conditions of joins that come apart into one of the pair and one of a single row.
use Rattle.std.specs.Prelude.{◌≡◌, ◌&&◌, List}
use Rattle.al_plan.specs.declared.expr.Var.{Var}
use Rattle.al_plan.specs.declared.expr.Expr.{Expr}
use Rattle.al_plan.specs.Eval.{Env, holds}
use Rattle.al_plan.specs.Allows.{beside}

-- `d` is TRUE where `c` and `e` are
abbrev pub IsBoth : Expr → Expr → Expr → Type 0
IsBoth d c e = (r : Env) → holds d r ≡ (holds c r && holds e r)

-- of a pair of rows, the left one over these variables, `d` is TRUE where `c` is and `e` is TRUE of the left row
abbrev pub SplitsLeft : List Var → Expr → Expr → Expr → Env → Env → Type 0
SplitsLeft xs d e c a b = holds d (beside xs a b) ≡ (holds e a && holds c (beside xs a b))

-- the same of the right row
abbrev pub SplitsRight : List Var → Expr → Expr → Expr → Env → Env → Type 0
SplitsRight xs d e c a b = holds d (beside xs a b) ≡ (holds e b && holds c (beside xs a b))
