-- What a conjunct adds to the parts of a join's condition, given the equi key that it is, if it is one.
use Rattle.std.specs.Prelude.{ℕ, if◌then◌else◌, List, [], ◌∷◌, map, Option}
use Rattle.std.specs.List.{cons_option}
use Rattle.al_plan.specs.declared.expr.Var.{Var}
use Rattle.al_plan.specs.declared.expr.Expr.{Expr}
use Rattle.al_jobgen.specs.Columns.{column_of, is_none}

abbrev pub left_column : List Var → Option (Var × Var) → List ℕ
left_column vars key = map (λ k. column_of vars k.0.name) (cons_option key [])

abbrev pub right_column : List Var → Option (Var × Var) → List ℕ
right_column vars key = map (λ k. column_of vars k.1.name) (cons_option key [])

abbrev pub no_key : Expr → Option (Var × Var) → List Expr
no_key e key = if is_none key then e ∷ [] else []
