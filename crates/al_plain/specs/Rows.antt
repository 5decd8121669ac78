-- Lists of rows of values, in the order of the variables that stand beside them.
use Rattle.std.specs.Prelude.{List, [], ◌∷◌, ◌++◌, map, filter, ◌≢◌}
use Rattle.std.specs.List.{All, AllPairs, Contains}
use Rattle.al_value.specs.declared.value.Value.{Value}
use Rattle.al_value.specs.declared.value.Value.TheVariants as V
use Rattle.al_plan.specs.declared.expr.Var.{Var}
use Rattle.al_plan.specs.declared.expr.Expr.{Expr}
use Rattle.al_plan.specs.declared.plan.Generator.{Generator}
use Rattle.al_plan.specs.Eval.{bind, eval, holds}
use Rattle.al_plan.specs.Calls.{items}

-- the values of one row
abbrev pub Cells : Type 0
Cells = List Value

-- the values of the variables `out` in a row of the variables `vars`
unfoldable pub values_of : List Var → List Var → Cells → Cells
values_of out vars row = map (λ v. bind vars row v.name) out

-- a row and the values of the new variables, each of which sees the row alone
unfoldable pub assigned_row : List (Var × Expr) → List Var → Cells → Cells
assigned_row made vars row = row ++ map (λ m. eval m.1 (bind vars row)) made

-- a row with each of these values in turn at its end
unfoldable pub with_each : Cells → List Value → List Cells
with_each row xs = map (λ x. row ++ x ∷ []) xs

-- a row with each item of a generator in turn
unfoldable pub expanded_row : Generator → List Var → Cells → List Cells
expanded_row g vars row = with_each row (items g (bind vars row))

-- a row before each of these rows
unfoldable pub before_each : Cells → List Cells → List Cells
before_each row more = map (λ r. row ++ r) more

-- the pairs of a left row with the right rows whose condition is TRUE
unfoldable pub pairs_of : Expr → List Var → List Cells → Cells → List Cells
pairs_of c vars right left = filter (λ row. holds c (bind vars row)) (before_each left right)

-- a row with NULL for each of these variables
unfoldable pub padded_row : List Var → Cells → Cells
padded_row vars row = row ++ map (λ v. V.Null) vars

-- these rows, or the one row where there are none
abbrev pub rows_or : Cells → List Cells → List Cells
rows_or alone [] = alone ∷ []
rows_or alone (r ∷ rs) = r ∷ rs

-- the pairs of a left row, or the row with NULL for the right variables
unfoldable pub pairs_or_padded : Expr → List Var → List Var → List Cells → Cells → List Cells
pairs_or_padded c both right_vars right left = rows_or (padded_row right_vars left) (pairs_of c both right left)

-- the different rows, each once
pub record AreDistinct (rows kept : List Cells) : Type 0 where
  pub within : All (Contains rows) kept
  pub every : All (Contains kept) rows
  pub once : AllPairs ◌≢◌ kept
