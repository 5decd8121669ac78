-- Rows, and what an expression gives over one.
use Rattle.std.specs.Prelude.{ℕ, Bool, List, [], ◌∷◌, map, nat_eq, if◌then◌else◌}
use Rattle.std.specs.Cmp.Lexicographic.{pointwise}
use Rattle.al_value.specs.declared.value.Value.{Value}
use Rattle.al_value.specs.declared.value.Value.TheVariants as V
use Rattle.al_func.specs.Func.{apply, is_true}
use Rattle.al_plan.specs.declared.expr.Var.{Var}
use Rattle.al_plan.specs.declared.expr.Expr.{Expr, fold-Expr}
use Rattle.al_plan.specs.declared.expr.Expr.TheOpen.{Expr-F}
use Rattle.al_plan.specs.declared.expr.Expr.TheOpen as L

abbrev pub Bytes : Type 0
Bytes = List ℕ

-- a row: the value of each variable by its name, and NULL for a variable that it lacks
abbrev pub Env : Type 0
Env = Bytes → Value

-- the row of these variables with these values
unfoldable pub bind : List Var → List Value → Env
bind [] vs q = V.Null
bind (x ∷ xs) [] q = V.Null
bind (x ∷ xs) (v ∷ vs) q = if pointwise nat_eq x.name q then v else bind xs vs q

-- one layer of an expression, with what each argument gives in the argument's place
abbrev pub eval_step : Expr-F (Env → Value) → Env → Value
eval_step (L.Var v) r = r v.name
eval_step (L.Lit v) r = v
eval_step (L.Call f args) r = apply f (map (λ a. a r) args)

unfoldable pub eval : Expr → Env → Value
eval = fold-Expr (Env → Value) eval_step

-- whether a condition is TRUE
abbrev pub holds : Expr → Env → Bool
holds e r = is_true (eval e r)
