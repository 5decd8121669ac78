-- What an expression, an aggregate and a generator read, and whether each call has its arity.
use Rattle.std.specs.Prelude.{Bool, true, ◌&&◌, List, [], ◌∷◌, length, nat_eq}
use Rattle.std.specs.List.{flat_map, list_all}
use Rattle.al_func.specs.Func.{arity}
use Rattle.al_plan.specs.declared.expr.Expr.{Expr, fold-Expr}
use Rattle.al_plan.specs.declared.expr.Expr.TheOpen.{Expr-F}
use Rattle.al_plan.specs.declared.expr.Expr.TheOpen as L
use Rattle.al_plan.specs.declared.plan.AggCall.{AggCall}
use Rattle.al_plan.specs.declared.plan.AggCall.TheVariants as C
use Rattle.al_plan.specs.declared.plan.Generator.{Generator}
use Rattle.al_plan.specs.declared.plan.Generator.TheVariants as G
use Rattle.al_plan.specs.Eval.{Bytes}

-- the names of the variables of an expression, with repeats, in the order of the text
abbrev pub names_step : Expr-F (List Bytes) → List Bytes
names_step (L.Var v) = v.name ∷ []
names_step (L.Lit v) = []
names_step (L.Call f args) = flat_map (λ a. a) args

unfoldable pub names : Expr → List Bytes
names = fold-Expr (List Bytes) names_step

abbrev pub arities_step : Expr-F Bool → Bool
arities_step (L.Var v) = true
arities_step (L.Lit v) = true
arities_step (L.Call f args) = nat_eq (length args) (arity f) && list_all (λ a. a) args

-- whether each function in an expression has as many arguments as it takes
unfoldable pub has_arities : Expr → Bool
has_arities = fold-Expr Bool arities_step

-- the expressions of a call of an aggregate
abbrev pub agg_exprs : AggCall → List Expr
agg_exprs C.CountAll = []
agg_exprs (C.Count e) = e ∷ []
agg_exprs (C.Sum e) = e ∷ []
agg_exprs (C.Min e) = e ∷ []
agg_exprs (C.Max e) = e ∷ []

-- the expressions of a generator
abbrev pub item_exprs : Generator → List Expr
item_exprs (G.Range a b) = a ∷ b ∷ []
item_exprs (G.Split t s) = t ∷ s ∷ []
