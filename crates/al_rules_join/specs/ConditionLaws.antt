-- What the tests of conditions give, expression by expression.
use Rattle.std.proofs.Common.{◌≡◌, false, ◌&&◌, List, [], ap}
use Rattle.std.specs.List.{list_any}
use Rattle.al_value.specs.declared.value.Value.{Value}
use Rattle.al_func.specs.declared.func.Func.{Func}
use Rattle.al_plan.specs.declared.expr.Var.{Var}
use Rattle.al_plan.specs.declared.expr.Expr.{Expr}
use Rattle.al_plan.specs.declared.expr.Expr.TheVariants as E
use Rattle.al_plan.specs.declared.plan.Plan.{Plan}
use Rattle.al_plan.specs.Allows.{live, is_among}
use Rattle.al_conj.proofs.Literals.{out-Var, out-Lit, out-Call}
use Rattle.al_rules_join.specs.JoinRules.{is_variable_of, variable_step, compares, compares_step, is_comparison}

pub variable-Var : (p : Plan) (v : Var) → is_variable_of p (E.Var v) ≡ is_among (live p []) v.name
unfolding is_variable_of
variable-Var p v = ap (variable_step p) (out-Var v)

pub variable-Lit : (p : Plan) (v : Value) → is_variable_of p (E.Lit v) ≡ false
unfolding is_variable_of
variable-Lit p v = ap (variable_step p) (out-Lit v)

pub variable-Call : (p : Plan) (f : Func) (args : List Expr) → is_variable_of p (E.Call f args) ≡ false
unfolding is_variable_of
variable-Call p f args = ap (variable_step p) (out-Call f args)

pub compares-Var : (p : Plan) (v : Var) → compares p (E.Var v) ≡ false
unfolding compares
compares-Var p v = ap (compares_step p) (out-Var v)

pub compares-Lit : (p : Plan) (v : Value) → compares p (E.Lit v) ≡ false
unfolding compares
compares-Lit p v = ap (compares_step p) (out-Lit v)

pub compares-Call : (p : Plan) (f : Func) (args : List Expr) → compares p (E.Call f args) ≡ (is_comparison f && list_any (is_variable_of p) args)
unfolding compares
compares-Call p f args = ap (compares_step p) (out-Call f args)
