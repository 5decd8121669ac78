-- Which expressions are the literal true.
use Rattle.std.proofs.Common.{◌≡◌, true, false, List, ap, sym, subst, ◌∙◌}
use Rattle.al_value.specs.declared.value.Value.{Value}
use Rattle.al_func.specs.declared.func.Func.{Func}
use Rattle.al_plan.specs.declared.expr.Var.{Var}
use Rattle.al_plan.specs.declared.expr.Expr.{Expr, roll-Expr, out-Expr, out-roll-Expr, ind-Expr}
use Rattle.al_plan.specs.declared.expr.Expr.TheVariants as E
use Rattle.al_plan.specs.declared.expr.Expr.TheOpen as L
use Rattle.al_func.specs.Func.{is_true}
use Rattle.al_plan.specs.Eval.{Env, holds}
use Rattle.al_plan.proofs.EvalLaws.{eval-Lit}
use Rattle.al_conj.specs.Conj.{is_literal_true, literal_step}

pub out-Var : (v : Var) → out-Expr (E.Var v) ≡ L.Var v
out-Var v = ap out-Expr (sym (E.rolls-Var v)) ∙ out-roll-Expr (L.Var v)

pub out-Lit : (v : Value) → out-Expr (E.Lit v) ≡ L.Lit v
out-Lit v = ap out-Expr (sym (E.rolls-Lit v)) ∙ out-roll-Expr (L.Lit v)

pub out-Call : (f : Func) (args : List Expr) → out-Expr (E.Call f args) ≡ L.Call f args
out-Call f args = ap out-Expr (sym (E.rolls-Call f args)) ∙ out-roll-Expr (L.Call f args)

pub literal-Var : (v : Var) → is_literal_true (E.Var v) ≡ false
unfolding is_literal_true
literal-Var v = ap literal_step (out-Var v)

pub literal-Lit : (v : Value) → is_literal_true (E.Lit v) ≡ literal_step (L.Lit v)
unfolding is_literal_true
literal-Lit v = ap literal_step (out-Lit v)

pub literal-Call : (f : Func) (args : List Expr) → is_literal_true (E.Call f args) ≡ false
unfolding is_literal_true
literal-Call f args = ap literal_step (out-Call f args)

pub ruleset literals = (literal-Var, literal-Lit, literal-Call)

roll_cases : (P : Expr → Type 0) → ((v : Var) → P (E.Var v)) → ((v : Value) → P (E.Lit v)) → ((f : Func) (args : List Expr) → P (E.Call f args)) → (x : L.Expr-F Expr) → P (roll-Expr x)
roll_cases P of_var of_lit of_call (L.Var v) = subst P (sym (E.rolls-Var v)) (of_var v)
roll_cases P of_var of_lit of_call (L.Lit v) = subst P (sym (E.rolls-Lit v)) (of_lit v)
roll_cases P of_var of_lit of_call (L.Call f args) = subst P (sym (E.rolls-Call f args)) (of_call f args)

-- what holds of each variable, literal and call holds of each expression
pub expr_cases : (P : Expr → Type 0) → ((v : Var) → P (E.Var v)) → ((v : Value) → P (E.Lit v)) → ((f : Func) (args : List Expr) → P (E.Call f args)) → (e : Expr) → P e
expr_cases P of_var of_lit of_call = ind-Expr P (λ x y e. roll_cases P of_var of_lit of_call x)

-- the literal true is TRUE
pub holds-literal : (e : Expr) → is_literal_true e ≡ true → (r : Env) → holds e r ≡ true
holds-literal = expr_cases (λ e. is_literal_true e ≡ true → (r : Env) → holds e r ≡ true)
    (λ v h. absurd (no (sym (literal-Var v) ∙ h)))
    (λ v h r. ap is_true (eval-Lit v r) ∙ sym (literal-Lit v) ∙ h)
    (λ f args h. absurd (no (sym (literal-Call f args) ∙ h)))
  where
    no : false ≡ true → ⊥
    no e = cc
