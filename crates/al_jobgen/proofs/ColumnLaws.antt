-- Expressions over columns, and columns of rows.
use Rattle.std.proofs.Common.{◌≡◌, suc, Bool, List, [], ◌∷◌, map, refl, ap, sym, subst, ◌∙◌, arith}
use Rattle.std.specs.Prelude.{nat_eq, if◌then◌else◌}
use Rattle.std.specs.Cmp.Lexicographic.{pointwise}
use Rattle.al_value.specs.declared.value.Value.{Value}
use Rattle.al_func.specs.declared.func.Func.{Func}
use Rattle.al_func.specs.declared.rex.Rex.{Rex}
use Rattle.al_func.specs.declared.rex.Rex.TheVariants as R
use Rattle.al_func.specs.Func.{apply, is_true}
use Rattle.al_func.specs.Rex.{eval_rex}
use Rattle.al_func.proofs.RexLaws.{eval_rex-Col, eval_rex-Lit, eval_rex-Call}
use Rattle.al_plan.specs.declared.expr.Var.{Var}
use Rattle.al_plan.specs.declared.expr.Expr.{Expr, roll-Expr, map-Expr, ind-Expr, fold-roll-Expr}
use Rattle.al_plan.specs.declared.expr.Expr.TheVariants as E
use Rattle.al_plan.specs.declared.expr.Expr.TheOpen as L
use Rattle.al_plan.specs.Eval.{Bytes, bind, eval, holds}
use Rattle.al_plan.proofs.Bools.{by_cases}
use Rattle.al_plan.proofs.EvalLaws.{eval-Var, eval-Lit, eval-Call, bind-nil, bind-cons}
use Rattle.hy_job.specs.Columns.{Row, column}
use Rattle.hy_job.specs.Columns as C
use Rattle.al_jobgen.specs.Columns.{column_of, rex_of, rex_step}
use Rattle.al_jobgen.specs.Agree.{IsAsWide}

-- the value of a variable's column is that of the variable
pub column_at : (vars : List Var) (row : Row) → IsAsWide vars row → (q : Bytes) → column row (column_of vars q) ≡ bind vars row q
column_at [] [] w q = sym (bind-nil [] q)
column_at [] (x ∷ row) w q = absurd (omega arith)
column_at (v ∷ vars) [] w q = absurd (omega arith)
column_at (v ∷ vars) (x ∷ row) w q =
    by_cases (pointwise nat_eq v.name q)
    (λ same. ap (λ (b : Bool). column (x ∷ row) (if b then 0 else suc (column_of vars q))) same ∙ sym (bind-cons v vars x row q ∙ ap (λ (b : Bool). if b then x else bind vars row q) same))
    (λ other. ap (λ (b : Bool). column (x ∷ row) (if b then 0 else suc (column_of vars q))) other ∙ column_at vars row (omega arith) q
    ∙ sym (bind-cons v vars x row q ∙ ap (λ (b : Bool). if b then x else bind vars row q) other))

-- ---- expressions

pub rex-Var : (vars : List Var) (v : Var) → rex_of vars (E.Var v) ≡ R.Col (column_of vars v.name)
unfolding rex_of
rex-Var vars v = ap (rex_of vars) (sym (E.rolls-Var v)) ∙ fold-roll-Expr Rex (rex_step vars) (L.Var v)

pub rex-Lit : (vars : List Var) (v : Value) → rex_of vars (E.Lit v) ≡ R.Lit v
unfolding rex_of
rex-Lit vars v = ap (rex_of vars) (sym (E.rolls-Lit v)) ∙ fold-roll-Expr Rex (rex_step vars) (L.Lit v)

pub rex-Call : (vars : List Var) (f : Func) (args : List Expr) → rex_of vars (E.Call f args) ≡ R.Call f (map (rex_of vars) args)
unfolding rex_of
rex-Call vars f args = ap (rex_of vars) (sym (E.rolls-Call f args)) ∙ fold-roll-Expr Rex (rex_step vars) (L.Call f args)

module _ (vars : List Var) (row : Row) (w : IsAsWide vars row) where
  abbrev Agrees : Expr → Type 0
  Agrees e = eval_rex (rex_of vars e) row ≡ eval e (bind vars row)

  var_agrees : (v : Var) → Agrees (E.Var v)
  var_agrees v = ap (λ (e : Rex). eval_rex e row) (rex-Var vars v) ∙ eval_rex-Col (column_of vars v.name) row ∙ column_at vars row w v.name ∙ sym (eval-Var v (bind vars row))

  lit_agrees : (v : Value) → Agrees (E.Lit v)
  lit_agrees v = ap (λ (e : Rex). eval_rex e row) (rex-Lit vars v) ∙ eval_rex-Lit v row ∙ sym (eval-Lit v (bind vars row))

  module _ {S : Type 0} (up : S → Expr) (ih : (s : S) → Agrees (up s)) where
    args_agree : (xs : List S) → map (λ e. eval_rex e row) (map (rex_of vars) (map up xs)) ≡ map (λ a. eval a (bind vars row)) (map up xs)
    args_agree [] = refl
    args_agree (x ∷ xs) = λ i. ih x i ∷ args_agree xs i

    layer_agrees : (y : L.Expr-F S) → Agrees (roll-Expr (map-Expr S Expr up y))
    layer_agrees (L.Var v) = subst Agrees (sym (E.rolls-Var v)) (var_agrees v)
    layer_agrees (L.Lit v) = subst Agrees (sym (E.rolls-Lit v)) (lit_agrees v)
    layer_agrees (L.Call f xs) =
        subst Agrees (sym (E.rolls-Call f (map up xs)))
        (ap (λ (e : Rex). eval_rex e row) (rex-Call vars f (map up xs)) ∙ eval_rex-Call f (map (rex_of vars) (map up xs)) row ∙ ap (apply f) (args_agree xs) ∙ sym (eval-Call f (map up xs) (bind vars row)))

  pub expression : (e : Expr) → Agrees e
  expression = ind-Expr Agrees (λ x y e. subst (λ (z : L.Expr-F Expr). Agrees (roll-Expr z)) e (layer_agrees (λ s. s.0) (λ s. s.1) y))

  pub condition : (c : Expr) → C.holds (rex_of vars c) row ≡ holds c (bind vars row)
  condition c = ap is_true (expression c)
