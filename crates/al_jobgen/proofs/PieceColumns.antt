-- Columns of variables, and expressions over them.
use Rattle.std.proofs.Common.{◌≡◌, ℕ, zero, suc, ◌+◌, ◌++◌, Bool, true, false, not, cond, ltb, ◌≤◌, List, [], ◌∷◌, map, length, Some, None, refl, ap, sym, ◌∙◌, arith}
use Rattle.std.specs.Prelude.{nat_eq, if◌then◌else◌}
use Rattle.std.specs.List.{position, position_or_len, range_with_len}
use Rattle.std.specs.Cmp.Lexicographic.{pointwise}
use Rattle.al_value.specs.declared.value.Value.{Value}
use Rattle.al_func.specs.declared.func.Func.{Func}
use Rattle.al_func.specs.declared.rex.Rex.{Rex}
use Rattle.al_func.specs.declared.rex.Rex.TheVariants as R
use Rattle.al_plan.specs.declared.expr.Var.{Var}
use Rattle.al_plan.specs.declared.expr.Expr.{Expr, fold-roll-Expr}
use Rattle.al_plan.specs.declared.expr.Expr.TheVariants as E
use Rattle.al_plan.specs.declared.expr.Expr.TheOpen as L
use Rattle.al_plan.specs.Eval.{Bytes}
use Rattle.al_jobgen.specs.Columns.{column_of, rex_of, rex_step}

one_place : (b : Bool) (n m : ℕ) → n ≡ m → cond (not b) (1 + n) 0 ≡ (if b then 0 else suc m)
one_place true n m e = refl
one_place false n m e = omega (arith, e)

-- the column is the place of the first variable of this name
pub column_place : (vars : List Var) (q : Bytes) → position_or_len (λ (w : Var). pointwise nat_eq w.name q) vars ≡ column_of vars q
column_place [] q = refl
column_place (v ∷ vars) q = one_place (pointwise nat_eq v.name q) _ _ (column_place vars q)

at_some : (n len at : ℕ) (b : Bool) → Some at ≡ cond b (Some n) None → at ≡ n
at_some n len at true e = grind arith
at_some n len at false e = grind arith

at_none : (n len : ℕ) (b : Bool) → ltb n len ≡ b → n ≤ len → None ≡ cond b (Some n) None → len ≡ n
at_none n len true s le e = grind arith
at_none n len false s le e = grind arith

abbrev same_name : Bytes → Var → Bool
same_name q w = pointwise nat_eq w.name q

-- the place that a search finds
pub place_some : (vars : List Var) (q : Bytes) (at : ℕ) → Some at ≡ position (λ (w : Var). pointwise nat_eq w.name q) vars → at ≡ column_of vars q
place_some vars q at e =
    at_some (position_or_len (same_name q) vars) (length vars) at (ltb (position_or_len (same_name q) vars) (length vars)) e ∙ column_place vars q

one_past : (b : Bool) (n m : ℕ) → n ≤ m → (if b then 0 else suc n) ≤ suc m
one_past true n m h = omega arith
one_past false n m h = omega (arith, h)

not_past : (vars : List Var) (q : Bytes) → column_of vars q ≤ length vars
not_past [] q = omega arith
not_past (v ∷ vars) q = one_past (pointwise nat_eq v.name q) _ _ (not_past vars q)

-- the place behind all, where none is found
pub place_none : (vars : List Var) (q : Bytes) → None ≡ position (λ (w : Var). pointwise nat_eq w.name q) vars → length vars ≡ column_of vars q
place_none vars q e =
    let at = column_place vars q in
    at_none (position_or_len (same_name q) vars) (length vars) (ltb (position_or_len (same_name q) vars) (length vars)) refl (omega (arith, at, not_past vars q)) e ∙ at

pub rex-Var : (vars : List Var) (v : Var) → rex_of vars (E.Var v) ≡ R.Col (column_of vars v.name)
unfolding rex_of
rex-Var vars v = ap (rex_of vars) (sym (E.rolls-Var v)) ∙ fold-roll-Expr Rex (rex_step vars) (L.Var v)

pub rex-Lit : (vars : List Var) (v : Value) → rex_of vars (E.Lit v) ≡ R.Lit v
unfolding rex_of
rex-Lit vars v = ap (rex_of vars) (sym (E.rolls-Lit v)) ∙ fold-roll-Expr Rex (rex_step vars) (L.Lit v)

pub rex-Call : (vars : List Var) (f : Func) (args : List Expr) → rex_of vars (E.Call f args) ≡ R.Call f (map (rex_of vars) args)
unfolding rex_of
rex-Call vars f args = ap (rex_of vars) (sym (E.rolls-Call f args)) ∙ fold-roll-Expr Rex (rex_step vars) (L.Call f args)

pub ruleset rex_laws = (rex-Var, rex-Lit, rex-Call)

range_more : (a n : ℕ) → range_with_len a (n + 1) ≡ range_with_len a n ++ (a + n) ∷ []
range_more a zero = ap (λ k. k ∷ []) (omega arith)
range_more a (suc n) =
    let e : suc n + 1 ≡ suc (n + 1) = omega arith in
    ap (range_with_len a) e ∙ ap (λ xs. a ∷ xs) (range_more (a + 1) n ∙ ap (λ k. range_with_len (a + 1) n ++ k ∷ []) (omega arith))

-- one column more
pub columns_more : (n : ℕ) → range_with_len 0 (n + 1) ≡ range_with_len 0 n ++ n ∷ []
columns_more n = range_more 0 n ∙ ap (λ k. range_with_len 0 n ++ k ∷ []) (omega arith)
