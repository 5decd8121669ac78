-- A comparison with a NULL is not TRUE.
use Rattle.std.proofs.Common.{◌≡◌, Bool, true, false, ◌&&◌, List, [], ◌∷◌, map, refl, ap, sym, ◌∙◌}
use Rattle.std.specs.Prelude.{if◌then◌else◌, ◌||◌}
use Rattle.std.specs.List.{list_any}
use Rattle.al_value.specs.declared.value.Value.{Value}
use Rattle.al_value.specs.declared.value.Value.TheVariants as V
use Rattle.al_func.specs.declared.func.Func.{Func}
use Rattle.al_func.specs.declared.func.Func.TheVariants as F
use Rattle.al_func.specs.Func.{apply, is_true, equal, less, at_most}
use Rattle.al_plan.proofs.Bools.{no}
use Rattle.al_plan.specs.declared.expr.Var.{Var}
use Rattle.al_plan.specs.declared.expr.Expr.{Expr}
use Rattle.al_plan.specs.declared.plan.Plan.{Plan}
use Rattle.al_plan.specs.Eval.{Env, eval, holds}
use Rattle.al_plan.specs.Allows.{live, beside, nulls}
use Rattle.al_plan.proofs.EvalLaws.{eval-Var, eval-Call}
use Rattle.al_plan.proofs.Makes.{Disjoint}
use Rattle.al_conj.proofs.Literals.{expr_cases}
use Rattle.al_rules_join.specs.JoinRules.{compares, is_comparison, is_variable_of}
use Rattle.al_rules_join.specs.ConditionLaws.{variable-Var, variable-Lit, variable-Call, compares-Var, compares-Lit, compares-Call}

both_true : (a b : Bool) → (a && b) ≡ true → (a ≡ true) × (b ≡ true)
both_true true b h = (refl, h)
both_true false b h = absurd (no (sym h))

-- a variable of the right input is NULL of a left row that is alone
variable_null : (p : Plan) (xs : List Var) → Disjoint (live p []) xs → (a : Env) (e : Expr) → is_variable_of p e ≡ true → eval e (beside xs a nulls) ≡ V.Null
variable_null p xs apart a = expr_cases (λ e. is_variable_of p e ≡ true → eval e (beside xs a nulls) ≡ V.Null)
    (λ v h. eval-Var v (beside xs a nulls) ∙ ap (λ t. if t then a v.name else V.Null) (apart v.name (sym (variable-Var p v) ∙ h)))
    (λ v h. absurd (no (sym (sym (variable-Lit p v) ∙ h))))
    (λ f args h. absurd (no (sym (sym (variable-Call p f args) ∙ h))))

equal_left : (w : Value) → is_true (equal V.Null w) ≡ false
equal_left w = refl

equal_right : (w : Value) → is_true (equal w V.Null) ≡ false
equal_right V.Null = refl
equal_right (V.Bool b) = refl
equal_right (V.Int n) = refl
equal_right (V.Text t) = refl

less_left : (w : Value) → is_true (less V.Null w) ≡ false
less_left w = refl

less_right : (w : Value) → is_true (less w V.Null) ≡ false
less_right V.Null = refl
less_right (V.Bool b) = refl
less_right (V.Int n) = refl
less_right (V.Text t) = refl

at_most_left : (w : Value) → is_true (at_most V.Null w) ≡ false
at_most_left w = refl

at_most_right : (w : Value) → is_true (at_most w V.Null) ≡ false
at_most_right V.Null = refl
at_most_right (V.Bool b) = refl
at_most_right (V.Int n) = refl
at_most_right (V.Text t) = refl

-- one of two arguments is NULL
either_null : (test : Expr → Bool) (value : Expr → Value) (of : Value → Value → Bool)
    → ((w : Value) → of V.Null w ≡ false) → ((w : Value) → of w V.Null ≡ false) → ((e : Expr) → test e ≡ true → value e ≡ V.Null)
    → (a b : Expr) → list_any test (a ∷ b ∷ []) ≡ true → of (value a) (value b) ≡ false
either_null test value of on_left on_right null a b h = go (test a) (test b) refl refl h
  where
    go : (s t : Bool) → test a ≡ s → test b ≡ t → (s || (t || false)) ≡ true → of (value a) (value b) ≡ false
    go true t at_a at_b k = ap (λ x. of x (value b)) (null a at_a) ∙ on_left (value b)
    go false true at_a at_b k = ap (of (value a)) (null b at_b) ∙ on_right (value a)
    go false false at_a at_b k = absurd (no (sym k))

-- a comparison with an argument that is NULL
call_fails : (test : Expr → Bool) (r : Env) → ((e : Expr) → test e ≡ true → eval e r ≡ V.Null) → (f : Func) (args : List Expr) → is_comparison f ≡ true → list_any test args ≡ true → is_true (apply f (map (λ e. eval e r) args)) ≡ false
unfolding apply
call_fails test r null F.Eq (a ∷ b ∷ []) c some = either_null test (λ e. eval e r) (λ x y. is_true (equal x y)) equal_left equal_right null a b some
call_fails test r null F.Lt (a ∷ b ∷ []) c some = either_null test (λ e. eval e r) (λ x y. is_true (less x y)) less_left less_right null a b some
call_fails test r null F.Le (a ∷ b ∷ []) c some = either_null test (λ e. eval e r) (λ x y. is_true (at_most x y)) at_most_left at_most_right null a b some
call_fails test r null F.Eq args c some = refl
call_fails test r null F.Lt args c some = refl
call_fails test r null F.Le args c some = refl
call_fails test r null f args c some = absurd (no (sym c))

-- so what compares a variable of the right input is not TRUE of a left row that is alone
pub compares_fails : (p : Plan) (e : Expr) (xs : List Var) → compares p e ≡ true → Disjoint (live p []) xs → (a : Env) → holds e (beside xs a nulls) ≡ false
compares_fails p e xs compared apart a = expr_cases (λ e. compares p e ≡ true → holds e (beside xs a nulls) ≡ false)
    (λ v h. absurd (no (sym (sym (compares-Var p v) ∙ h))))
    (λ v h. absurd (no (sym (sym (compares-Lit p v) ∙ h))))
    (λ f args h.
    let parts = both_true (is_comparison f) (list_any (is_variable_of p) args) (sym (compares-Call p f args) ∙ h) in
    ap is_true (eval-Call f args (beside xs a nulls)) ∙ call_fails (is_variable_of p) (beside xs a nulls) (variable_null p xs apart a) f args parts.0 parts.1)
    e compared
