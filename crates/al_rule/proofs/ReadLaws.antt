-- An expression reads its own variables alone.
use Rattle.std.proofs.Common.{◌≡◌, List, [], ◌∷◌, ◌++◌, map, refl, ap, sym, subst, ◌∙◌}
use Rattle.std.specs.List.{AllByRecursion, flat_map}
use Rattle.al_value.specs.declared.value.Value.{Value}
use Rattle.al_plan.specs.declared.expr.Expr.{Expr, roll-Expr, map-Expr, fold-roll-Expr, ind-Expr}
use Rattle.al_plan.specs.declared.expr.Expr.TheOpen as L
use Rattle.al_plan.specs.Eval.{Bytes, Env, eval, eval_step}
use Rattle.al_plan.specs.Names.{names, names_step}
use Rattle.al_func.specs.Func.{apply}

abbrev Agree : List Bytes → Env → Env → Type 0
Agree qs r s = AllByRecursion (λ q. r q ≡ s q) qs

abbrev Keeps : Expr → Type 0
Keeps e = (r s : Env) → Agree (names e) r s → eval e r ≡ eval e s

eval-roll : (x : L.Expr-F Expr) (r : Env) → eval (roll-Expr x) r ≡ eval_step (map-Expr Expr (Env → Value) eval x) r
unfolding eval
eval-roll x r = ap (λ (g : Env → Value). g r) (fold-roll-Expr (Env → Value) eval_step x)

names-roll : (x : L.Expr-F Expr) → names (roll-Expr x) ≡ names_step (map-Expr Expr (List Bytes) names x)
unfolding names
names-roll x = fold-roll-Expr (List Bytes) names_step x

parts : (xs ys : List Bytes) (r s : Env) → Agree (xs ++ ys) r s → Agree xs r s × Agree ys r s
parts [] ys r s h = (tt, h)
parts (x ∷ xs) ys r s h = let more = parts xs ys r s h.1 in ((h.0, more.0), more.1)

args_keep : {S : Type 0} (v : S → Expr) → ((s : S) → Keeps (v s)) → (xs : List S) (r s : Env) → Agree (flat_map (λ a. a) (map names (map v xs))) r s → map (λ a. a r) (map eval (map v xs)) ≡ map (λ a. a s) (map eval (map v xs))
args_keep v k [] r s h = refl
args_keep v k (x ∷ xs) r s h =
    let both = parts (names (v x)) (flat_map (λ a. a) (map names (map v xs))) r s h in
    λ i. k x r s both.0 i ∷ args_keep v k xs r s both.1 i

layer_keeps : {S : Type 0} (v : S → Expr) → ((s : S) → Keeps (v s)) → (y : L.Expr-F S) → Keeps (roll-Expr (map-Expr S Expr v y))
layer_keeps v k (L.Var x) r s h = eval-roll (L.Var x) r ∙ (subst (λ (qs : List Bytes). Agree qs r s) (names-roll (L.Var x)) h).0 ∙ sym (eval-roll (L.Var x) s)
layer_keeps v k (L.Lit x) r s h = eval-roll (L.Lit x) r ∙ sym (eval-roll (L.Lit x) s)
layer_keeps v k (L.Call f args) r s h =
    eval-roll (L.Call f (map v args)) r ∙ ap (apply f) (args_keep v k args r s (subst (λ (qs : List Bytes). Agree qs r s) (names-roll (L.Call f (map v args))) h)) ∙ sym (eval-roll (L.Call f (map v args)) s)

pub eval-names : (e : Expr) → Keeps e
eval-names = ind-Expr Keeps (λ x y e. subst (λ (z : L.Expr-F Expr). Keeps (roll-Expr z)) e (layer_keeps (λ p. p.0) (λ p. p.1) y))
