-- What `eval` gives at each layer of an expression.
use Rattle.std.proofs.Common.{true, false, ◌≡◌, ℕ, suc, ◌+◌, ◌<◌, ◌≤◌, ◌⊎◌, inl, inr, List, [], ◌∷◌, map, length, drop, get_or, refl, ap, sym, ◌∙◌, add-one, drop-cons}
use Rattle.std.proofs.lemmas.List.{drop_all}
use Rattle.std.specs.Prelude.{nat_eq, if◌then◌else◌}
use Rattle.std.specs.Cmp.Lexicographic.{pointwise}
use Rattle.al_value.specs.declared.value.Value.{Value}
use Rattle.al_value.specs.declared.value.Value.TheVariants as V
use Rattle.al_plan.specs.declared.expr.Var.{Var}
use Rattle.al_func.specs.declared.func.Func.{Func}
use Rattle.al_func.specs.Func.{apply}
use Rattle.al_plan.specs.declared.expr.Expr.{Expr, fold-roll-Expr}
use Rattle.al_plan.specs.declared.expr.Expr.TheVariants as E
use Rattle.al_plan.specs.declared.expr.Expr.TheOpen as L
use Rattle.al_plan.specs.Eval.{Bytes, Env, bind, eval, eval_step}

map-map_at : {X Y : Type 0} (f : X → Env → Y) (r : Env) (xs : List X) → map (λ g. g r) (map f xs) ≡ map (λ x. f x r) xs
map-map_at f r [] = refl
map-map_at f r (x ∷ xs) = ap (λ ys. f x r ∷ ys) (map-map_at f r xs)

pub eval-Var : (v : Var) (r : Env) → eval (E.Var v) r ≡ r v.name
unfolding eval
eval-Var v r = ap (λ (g : Env → Value). g r) (ap eval (sym (E.rolls-Var v)) ∙ fold-roll-Expr (Env → Value) eval_step (L.Var v))

pub eval-Lit : (v : Value) (r : Env) → eval (E.Lit v) r ≡ v
unfolding eval
eval-Lit v r = ap (λ (g : Env → Value). g r) (ap eval (sym (E.rolls-Lit v)) ∙ fold-roll-Expr (Env → Value) eval_step (L.Lit v))

pub eval-Call : (f : Func) (args : List Expr) (r : Env) → eval (E.Call f args) r ≡ apply f (map (λ a. eval a r) args)
unfolding eval
eval-Call f args r =
    let opened = ap eval (sym (E.rolls-Call f args)) ∙ fold-roll-Expr (Env → Value) eval_step (L.Call f args) in
    ap (λ (g : Env → Value). g r) opened ∙ ap (apply f) (map-map_at eval r args)

pub bind-nil : (vs : List Value) (q : Bytes) → bind [] vs q ≡ V.Null
unfolding bind
bind-nil vs q = refl

pub bind-short : (xs : List Var) (q : Bytes) → bind xs [] q ≡ V.Null
unfolding bind
bind-short [] q = refl
bind-short (x ∷ xs) q = refl

pub bind-cons : (x : Var) (xs : List Var) (v : Value) (vs : List Value) (q : Bytes) → bind (x ∷ xs) (v ∷ vs) q ≡ (if pointwise nat_eq x.name q then v else bind xs vs q)
unfolding bind
bind-cons x xs v vs q = refl

pub ruleset eval_laws = (eval-Var, eval-Lit, eval-Call)

-- a loop's step over both lists by one index
pub bind-at : (xs : List Var) (vs : List Value) (i : ℕ) (d : Var) (e : Value) (q : Bytes) → i < length xs → i < length vs
    → bind (drop i xs) (drop i vs) q ≡ (if pointwise nat_eq (get_or xs i d).name q then get_or vs i e else bind (drop (i + 1) xs) (drop (i + 1) vs) q)
bind-at xs vs i d e q h k = rw (add-one, drop-cons xs i d, drop-cons vs i e) (bind-cons (get_or xs i d) (drop (suc i) xs) (get_or vs i e) (drop (suc i) vs) q)

pub bind-past : (xs : List Var) (vs : List Value) (i : ℕ) (q : Bytes) → (length xs ≤ i) ⊎ (length vs ≤ i) → bind (drop i xs) (drop i vs) q ≡ V.Null
bind-past xs vs i q (inl h) = rw (drop_all i xs h) (bind-nil (drop i vs) q)
bind-past xs vs i q (inr h) = rw (drop_all i vs h) (bind-short (drop i xs) q)

pub bind-hit : (xs : List Var) (vs : List Value) (i : ℕ) (d : Var) (e : Value) (q : Bytes) → i < length xs → i < length vs → true ≡ pointwise nat_eq (get_or xs i d).name q → bind (drop i xs) (drop i vs) q ≡ get_or vs i e
bind-hit xs vs i d e q h k same = bind-at xs vs i d e q h k ∙ ap (λ b. if b then get_or vs i e else bind (drop (i + 1) xs) (drop (i + 1) vs) q) (sym same)

pub bind-miss : (xs : List Var) (vs : List Value) (i : ℕ) (d : Var) (e : Value) (q : Bytes) → i < length xs → i < length vs → false ≡ pointwise nat_eq (get_or xs i d).name q → bind (drop i xs) (drop i vs) q ≡ bind (drop (i + 1) xs) (drop (i + 1) vs) q
bind-miss xs vs i d e q h k other = bind-at xs vs i d e q h k ∙ ap (λ b. if b then get_or vs i e else bind (drop (i + 1) xs) (drop (i + 1) vs) q) (sym other)
