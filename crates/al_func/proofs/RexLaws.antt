-- What `eval_rex` and `is_sound` give at each layer of an expression.
use Rattle.std.proofs.Common.{ℕ, suc, ◌<◌, true, false, Bool, ◌≡◌, List, [], ◌∷◌, map, length, refl, ap, sym, ◌∙◌}
use Rattle.std.specs.Prelude.{IsTrue, nat_eq, nat_lt, ◌&&◌, slice_index_or}
use Rattle.std.specs.List.{list_all}
use Rattle.std.proofs.lemmas.Bool.{eqb-true, ltb-true}
use Rattle.al_value.specs.declared.value.Value.{Value}
use Rattle.al_value.specs.declared.value.Value.TheVariants as V
use Rattle.al_func.specs.declared.func.Func.{Func}
use Rattle.al_func.specs.declared.rex.Rex.{Rex, fold-roll-Rex}
use Rattle.al_func.specs.declared.rex.Rex.TheVariants as R
use Rattle.al_func.specs.declared.rex.Rex.TheOpen as L
use Rattle.al_func.specs.Func.{apply, arity}
use Rattle.al_func.specs.Rex.{eval_rex, eval_step, IsSound, is_sound, sound_step}

map-map_at : {X : Type 0} (f : X → List Value → Value) (row : List Value) (xs : List X) → map (λ g. g row) (map f xs) ≡ map (λ x. f x row) xs
map-map_at f row [] = refl
map-map_at f row (x ∷ xs) = ap (λ ys. f x row ∷ ys) (map-map_at f row xs)

pub eval_rex-Col : (j : ℕ) (row : List Value) → eval_rex (R.Col j) row ≡ slice_index_or row j V.Null
unfolding eval_rex
eval_rex-Col j row = ap (λ (g : List Value → Value). g row) (ap eval_rex (sym (R.rolls-Col j)) ∙ fold-roll-Rex (List Value → Value) eval_step (L.Col j))

pub eval_rex-Lit : (v : Value) (row : List Value) → eval_rex (R.Lit v) row ≡ v
unfolding eval_rex
eval_rex-Lit v row = ap (λ (g : List Value → Value). g row) (ap eval_rex (sym (R.rolls-Lit v)) ∙ fold-roll-Rex (List Value → Value) eval_step (L.Lit v))

pub eval_rex-Call : (f : Func) (args : List Rex) (row : List Value) → eval_rex (R.Call f args) row ≡ apply f (map (λ e. eval_rex e row) args)
unfolding eval_rex
eval_rex-Call f args row =
    let opened = ap eval_rex (sym (R.rolls-Call f args)) ∙ fold-roll-Rex (List Value → Value) eval_step (L.Call f args) in
    ap (λ (g : List Value → Value). g row) opened ∙ ap (apply f) (map-map_at eval_rex row args)

pub ruleset eval_rex_laws = (eval_rex-Col, eval_rex-Lit, eval_rex-Call)

list_all-map : {X : Type 0} (p : X → Bool) (xs : List X) → list_all (λ b. b) (map p xs) ≡ list_all p xs
list_all-map p [] = refl
list_all-map p (x ∷ xs) = ap (λ b. p x && b) (list_all-map p xs)

length-mapped : {X Y : Type 0} (f : X → Y) (xs : List X) → length (map f xs) ≡ length xs
length-mapped f [] = refl
length-mapped f (x ∷ xs) = ap suc (length-mapped f xs)

pub is_sound-Col : (width j : ℕ) → is_sound width (R.Col j) ≡ nat_lt j width
unfolding is_sound
is_sound-Col width j = ap (is_sound width) (sym (R.rolls-Col j)) ∙ fold-roll-Rex Bool (sound_step width) (L.Col j)

pub is_sound-Lit : (width : ℕ) (v : Value) → is_sound width (R.Lit v) ≡ true
unfolding is_sound
is_sound-Lit width v = ap (is_sound width) (sym (R.rolls-Lit v)) ∙ fold-roll-Rex Bool (sound_step width) (L.Lit v)

pub is_sound-Call : (width : ℕ) (f : Func) (args : List Rex) → is_sound width (R.Call f args) ≡ (nat_eq (length args) (arity f) && list_all (is_sound width) args)
unfolding is_sound
is_sound-Call width f args =
    let opened = ap (is_sound width) (sym (R.rolls-Call f args)) ∙ fold-roll-Rex Bool (sound_step width) (L.Call f args) in
    opened ∙ ap (λ n. nat_eq n (arity f) && list_all (λ b. b) (map (is_sound width) args)) (length-mapped (is_sound width) args)
    ∙ ap (λ b. nat_eq (length args) (arity f) && b) (list_all-map (is_sound width) args)

pub ruleset is_sound_laws = (is_sound-Col, is_sound-Lit, is_sound-Call)

both : (a b : Bool) → (a && b) ≡ true → (a ≡ true) × (b ≡ true)
both true b h = (refl, h)
both false b h = cc

-- a sound column is below the width
pub column_below : (width j : ℕ) (e : Rex) → e ≡ R.Col j → IsSound width e → j < width
column_below width j e is h = ltb-true j width (sym (is_sound-Col width j) ∙ ap (is_sound width) (sym is) ∙ h)

-- a sound call has as many arguments as its function takes, and they are sound
pub call_parts : (width : ℕ) (f : Func) (args : List Rex) (e : Rex) → e ≡ R.Call f args → IsSound width e → (length args ≡ arity f) × IsTrue (list_all (is_sound width) args)
call_parts width f args e is h =
    let parts = both (nat_eq (length args) (arity f)) (list_all (is_sound width) args) (sym (is_sound-Call width f args) ∙ ap (is_sound width) (sym is) ∙ h) in
    (eqb-true (length args) (arity f) parts.0, parts.1)
