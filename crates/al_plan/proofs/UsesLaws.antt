-- Names gathered one by one are those of the whole list, each once.
use Rattle.std.proofs.Common.{true, false, not, Bool, ◌≡◌, ℕ, List, [], ◌∷◌, ◌++◌, map, filter, cond, length, take, refl, ap, sym, ◌∙◌, subst, arith, append-nil, append_assoc, ◌+◌, ◌<◌, get_or, add-one}
use Rattle.std.proofs.Math.Seq.{take-suc}
use Rattle.std.proofs.lemmas.Grind.{flat_map-append}
use Rattle.std.specs.Prelude.{nat_eq, if◌then◌else◌, ◌&&◌, ◌||◌}
use Rattle.std.specs.List.{flat_map}
use Rattle.std.specs.Cmp.Lexicographic.{pointwise, same_text}
use Rattle.al_value.specs.declared.value.Value.{Value}
use Rattle.al_func.specs.declared.func.Func.{Func}
use Rattle.al_plan.specs.declared.expr.Var.{Var}
use Rattle.al_plan.specs.declared.expr.Expr.{Expr, fold-roll-Expr}
use Rattle.al_plan.specs.declared.expr.Expr.TheVariants as E
use Rattle.al_plan.specs.declared.expr.Expr.TheOpen as L
use Rattle.al_plan.specs.Eval.{Bytes}
use Rattle.al_plan.specs.Names.{names, names_step}
use Rattle.al_plan.specs.Uses.{firsts, named, with_name, with_names}
use Rattle.al_plan.specs.Allows.{is_among}

pub names-Var : (v : Var) → names (E.Var v) ≡ v.name ∷ []
unfolding names
names-Var v = ap names (sym (E.rolls-Var v)) ∙ fold-roll-Expr (List Bytes) names_step (L.Var v)

pub names-Lit : (v : Value) → names (E.Lit v) ≡ []
unfolding names
names-Lit v = ap names (sym (E.rolls-Lit v)) ∙ fold-roll-Expr (List Bytes) names_step (L.Lit v)

flat_map_of_map : (xs : List Expr) → flat_map (λ a. a) (map names xs) ≡ flat_map names xs
flat_map_of_map [] = refl
flat_map_of_map (x ∷ xs) = ap (λ ys. names x ++ ys) (flat_map_of_map xs)

pub names-Call : (f : Func) (args : List Expr) → names (E.Call f args) ≡ flat_map names args
unfolding names
names-Call f args = ap names (sym (E.rolls-Call f args)) ∙ fold-roll-Expr (List Bytes) names_step (L.Call f args) ∙ flat_map_of_map args

pub with_names_one : (seen : List Var) (q : Bytes) → with_names seen (q ∷ []) ≡ with_name seen q
unfolding with_names
with_names_one seen q = refl

pub with_names_none : (seen : List Var) → with_names seen [] ≡ seen
unfolding with_names
with_names_none seen = refl

pub ruleset gather_laws = (names-Var, names-Lit, names-Call, with_names_one, with_names_none)

pub with_names_append : (seen : List Var) (xs ys : List Bytes) → with_names seen (xs ++ ys) ≡ with_names (with_names seen xs) ys
unfolding with_names
with_names_append seen [] ys = refl
with_names_append seen (x ∷ xs) ys = with_names_append (with_name seen x) xs ys

flat_map_next : {X : Type 0} {Y : Type 0} (f : X → List Y) (xs : List X) (i : ℕ) (d : X) → i < length xs → flat_map f (take (i + 1) xs) ≡ flat_map f (take i xs) ++ f (get_or xs i d)
flat_map_next f xs i d h = rw (add-one, take-suc xs i d h, flat_map-append f (take i xs) (get_or xs i d ∷ [])) (ap (λ ys. flat_map f (take i xs) ++ ys) (append-nil (f (get_or xs i d))))

-- one argument more
pub with_names_next : (vars more next : List Var) (xs : List Expr) (i : ℕ) (d : Expr) → i < length xs → more ≡ with_names vars (flat_map names (take i xs)) → next ≡ with_names more (names (get_or xs i d))
    → next ≡ with_names vars (flat_map names (take (i + 1) xs))
with_names_next vars more next xs i d h m n =
    n ∙ ap (λ vs. with_names vs (names (get_or xs i d))) m ∙ sym (with_names_append vars (flat_map names (take i xs)) (names (get_or xs i d)))
    ∙ ap (with_names vars) (sym (flat_map_next names xs i d h))

-- a name that was not seen
abbrev pub is_new : List Var → Bytes → Bool
is_new seen q = not (is_among seen q)

step_both : {X : Type 0} (p r s : X → Bool) (x : X) (xs ys : List X) (a b : Bool) → r x ≡ a → p x ≡ b → s x ≡ (a && b) → filter p xs ≡ ys
    → filter p (cond a (x ∷ xs) xs) ≡ cond (s x) (x ∷ ys) ys
step_both p r s x xs ys true true e f g h = rw (g, f) (ap (λ zs. x ∷ zs) h)
step_both p r s x xs ys true false e f g h = rw (g, f) h
step_both p r s x xs ys false b e f g h = rw g h

-- two filters are one
pub filter_both : {X : Type 0} (p r s : X → Bool) → ((x : X) → s x ≡ (r x && p x)) → (xs : List X) → filter p (filter r xs) ≡ filter s xs
filter_both p r s same [] = refl
filter_both p r s same (x ∷ xs) = step_both p r s x (filter r xs) (filter s xs) (r x) (p x) refl refl (same x) (filter_both p r s same xs)

among_more : (seen : List Var) (q other : Bytes) → is_among (seen ++ named q ∷ []) other ≡ (is_among seen other || pointwise nat_eq q other)
among_more [] q other = grind arith
among_more (v ∷ seen) q other = grind (arith, among_more seen q other)

by_or : (a b : Bool) → not (a || b) ≡ (not b && not a)
by_or true true = refl
by_or true false = refl
by_or false true = refl
by_or false false = refl

-- what is new behind one more name
new_behind : (seen : List Var) (q other : Bytes) → is_new (seen ++ named q ∷ []) other ≡ (not (pointwise nat_eq q other) && is_new seen other)
new_behind seen q other = rw (among_more seen q other) (by_or (is_among seen other) (pointwise nat_eq q other))

-- a name that was seen is not new
old_hides : (seen : List Var) (q other : Bytes) → is_among seen q ≡ true → is_new seen other ≡ (not (pointwise nat_eq q other) && is_new seen other)
old_hides seen q other old = hidden (pointwise nat_eq q other) refl where
  hidden : (b : Bool) → pointwise nat_eq q other ≡ b → is_new seen other ≡ (not b && is_new seen other)
  hidden true same = ap not (subst (λ o. is_among seen o ≡ true) (same_text q other (sym same)) old)
  hidden false e = refl

with_first : (seen : List Var) (q : Bytes) (xs : List Bytes) (b : Bool) → is_among seen q ≡ b → filter (is_new seen) (q ∷ xs) ≡ cond (not b) (q ∷ filter (is_new seen) xs) (filter (is_new seen) xs)
with_first seen q xs b e = ap (λ c. cond (not c) (q ∷ filter (is_new seen) xs) (filter (is_new seen) xs)) e

with_name_by : (seen : List Var) (q : Bytes) (b : Bool) → is_among seen q ≡ b → with_name seen q ≡ (if b then seen else seen ++ named q ∷ [])
unfolding with_name
with_name_by seen q b e = ap (λ c. if c then seen else seen ++ named q ∷ []) e

gathered_old : (seen : List Var) (q : Bytes) (xs : List Bytes) → is_among seen q ≡ true → filter (is_new seen) (q ∷ filter (λ other. not (pointwise nat_eq q other)) xs) ≡ filter (is_new seen) xs
gathered_old seen q xs old =
    with_first seen q (filter (λ other. not (pointwise nat_eq q other)) xs) true old
    ∙ filter_both (is_new seen) (λ other. not (pointwise nat_eq q other)) (is_new seen) (λ other. old_hides seen q other old) xs

gathered_new : (seen : List Var) (q : Bytes) (xs : List Bytes) → is_among seen q ≡ false
    → filter (is_new seen) (q ∷ filter (λ other. not (pointwise nat_eq q other)) xs) ≡ q ∷ filter (is_new (seen ++ named q ∷ [])) xs
gathered_new seen q xs new =
    with_first seen q (filter (λ other. not (pointwise nat_eq q other)) xs) false new
    ∙ ap (λ ys. q ∷ ys) (filter_both (is_new seen) (λ other. not (pointwise nat_eq q other)) (is_new (seen ++ named q ∷ [])) (λ other. new_behind seen q other) xs)

-- one name more, where the claim holds of the others behind every gathering
gathered_by : (seen : List Var) (q : Bytes) (qs : List Bytes) (b : Bool) → is_among seen q ≡ b
    → ((vars : List Var) → with_names vars qs ≡ vars ++ map named (filter (is_new vars) (firsts qs)))
    → with_names (with_name seen q) qs ≡ seen ++ map named (filter (is_new seen) (q ∷ filter (λ other. not (pointwise nat_eq q other)) (firsts qs)))
gathered_by seen q qs true old others =
    ap (λ s. with_names s qs) (with_name_by seen q true old) ∙ others seen ∙ ap (λ xs. seen ++ map named xs) (sym (gathered_old seen q (firsts qs) old))
gathered_by seen q qs false new others =
    ap (λ s. with_names s qs) (with_name_by seen q false new) ∙ others (seen ++ named q ∷ [])
    ∙ append_assoc seen (named q ∷ []) (map named (filter (is_new (seen ++ named q ∷ [])) (firsts qs)))
    ∙ ap (λ xs. seen ++ map named xs) (sym (gathered_new seen q (firsts qs) new))

pub gathered : (seen : List Var) (qs : List Bytes) → with_names seen qs ≡ seen ++ map named (filter (is_new seen) (firsts qs))
unfolding with_names firsts
gathered seen [] = sym (append-nil seen)
gathered seen (q ∷ qs) = gathered_by seen q qs (is_among seen q) refl (λ vars. gathered vars qs)

all_new : (xs : List Bytes) → filter (is_new []) xs ≡ xs
all_new [] = refl
all_new (x ∷ xs) = ap (λ ys. x ∷ ys) (all_new xs)

pub gathered_all : (qs : List Bytes) → with_names [] qs ≡ map named (firsts qs)
gathered_all qs = gathered [] qs ∙ ap (map named) (all_new (firsts qs))
