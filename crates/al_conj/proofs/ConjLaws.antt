-- A condition is TRUE where all its conjuncts are, and reads what they read.
use Rattle.std.proofs.Common.{◌≡◌, ◌≢◌, ◌≤◌, suc, arith, Bool, true, false, ◌&&◌, List, [], ◌∷◌, ◌++◌, map, refl, ap, sym, subst, ◌∙◌, append-nil}
use Rattle.std.specs.Prelude.{nat_eq, length, ◌||◌}
use Rattle.std.specs.List.{list_all, list_any, flat_map, AllByRecursion}
use Rattle.std.proofs.lemmas.List.Folds.{list_all-append, list_any-append}
use Rattle.std.proofs.lemmas.Grind.{flat_map-append}
use Rattle.std.proofs.lemmas.List.{length-append}
use Rattle.al_value.specs.declared.value.Value.{Value}
use Rattle.al_value.specs.declared.value.Value.TheVariants as V
use Rattle.al_func.specs.declared.func.Func.{Func}
use Rattle.al_func.specs.declared.func.Func.TheVariants as F
use Rattle.al_func.specs.Func.{apply, is_true, and3, arity}
use Rattle.al_plan.specs.declared.expr.Var.{Var}
use Rattle.al_plan.specs.declared.expr.Expr.{Expr, roll-Expr, out-Expr, out-roll-Expr, map-Expr, fold-roll-Expr, ind-Expr}
use Rattle.al_plan.specs.declared.expr.Expr.TheVariants as E
use Rattle.al_plan.specs.declared.expr.Expr.TheOpen as L
use Rattle.al_plan.specs.Eval.{Bytes, Env, eval, holds}
use Rattle.al_plan.specs.Names.{names, has_arities, arities_step}
use Rattle.al_plan.specs.Refines.{IsOver, AreAmong}
use Rattle.al_plan.proofs.EvalLaws.{eval-Lit, eval-Call}
use Rattle.al_plan.proofs.UsesLaws.{names-Call, names-Lit}
use Rattle.al_conj.specs.Conj.{both, IsLeaf, leaves, conj_step, with_conj, conj, all_of}

-- ---- an `and` of two

true_both : (a b : Value) → is_true (and3 a b) ≡ (is_true a && is_true b)
true_both (V.Bool true) (V.Bool true) = refl
true_both (V.Bool true) (V.Bool false) = refl
true_both (V.Bool true) V.Null = refl
true_both (V.Bool true) (V.Int n) = refl
true_both (V.Bool true) (V.Text t) = refl
true_both (V.Bool false) (V.Bool b) = refl
true_both (V.Bool false) V.Null = refl
true_both (V.Bool false) (V.Int n) = refl
true_both (V.Bool false) (V.Text t) = refl
true_both V.Null (V.Bool true) = refl
true_both V.Null (V.Bool false) = refl
true_both V.Null V.Null = refl
true_both V.Null (V.Int n) = refl
true_both V.Null (V.Text t) = refl
true_both (V.Int m) (V.Bool true) = refl
true_both (V.Int m) (V.Bool false) = refl
true_both (V.Int m) V.Null = refl
true_both (V.Int m) (V.Int n) = refl
true_both (V.Int m) (V.Text t) = refl
true_both (V.Text s) (V.Bool true) = refl
true_both (V.Text s) (V.Bool false) = refl
true_both (V.Text s) V.Null = refl
true_both (V.Text s) (V.Int n) = refl
true_both (V.Text s) (V.Text t) = refl

pub holds-both : (c e : Expr) (r : Env) → holds (both c e) r ≡ (holds c r && holds e r)
unfolding apply
holds-both c e r = ap is_true (eval-Call F.And (c ∷ e ∷ []) r) ∙ true_both (eval c r) (eval e r)

pub names-both : (c e : Expr) → names (both c e) ≡ names c ++ names e
names-both c e = names-Call F.And (c ∷ e ∷ []) ∙ ap (λ zs. names c ++ zs) (append-nil (names e))

all_of_map : (xs : List Expr) → list_all (λ b. b) (map has_arities xs) ≡ list_all has_arities xs
all_of_map [] = refl
all_of_map (x ∷ xs) = ap (λ b. has_arities x && b) (all_of_map xs)

len_of_map : {X Y : Type 0} (f : X → Y) (xs : List X) → length (map f xs) ≡ length xs
len_of_map f [] = refl
len_of_map f (x ∷ xs) = ap suc (len_of_map f xs)

pub arities-Call : (f : Func) (args : List Expr) → has_arities (E.Call f args) ≡ (nat_eq (length args) (arity f) && list_all has_arities args)
unfolding has_arities
arities-Call f args = ap has_arities (sym (E.rolls-Call f args)) ∙ fold-roll-Expr Bool arities_step (L.Call f args)
    ∙ (λ i. nat_eq (len_of_map has_arities args i) (arity f) && all_of_map args i)

pub arities-Lit : (v : Value) → has_arities (E.Lit v) ≡ true
unfolding has_arities
arities-Lit v = ap has_arities (sym (E.rolls-Lit v)) ∙ fold-roll-Expr Bool arities_step (L.Lit v)

and_true : (b : Bool) → (b && true) ≡ b
and_true true = refl
and_true false = refl

pub arities-both : (c e : Expr) → has_arities (both c e) ≡ (has_arities c && has_arities e)
arities-both c e = arities-Call F.And (c ∷ e ∷ []) ∙ ap (λ b. has_arities c && b) (and_true (has_arities e))

pub among_append : (vars : List Var) (xs ys : List Bytes) → AreAmong vars xs → AreAmong vars ys → AreAmong vars (xs ++ ys)
among_append vars [] ys h g = g
among_append vars (x ∷ xs) ys h g = (h.0, among_append vars xs ys h.1 g)

pub over_both : (vars : List Var) (c e : Expr) → IsOver vars c → IsOver vars e → IsOver vars (both c e)
over_both vars c e h g = record {
  reads = subst (AreAmong vars) (sym (names-both c e)) (among_append vars (names c) (names e) h.reads g.reads);
  arities = arities-both c e ∙ (λ i. h.arities i && g.arities i);
}

-- ---- conjuncts

conj-roll : (x : L.Expr-F Expr) → with_conj (roll-Expr x) ≡ conj_step (map-Expr Expr (Expr × List Expr) with_conj x)
unfolding with_conj
conj-roll x = fold-roll-Expr (Expr × List Expr) conj_step x

pub conj-both : (a b : Expr) → conj (both a b) ≡ conj a ++ conj b
conj-both a b = ap (λ p. p.1) (ap with_conj (sym (E.rolls-Call F.And (a ∷ b ∷ []))) ∙ conj-roll (L.Call F.And (a ∷ b ∷ [])))

leaf_roll : (x : L.Expr-F Expr) → ((a b : Expr) → x ≡ L.Call F.And (a ∷ b ∷ []) → ⊥) → IsLeaf (roll-Expr x)
leaf_roll x other a b e = other a b (sym (out-roll-Expr x) ∙ ap out-Expr e ∙ ap out-Expr (sym (E.rolls-Call F.And (a ∷ b ∷ []))) ∙ out-roll-Expr (L.Call F.And (a ∷ b ∷ [])))

pub leaf_Var : (v : Var) → IsLeaf (E.Var v)
leaf_Var v = subst IsLeaf (E.rolls-Var v) (leaf_roll (L.Var v) (λ a b e. cc))

pub leaf_Lit : (v : Value) → IsLeaf (E.Lit v)
leaf_Lit v = subst IsLeaf (E.rolls-Lit v) (leaf_roll (L.Lit v) (λ a b e. cc))

pub leaf_Call : (f : Func) (args : List Expr) → ((a b : Expr) → L.Call f args ≡ L.Call F.And (a ∷ b ∷ []) → ⊥) → IsLeaf (E.Call f args)
leaf_Call f args other = subst IsLeaf (E.rolls-Call f args) (leaf_roll (L.Call f args) other)

-- what holds of leaves, and of an `and` where it holds of both sides, holds of each condition and its conjuncts
module _ (Holds : Expr → List Expr → Type 0)
    (alone : (e : Expr) → IsLeaf e → Holds e (e ∷ []))
    (paired : (a b : Expr) (cs ds : List Expr) → Holds a cs → Holds b ds → Holds (both a b) (cs ++ ds)) where
  abbrev HasConj : Expr → Type 0
  HasConj e = ((with_conj e).0 ≡ e) × Holds e (conj e)

  module _ {S : Type 0} (up : S → Expr) (ih : (s : S) → HasConj (up s)) where
    wholes : (xs : List S) → map (λ (a : Expr × List Expr). a.0) (map with_conj (map up xs)) ≡ map up xs
    wholes [] = refl
    wholes (x ∷ xs) = λ i. (ih x).0 i ∷ wholes xs i

    call_holds : (f : Func) (xs : List S) → Holds (E.Call f (map up xs)) (leaves f (E.Call f (map up xs)) (map with_conj (map up xs)))
    call_holds F.And [] = alone _ (leaf_Call F.And _ (λ a b e. cc))
    call_holds F.And (a ∷ []) = alone _ (leaf_Call F.And _ (λ a b e. cc))
    call_holds F.And (a ∷ b ∷ []) = paired (up a) (up b) (conj (up a)) (conj (up b)) (ih a).1 (ih b).1
    call_holds F.And (a ∷ b ∷ c ∷ xs) = alone _ (leaf_Call F.And _ (λ a b e. cc))
    call_holds f xs = alone _ (leaf_Call f _ (λ a b e. cc))

    at_roll : (x : L.Expr-F Expr) (e : Expr) (es : List Expr) → roll-Expr x ≡ e → conj_step (map-Expr Expr (Expr × List Expr) with_conj x) ≡ (e, es) → Holds e es → HasConj (roll-Expr x)
    at_roll x e es rolls step h = subst HasConj (sym rolls) (
      ap (λ p. p.0) (ap with_conj (sym rolls) ∙ conj-roll x ∙ step),
      subst (Holds e) (sym (ap (λ p. p.1) (ap with_conj (sym rolls) ∙ conj-roll x ∙ step))) h,
    )

    layer : (y : L.Expr-F S) → HasConj (roll-Expr (map-Expr S Expr up y))
    layer (L.Var v) = at_roll (L.Var v) (E.Var v) (E.Var v ∷ []) (E.rolls-Var v) refl (alone (E.Var v) (leaf_Var v))
    layer (L.Lit v) = at_roll (L.Lit v) (E.Lit v) (E.Lit v ∷ []) (E.rolls-Lit v) refl (alone (E.Lit v) (leaf_Lit v))
    layer (L.Call f xs) = at_roll (L.Call f (map up xs)) (E.Call f (map up xs)) _ (E.rolls-Call f (map up xs))
        (ap (λ es. (E.Call f es, leaves f (E.Call f es) (map with_conj (map up xs)))) (wholes xs)) (call_holds f xs)

  has_conj : (e : Expr) → HasConj e
  has_conj = ind-Expr HasConj (λ x y e. subst (λ (z : L.Expr-F Expr). HasConj (roll-Expr z)) e (layer (λ s. s.0) (λ s. s.1) y))

  pub by_conj : (e : Expr) → Holds e (conj e)
  by_conj e = (has_conj e).1

all_append : {X : Type 0} (P : X → Type 0) (xs ys : List X) → AllByRecursion P xs → AllByRecursion P ys → AllByRecursion P (xs ++ ys)
all_append P [] ys h g = g
all_append P (x ∷ xs) ys h g = (h.0, all_append P xs ys h.1 g)

pub conj-leaf : (e : Expr) → IsLeaf e → conj e ≡ e ∷ []
conj-leaf = by_conj (λ e es. IsLeaf e → es ≡ e ∷ []) (λ e leaf again. refl) (λ a b cs ds h g leaf. absurd (leaf a b refl))

pub conj-leaves : (e : Expr) → AllByRecursion IsLeaf (conj e)
conj-leaves = by_conj (λ e es. AllByRecursion IsLeaf es) (λ e leaf. (leaf, tt)) (λ a b cs ds h g. all_append IsLeaf cs ds h g)

pub holds-conj : (e : Expr) (r : Env) → holds e r ≡ list_all (λ c. holds c r) (conj e)
holds-conj = by_conj (λ e es. (r : Env) → holds e r ≡ list_all (λ c. holds c r) es) (λ e leaf r. sym (and_true (holds e r)))
    (λ a b cs ds h g r. holds-both a b r ∙ (λ i. h r i && g r i) ∙ sym (list_all-append (λ c. holds c r) cs ds))

pub names-conj : (e : Expr) → flat_map names (conj e) ≡ names e
names-conj = by_conj (λ e es. flat_map names es ≡ names e) (λ e leaf. append-nil (names e))
    (λ a b cs ds h g. flat_map-append names cs ds ∙ (λ i. h i ++ g i) ∙ sym (names-both a b))

pub arities-conj : (e : Expr) → list_all has_arities (conj e) ≡ has_arities e
arities-conj = by_conj (λ e es. list_all has_arities es ≡ has_arities e) (λ e leaf. and_true (has_arities e))
    (λ a b cs ds h g. list_all-append has_arities cs ds ∙ (λ i. h i && g i) ∙ sym (arities-both a b))

-- ---- conjuncts as one condition

pub holds-all_of : (es : List Expr) (r : Env) → holds (all_of es) r ≡ list_all (λ e. holds e r) es
holds-all_of [] r = ap is_true (eval-Lit (V.Bool true) r)
holds-all_of (e ∷ []) r = sym (and_true (holds e r))
holds-all_of (e ∷ d ∷ es) r = holds-both e (all_of (d ∷ es)) r ∙ ap (λ b. holds e r && b) (holds-all_of (d ∷ es) r)

pub names-all_of : (es : List Expr) → names (all_of es) ≡ flat_map names es
names-all_of [] = names-Lit (V.Bool true)
names-all_of (e ∷ []) = sym (append-nil (names e))
names-all_of (e ∷ d ∷ es) = names-both e (all_of (d ∷ es)) ∙ ap (λ zs. names e ++ zs) (names-all_of (d ∷ es))

pub arities-all_of : (es : List Expr) → has_arities (all_of es) ≡ list_all has_arities es
arities-all_of [] = arities-Lit (V.Bool true)
arities-all_of (e ∷ []) = sym (and_true (has_arities e))
arities-all_of (e ∷ d ∷ es) = arities-both e (all_of (d ∷ es)) ∙ ap (λ b. has_arities e && b) (arities-all_of (d ∷ es))

pub conj-all_of : (es : List Expr) → es ≢ [] → AllByRecursion IsLeaf es → conj (all_of es) ≡ es
conj-all_of [] some h = absurd (some refl)
conj-all_of (e ∷ []) some h = conj-leaf e h.0
conj-all_of (e ∷ d ∷ es) some h = conj-both e (all_of (d ∷ es)) ∙ (λ i. conj-leaf e h.0 i ++ conj-all_of (d ∷ es) (λ k. cc) h.1 i)

-- ---- what the code says of the two sides of an `and`

pub conj_sides : (e a b : Expr) → e ≡ both a b → conj e ≡ conj a ++ conj b
conj_sides e a b same = ap conj same ∙ conj-both a b

pub has_sides : (has : Expr → Bool) (e a b : Expr) → e ≡ both a b → list_any has (conj e) ≡ (list_any has (conj a) || list_any has (conj b))
has_sides has e a b same = ap (list_any has) (conj_sides e a b same) ∙ list_any-append has (conj a) (conj b)

or_false : (b : Bool) → (b || false) ≡ b
or_false true = refl
or_false false = refl

pub has_leaf : (has : Expr → Bool) (e : Expr) → IsLeaf e → list_any has (conj e) ≡ has e
has_leaf has e leaf = ap (list_any has) (conj-leaf e leaf) ∙ or_false (has e)

pub conj_some : (e : Expr) → 1 ≤ length (conj e)
conj_some = by_conj (λ e es. 1 ≤ length es) (λ e leaf. omega arith) (λ a b cs ds h g. rw length-append (omega arith))

pub many_sides : (e a b : Expr) → e ≡ both a b → 2 ≤ length (conj e)
many_sides e a b same = rw (conj_sides e a b same, length-append) (omega (arith, conj_some a, conj_some b))

pub one_leaf : (e : Expr) → IsLeaf e → 2 ≤ length (conj e) → ⊥
one_leaf e leaf h = let k : 2 ≤ length (e ∷ []) = subst (λ (es : List Expr). 2 ≤ length es) (conj-leaf e leaf) h in omega arith

pub all_of_step : (es : List Expr) (d whole : Expr) → all_of (es ++ both d whole ∷ []) ≡ all_of (es ++ d ∷ whole ∷ [])
all_of_step [] d whole = refl
all_of_step (e ∷ []) d whole = refl
all_of_step (e ∷ c ∷ es) d whole = ap (both e) (all_of_step (c ∷ es) d whole)

pub ruleset conj_laws = (conj_sides, conj-leaf)
