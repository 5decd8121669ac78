-- A condition taken apart into its first conjunct with a property and the others.
use Rattle.std.proofs.Common.{◌≡◌, Bool, true, false, ◌&&◌, List, [], ◌∷◌, ◌++◌, refl, ap, sym, subst, ◌∙◌}
use Rattle.std.specs.List.{AllByRecursion, flat_map, list_all}
use Rattle.al_plan.specs.declared.expr.Var.{Var}
use Rattle.al_plan.specs.declared.expr.Expr.{Expr}
use Rattle.al_plan.specs.Eval.{Bytes, Env, holds}
use Rattle.al_plan.specs.Names.{names, has_arities}
use Rattle.al_plan.specs.Refines.{IsOver, AreOver, AreAmong}
use Rattle.al_conj.specs.Conj.{conj, all_of, Splits}
use Rattle.al_conj.proofs.ConjLaws.{among_append, holds-conj, names-conj, arities-conj, holds-all_of, names-all_of, arities-all_of}

among_parts : (vars : List Var) (xs ys : List Bytes) → AreAmong vars (xs ++ ys) → AreAmong vars xs × AreAmong vars ys
among_parts vars [] ys h = (tt, h)
among_parts vars (x ∷ xs) ys h = let more = among_parts vars xs ys h.1 in ((h.0, more.0), more.1)

both_true : (a b : Bool) → (a && b) ≡ true → (a ≡ true) × (b ≡ true)
both_true true b h = (refl, h)
both_true false b h = absurd cc

over_each : (vars : List Var) (es : List Expr) → AreAmong vars (flat_map names es) → list_all has_arities es ≡ true → AreOver vars es
over_each vars [] reads arities = tt
over_each vars (e ∷ es) reads arities =
    let r = among_parts vars (names e) (flat_map names es) reads in
    let a = both_true (has_arities e) (list_all has_arities es) arities in
    (record { reads = r.0; arities = a.0 }, over_each vars es r.1 a.1)

names_over : (vars : List Var) (es : List Expr) → AreOver vars es → AreAmong vars (flat_map names es)
names_over vars [] h = tt
names_over vars (e ∷ es) h = among_append vars (names e) (flat_map names es) h.0.reads (names_over vars es h.1)

arities_over : (vars : List Var) (es : List Expr) → AreOver vars es → list_all has_arities es ≡ true
arities_over vars [] h = refl
arities_over vars (e ∷ es) h = λ i. h.0.arities i && arities_over vars es h.1 i

-- a condition over some variables has conjuncts over them
pub over_conj : (vars : List Var) (c : Expr) → IsOver vars c → AreOver vars (conj c)
over_conj vars c h = over_each vars (conj c) (subst (AreAmong vars) (sym (names-conj c)) h.reads) (arities-conj c ∙ h.arities)

-- and conjuncts over them make a condition over them
pub over_all_of : (vars : List Var) (es : List Expr) → AreOver vars es → IsOver vars (all_of es)
over_all_of vars es h = record { reads = subst (AreAmong vars) (sym (names-all_of es)) (names_over vars es h); arities = arities-all_of es ∙ arities_over vars es h }

pub without : {X : Type 0} (P : X → Type 0) (xs ys : List X) (x : X) → AllByRecursion P (xs ++ x ∷ ys) → P x × AllByRecursion P (xs ++ ys)
without P [] ys x h = h
without P (z ∷ xs) ys x h = let more = without P xs ys x h.1 in (more.0, (h.0, more.1))

pub splits_over : (vars : List Var) (has : Expr → Bool) (c first rest : Expr) → Splits has c first rest → IsOver vars c → IsOver vars first × IsOver vars rest
splits_over vars has c first rest (before, after, is_first, same) over =
    let parts = without (IsOver vars) before after first (subst (AreOver vars) is_first.parts (over_conj vars c over)) in
    (parts.0, subst (IsOver vars) (sym same) (over_all_of vars (before ++ after) parts.1))

swapped : (a b c : Bool) → (a && (b && c)) ≡ (b && (a && c))
swapped true b c = refl
swapped false true c = refl
swapped false false c = refl

list_all-taken : {X : Type 0} (p : X → Bool) (xs ys : List X) (x : X) → list_all p (xs ++ x ∷ ys) ≡ (p x && list_all p (xs ++ ys))
list_all-taken p [] ys x = refl
list_all-taken p (z ∷ xs) ys x = ap (λ b. p z && b) (list_all-taken p xs ys x) ∙ swapped (p z) (p x) (list_all p (xs ++ ys))

-- a condition is TRUE where both are
pub splits_holds : (has : Expr → Bool) (c first rest : Expr) → Splits has c first rest → (r : Env) → holds c r ≡ (holds first r && holds rest r)
splits_holds has c first rest (before, after, is_first, same) r =
    let true_of = λ (e : Expr). holds e r in
    holds-conj c r ∙ ap (list_all true_of) is_first.parts ∙ list_all-taken true_of before after first
    ∙ ap (λ b. holds first r && b) (sym (holds-all_of (before ++ after) r) ∙ ap true_of (sym same))
