-- How many conjuncts a condition has, with and without its first one of a property.
use Rattle.std.proofs.Common.{◌≡◌, ◌≢◌, ◌<◌, ◌≤◌, ◌+◌, ◌*◌, ℕ, suc, Bool, true, false, not, cond, List, [], ◌∷◌, ◌++◌, filter, length, refl, ap, sym, subst, ◌∙◌, arith}
use Rattle.std.specs.List.{AllByRecursion}
use Rattle.std.proofs.lemmas.List.{length-append}
use Rattle.std.proofs.lemmas.List.Elements.{filter-append}
use Rattle.al_value.specs.declared.value.Value.TheVariants as V
use Rattle.al_plan.specs.declared.expr.Expr.{Expr}
use Rattle.al_plan.specs.declared.expr.Expr.TheVariants as E
use Rattle.al_conj.specs.Conj.{IsLeaf, both, conj, all_of, is_literal_true, Splits}
use Rattle.al_conj.proofs.ConjLaws.{conj-both, conj-leaf, conj-leaves, conj-all_of, leaf_Lit}
use Rattle.al_conj.proofs.Literals.{literal-Lit}
use Rattle.al_conj.proofs.OverLaws.{without}

abbrev pub is_other : Expr → Bool
is_other e = not (is_literal_true e)

-- the conjuncts other than the literal true
abbrev pub others : List Expr → ℕ
others es = length (filter is_other es)

count-cons : (e : Expr) (es : List Expr) (b : Bool) → is_other e ≡ b → others (e ∷ es) ≡ cond b 1 0 + others es
count-cons e es true h = ap (λ b. length (cond b (e ∷ filter is_other es) (filter is_other es))) h ∙ omega arith
count-cons e es false h = ap (λ b. length (cond b (e ∷ filter is_other es) (filter is_other es))) h ∙ omega arith

count-append : (xs ys : List Expr) → others (xs ++ ys) ≡ others xs + others ys
count-append xs ys = ap length (filter-append is_other xs ys) ∙ length-append (filter is_other xs) (filter is_other ys)

length-taken : (xs ys : List Expr) (x : Expr) → length (xs ++ x ∷ ys) ≡ suc (length (xs ++ ys))
length-taken xs ys x = rw (length-append xs (x ∷ ys), length-append xs ys) (omega arith)

count-taken : (xs ys : List Expr) (x : Expr) (b : Bool) → is_other x ≡ b → others (xs ++ x ∷ ys) ≡ cond b 1 0 + others (xs ++ ys)
count-taken xs ys x b h =
    let a = count-append xs (x ∷ ys) in
    let c = count-append xs ys in
    let d = count-cons x ys b h in
    omega (arith, a, c, d)

-- the other conjuncts as one condition: they, or the literal true for none
rest_conj : (es : List Expr) → AllByRecursion IsLeaf es → (others (conj (all_of es)) ≡ others es) × (length (conj (all_of es)) ≤ suc (length es)) × (1 ≤ length es → conj (all_of es) ≡ es)
rest_conj [] h =
    let alone = conj-leaf (E.Lit (V.Bool true)) (leaf_Lit (V.Bool true)) in
    let none : is_other (E.Lit (V.Bool true)) ≡ false = ap not (literal-Lit (V.Bool true)) in (
      ap others alone ∙ count-cons (E.Lit (V.Bool true)) [] false none,
      subst (λ (zs : List Expr). length zs ≤ 1) (sym alone) (omega arith),
      λ k. absurd (omega arith),
    )
rest_conj (e ∷ es) h =
    let same = conj-all_of (e ∷ es) (λ k. cc) h in
    (ap others same, subst (λ (zs : List Expr). length zs ≤ suc (length (e ∷ es))) (sym same) (omega arith), λ k. same)

pub counts_taken : (has : Expr → Bool) (c first rest : Expr) → Splits has c first rest → is_other first ≡ true → (others (conj c) ≡ suc (others (conj rest))) × (length (conj rest) ≤ length (conj c))
counts_taken has c first rest (before, after, is_first, same) other =
    let leaves = subst (AllByRecursion IsLeaf) is_first.parts (conj-leaves c) in
    let left = rest_conj (before ++ after) (without IsLeaf before after first leaves).1 in
    let count = ap others is_first.parts ∙ count-taken before after first true other in
    let all = ap length is_first.parts ∙ length-taken before after first in
    let rest_count = ap (λ (z : Expr). others (conj z)) same ∙ left.0 in
    let rest_all = subst (λ (z : Expr). length (conj z) ≤ suc (length (before ++ after))) (sym same) left.1 in
    (omega (arith, count, rest_count), omega (arith, all, rest_all))

pub counts_dropped : (has : Expr → Bool) (c first rest : Expr) → Splits has c first rest → is_other first ≡ false → 2 ≤ length (conj c) → (others (conj rest) ≡ others (conj c)) × (length (conj c) ≡ suc (length (conj rest)))
counts_dropped has c first rest (before, after, is_first, same) other many =
    let leaves = subst (AllByRecursion IsLeaf) is_first.parts (conj-leaves c) in
    let left = rest_conj (before ++ after) (without IsLeaf before after first leaves).1 in
    let count = ap others is_first.parts ∙ count-taken before after first false other in
    let all = ap length is_first.parts ∙ length-taken before after first in
    let rest_is = ap conj same ∙ left.2 (omega (arith, all, many)) in
    let rest_count = ap others rest_is in
    let rest_all = ap length rest_is in
    (omega (arith, count, rest_count), omega (arith, all, rest_all))

pub counts_both : (c e : Expr) → IsLeaf e → (others (conj (both c e)) ≤ suc (others (conj c))) × (length (conj (both c e)) ≡ suc (length (conj c)))
counts_both c e leaf =
    let parts : conj (both c e) ≡ conj c ++ e ∷ [] = conj-both c e ∙ ap (λ es. conj c ++ es) (conj-leaf e leaf) in
    let count = ap others parts ∙ count-append (conj c) (e ∷ []) in
    let one : others (e ∷ []) ≤ 1 = at_most_one (is_other e) (count-cons e [] (is_other e) refl) in
    let all = ap length parts ∙ length-append (conj c) (e ∷ []) in
    (omega (arith, count, one), omega (arith, all))
  where
    at_most_one : (b : Bool) → others (e ∷ []) ≡ cond b 1 0 + 0 → others (e ∷ []) ≤ 1
    at_most_one true h = omega (arith, h)
    at_most_one false h = omega (arith, h)
