-- Parts with a property serve each need that the property meets.
use Rattle.std.proofs.Common.{◌≡◌, ◌<◌, ◌%◌, ℕ, zero, suc, true, ◌||◌, List, [], ◌∷◌, drop, length, get_or, refl, ap, sym, subst, ◌∙◌, arith, nat_eq, mod-lt}
use Rattle.std.specs.List.{All, AllPairs, Contains}
use Rattle.std.specs.List.Sorted.{IsPermutation}
use Rattle.std.proofs.lemmas.List.{get_or_default}
use Rattle.std.proofs.lemmas.List.Elements.{All-contains, All-nil, All-from_recursion}
use Rattle.std.proofs.lemmas.List.Sorted.{IsPermutation-refl}
use Rattle.al_plan.specs.declared.expr.Var.{Var}
use Rattle.al_plan.specs.Eval.{Env}
use Rattle.al_plan.specs.Accept.{are_among}
use Rattle.al_plan.proofs.Bools.{no, by_cases}
use Rattle.al_phys.specs.declared.property.Partitioning.{Partitioning}
use Rattle.al_phys.specs.declared.property.Partitioning.TheVariants as D
use Rattle.al_phys.specs.declared.property.Need.{Need}
use Rattle.al_phys.specs.declared.property.Need.TheVariants as N
use Rattle.al_phys.specs.Partition.{partition_of}
use Rattle.al_phys.specs.Parts.{Parts, HasEach, HasParts, Serves, AreApart, part_of, values_at}
use Rattle.al_phys.specs.Properties.{fits, meets}
use Rattle.al_phys.proofs.ValueLaws.{live_from, same_vars, values_same}

part_same : (n : ℕ) (vars : List Var) (r s : Env) → values_at vars r ≡ values_at vars s → part_of n vars r ≡ part_of n vars s
part_same n vars r s e = ap (partition_of n) e

-- the part of this number, at another default
at_default : (P : List Env → Type 0) (parts : Parts) (j : ℕ) (d : List Env) → j < length parts → P (get_or parts j []) → P (get_or parts j d)
at_default P parts j d lt h = subst P (get_or_default parts j [] d lt) h

later_empty : (parts : Parts) (j : ℕ) (d : List Env) → All (λ rows. rows ≡ []) (drop 1 parts) → 0 < j → j < length parts → get_or parts j d ≡ []
later_empty [] j d h low high = absurd (omega arith)
later_empty (rows ∷ parts) zero d h low high = absurd (omega arith)
later_empty (rows ∷ parts) (suc j) d h low high = h j d (omega arith)

none_in : {X : Type 0} (xs : List X) (x : X) → xs ≡ [] → Contains xs x → ⊥
none_in [] x e h = omega (arith, h.1)
none_in (y ∷ ys) x e h = absurd (grind (arith, e))

apart_one : (vars : List Var) (parts : Parts) → All (λ rows. rows ≡ []) (drop 1 parts) → AllPairs (AreApart vars) parts
apart_one vars parts h i j d low high r s left right e = none_in (get_or parts j d) s (later_empty parts j d h (omega arith) high) right

-- the rows of different parts have different hashes, so different values
apart_hash : (vars ws : List Var) (parts : Parts) → are_among vars ws ≡ true → HasEach (length parts) (λ j rows. All (λ r. part_of (length parts) ws r ≡ j) rows) parts → AllPairs (AreApart vars) parts
apart_hash vars ws parts among h i j d low high r s left right e =
    let n = length parts in
    let first : part_of n ws r ≡ i = All-contains (λ (t : Env). part_of n ws t ≡ i) (get_or parts i d) r (at_default (All (λ (t : Env). part_of n ws t ≡ i)) parts i d (omega arith) (h.each i (omega arith))) left in
    let second : part_of n ws s ≡ j = All-contains (λ (t : Env). part_of n ws t ≡ j) (get_or parts j d) s (at_default (All (λ (t : Env). part_of n ws t ≡ j)) parts j d high (h.each j high)) right in
    let same : part_of n ws r ≡ part_of n ws s = part_same n ws r s (values_same vars ws r s (live_from vars ws among) e) in
    let equal : i ≡ j = sym first ∙ same ∙ second in
    omega (arith, equal, low)

-- ---- one partition

mod_one : (x : ℕ) → x % 1 ≡ 0
mod_one x = omega (arith, mod-lt x {m = 1} (omega arith))

pub one_serves : (need : Need) (parts : Parts) → length parts ≡ 1 → Serves need parts
unfolding Serves
one_serves N.Any parts one = tt
one_serves N.One [] one = absurd (omega arith)
one_serves N.One (rows ∷ []) one = All-nil _
one_serves N.One (rows ∷ more ∷ parts) one = absurd (omega arith)
one_serves (N.Keyed vars) parts one = λ i j d low high. absurd (omega arith)
one_serves (N.Exactly vars) parts one = record {
  count = refl;
  each = λ j lt k d within. ap (λ n. part_of n vars (get_or (get_or parts j []) k d)) one ∙ mod_one _ ∙ omega arith;
}
one_serves N.All [] one = absurd (omega arith)
one_serves N.All (rows ∷ []) one = All-from_recursion (λ xs. All (IsPermutation xs) (rows ∷ [])) (rows ∷ []) (All-from_recursion (IsPermutation rows) (rows ∷ []) (IsPermutation-refl rows, tt), tt)
one_serves N.All (rows ∷ more ∷ parts) one = absurd (omega arith)

-- ---- more partitions

pub fit_serves : (d : Partitioning) (need : Need) (parts : Parts) → fits d need ≡ true → HasParts d parts → Serves need parts
unfolding HasParts Serves
fit_serves d N.Any parts fit h = tt
fit_serves D.Unpartitioned N.One parts fit h = h
fit_serves (D.Hash ws) N.One parts fit h = absurd (no (sym fit))
fit_serves D.Broadcast N.One parts fit h = absurd (no (sym fit))
fit_serves D.Random N.One parts fit h = absurd (no (sym fit))
fit_serves D.Unpartitioned (N.Keyed vars) parts fit h = apart_one vars parts h
fit_serves (D.Hash ws) (N.Keyed vars) parts fit h = apart_hash vars ws parts fit h
fit_serves D.Broadcast (N.Keyed vars) parts fit h = absurd (no (sym fit))
fit_serves D.Random (N.Keyed vars) parts fit h = absurd (no (sym fit))
fit_serves D.Unpartitioned (N.Exactly vars) parts fit h = absurd (no (sym fit))
fit_serves (D.Hash ws) (N.Exactly vars) parts fit h =
    subst (λ (vs : List Var). HasEach (length parts) (λ j rows. All (λ r. part_of (length parts) vs r ≡ j) rows) parts) (same_vars ws vars fit) h
fit_serves D.Broadcast (N.Exactly vars) parts fit h = absurd (no (sym fit))
fit_serves D.Random (N.Exactly vars) parts fit h = absurd (no (sym fit))
fit_serves D.Unpartitioned N.All parts fit h = absurd (no (sym fit))
fit_serves (D.Hash ws) N.All parts fit h = absurd (no (sym fit))
fit_serves D.Broadcast N.All parts fit h = h
fit_serves D.Random N.All parts fit h = absurd (no (sym fit))

pub is_one : (n : ℕ) → nat_eq n 1 ≡ true → n ≡ 1
is_one n e = grind arith

pub met_serves : (d : Partitioning) (need : Need) (parts : Parts) → meets d need (length parts) ≡ true → HasParts d parts → Serves need parts
met_serves d need parts met h =
    by_cases (nat_eq (length parts) 1)
    (λ one. one_serves need parts (is_one (length parts) one))
    (λ more. fit_serves d need parts (ap (λ b. b || fits d need) (sym more) ∙ met) h)
