-- What a need that is served says of the input.
use Rattle.std.proofs.Common.{◌≡◌, ℕ, Bool, true, false, not, List, [], ◌∷◌, map, zip, drop, refl, ap, sym, subst, ◌∙◌, ⊎_elim, nat_eq}
use Rattle.std.specs.Prelude.{if◌then◌else◌, ◌||◌}
use Rattle.std.specs.Cmp.Lexicographic.{pointwise}
use Rattle.std.specs.List.{All, AllByRecursion, AllZip}
use Rattle.std.specs.List.Sorted.{IsSorted}
use Rattle.std.proofs.lemmas.List.Elements.{All-nil, All-from_recursion, recursion_from_All, All-weaker}
use Rattle.al_plan.specs.declared.expr.Var.{Var}
use Rattle.al_plan.specs.declared.plan.OrderKey.{OrderKey}
use Rattle.al_plan.specs.Eval.{Env}
use Rattle.al_plan.specs.Allows.{is_among, keys_cmp}
use Rattle.al_plan.specs.Accept.{are_among}
use Rattle.al_plan.specs.Refines.{AreLive}
use Rattle.al_plan.proofs.Bools.{no, by_cases}
use Rattle.al_plan.proofs.Makes.{at_head}
use Rattle.al_phys.specs.declared.phys.Phys.{Phys}
use Rattle.al_phys.specs.declared.property.Partitioning.{Partitioning}
use Rattle.al_phys.specs.declared.property.Partitioning.TheVariants as D
use Rattle.al_phys.specs.declared.property.Local.{Local}
use Rattle.al_phys.specs.declared.property.Local.TheVariants as O
use Rattle.al_phys.specs.declared.property.Need.{Need}
use Rattle.al_phys.specs.declared.property.Need.TheVariants as N
use Rattle.al_phys.specs.Parts.{Parts, HasParts, HasLocal}
use Rattle.al_phys.specs.Properties.{fits, meets, is_broadcast, is_unpartitioned, is_keyed, is_exactly, old_of, kept_parts, group_parts, union_parts, new_for, kept_order, kept_keys, order_by, spread_of, parts_of}
use Rattle.al_phys.specs.Placed.{IsServed, IsMet, IsExchange, IsGroupInput, IsSortInput, ascending}
use Rattle.al_phys.proofs.PropertyLaws.{spread-Gather, spread-HashExchange, spread-Broadcast, spread-Sort}
use Rattle.al_phys.proofs.ValueLaws.{live_from, among_from, same_vars, vars_itself}
use Rattle.al_phys.proofs.OverLaws.{live_more}
use Rattle.al_phys.proofs.FlowLaws.{Comes, comes_none, sorted-prefix}
use Rattle.al_phys.proofs.PartLaws.{kept_hash, kept_first}

-- ---- the input of an operator, with more than one partition

fits_of : (n : ℕ) (q : Phys) (need : Need) → nat_eq n 1 ≡ false → meets (parts_of q n) need n ≡ true → fits (spread_of q).by need ≡ true
fits_of n q need more met = ap (λ b. b || fits (if b then D.Unpartitioned else (spread_of q).by) need) (sym more) ∙ met

live_itself : (vars : List Var) → AreLive vars vars
live_itself [] = tt
live_itself (v ∷ vars) = (at_head v vars, live_more vars (v ∷ vars) vars (λ q e. or_right (pointwise nat_eq v.name q) (is_among vars q) e) (live_itself vars))
  where
    or_right : (a b : Bool) → b ≡ true → (a || b) ≡ true
    or_right true b e = refl
    or_right false b e = e

exchanged : (need : Need) (p q : Phys) → IsExchange need p q → fits (spread_of p).by need ≡ true
exchanged N.Any p q e = absurd e
exchanged N.One p q e = ap is_unpartitioned (ap (λ (r : Phys). (spread_of r).by) e ∙ spread-Gather q)
exchanged (N.Keyed vars) p q e = ap (is_keyed vars) (ap (λ (r : Phys). (spread_of r).by) e ∙ spread-HashExchange vars q) ∙ among_from vars vars (live_itself vars)
exchanged (N.Exactly vars) p q e = ap (is_exactly vars) (ap (λ (r : Phys). (spread_of r).by) e ∙ spread-HashExchange vars q) ∙ vars_itself vars
exchanged N.All p q e = ap is_broadcast (ap (λ (r : Phys). (spread_of r).by) e ∙ spread-Broadcast q)

met_fits : (n : ℕ) (p q : Phys) (need : Need) → nat_eq n 1 ≡ false → IsMet n need p q → fits (spread_of p).by need ≡ true
met_fits n p q need more met =
    ⊎_elim
    (λ (here : (p ≡ q) × (meets (parts_of q n) need n ≡ true)). subst (λ (r : Phys). fits (spread_of r).by need ≡ true) (sym here.0) (fits_of n q need more here.1))
    (λ (there : IsExchange need p q × (meets (parts_of q n) need n ≡ false)). exchanged need p q there.0)
    met

pub served : (n : ℕ) (p : Phys) (need : Need) → nat_eq n 1 ≡ false → IsServed n need p → fits (spread_of p).by need ≡ true
served n p need more s = met_fits n p s.0 need more s.1

-- what needs only that no row stands twice is not over a broadcast
pub once_of : (d : Partitioning) → fits d N.Any ≡ true → is_broadcast d ≡ false
once_of d h = by_cases (is_broadcast d) (λ t. absurd (no (sym h ∙ ap not t))) (λ f. f)

pub keyed_once : (vars : List Var) (d : Partitioning) → is_keyed vars d ≡ true → is_broadcast d ≡ false
keyed_once vars D.Unpartitioned h = refl
keyed_once vars (D.Hash ws) h = refl
keyed_once vars D.Broadcast h = sym h
keyed_once vars D.Random h = refl

pub any_once : (n : ℕ) (p : Phys) → nat_eq n 1 ≡ false → IsServed n N.Any p → is_broadcast (spread_of p).by ≡ false
any_once n p more s = once_of (spread_of p).by (served n p N.Any more s)

pub group_keyed : (n : ℕ) (keys : List (Var × Var)) (p : Phys) → nat_eq n 1 ≡ false → IsGroupInput n keys p → is_keyed (old_of keys) (spread_of p).by ≡ true
group_keyed n keys p more input =
    ⊎_elim
    (λ h. served n p (N.Keyed (old_of keys)) more h.0)
    (λ h. ap (is_keyed (old_of keys)) (ap (λ (r : Phys). (spread_of r).by) h.1 ∙ spread-Sort (ascending keys) h.0) ∙ served n h.0 (N.Keyed (old_of keys)) more h.2)
    input

pub sort_once : (n : ℕ) (p : Phys) → nat_eq n 1 ≡ false → IsSortInput n p → is_broadcast (spread_of p).by ≡ false
sort_once n p more input =
    ⊎_elim
    (λ h. any_once n p more h)
    (λ h. keyed_once h.0 (spread_of p).by (served n p (N.Keyed h.0) more h.1))
    input

-- ---- what the input's property says of the parts

pub first_of : (d : Partitioning) (parts : Parts) → is_unpartitioned d ≡ true → HasParts d parts → HasParts D.Unpartitioned parts
first_of D.Unpartitioned parts e h = h
first_of (D.Hash ws) parts e h = absurd (no (sym e))
first_of D.Broadcast parts e h = absurd (no (sym e))
first_of D.Random parts e h = absurd (no (sym e))

pub exact_of : (vars : List Var) (d : Partitioning) (parts : Parts) → is_exactly vars d ≡ true → HasParts d parts → HasParts (D.Hash vars) parts
exact_of vars D.Unpartitioned parts e h = absurd (no (sym e))
exact_of vars (D.Hash ws) parts e h = subst (λ (vs : List Var). HasParts (D.Hash vs) parts) (same_vars ws vars e) h
exact_of vars D.Broadcast parts e h = absurd (no (sym e))
exact_of vars D.Random parts e h = absurd (no (sym e))

pub kept_has : (vars : List Var) (d : Partitioning) (parts : Parts) → HasParts d parts → HasParts (kept_parts vars d) parts
unfolding HasParts
kept_has vars D.Unpartitioned parts h = h
kept_has vars (D.Hash ws) parts h = go (are_among vars ws)
  where
    go : (b : Bool) → HasParts (if b then D.Hash ws else D.Random) parts
    go true = h
    go false = tt
kept_has vars D.Broadcast parts h = h
kept_has vars D.Random parts h = h

pub kept_once : (vars : List Var) (d : Partitioning) → is_broadcast d ≡ false → is_broadcast (kept_parts vars d) ≡ false
kept_once vars D.Unpartitioned h = refl
kept_once vars (D.Hash ws) h = go (are_among vars ws)
  where
    go : (b : Bool) → is_broadcast (if b then D.Hash ws else D.Random) ≡ false
    go true = refl
    go false = refl
kept_once vars D.Broadcast h = h
kept_once vars D.Random h = refl

by_local : (keys : List OrderKey) (parts : Parts) → All (IsSorted (keys_cmp keys)) parts → HasLocal (order_by keys) parts
unfolding HasLocal
by_local [] parts h = tt
by_local (k ∷ keys) parts h = h

pub kept_local : (vars : List Var) (o : Local) (parts : Parts) → HasLocal o parts → HasLocal (kept_order vars o) parts
unfolding HasLocal
kept_local vars O.None parts h = tt
kept_local vars (O.Order keys) parts h = by_local (kept_keys vars keys) parts (All-weaker (IsSorted (keys_cmp keys)) (IsSorted (keys_cmp (kept_keys vars keys))) (λ rows sorted. sorted-prefix vars keys rows sorted) parts h)

-- ---- groups and unions

module _ (R : List Env → List Env → Type 0) (input parts : Parts) (zip : AllZip R input parts) (keys : List (Var × Var))
    (comes : (ws : List Var) → AreLive (old_of keys) ws → (rows out : List Env) → R rows out → Comes (map (new_for keys) ws) ws rows out) where
  pub group_has : (d : Partitioning) → is_keyed (old_of keys) d ≡ true → HasParts d input → HasParts (group_parts keys d) parts
  group_has D.Unpartitioned e h = kept_first R input parts zip (λ out r. comes_none [] [] out (comes [] tt [] out r)) h
  group_has (D.Hash ws) e h =
      subst (λ (b : Bool). HasParts (if b then D.Hash (map (new_for keys) ws) else D.Random) parts) (sym e)
      (kept_hash R input parts zip (map (new_for keys) ws) ws (comes ws (live_from (old_of keys) ws e)) h)
  group_has D.Broadcast e h = absurd (no (sym e))
  group_has D.Random e h = absurd (no (sym e))

module _ (R : List Env × List Env → List Env → Type 0) (none : (out : List Env) → R ([], []) out → out ≡ []) where
  abbrev AreEmpty : Parts → Type 0
  AreEmpty = AllByRecursion (λ rows. rows ≡ [])

  later : (left right parts : Parts) → AreEmpty left → AreEmpty right → AllZip R (zip left right) parts → AreEmpty parts
  later [] right [] e f z = tt
  later [] right (out ∷ parts) e f z = absurd z
  later (l ∷ left) [] [] e f z = tt
  later (l ∷ left) [] (out ∷ parts) e f z = absurd z
  later (l ∷ left) (r ∷ right) [] e f z = absurd z
  later (l ∷ left) (r ∷ right) (out ∷ parts) e f z = (none out (subst (λ (rs : List Env). R ([], rs) out) f.0 (subst (λ (ls : List Env). R (ls, r) out) e.0 z.0)), later left right parts e.1 f.1 z.1)

  first_both : (left right parts : Parts) → All (λ rows. rows ≡ []) (drop 1 left) → All (λ rows. rows ≡ []) (drop 1 right) → AllZip R (zip left right) parts → All (λ rows. rows ≡ []) (drop 1 parts)
  first_both [] right [] e f z = All-nil _
  first_both [] right (out ∷ parts) e f z = absurd z
  first_both (l ∷ left) [] [] e f z = All-nil _
  first_both (l ∷ left) [] (out ∷ parts) e f z = absurd z
  first_both (l ∷ left) (r ∷ right) [] e f z = absurd z
  first_both (l ∷ left) (r ∷ right) (out ∷ parts) e f z =
      All-from_recursion (λ rows. rows ≡ []) parts (later left right parts (recursion_from_All (λ rows. rows ≡ []) left e) (recursion_from_All (λ rows. rows ≡ []) right f) z.1)

  pub union_has : (d e : Partitioning) (left right parts : Parts) → HasParts d left → HasParts e right → AllZip R (zip left right) parts → HasParts (union_parts d e) parts
  unfolding HasParts
  union_has D.Unpartitioned D.Unpartitioned left right parts h g z = first_both left right parts h g z
  union_has D.Unpartitioned (D.Hash ws) left right parts h g z = tt
  union_has D.Unpartitioned D.Broadcast left right parts h g z = tt
  union_has D.Unpartitioned D.Random left right parts h g z = tt
  union_has (D.Hash ws) e left right parts h g z = tt
  union_has D.Broadcast e left right parts h g z = tt
  union_has D.Random e left right parts h g z = tt
