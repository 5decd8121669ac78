-- Parts of two partitions, and interleavings of two lists.
use Rattle.std.proofs.Common.{◌≡◌, ◌⊎◌, inl, inr, ⊎_elim, ◌<◌, ℕ, zero, suc, false, List, [], ◌∷◌, map, length, get_or, refl, ap, sym, subst, ◌∙◌, arith}
use Rattle.std.specs.List.{AllZip}
use Rattle.std.proofs.lemmas.List.Elements.{All-from_recursion}
use Rattle.al_plan.specs.declared.expr.Var.{Var}
use Rattle.al_plan.specs.Eval.{Bytes, Env, bind}
use Rattle.al_plan.specs.Allows.{Sets}
use Rattle.al_phys.specs.declared.phys.Phys.{Phys, roll-Phys}
use Rattle.al_phys.specs.declared.phys.Phys.TheVariants as Q
use Rattle.al_phys.specs.declared.phys.Phys.TheOpen as L
use Rattle.al_phys.specs.Parts.{Parts, HasEach, dealt, Takes, Interleaves}
use Rattle.al_phys.specs.PAllows.{PAllowing, PAllows}
use Rattle.al_phys.proofs.PhysLaws.{PLayer, pallows-roll, punroll}
use Rattle.al_phys_cases.specs.PartCases.{InParts, OnlyParts}

-- ---- two parts

below_two : (P : ℕ → Type 0) → P 0 → P 1 → (j : ℕ) → j < 2 → P j
below_two P p q zero lt = p
below_two P p q (suc zero) lt = q
below_two P p q (suc (suc j)) lt = absurd (omega (arith, lt))

pub two_each : (P : ℕ → List Env → Type 0) (xs ys : List Env) → P 0 xs → P 1 ys → HasEach 2 P (xs ∷ ys ∷ [])
two_each P xs ys p q = record { count = refl; each = below_two (λ j. P j (get_or (xs ∷ ys ∷ []) j [])) p q }

-- parts that are two, with a claim of each
pub record Both (P : ℕ → List Env → Type 0) (parts : Parts) : Type 0 where
  pub first : List Env
  pub second : List Env
  pub same : parts ≡ first ∷ second ∷ []
  pub left : P 0 first
  pub right : P 1 second

pub both_of : (P : ℕ → List Env → Type 0) (parts : Parts) → HasEach 2 P parts → Both P parts
both_of P [] h = absurd (omega (arith, h.count))
both_of P (x ∷ []) h = absurd (omega (arith, h.count))
both_of P (x ∷ y ∷ []) h = record { first = x; second = y; same = refl; left = h.each 0 (omega arith); right = h.each 1 (omega arith) }
both_of P (x ∷ y ∷ z ∷ parts) h = absurd (omega (arith, h.count))

pub zip_two : {A : Type 0} (R : A → List Env → Type 0) (x y : A) (parts : Parts) → AllZip R (x ∷ y ∷ []) parts → Both (λ j rows. R (get_or (x ∷ y ∷ []) j x) rows) parts
zip_two R x y [] h = absurd h
zip_two R x y (p ∷ []) h = absurd h.1
zip_two R x y (p ∷ q ∷ []) h = record { first = p; second = q; same = refl; left = h.0; right = h.1.0 }
zip_two R x y (p ∷ q ∷ r ∷ parts) h = absurd h.1.1

-- ---- layers

module _ (sets : Sets) where
  pub into : (x : L.Phys-F Phys) (p : Phys) → roll-Phys x ≡ p → (parts : Parts) → PLayer x false sets 2 parts → InParts sets p parts
  into x p e parts h = subst (λ (q : Phys). PAllows q false sets 2 parts) e (subst (λ (f : PAllowing). f false sets 2 parts) (sym (pallows-roll x)) h)

  pub out : (x : L.Phys-F Phys) (p : Phys) → roll-Phys x ≡ p → (parts : Parts) → InParts sets p parts → PLayer x false sets 2 parts
  out x p e parts h = punroll x false sets 2 parts (subst (λ (q : Phys). PAllows q false sets 2 parts) (sym e) h)

  pub scan_only : (set : Bytes) (vars : List Var) (xs ys : List Env) → dealt 2 0 (map (bind vars) (sets set)) ≡ xs → dealt 2 1 (map (bind vars) (sets set)) ≡ ys → OnlyParts sets (Q.Scan set vars) (xs ∷ ys ∷ [])
  scan_only set vars xs ys e f = record {
    allowed = into (L.Scan set vars) _ (Q.rolls-Scan set vars) _ (two_each Dealt xs ys (sym e) (sym f));
    no_other = λ others h. let two = both_of Dealt others (out (L.Scan set vars) _ (Q.rolls-Scan set vars) others h) in two.same ∙ (λ i. (two.left ∙ e) i ∷ (two.right ∙ f) i ∷ []);
  }
    where
      Dealt : ℕ → List Env → Type 0
      Dealt j rows = rows ≡ dealt 2 j (map (bind vars) (sets set))

-- ---- interleavings

pub heads : (x y : Env) (xs ys : List Env) → x ∷ xs ≡ y ∷ ys → x ≡ y
heads x y xs ys e = ap (λ (rows : List Env). get_or rows 0 x) e

pub take_left : (x : Env) (xs ys zs : List Env) → Interleaves (xs ∷ ys ∷ []) zs → Interleaves ((x ∷ xs) ∷ ys ∷ []) (x ∷ zs)
unfolding Interleaves Takes
take_left x xs ys zs h = (xs ∷ ys ∷ [], inl (xs, refl, refl), h)

pub take_right : (y : Env) (xs ys zs : List Env) → Interleaves (xs ∷ ys ∷ []) zs → Interleaves (xs ∷ (y ∷ ys) ∷ []) (y ∷ zs)
unfolding Interleaves Takes
take_right y xs ys zs h = (xs ∷ ys ∷ [], inr (ys ∷ [], inl (ys, refl, refl), refl), h)

pub take_none : Interleaves {A = Env} ([] ∷ [] ∷ []) []
unfolding Interleaves
take_none = All-from_recursion (λ (xs : List Env). xs ≡ []) ([] ∷ [] ∷ []) (refl, (refl, tt))

-- the first row is that of one of the lists
pub begins : (xs ys : List Env) (z : Env) (zs : List Env) → Interleaves (xs ∷ ys ∷ []) (z ∷ zs) → ((more : List Env) × (xs ≡ z ∷ more) × Interleaves (more ∷ ys ∷ []) zs) ⊎ ((more : List Env) × (ys ≡ z ∷ more) × Interleaves (xs ∷ more ∷ []) zs)
unfolding Interleaves Takes
begins xs ys z zs h =
    ⊎_elim
    (λ (here : (more : List Env) × (xs ≡ z ∷ more) × (h.0 ≡ more ∷ ys ∷ [])). inl (here.0, here.1, subst (λ (rest : Parts). Interleaves rest zs) here.2 h.2))
    (λ (there : (others : Parts) × Takes (ys ∷ []) z others × (h.0 ≡ xs ∷ others)).
    ⊎_elim
    (λ (here : (more : List Env) × (ys ≡ z ∷ more) × (there.0 ≡ more ∷ [])). inr (here.0, here.1, subst (λ (rest : Parts). Interleaves rest zs) (there.2 ∙ ap (λ (others : Parts). xs ∷ others) here.2) h.2))
    (λ (none : (others : Parts) × Takes [] z others × (there.0 ≡ ys ∷ others)). absurd none.1)
    there.1)
    h.1

no_rows : (x : Env) (xs : List Env) → [] ≡ x ∷ xs → ⊥
no_rows x xs e = absurd (omega (arith, ap length e))

pub first_alone : (xs zs : List Env) → Interleaves (xs ∷ [] ∷ []) zs → zs ≡ xs
unfolding Interleaves
first_alone xs [] h = sym (h 0 xs (omega arith))
first_alone xs (z ∷ zs) h =
    ⊎_elim
    (λ (here : (more : List Env) × (xs ≡ z ∷ more) × Interleaves (more ∷ [] ∷ []) zs). ap (λ (rows : List Env). z ∷ rows) (first_alone here.0 zs here.2) ∙ sym here.1)
    (λ (there : (more : List Env) × ([] ≡ z ∷ more) × Interleaves (xs ∷ more ∷ []) zs). absurd (no_rows z there.0 there.1))
    (begins xs [] z zs h)

pub second_alone : (ys zs : List Env) → Interleaves ([] ∷ ys ∷ []) zs → zs ≡ ys
unfolding Interleaves
second_alone ys [] h = sym (h 1 ys (omega arith))
second_alone ys (z ∷ zs) h =
    ⊎_elim
    (λ (here : (more : List Env) × ([] ≡ z ∷ more) × Interleaves (more ∷ ys ∷ []) zs). absurd (no_rows z here.0 here.1))
    (λ (there : (more : List Env) × (ys ≡ z ∷ more) × Interleaves ([] ∷ more ∷ []) zs). ap (λ (rows : List Env). z ∷ rows) (second_alone there.0 zs there.2) ∙ sym there.1)
    (begins [] ys z zs h)

pub whole_first : (xs : List Env) → Interleaves (xs ∷ [] ∷ []) xs
whole_first [] = take_none
whole_first (x ∷ xs) = take_left x xs [] xs (whole_first xs)

pub whole_second : (ys : List Env) → Interleaves ([] ∷ ys ∷ []) ys
whole_second [] = take_none
whole_second (y ∷ ys) = take_right y [] ys ys (whole_second ys)
