-- There is a part for each partition.
use Rattle.std.proofs.Common.{◌≡◌, ℕ, zero, suc, Bool, List, [], ◌∷◌, zip, length, refl, ap, sym, subst, ◌∙◌, arith}
use Rattle.std.proofs.lemmas.List.{length-replicate}
use Rattle.std.specs.List.{AllZip}
use Rattle.al_plan.specs.Eval.{Env}
use Rattle.al_plan.specs.Allows.{Sets}
use Rattle.al_phys.specs.declared.phys.Phys.{Phys, map-Phys, roll-Phys, ind-Phys}
use Rattle.al_phys.specs.declared.phys.Phys.TheOpen as L
use Rattle.al_phys.specs.Parts.{Parts, in_first}
use Rattle.al_phys.specs.PAllows.{PAllows}
use Rattle.al_phys.proofs.PhysLaws.{punroll, PLayer}

pub length-in_first : (n : ℕ) (rows : List Env) → length (in_first n rows) ≡ n
length-in_first zero rows = refl
length-in_first (suc n) rows = ap suc (length-replicate n [])

pub length_pairs : {A B : Type 0} (R : A → B → Type 0) (xs : List A) (ys : List B) → AllZip R xs ys → length xs ≡ length ys
length_pairs R [] [] h = refl
length_pairs R [] (y ∷ ys) h = absurd h
length_pairs R (x ∷ xs) [] h = absurd h
length_pairs R (x ∷ xs) (y ∷ ys) h = ap suc (length_pairs R xs ys h.1)

pub length_zip : {A B : Type 0} (xs : List A) (ys : List B) (n : ℕ) → length xs ≡ n → length ys ≡ n → length (zip xs ys) ≡ n
length_zip [] ys n e f = e
length_zip (x ∷ xs) [] n e f = f
length_zip (x ∷ xs) (y ∷ ys) zero e f = absurd (omega (arith, e))
length_zip (x ∷ xs) (y ∷ ys) (suc n) e f = ap suc (length_zip xs ys n (omega (arith, e)) (omega (arith, f)))

abbrev AreMany : Phys → Type 0
AreMany p = (b : Bool) (sets : Sets) (n : ℕ) (parts : Parts) → PAllows p b sets n parts → length parts ≡ n

module _ {S : Type 0} (up : S → Phys) (ih : (s : S) → AreMany (up s)) (b : Bool) (sets : Sets) (n : ℕ) (parts : Parts) where
  step : (y : L.Phys-F S) → PLayer (map-Phys S Phys up y) b sets n parts → length parts ≡ n
  step (L.Scan set vars) o = o.count
  step L.One o = ap length o ∙ length-in_first n _
  step (L.Assign made s) o = sym (length_pairs _ o.0 parts o.2) ∙ ih s b sets n o.0 o.1
  step (L.Select c s) o = sym (length_pairs _ o.0 parts o.2) ∙ ih s b sets n o.0 o.1
  step (L.Project vars s) o = sym (length_pairs _ o.0 parts o.2) ∙ ih s b sets n o.0 o.1
  step (L.Unnest v its s) o = sym (length_pairs _ o.0 parts o.2) ∙ ih s b sets n o.0 o.1
  step (L.Subplan inner s) o = sym (length_pairs _ o.0 parts o.2) ∙ ih s b sets n o.0 o.1
  step (L.Check own c s) o = ih s b sets n parts o.0
  step (L.Join form c l r) o = sym (length_pairs _ (zip o.0 o.2.0) parts o.2.2) ∙ length_zip o.0 o.2.0 n (ih l b sets n o.0 o.1) (ih r b sets n o.2.0 o.2.1)
  step (L.HashGroup keys inner s) o = sym (length_pairs _ o.0 parts o.2) ∙ ih s b sets n o.0 o.1
  step (L.PreGroup keys inner s) o = sym (length_pairs _ o.0 parts o.2) ∙ ih s b sets n o.0 o.1
  step (L.HashDistinct s) o = sym (length_pairs _ o.0 parts o.2) ∙ ih s b sets n o.0 o.1
  step (L.AggPart made s) o = ih s b sets n parts o
  step (L.AggFinal made s) o = ap length o.2 ∙ length-in_first n _
  step (L.Union made ls rs l r) o = sym (length_pairs _ (zip o.0 o.2.0) parts o.2.2) ∙ length_zip o.0 o.2.0 n (ih l b sets n o.0 o.1) (ih r b sets n o.2.0 o.2.1)
  step (L.Sort keys s) o = sym (length_pairs _ o.0 parts o.2) ∙ ih s b sets n o.0 o.1
  step (L.Limit m k s) o = sym (length_pairs _ o.0 parts o.2) ∙ ih s b sets n o.0 o.1
  step (L.LocalLimit m s) o = sym (length_pairs _ o.0 parts o.2) ∙ ih s b sets n o.0 o.1
  step (L.Result vars s) o = sym (length_pairs _ o.0 parts o.2) ∙ ih s b sets n o.0 o.1
  step (L.HashExchange vars s) o = o.2.count
  step (L.Broadcast s) o = o.2.count
  step (L.Gather s) o = ap length o.2.2 ∙ length-in_first n _
  step (L.Merge keys s) o = ap length o.2.3 ∙ length-in_first n _

layer : {S : Type 0} (up : S → Phys) → ((s : S) → AreMany (up s)) → (y : L.Phys-F S) → AreMany (roll-Phys (map-Phys S Phys up y))
layer {S} up ih y b sets n parts h = step up ih b sets n parts y (punroll (map-Phys S Phys up y) b sets n parts h)

pub many : (p : Phys) → AreMany p
many = ind-Phys AreMany (λ x y e. subst (λ (z : L.Phys-F Phys). AreMany (roll-Phys z)) e (layer (λ s. s.0) (λ s. s.1) y))
