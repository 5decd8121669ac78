-- Which way a test went, and the value of a step that did not fail.
use Rattle.std.proofs.Common.{◌≡◌, Bool, true, false, cond, ◌⊎◌, inl, inr, Option, Some, None, refl, ap}
use Rattle.std.proofs.lemmas.Option.{same_Some}
use Rattle.al_read.specs.TokenReading.{◌>>=◌}

pub chosen : {A : Type 0} (b : Bool) (x y z : A) → cond b x y ≡ z → ((b ≡ true) × (x ≡ z)) ⊎ ((b ≡ false) × (y ≡ z))
chosen true x y z e = inl (refl, e)
chosen false x y z e = inr (refl, e)

pub bind_some : {A B : Type 0} (o : Option A) (f : A → Option B) (y : B) → (o >>= f) ≡ Some y → (x : A) × (o ≡ Some x) × (f x ≡ Some y)
bind_some (Some x) f y e = (x, refl, e)
bind_some None f y e = absurd cc

-- the first of three that passes
pub through_three : {A B : Type 0} (f : A → B) (p q r : Bool) (x y z w : A) → f (cond p x (cond q y (cond r z w))) ≡ cond p (f x) (cond q (f y) (cond r (f z) (f w)))
through_three f true q r x y z w = refl
through_three f false true r x y z w = refl
through_three f false false true x y z w = refl
through_three f false false false x y z w = refl

-- two pairs that were found are one
pub same_pair : {A B : Type 0} (x y : A × B) → Some x ≡ Some y → (x.0 ≡ y.0) × (x.1 ≡ y.1)
same_pair {A} {B} x y e =
    let p = same_Some x y e in
    (ap (λ (z : A × B). z.0) p, ap (λ (z : A × B). z.1) p)
