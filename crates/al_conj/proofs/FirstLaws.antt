-- The first element of a list with a property.
use Rattle.std.proofs.Common.{◌≡◌, ◌<◌, ℕ, suc, Bool, true, false, cond, List, ◌∷◌, ◌++◌, take, drop, length, get_or, refl, ap, sym, ◌∙◌, arith, Some, None}
use Rattle.std.specs.List.{list_any, position, position_or_len}
use Rattle.std.specs.Prelude.{nat_lt}
use Rattle.std.proofs.Math.Seq.{drop-cons}
use Rattle.std.proofs.lemmas.Bool.{ltb-false}
use Rattle.std.proofs.lemmas.List.{take-append-drop, get_or-take, length-take-le}
use Rattle.std.proofs.lemmas.List.Folds.{list_any_none}
use Rattle.std.proofs.lemmas.List.Sums.{fails_before_first}
use Rattle.std.proofs.lemmas.List.Quantifiers.{position-Some}

no_place : {X : Type 0} (p : X → Bool) (xs : List X) → position p xs ≡ None → list_any p xs ≡ false
no_place p xs none = go (nat_lt (position_or_len p xs) (length xs)) refl none
  where
    go : (b : Bool) → nat_lt (position_or_len p xs) (length xs) ≡ b → cond b (Some (position_or_len p xs)) None ≡ None → list_any p xs ≡ false
    go true e h = cc
    go false e h = let past = ltb-false (position_or_len p xs) (length xs) e in list_any_none p xs (λ k d low. fails_before_first p xs k d (omega arith))

pub none_in : {X : Type 0} (p : X → Bool) (xs ys : List X) → ys ≡ xs → position p ys ≡ None → list_any p xs ≡ false
none_in p xs ys same none = ap (list_any p) (sym same) ∙ no_place p ys none

pub at_place : {X : Type 0} (p : X → Bool) (xs : List X) (i : ℕ) (x : X) → position p xs ≡ Some i → x ≡ get_or xs i x
    → (xs ≡ take i xs ++ x ∷ drop (suc i) xs) × (list_any p (take i xs) ≡ false) × (p x ≡ true)
at_place p xs i x place here =
    let found = position-Some p xs i x place in
    let within = found.0 in (
      sym (take-append-drop i xs) ∙ ap (λ zs. take i xs ++ zs) (drop-cons xs i x within ∙ ap (λ y. y ∷ drop (suc i) xs) (sym here)),
      list_any_none p (take i xs) (λ k d low. let under : k < i = omega (arith, length-take-le i xs (omega arith)) in ap p (get_or-take i xs k d under) ∙ (position-Some p xs i d place).2 k under),
      ap p here ∙ found.1,
    )
