-- Tests over a list that is made of another one, and a list's element by its number.
use Rattle.std.proofs.Common.{◌≡◌, ℕ, zero, suc, ◌<◌, ◌≤◌, Bool, true, false, ◌&&◌, ◌||◌, List, [], ◌∷◌, map, length, get_or, take, refl, ap, sym, ◌∙◌}
use Rattle.std.specs.List.{flat_map, list_all, list_any}
use Rattle.std.proofs.lemmas.List.{take_all}
use Rattle.std.proofs.lemmas.List.Folds.{list_all-append, list_all_at}
use Rattle.al_plan.specs.Accept.{place_at}

pub list_any_map : {X : Type 0} (p : X → Bool) → {Y : Type 0} (h : Y → X) (ys : List Y) → list_any p (map h ys) ≡ list_any (λ y. p (h y)) ys
list_any_map p h [] = refl
list_any_map p h (y ∷ ys) = ap (λ b. p (h y) || b) (list_any_map p h ys)

pub list_all_flat : {X : Type 0} (p : X → Bool) → {Y : Type 0} (h : Y → List X) (ys : List Y) → list_all p (flat_map h ys) ≡ list_all (λ y. list_all p (h y)) ys
list_all_flat p h [] = refl
list_all_flat p h (y ∷ ys) = list_all-append p (h y) (flat_map h ys) ∙ ap (λ b. list_all p (h y) && b) (list_all_flat p h ys)

-- a loop that stops at an element that fails, and one that comes to the end
module _ {X : Type 0} (q : X → Bool) (all : Bool) (xs : List X) (i : ℕ) (is : all ≡ list_all q xs) where
  pub stops : (x : X) → i < length xs → x ≡ get_or xs i x → q x ≡ false → false ≡ all
  stops x lt at e = sym (is ∙ list_all_at q xs i x lt (ap q (sym at) ∙ e))

  pub ends : length xs ≤ i → list_all q (take i xs) ≡ true → true ≡ all
  ends le e = sym (is ∙ ap (list_all q) (sym (take_all i xs le)) ∙ e)

pub place_is : (places : List ℕ) (n : ℕ) → place_at places n ≡ get_or places n 0
place_is [] n = refl
place_is (p ∷ ps) zero = refl
place_is (p ∷ ps) (suc n) = place_is ps n
