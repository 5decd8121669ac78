-- Worked cases.
use Rattle.std.proofs.Common.{◌≡◌, ℕ, zero, suc, List, [], ◌∷◌, get_or, refl, ap, arith}
use Rattle.hy_places.specs.Cases.{EdgesFollow, GatherReaches, HashReaches, MergeReaches, TwiceIsNotDifferent}
use Rattle.hy_places.specs.Places.{AreDifferent}

first_differs : (xs ys : List ℕ) → xs ≡ ys → get_or xs 0 9 ≡ get_or ys 0 9
first_differs xs ys e = ap (λ (l : List ℕ). get_or l 0 9) e

pub hash_reaches : HashReaches
hash_reaches set = (
  refl,
  (λ e. let h : 0 ≡ 1 = first_differs (0 ∷ 1 ∷ []) (1 ∷ 0 ∷ []) e in absurd (omega (arith, h))),
  refl,
  (λ e. let h : 1 ≡ 0 = first_differs (1 ∷ []) (0 ∷ []) e in absurd (omega (arith, h))),
)

pub gather_reaches : GatherReaches
gather_reaches set = (refl, refl, refl)

pub merge_reaches : MergeReaches
merge_reaches set = (refl, refl, (λ e. let h : 0 ≡ 1 = first_differs (0 ∷ 1 ∷ []) (1 ∷ 0 ∷ []) e in absurd (omega (arith, h))), refl)

pub edges_follow : EdgesFollow
edges_follow set text = (refl, refl, refl, refl, refl)

two_differ : AreDifferent (3 ∷ 1 ∷ [])
two_differ zero zero lj lk e = refl
two_differ zero (suc zero) lj lk e = absurd (omega (arith, e))
two_differ (suc zero) zero lj lk e = absurd (omega (arith, e))
two_differ (suc zero) (suc zero) lj lk e = refl
two_differ zero (suc (suc k)) lj lk e = absurd (omega (arith, lk))
two_differ (suc zero) (suc (suc k)) lj lk e = absurd (omega (arith, lk))
two_differ (suc (suc j)) k lj lk e = absurd (omega (arith, lj))

pub twice_is_not_different : TwiceIsNotDifferent
twice_is_not_different = (two_differ, (λ h. let z : 0 ≡ 1 = h 0 1 (omega arith) (omega arith) refl in omega (arith, z)))
