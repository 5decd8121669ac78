-- Equations that are not false are true.
use Rattle.std.proofs.Common.{◌≡◌, ℕ, zero, suc, List, [], ◌∷◌, refl, sym, ap, ◌∙◌, arith}
use Rattle.al_agg.specs.declared.agg.Agg.{Agg}
use Rattle.al_agg.specs.declared.agg.Agg.TheVariants as A

-- a claim that is not false
abbrev pub Not : Type 0 → Type 0
Not P = P → ⊥

pub stable_number : (m n : ℕ) → Not (Not (m ≡ n)) → m ≡ n
stable_number zero zero h = refl
stable_number zero (suc n) h = absurd (h (λ e. omega (arith, e)))
stable_number (suc m) zero h = absurd (h (λ e. omega (arith, e)))
stable_number (suc m) (suc n) h = ap suc (stable_number m n (λ other. h (λ e. other (less e))))
  where
    less : suc m ≡ suc n → m ≡ n
    less e = omega (arith, e)

number_of : Agg → ℕ
number_of A.CountAll = 0
number_of A.Count = 1
number_of A.Sum = 2
number_of A.Min = 3
number_of A.Max = 4

agg_at : ℕ → Agg
agg_at zero = A.CountAll
agg_at (suc zero) = A.Count
agg_at (suc (suc zero)) = A.Sum
agg_at (suc (suc (suc zero))) = A.Min
agg_at (suc (suc (suc (suc n)))) = A.Max

again : (a : Agg) → agg_at (number_of a) ≡ a
unfolding number_of agg_at
again A.CountAll = refl
again A.Count = refl
again A.Sum = refl
again A.Min = refl
again A.Max = refl

stable_agg : (a b : Agg) → Not (Not (a ≡ b)) → a ≡ b
stable_agg a b h = sym (again a) ∙ ap agg_at (stable_number (number_of a) (number_of b) (λ other. h (λ e. other (ap number_of e)))) ∙ again b

pub stable_aggs : (xs ys : List Agg) → Not (Not (xs ≡ ys)) → xs ≡ ys
stable_aggs [] [] h = refl
stable_aggs [] (y ∷ ys) h = absurd (h (λ e. cc))
stable_aggs (x ∷ xs) [] h = absurd (h (λ e. cc))
stable_aggs (x ∷ xs) (y ∷ ys) h =
    let head : x ≡ y = stable_agg x y (λ other. h (λ e. other (first e))) in
    let tail : xs ≡ ys = stable_aggs xs ys (λ other. h (λ e. other (others e))) in
    (λ i. head i ∷ tail i)
  where
    first : x ∷ xs ≡ y ∷ ys → x ≡ y
    first e = cc

    others : x ∷ xs ≡ y ∷ ys → xs ≡ ys
    others e = cc
