-- Where a list falls, compared from the left, its total does.
use Rattle.std.proofs.Common.{◌≡◌, ◌≤◌, ◌+◌, ◌*◌, inl, inr, ℕ, suc, List, [], ◌∷◌, refl, ap, arith}
use Rattle.std.proofs.Math.Nat.{mul-le-mul_right}
use Rattle.hy_progress.specs.Numbers.{RiseBy, Falls, weight, total, FallingLowers}

same_weight : (c : ℕ) (ns ms : List ℕ) → RiseBy c ns ms → weight c ms ≡ weight c ns
same_weight c [] [] h = refl
same_weight c [] (m ∷ ms) h = absurd h
same_weight c (n ∷ ns) [] h = absurd h
same_weight c (n ∷ ns) (m ∷ ms) h = ap (λ w. (c + 1) * w) (same_weight c ns ms h.1)

-- all that the numbers behind one may rise is less than what that one counts
rise_less : (c : ℕ) (ns ms : List ℕ) → RiseBy c ns ms → total c ms + 1 ≤ total c ns + weight c ns
rise_less c [] [] h = omega arith
rise_less c [] (m ∷ ms) h = absurd h
rise_less c (n ∷ ns) [] h = absurd h
rise_less c (n ∷ ns) (m ∷ ms) h =
    let later = rise_less c ns ms h.1 in
    let w : m * weight c ms ≡ m * weight c ns = ap (λ x. m * x) (same_weight c ns ms h.1) in
    let most : m * weight c ns ≤ (n + c) * weight c ns = mul-le-mul_right (weight c ns) h.0 in
    let apart : (n + c) * weight c ns + weight c ns ≡ n * weight c ns + (c + 1) * weight c ns = grind arith in
    omega (arith, later, w, most, apart)

fallen_weight : (c : ℕ) (ns ms : List ℕ) → Falls c ns ms → weight c ms ≡ weight c ns
fallen_weight c [] ms h = absurd h
fallen_weight c (n ∷ ns) [] h = absurd h
fallen_weight c (n ∷ ns) (m ∷ ms) (inl h) = ap (λ w. (c + 1) * w) (same_weight c ns ms h.1)
fallen_weight c (n ∷ ns) (m ∷ ms) (inr h) = ap (λ w. (c + 1) * w) (fallen_weight c ns ms h.1)

pub falling_lowers : FallingLowers
falling_lowers c [] ms h = absurd h
falling_lowers c (n ∷ ns) [] h = absurd h
falling_lowers c (n ∷ ns) (m ∷ ms) (inl h) =
    let later = rise_less c ns ms h.1 in
    let w : m * weight c ms ≡ m * weight c ns = ap (λ x. m * x) (same_weight c ns ms h.1) in
    let most : suc m * weight c ns ≤ n * weight c ns = mul-le-mul_right (weight c ns) (omega (arith, h.0)) in
    let apart : suc m * weight c ns ≡ m * weight c ns + weight c ns = grind arith in
    omega (arith, later, w, most, apart)
falling_lowers c (n ∷ ns) (m ∷ ms) (inr h) =
    let later = falling_lowers c ns ms h.1 in
    let w : m * weight c ms ≡ m * weight c ns = ap (λ x. m * x) (fallen_weight c ns ms h.1) in
    let most : m * weight c ns ≤ n * weight c ns = mul-le-mul_right (weight c ns) h.0 in
    omega (arith, later, w, most)
