-- Numbers that change as their parts do.
use Rattle.std.proofs.Common.{◌≡◌, ◌<◌, ◌≤◌, ◌+◌, ◌*◌, ℕ, suc, arith}

pub swap_one : (a b : ℕ) → a + b ≡ b + a
swap_one a b = omega arith

pub swap_left : (a b m : ℕ) → (a + m) + b ≡ (b + m) + a
swap_left a b m = omega arith

pub swap_right : (a b m : ℕ) → (m + a) + b ≡ (m + b) + a
swap_right a b m = omega arith

pub swap_left_of : (k a b m : ℕ) → (k + (a + m)) + b ≡ (k + (b + m)) + a
swap_left_of k a b m = omega arith

pub swap_right_of : (k a b m : ℕ) → (k + (m + a)) + b ≡ (k + (m + b)) + a
swap_right_of k a b m = omega arith

-- two numbers that differ as two others do
pub less_up : (y x b a : ℕ) → b + x ≡ a + y → y < x → b < a
less_up y x b a h low = omega (arith, h, low)

pub same_up : (y x b a : ℕ) → b + x ≡ a + y → y ≡ x → b ≡ a
same_up y x b a h same = omega (arith, h, same)

pub weight_up : (y x b a : ℕ) (v u d c : ℕ) (t s f e : ℕ) → b + x ≡ a + y → d + u ≡ c + v → f + s ≡ e + t → 3 * y + (v + t) < 3 * x + (u + s) → 3 * b + (d + f) < 3 * a + (c + e)
weight_up y x b a v u d c t s f e h g k low = omega (arith, h, g, k, low)

-- one count less for at most one more of two others
pub weight_traded : (k v u d c m n : ℕ) → v ≤ suc u → d ≡ suc c → 3 * (0 + k) + ((v + m) + (d + n)) < 3 * (1 + k) + ((u + m) + (c + n))
weight_traded k v u d c m n h g = omega (arith, h, g)

pub weight_fewer : (k v u d c m n : ℕ) → u ≡ suc v → d ≤ c → 3 * k + ((v + m) + (d + n)) < 3 * k + ((u + m) + (c + n))
weight_fewer k v u d c m n h g = omega (arith, h, g)

pub weight_dropped : (k v u d c m n : ℕ) → v ≡ u → c ≡ suc d → 3 * k + ((v + m) + (d + n)) < 3 * k + ((u + m) + (c + n))
weight_dropped k v u d c m n h g = omega (arith, h, g)

pub one_more : (k : ℕ) → 0 + k < 1 + k
one_more k = omega arith

pub fewer_by : (v u m : ℕ) → u ≡ suc v → v + m < u + m
fewer_by v u m h = omega (arith, h)
