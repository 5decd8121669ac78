-- How many frames outlets hold, and what banks that were lent have out.
use Rattle.std.proofs.Common.{◌≡◌, ◌<◌, ◌≤◌, ◌+◌, ℕ, zero, suc, List, [], ◌∷◌, length, set, get_or, Option, None, Some, refl, ap, ◌∙◌, arith}
use Rattle.hy_frame.specs.Bank.{BankOf}
use Rattle.hy_frame.specs.Frame.{FrameOf}
use Rattle.hy_connect.specs.Outlets.{OutletOf, Lent, held_in, held_of, outlet_at}
use Rattle.hy_connect.specs.Many.{FillNone}
use Rattle.hy_connect.proofs.Fronts.{read_at}

pub held_in_most : (f : Option FrameOf) → held_in f ≤ 1
held_in_most None = omega arith
held_in_most (Some f) = omega arith

pub held_most : (xs : List OutletOf) → held_of xs ≤ length xs
held_most [] = omega arith
held_most (x ∷ xs) = let h = held_most xs in let m = held_in_most x.filling in omega arith

pub held_set : (xs : List OutletOf) (k : ℕ) (o : OutletOf) → k < length xs → held_of (set xs k o) + held_in (outlet_at xs k).filling ≡ held_of xs + held_in o.filling
held_set [] k o low = absurd (omega arith)
held_set (x ∷ xs) zero o low = omega arith
held_set (x ∷ xs) (suc k) o low = let h = held_set xs k o (omega arith) in omega arith

pub held_room : (xs : List OutletOf) (k : ℕ) → k < length xs → held_of xs + 1 ≤ length xs + held_in (outlet_at xs k).filling
held_room [] k low = absurd (omega arith)
held_room (x ∷ xs) zero low = let h = held_most xs in omega arith
held_room (x ∷ xs) (suc k) low = let h = held_room xs k (omega arith) in let m = held_in_most x.filling in omega arith

pub held_least : (xs : List OutletOf) (k : ℕ) → k < length xs → held_in (outlet_at xs k).filling ≤ held_of xs
held_least [] k low = absurd (omega arith)
held_least (x ∷ xs) zero low = omega arith
held_least (x ∷ xs) (suc k) low = let h = held_least xs k (omega arith) in omega arith

pub held_none : (xs : List OutletOf) → FillNone xs → held_of xs ≡ 0
held_none [] n = refl
held_none (x ∷ xs) n =
    let h = held_none xs (λ k low. n (suc k) (omega arith)) in
    let z : held_in x.filling ≡ 0 = ap held_in (n zero (omega arith)) in
    omega arith

pub held_same : (xs ys : List OutletOf) → length ys ≡ length xs → ((k : ℕ) → k < length xs → (outlet_at ys k).filling ≡ (outlet_at xs k).filling) → held_of ys ≡ held_of xs
held_same [] [] count e = refl
held_same [] (y ∷ ys) count e = absurd (omega arith)
held_same (x ∷ xs) [] count e = absurd (omega arith)
held_same (x ∷ xs) (y ∷ ys) count e =
    let h = held_same xs ys (omega arith) (λ k low. e (suc k) (omega arith)) in
    let z : held_in y.filling ≡ held_in x.filling = ap held_in (e zero (omega arith)) in
    omega arith

-- ---- banks

pub lent_none : (n : ℕ) (p : BankOf) → Lent n n p p
lent_none n p = record { out = refl; unit = refl; limit = refl }

pub lent_then : (a b c : ℕ) (p q r : BankOf) → Lent a b p q → Lent b c q r → Lent a c p r
lent_then a b c p q r x y = record {
  out = let s = x.out in let t = y.out in omega arith;
  unit = y.unit ∙ x.unit;
  limit = y.limit ∙ x.limit;
}

-- what one outlet holds more, all hold more
pub lent_set : (xs : List OutletOf) (k : ℕ) (o : OutletOf) (p q : BankOf) → k < length xs → Lent (held_in (outlet_at xs k).filling) (held_in o.filling) p q → Lent (held_of xs) (held_of (set xs k o)) p q
lent_set xs k o p q low x = record {
  out = let s = x.out in let h = held_set xs k o low in omega arith;
  unit = x.unit;
  limit = x.limit;
}

-- an outlet of a list with so many frames holds no more than these
pub held_here : (xs : List OutletOf) (k n : ℕ) (d : OutletOf) → k < length xs → held_of xs ≤ n → held_in (get_or xs k d).filling ≤ n
held_here xs k n d low le =
    let h = held_least xs k low in
    let e : held_in (get_or xs k d).filling ≡ held_in (outlet_at xs k).filling = ap (λ (o : OutletOf). held_in o.filling) (read_at xs k d low) in
    omega arith

-- a bank with room for a frame in each outlet has room for one in this
pub room_here : (xs : List OutletOf) (k out limit : ℕ) (d : OutletOf) → k < length xs → out + length xs ≤ limit + held_of xs → out + 1 ≤ limit + held_in (get_or xs k d).filling
room_here xs k out limit d low room =
    let h = held_room xs k low in
    let e : held_in (get_or xs k d).filling ≡ held_in (outlet_at xs k).filling = ap (λ (o : OutletOf). held_in o.filling) (read_at xs k d low) in
    omega arith

-- the outlet that was read changed, and so did the list
pub lent_at : (xs : List OutletOf) (k n : ℕ) (d o : OutletOf) (p q : BankOf) → k < length xs → held_in o.filling ≡ n → Lent (held_in (get_or xs k d).filling) n p q → Lent (held_of xs) (held_of (set xs k o)) p q
lent_at xs k n d o p q low is x = lent_set xs k o p q low (record {
  out =
      let e : held_in (get_or xs k d).filling ≡ held_in (outlet_at xs k).filling = ap (λ (o : OutletOf). held_in o.filling) (read_at xs k d low) in
      let s = x.out in
      omega arith;
  unit = x.unit;
  limit = x.limit;
})
