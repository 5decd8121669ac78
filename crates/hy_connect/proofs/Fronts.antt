-- What is done to outlets one after the other.
use Rattle.std.proofs.Common.{◌≡◌, ◌≢◌, ◌⊎◌, ◌<◌, ◌≤◌, ◌+◌, ℕ, List, length, set, refl, sym, ap, ◌∙◌, inl, inr, arith, length-set, get_or-set_other, eq-or-lt_of_le, le_refl}
use Rattle.std.proofs.Common.{get_or}
use Rattle.std.proofs.lemmas.Grind.{get_or-set_at}
use Rattle.std.proofs.lemmas.List.{get_or_default}
use Rattle.hy_connect.specs.Outlets.{OutletOf, blank, outlet_at}
use Rattle.hy_connect.specs.Many.{Each, Front}

pub last_or_before : (k n : ℕ) → k < n + 1 → (k ≡ n) ⊎ (k < n)
last_or_before k n low = eq-or-lt_of_le (omega arith)

pub set_at : (xs : List OutletOf) (n k : ℕ) (o : OutletOf) → n < length xs → k ≡ n → outlet_at (set xs n o) k ≡ o
set_at xs n k o low e = get_or-set_at xs n k o blank e low

pub set_off : (xs : List OutletOf) (n k : ℕ) (o : OutletOf) → k ≢ n → outlet_at (set xs n o) k ≡ outlet_at xs k
set_off xs n k o off = get_or-set_other xs n k o blank off

pub front_none : (f : OutletOf → OutletOf) (xs : List OutletOf) → Front f 0 xs xs
front_none f xs = record { count = refl; done = λ k low there. absurd (omega arith); left = λ k low. refl }

front_done : (f : OutletOf → OutletOf) (n k : ℕ) (xs ys : List OutletOf) (o : OutletOf) → n < length ys → Front f n xs ys → o ≡ f (outlet_at ys n) → k < length xs → (k ≡ n) ⊎ (k < n) → outlet_at (set ys n o) k ≡ f (outlet_at xs k)
front_done f n k xs ys o low h is there (inl e) =
    set_at ys n k o low e ∙ is ∙ ap f (h.left n (le_refl n) ∙ ap (outlet_at xs) (sym e))
front_done f n k xs ys o low h is there (inr before) = set_off ys n k o (λ e. absurd (omega arith)) ∙ h.done k before there

pub front_more : (f : OutletOf → OutletOf) (n : ℕ) (xs ys : List OutletOf) (o : OutletOf) → n < length ys → Front f n xs ys → o ≡ f (outlet_at ys n) → Front f (n + 1) xs (set ys n o)
front_more f n xs ys o low h is = record {
  count = length-set ys n o ∙ h.count;
  done = λ k before there. front_done f n k xs ys o low h is there (last_or_before k n before);
  left = λ k above. set_off ys n k o (λ e. absurd (omega arith)) ∙ h.left k (omega arith);
}

pub front_end : (f : OutletOf → OutletOf) (n : ℕ) (xs ys : List OutletOf) → length xs ≤ n → Front f n xs ys → Each f xs ys
front_end f n xs ys above h = record { count = h.count; each = λ k low. h.done k (omega arith) low }

-- code reads a list with another default
pub read_at : (xs : List OutletOf) (k : ℕ) (d : OutletOf) → k < length xs → get_or xs k d ≡ outlet_at xs k
read_at xs k d low = get_or_default xs k d blank low
