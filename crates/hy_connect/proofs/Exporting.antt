-- How many frames a call exported.
use Rattle.std.proofs.Common.{◌≡◌, ◌<◌, ◌+◌, ◌-◌, ◌^◌, ℕ, zero, suc, List, [], ◌∷◌, ◌++◌, length, set, get_or, refl, ap, subst, ◌∙◌, arith}
use Rattle.hy_frame.specs.Bank.{BankOf, one_more}
use Rattle.hy_mail.specs.declared.parcel.Parcel.{Parcel}
use Rattle.hy_mail.specs.declared.parcel.Parcel.TheVariants as P
use Rattle.hy_connect.specs.Outlets.{OutletOf, Exports, Pops, frames_in, frames_of, frames_waiting, outlet_at, posted}
use Rattle.hy_connect.specs.Many.{AreFresh, Each}
use Rattle.hy_connect.proofs.Fronts.{read_at}

-- ---- counts

pub exports_same : (n m : ℕ) (p q : BankOf) → m ≡ n → q.exported ≡ p.exported → q.imported ≡ p.imported → Exports n m p q
exports_same n m p q e x i = record { no_less = omega (arith, e); exported = λ low. omega (arith, e, x); imported = i }

pub exports_none : (n : ℕ) (p : BankOf) → Exports n n p p
exports_none n p = exports_same n n p p refl refl refl

one_below : (n m : ℕ) → m ≡ one_more n → m < 2 ^ 64 - 1 → m ≡ n + 1
one_below n m e low = omega (arith, e, low)

pub exports_one : (n m : ℕ) (p q : BankOf) → m ≡ n + 1 → q.exported ≡ one_more p.exported → q.imported ≡ p.imported → Exports n m p q
exports_one n m p q e x i = record { no_less = omega (arith, e); exported = λ low. omega (arith, e, one_below p.exported q.exported x low); imported = i }

pub exports_then : (a b c : ℕ) (p q r : BankOf) → Exports a b p q → Exports b c q r → Exports a c p r
exports_then a b c p q r x y = record {
  no_less = let s = x.no_less in let t = y.no_less in omega arith;
  exported = λ low.
      let s = x.no_less in
      let t = y.no_less in
      let e = y.exported low in
      let below : q.exported < 2 ^ 64 - 1 = omega arith in
      let f = x.exported below in
      omega arith;
  imported = y.imported ∙ x.imported;
}

-- ---- parcels

pub frames_behind : (xs : List Parcel) (p : Parcel) → frames_in (xs ++ p ∷ []) ≡ frames_in xs + frames_of p
frames_behind [] p = omega arith
frames_behind (x ∷ xs) p = let h = frames_behind xs p in omega arith

-- a frame more waits, which was exported
pub posted_exports : (p : Parcel) (old mid new : OutletOf) (a b : BankOf) → frames_of p ≡ 1 → mid.waits ≡ old.waits → new ≡ posted p mid → b.exported ≡ one_more a.exported → b.imported ≡ a.imported → Exports (frames_in old.waits) (frames_in new.waits) a b
posted_exports p old mid new a b one same is x i =
    let e : frames_in new.waits ≡ frames_in (mid.waits ++ p ∷ []) = ap (λ (o : OutletOf). frames_in o.waits) is in
    let f = frames_behind mid.waits p in
    let m : frames_in mid.waits ≡ frames_in old.waits = ap frames_in same in
    exports_one (frames_in old.waits) (frames_in new.waits) a b (omega arith) x i

-- a parcel without a frame waits behind what waited
pub mark_exports : (p : Parcel) (n : ℕ) (mid new : OutletOf) (a b : BankOf) → frames_of p ≡ 0 → new ≡ posted p mid → Exports n (frames_in mid.waits) a b → Exports n (frames_in new.waits) a b
mark_exports p n mid new a b none is x =
    let e : frames_in new.waits ≡ frames_in (mid.waits ++ p ∷ []) = ap (λ (o : OutletOf). frames_in o.waits) is in
    let f = frames_behind mid.waits p in
    let s : frames_in mid.waits ≡ frames_in new.waits = omega arith in
    subst (λ (m : ℕ). Exports n m a b) s x

-- ---- all outlets

pub waiting_set : (xs : List OutletOf) (k : ℕ) (o : OutletOf) → k < length xs → frames_waiting (set xs k o) + frames_in (outlet_at xs k).waits ≡ frames_waiting xs + frames_in o.waits
waiting_set [] k o low = absurd (omega arith)
waiting_set (x ∷ xs) zero o low = omega arith
waiting_set (x ∷ xs) (suc k) o low = let h = waiting_set xs k o (omega arith) in omega arith

pub exports_at : (xs : List OutletOf) (k : ℕ) (d o : OutletOf) (p q : BankOf) → k < length xs → Exports (frames_in (get_or xs k d).waits) (frames_in o.waits) p q → Exports (frames_waiting xs) (frames_waiting (set xs k o)) p q
exports_at xs k d o p q low x =
    let e : frames_in (get_or xs k d).waits ≡ frames_in (outlet_at xs k).waits = ap (λ (o : OutletOf). frames_in o.waits) (read_at xs k d low) in
    let w = waiting_set xs k o low in
    let s = x.no_less in
    record {
      no_less = omega arith;
      exported = λ less. let y = x.exported less in omega arith;
      imported = x.imported;
    }

pub waiting_same : (xs ys : List OutletOf) → length ys ≡ length xs → ((k : ℕ) → k < length xs → frames_in (outlet_at ys k).waits ≡ frames_in (outlet_at xs k).waits) → frames_waiting ys ≡ frames_waiting xs
waiting_same [] [] count e = refl
waiting_same [] (y ∷ ys) count e = absurd (omega arith)
waiting_same (x ∷ xs) [] count e = absurd (omega arith)
waiting_same (x ∷ xs) (y ∷ ys) count e =
    let h = waiting_same xs ys (omega arith) (λ k low. e (suc k) (omega arith)) in
    let z : frames_in y.waits ≡ frames_in x.waits = e zero (omega arith) in
    omega arith

none_waiting : (xs : List OutletOf) → ((k : ℕ) → k < length xs → (outlet_at xs k).waits ≡ []) → frames_waiting xs ≡ 0
none_waiting [] h = refl
none_waiting (x ∷ xs) h =
    let r = none_waiting xs (λ k low. h (suc k) (omega arith)) in
    let z : frames_in x.waits ≡ 0 = ap frames_in (h zero (omega arith)) in
    omega arith

pub fresh_waiting : (boxes : List ℕ) (xs : List OutletOf) → AreFresh boxes xs → frames_waiting xs ≡ 0
fresh_waiting boxes xs h = none_waiting xs (λ k low. let c = h.count in (h.each k (omega arith)).waits)

-- an Open more in each is no frame more
pub waiting_opened : (xs ys : List OutletOf) → Each (posted P.Open) xs ys → frames_waiting ys ≡ frames_waiting xs
waiting_opened xs ys h = waiting_same xs ys h.count (λ k low.
    let b = frames_behind (outlet_at xs k).waits P.Open in
    let e : frames_in (outlet_at ys k).waits ≡ frames_in ((outlet_at xs k).waits ++ P.Open ∷ []) = ap (λ (o : OutletOf). frames_in o.waits) (h.each k low) in
    omega arith)

-- the first parcel of one was put
pub waiting_popped : (xs : List OutletOf) (k : ℕ) (p : Parcel) (o : OutletOf) → k < length xs → Pops (outlet_at xs k) p o → frames_waiting xs ≡ frames_of p + frames_waiting (set xs k o)
waiting_popped xs k p o low h =
    let w = waiting_set xs k o low in
    let e : frames_in (outlet_at xs k).waits ≡ frames_of p + frames_in o.waits = ap frames_in h.first in
    omega arith
