-- How many parcels more wait.
use Rattle.std.proofs.Common.{◌≡◌, ◌<◌, ◌≤◌, ◌+◌, ℕ, nat_eq, List, length, set, get_or, Result, Ok, Err, OnOk, OnErr, sym, ap, ◌∙◌, arith}
use Rattle.std.proofs.lemmas.List.{length_push}
use Rattle.hy_frame.specs.Frame.{FrameOf}
use Rattle.hy_job.proofs.Members.{by_cases}
use Rattle.hy_mail.specs.declared.parcel.Parcel.{Parcel}
use Rattle.hy_mail.specs.declared.parcel.Parcel.TheVariants as P
use Rattle.hy_connect.specs.Outlets.{OutletOf, Grows, Sends, outlet_at}
use Rattle.hy_connect.specs.Many.{MoreWait}
use Rattle.hy_connect.proofs.Fronts.{read_at, set_at, set_off}
use Rattle.hy_connect.proofs.Merging.{other_number, same_number}

pub sent_waits : {E : Type 0} (result : Result (Unit {0}) E) (old new : OutletOf) (f : FrameOf) → OnOk result (Sends old f new) → OnErr result (Grows old new) → length new.waits ≤ length old.waits + 1
sent_waits (Ok x) old new f ok err = let e = ap (λ (ws : List Parcel). length ws) ok.waits in let h = length_push old.waits (P.Frame f) in omega arith
sent_waits (Err x) old new f ok err = let e = ap (λ (ws : List Parcel). length ws) err.waits in omega arith

pub same_waits : (a b : OutletOf) (n : ℕ) → b.waits ≡ a.waits → length b.waits ≤ length a.waits + n
same_waits a b n e = let l = ap (λ (ws : List Parcel). length ws) e in omega arith

pub none_wait : (n : ℕ) (xs : List OutletOf) → MoreWait n xs xs
none_wait n xs k low = omega arith

pub waits_more : (m n : ℕ) (xs ys : List OutletOf) → m ≤ n → MoreWait m xs ys → MoreWait n xs ys
waits_more m n xs ys le h k low = let a = h k low in omega arith

pub waits_then : (m n : ℕ) (xs ys zs : List OutletOf) → length ys ≡ length xs → MoreWait m xs ys → MoreWait n ys zs → MoreWait (m + n) xs zs
waits_then m n xs ys zs count h g k low = let a = h k low in let b = g k (omega arith) in omega arith

-- one outlet changed
pub waits_set : (n : ℕ) (xs : List OutletOf) (k : ℕ) (d o : OutletOf) → k < length xs → length o.waits ≤ length (get_or xs k d).waits + n → MoreWait n xs (set xs k o)
waits_set n xs k d o there le j low = by_cases (nat_eq j k)
    (λ y. let e = same_number j k y in
    let here : length (outlet_at (set xs k o) j).waits ≡ length o.waits = ap (λ (x : OutletOf). length x.waits) (set_at xs k j o there e) in
    let was : length (get_or xs k d).waits ≡ length (outlet_at xs j).waits = ap (λ (x : OutletOf). length x.waits) (read_at xs k d there ∙ ap (outlet_at xs) (sym e)) in
    omega arith)
    (λ m. let off : length (outlet_at (set xs k o) j).waits ≡ length (outlet_at xs j).waits = ap (λ (x : OutletOf). length x.waits) (set_off xs k j o (other_number j k m)) in omega arith)

-- one outlet changed that was as at first
pub waits_at : (n : ℕ) (xs ys : List OutletOf) (k : ℕ) (d o : OutletOf) → length ys ≡ length xs → k < length ys → outlet_at ys k ≡ outlet_at xs k → length o.waits ≤ length (get_or ys k d).waits + n → MoreWait n xs ys → MoreWait n xs (set ys k o)
waits_at n xs ys k d o count there same le h j low = by_cases (nat_eq j k)
    (λ y. let e = same_number j k y in
    let here : length (outlet_at (set ys k o) j).waits ≡ length o.waits = ap (λ (x : OutletOf). length x.waits) (set_at ys k j o there e) in
    let was : length (get_or ys k d).waits ≡ length (outlet_at xs j).waits = ap (λ (x : OutletOf). length x.waits) (read_at ys k d there ∙ same ∙ ap (outlet_at xs) (sym e)) in
    omega arith)
    (λ m. let off : length (outlet_at (set ys k o) j).waits ≡ length (outlet_at ys j).waits = ap (λ (x : OutletOf). length x.waits) (set_off ys k j o (other_number j k m)) in
    let a = h j low in omega arith)
