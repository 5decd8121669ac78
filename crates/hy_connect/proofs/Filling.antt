-- While the rows of one frame are spread, an outlet lets one frame more wait at most.
use Rattle.std.proofs.Common.{◌≡◌, ◌≢◌, ◌<◌, ◌≤◌, ◌+◌, ℕ, zero, suc, nat_eq, List, [], ◌∷◌, ◌++◌, length, take, set, get_or, Option, Some, None, refl, sym, ap, subst, ◌∙◌, inl, inr, arith}
use Rattle.std.proofs.lemmas.List.{take_more}
use Rattle.hy_frame.specs.Frame.{FrameOf, IsFull, with_rows}
use Rattle.hy_frame.specs.FrameText.{FrameText, IsAlone, IsFrameSize, taken}
use Rattle.hy_frame.specs.Row.{Fields, row_size}
use Rattle.hy_frame.proofs.FrameLaws.{taken-push}
use Rattle.hy_job.proofs.Members.{by_cases}
use Rattle.hy_mail.specs.declared.parcel.Parcel.{Parcel}
use Rattle.hy_connect.specs.Filling.{AllStay, AllStop, AllWithin, IsFilledTo, LacksRoom, StaysWithin, StopsWithin, Within}
use Rattle.hy_connect.specs.Many.{MoreWait}
use Rattle.hy_connect.specs.Outlets.{OutletOf, Extends, outlet_at}
use Rattle.hy_connect.proofs.Fronts.{read_at, set_at, set_off}
use Rattle.hy_connect.proofs.Merging.{other_number, same_number}

-- ---- one outlet

within_waits : (unit start most : ℕ) (o : OutletOf) → Within unit start most o → length o.waits ≤ start + 1
within_waits unit start most o (inl h) = omega arith
within_waits unit start most o (inr h) = h.0

filled_more : (unit most more : ℕ) (f : Option FrameOf) → most ≤ more → IsFilledTo unit most f → IsFilledTo unit more f
filled_more unit most more None le h = tt
filled_more unit most more (Some f) le h = (h.0, h.1, let t = h.2 in omega arith)

within_more : (unit start most more : ℕ) (o : OutletOf) → most ≤ more → Within unit start most o → Within unit start more o
within_more unit start most more o le (inl h) = inl h
within_more unit start most more o le (inr h) = inr (h.0, filled_more unit most more o.filling le h.1)

pub extends_within : (unit : ℕ) (old new : OutletOf) (row : Fields) → Extends old row new → StaysWithin unit (row_size row) old new
extends_within unit old new row h start most le (inl w) =
    let e : length new.waits ≡ length old.waits = ap (λ (o : OutletOf). length o.waits) h.is in
    inl (omega arith)
extends_within unit old new row h start most le (inr w) =
    let e : length new.waits ≡ length old.waits = ap (λ (o : OutletOf). length o.waits) h.is in
    let f = h.frame in
    let was : IsFilledTo unit most (Some f) = subst (IsFilledTo unit most) h.was w.1 in
    let p = taken-push f.rows row in
    let t = was.2 in
    let fill : IsFilledTo unit (most + (row_size row + 4)) (Some (with_rows f (f.rows ++ row ∷ []))) = (was.0, was.1, omega arith) in
    inr (let l = w.0 in omega arith, subst (IsFilledTo unit (most + (row_size row + 4))) (sym (ap (λ (o : OutletOf). o.filling) h.is)) fill)

-- what has no room is not what was begun since
has_room : (unit most size : ℕ) (f : FrameOf) → most + size + 8 ≤ unit → IsFilledTo unit most (Some f) → IsFull f size → ⊥
has_room unit most size f le h (inl full) = let a = h.1 in let b = h.2 in omega arith
has_room unit most size f le h (inr full) = let a = h.0 in let b = h.1 in let c = full.0 in omega arith

-- the frame that was filled, if one was, waits; or memory was wanting
flushed_within : (unit start most size : ℕ) (filling : Option FrameOf) (old mid new : OutletOf) → old.filling ≡ filling → mid ≡ old → LacksRoom filling size → (mid.filling ≡ None → new.waits ≡ mid.waits) → length new.waits ≤ length mid.waits + 1
    → most + size + 8 ≤ unit → Within unit start most old → length new.waits ≤ start + 1
flushed_within unit start most size filling old mid new is same lacks none more le (inl w) =
    let e : length mid.waits ≡ length old.waits = ap (λ (o : OutletOf). length o.waits) same in
    omega arith
flushed_within unit start most size None old mid new is same lacks none more le (inr w) =
    let e : length mid.waits ≡ length old.waits = ap (λ (o : OutletOf). length o.waits) same in
    let f : length new.waits ≡ length mid.waits = ap (λ (ws : List Parcel). length ws) (none (ap (λ (o : OutletOf). o.filling) same ∙ is)) in
    let l = w.0 in
    omega arith
flushed_within unit start most size (Some f) old mid new is same lacks none more le (inr w) = absurd (has_room unit most size f le (subst (IsFilledTo unit most) is w.1) lacks)

pub stops_within : (unit size : ℕ) (old mid new : OutletOf) → mid ≡ old → LacksRoom old.filling size → (mid.filling ≡ None → new.waits ≡ mid.waits) → length new.waits ≤ length mid.waits + 1 → StopsWithin unit size old new
stops_within unit size old mid new same lacks none more start most le w = flushed_within unit start most size old.filling old mid new refl same lacks none more le w

pub begun_stops : (unit size : ℕ) (old mid new : OutletOf) → StopsWithin unit size old mid → new.waits ≡ mid.waits → StopsWithin unit size old new
begun_stops unit size old mid new h e start most le w =
    let a = h start most le w in
    let b : length new.waits ≡ length mid.waits = ap (λ (ws : List Parcel). length ws) e in
    omega arith

pub begun_stays : (unit size : ℕ) (old mid new : OutletOf) → StopsWithin unit size old mid → new.waits ≡ mid.waits → (size + 8 ≤ unit → IsFilledTo unit (size + 4) new.filling) → StaysWithin unit size old new
begun_stays unit size old mid new h e fill start most le w =
    inr (begun_stops unit size old mid new h e start most le w, filled_more unit (size + 4) (most + (size + 4)) new.filling (omega arith) (fill (omega arith)))

pub one_filled : (unit : ℕ) (f : FrameOf) (row : Fields) → f.unit ≡ unit → f.size ≡ unit → f.rows ≡ row ∷ [] → IsFilledTo unit (row_size row + 4) (Some f)
one_filled unit f row u s r = (u, s, let e : taken f.rows ≡ row_size row + 4 + 0 = ap taken r in omega arith)

-- ---- all outlets

pub all_stay : (unit size : ℕ) (old : List OutletOf) (k : ℕ) (d o : OutletOf) → k < length old → StaysWithin unit size (get_or old k d) o → AllStay unit size old (set old k o)
all_stay unit size old k d o there h first most count le w j low = by_cases (nat_eq j k)
    (λ y. let e = same_number j k y in
    let was : Within unit (length (outlet_at first j).waits) most (get_or old k d) = subst (Within unit (length (outlet_at first j).waits) most) (ap (outlet_at old) e ∙ sym (read_at old k d there)) (w j low) in
    subst (Within unit (length (outlet_at first j).waits) (most + (size + 4))) (sym (set_at old k j o there e)) (h (length (outlet_at first j).waits) most le was))
    (λ m. subst (Within unit (length (outlet_at first j).waits) (most + (size + 4))) (sym (set_off old k j o (other_number j k m)))
    (within_more unit (length (outlet_at first j).waits) most (most + (size + 4)) (outlet_at old j) (omega arith) (w j low)))

pub all_stop : (unit size : ℕ) (old : List OutletOf) (k : ℕ) (d o : OutletOf) → k < length old → StopsWithin unit size (get_or old k d) o → AllStop unit size old (set old k o)
all_stop unit size old k d o there h first most count le w j low = by_cases (nat_eq j k)
    (λ y. let e = same_number j k y in
    let was : Within unit (length (outlet_at first j).waits) most (get_or old k d) = subst (Within unit (length (outlet_at first j).waits) most) (ap (outlet_at old) e ∙ sym (read_at old k d there)) (w j low) in
    subst (λ (x : OutletOf). length x.waits ≤ length (outlet_at first j).waits + 1) (sym (set_at old k j o there e)) (h (length (outlet_at first j).waits) most le was))
    (λ m. subst (λ (x : OutletOf). length x.waits ≤ length (outlet_at first j).waits + 1) (sym (set_off old k j o (other_number j k m)))
    (within_waits unit (length (outlet_at first j).waits) most (outlet_at old j) (w j low)))

pub none_stop : (unit size : ℕ) (old : List OutletOf) → AllStop unit size old old
none_stop unit size old first most count le w k low = within_waits unit (length (outlet_at first k).waits) most (outlet_at old k) (w k low)

pub within_first : (unit most : ℕ) (xs : List OutletOf) → AllWithin unit most xs xs
within_first unit most xs k low = inl (omega arith)

pub within_more_wait : (unit most : ℕ) (xs ys : List OutletOf) → AllWithin unit most xs ys → MoreWait 1 xs ys
within_more_wait unit most xs ys h k low = within_waits unit (length (outlet_at xs k).waits) most (outlet_at ys k) (h k low)

-- ---- the rows of a frame

taken_front : (rows : List Fields) (i : ℕ) → taken (take i rows) ≤ taken rows
taken_front [] zero = omega arith
taken_front [] (suc i) = omega arith
taken_front (row ∷ rows) zero = omega arith
taken_front (row ∷ rows) (suc i) = let h = taken_front rows i in omega arith

pub taken_next : (rows : List Fields) (i : ℕ) (row : Fields) → i < length rows → row ≡ get_or rows i [] → taken (take (i + 1) rows) ≡ taken (take i rows) + (row_size row + 4)
taken_next rows i row low e =
    ap taken (take_more rows i [] low) ∙ (ap (λ (r : Fields). taken (take i rows ++ r ∷ [])) (sym e) ∙ taken-push (take i rows) row)

pub room_for : (rows : List Fields) (i unit : ℕ) (row : Fields) → i < length rows → row ≡ get_or rows i [] → taken rows + 4 ≤ unit → taken (take i rows) + row_size row + 8 ≤ unit
room_for rows i unit row low e le =
    let a = taken_next rows i row low e in
    let b = taken_front rows (i + 1) in
    omega arith

-- a frame is of the unit's size, or has one row alone
one_each : (unit size : ℕ) (rows : List Fields) (xs ys : List OutletOf) → IsFrameSize unit rows size → MoreWait (length rows) xs ys → (taken rows + 4 ≤ unit → MoreWait 1 xs ys) → MoreWait 1 xs ys
one_each unit size rows xs ys (inl h) each all = all (let a = h.0 in let b = h.1 in omega arith)
one_each unit size rows xs ys (inr h) each all =
    let alone : IsAlone unit rows size = h.1 in
    let l : length rows ≡ 1 = ap (λ (r : List Fields). length r) alone.1 in
    λ k low. let a = each k low in omega arith

pub one_more_waits : (unit arity : ℕ) (rows : List Fields) (bytes : List ℕ) (xs ys : List OutletOf) → (rows ≢ [] → FrameText rows arity unit bytes) → MoreWait (length rows) xs ys → (taken rows + 4 ≤ unit → MoreWait 1 xs ys) → MoreWait 1 xs ys
one_more_waits unit arity [] bytes xs ys text each all = λ k low. let a : length (outlet_at ys k).waits ≤ length (outlet_at xs k).waits + 0 = each k low in omega arith
one_more_waits unit arity (row ∷ rows) bytes xs ys text each all = one_each unit (length bytes) (row ∷ rows) xs ys (text (λ e. cc)).sized each all
