-- What each call of a writer leaves, by the parts of the writer.
use Rattle.std.proofs.Common.{◌≡◌, ◌⊎◌, ◌<◌, ◌≤◌, ◌+◌, ℕ, false, List, [], ◌++◌, length, take, drop, set, Option, None, Some, Result, Ok, Err, OnOk, OnErr, sym, ap, subst, ◌∙◌, arith, take_at}
use Rattle.std.proofs.lemmas.List.{length_push, set-get_or}
use Rattle.hy_frame.specs.Bank.{BankOf}
use Rattle.hy_frame.specs.Frame.{FrameOf}
use Rattle.hy_frame.specs.declared.writer.WriterState.{WriterState}
use Rattle.hy_frame.specs.declared.writer.WriterState.TheVariants.{Initial, Opened, Failed, Closed}
use Rattle.hy_mail.specs.declared.parcel.Parcel.{Parcel}
use Rattle.hy_mail.specs.declared.parcel.Parcel.TheVariants as P
use Rattle.hy_mail.specs.Events.{Put, word_after}
use Rattle.hy_driver.specs.Rows.{Row}
use Rattle.hy_connect.specs.declared.route.Route.{Route}
use Rattle.hy_connect.specs.declared.route.Route.TheVariants as R
use Rattle.hy_connect.specs.Routes.{fills}
use Rattle.hy_connect.specs.Outlets.{OutletOf, Exports, Lent, Pops, blank, closed, failed, flushed, flushed_with, frames_waiting, held_in, held_of, outlet_at, posted}
use Rattle.hy_connect.specs.Many.{Each, FillNone, HaveRoom, HaveRoomToo, MoreWait, Rips, Spreads}
use Rattle.hy_connect.specs.Writers.{AddsParcels, Fails, IsAsFar, IsWriter, SendsOn, Tears, TellsWritten, WriterOf, Writes, reserve, writer_of}
use Rattle.hy_connect.proofs.Exporting.{waiting_opened}
use Rattle.hy_connect.proofs.Held.{held_none, held_same, held_set}
use Rattle.hy_connect.proofs.Writing.{closed_none, closed_quiet, closes, closing_room, far_same, failed_fails, failed_none, failed_quiet, failed_stays, opened_stays, opened_writes, pops_far, pops_sends, rips_tears, spread_writes}

pub posted_parcels : (p : Parcel) (o : OutletOf) → length (posted p o).waits ≤ length o.waits + 1
posted_parcels p o = let h = length_push o.waits p in omega arith

pub flushed_parcels : (f : Option FrameOf) (o : OutletOf) → length (flushed_with f o).waits ≤ length o.waits + 1
flushed_parcels None o = omega arith
flushed_parcels (Some f) o = let h = length_push o.waits (P.Frame f) in omega arith

pub closed_parcels : (o : OutletOf) → length (closed o).waits ≤ length o.waits + 2
closed_parcels o = let h = length_push (flushed o).waits P.Close in let f = flushed_parcels o.filling o in omega arith

-- a writer, by its parts: its outlets, as the code lends them and as they were
pub record Parts (self : WriterOf) (route : Route) (arity unit n : ℕ) (lent xs : List OutletOf) (s : WriterState) : Type 0 where
  pub view : writer_of route arity unit xs s ≡ self
  pub is : IsWriter (writer_of route arity unit xs s)
  pub value : lent ≡ xs
  pub len : n ≡ length xs

-- what was lent comes back
abbrev pub written : ℕ → List OutletOf → List OutletOf → List OutletOf
written n ys xs = take n (ys ++ drop (length ys) xs)

written_is : (n : ℕ) (ys xs : List OutletOf) → length ys ≡ length xs → n ≡ length xs → written n ys xs ≡ ys
written_is n ys xs count len = take_at ys (drop (length ys) xs) n (count ∙ sym len)

same_each : (f : OutletOf → OutletOf) (lent xs ys : List OutletOf) → lent ≡ xs → Each f lent ys → Each f xs ys
same_each f lent xs ys e h = subst (λ (l : List OutletOf). Each f l ys) e h

module _ (self : WriterOf) (route : Route) (arity unit n : ℕ) (lent xs : List OutletOf) (s : WriterState) (p : Parts self route arity unit n lent xs s) where
  state_is : (t : WriterState) → self.state ≡ t → s ≡ t
  state_is t e = ap (λ (w : WriterOf). w.state) p.view ∙ e

  in_state : (t : WriterState) → self.state ≡ t → IsWriter (writer_of route arity unit xs t)
  in_state t e = subst (λ (u : WriterState). IsWriter (writer_of route arity unit xs u)) (state_is t e) p.is

  self_in : (t : WriterState) → self.state ≡ t → writer_of route arity unit xs t ≡ self
  self_in t e = ap (λ (u : WriterState). writer_of route arity unit xs u) (sym (state_is t e)) ∙ p.view

  back : (f : OutletOf → OutletOf) (ys : List OutletOf) → Each f lent ys → written n ys xs ≡ ys
  back f ys h = written_is n ys xs (h.count ∙ ap (λ (l : List OutletOf). length l) p.value) p.len

  room_in : (t : WriterState) (m : ℕ) → self.state ≡ t → m ≤ reserve t → HaveRoom m lent
  room_in t m e le = subst (HaveRoom m) (sym p.value) (λ k low. let h = (in_state t e).outlets k low in let sp = h.spare in omega arith)

  pub open_room : self.state ≡ Initial → HaveRoom 1 lent
  open_room e = room_in Initial 1 e (omega arith)

  pub open_is : self.state ≡ Initial → (ys : List OutletOf) → Each (posted P.Open) lent ys → IsWriter (writer_of route arity unit (written n ys xs) Opened)
  open_is e ys h = subst (λ (l : List OutletOf). IsWriter (writer_of route arity unit l Opened)) (sym (back (posted P.Open) ys h)) (opened_stays route arity unit xs ys (in_state Initial e) (same_each (posted P.Open) lent xs ys p.value h))

  pub open_held : (ys : List OutletOf) → Each (posted P.Open) lent ys → held_of (written n ys xs) ≡ held_of self.outlets
  open_held ys h =
      ap held_of (back (posted P.Open) ys h)
      ∙ held_same lent ys h.count (λ k low. ap (λ (o : OutletOf). o.filling) (h.each k low))
      ∙ ap held_of p.value ∙ ap (λ (w : WriterOf). held_of w.outlets) p.view

  pub open_told : self.state ≡ Initial → (ys : List OutletOf) → Each (posted P.Open) lent ys → Writes self [] (writer_of route arity unit (written n ys xs) Opened)
  open_told e ys h =
      subst (λ (l : List OutletOf). Writes self [] (writer_of route arity unit l Opened)) (sym (back (posted P.Open) ys h))
      (subst (λ (w : WriterOf). Writes w [] (writer_of route arity unit ys Opened)) (self_in Initial e) (opened_writes route arity unit xs ys (same_each (posted P.Open) lent xs ys p.value h)))

  -- ---- fail

  pub fail_room : self.state ≡ Opened → HaveRoom 1 lent
  fail_room e = room_in Opened 1 e (omega arith)

  pub fail_is : self.state ≡ Opened → (ys : List OutletOf) → Each failed lent ys → IsWriter (writer_of route arity unit (written n ys xs) Failed)
  fail_is e ys h = subst (λ (l : List OutletOf). IsWriter (writer_of route arity unit l Failed)) (sym (back failed ys h)) (failed_stays route arity unit xs ys (in_state Opened e) (same_each failed lent xs ys p.value h))

  pub fail_empty : (ys : List OutletOf) → Each failed lent ys → held_of (written n ys xs) ≡ 0
  fail_empty ys h = ap held_of (back failed ys h) ∙ held_none ys (failed_none lent ys h)

  pub fail_out : (ys : List OutletOf) (a b : BankOf) → Each failed lent ys → Lent (held_of lent) (held_of ys) a b → b.out + held_of self.outlets ≡ a.out
  fail_out ys a b h x =
      let z : held_of ys ≡ 0 = held_none ys (failed_none lent ys h) in
      let y : held_of lent ≡ held_of self.outlets = ap held_of p.value ∙ ap (λ (w : WriterOf). held_of w.outlets) p.view in
      let t = x.out in
      omega arith

  pub fail_told : self.state ≡ Opened → (ys : List OutletOf) → Each failed lent ys → Fails self (writer_of route arity unit (written n ys xs) Failed)
  fail_told e ys h =
      subst (λ (l : List OutletOf). Fails self (writer_of route arity unit l Failed)) (sym (back failed ys h))
      (subst (λ (w : WriterOf). Fails w (writer_of route arity unit ys Failed)) (self_in Opened e) (failed_fails route arity unit xs ys (same_each failed lent xs ys p.value h)))

  -- ---- close

  ready_is : (self.state ≡ Opened) ⊎ (self.state ≡ Failed) → (s ≡ Opened) ⊎ (s ≡ Failed)
  ready_is r = subst (λ (t : WriterState). (t ≡ Opened) ⊎ (t ≡ Failed)) (sym (ap (λ (w : WriterOf). w.state) p.view)) r

  pub close_room : (self.state ≡ Opened) ⊎ (self.state ≡ Failed) → HaveRoomToo lent
  close_room r = subst HaveRoomToo (sym p.value) (closing_room route arity unit xs s (ready_is r) p.is)

  pub close_empty : (ys : List OutletOf) → Each closed lent ys → held_of (written n ys xs) ≡ 0
  close_empty ys h = ap held_of (back closed ys h) ∙ held_none ys (closed_none lent ys h)

  pub close_out : (ys : List OutletOf) (a b : BankOf) → Each closed lent ys → Lent (held_of lent) (held_of ys) a b → b.out + held_of self.outlets ≡ a.out
  close_out ys a b h x =
      let z : held_of ys ≡ 0 = held_none ys (closed_none lent ys h) in
      let y : held_of lent ≡ held_of self.outlets = ap held_of p.value ∙ ap (λ (w : WriterOf). held_of w.outlets) p.view in
      let t = x.out in
      omega arith

  pub close_told : (self.state ≡ Opened) ⊎ (self.state ≡ Failed) → (ys : List OutletOf) → Each closed lent ys → Writes self [] (writer_of route arity unit (written n ys xs) Closed)
  close_told r ys h =
      subst (λ (l : List OutletOf). Writes self [] (writer_of route arity unit l Closed)) (sym (back closed ys h))
      (subst (λ (w : WriterOf). Writes w [] (writer_of route arity unit ys Closed)) p.view (closes route arity unit xs ys s (ready_is r) p.is (same_each closed lent xs ys p.value h)))

  -- ---- parcels

  pub adds_parcels : (f : OutletOf → OutletOf) (n' : ℕ) (t : WriterState) (ys : List OutletOf) → ((o : OutletOf) → length (f o).waits ≤ length o.waits + n') → Each f lent ys → AddsParcels n' self (writer_of route arity unit (written n ys xs) t)
  adds_parcels f n' t ys most h =
      subst (λ (l : List OutletOf). AddsParcels n' self (writer_of route arity unit l t)) (sym (back f ys h))
      (subst (λ (w : WriterOf). AddsParcels n' w (writer_of route arity unit ys t)) p.view
      (λ k low.
      let each = same_each f lent xs ys p.value h in
      subst (λ (o : OutletOf). length o.waits ≤ length (outlet_at xs k).waits + n') (sym (each.each k low)) (most (outlet_at xs k))))

  pub close_ends : self.state ≡ Failed → (ys : List OutletOf) → Each closed lent ys → Each (posted P.Close) self.outlets (written n ys xs)
  close_ends e ys h =
      let own : Each closed xs ys = same_each closed lent xs ys p.value h in
      let quiet : FillNone xs = (in_state Failed e).quiet (failed_quiet route) in
      let alone : Each (posted P.Close) xs ys = record { count = own.count; each = λ k low. own.each k low ∙ closed_quiet (outlet_at xs k) (quiet k low) } in
      subst (λ (l : List OutletOf). Each (posted P.Close) self.outlets l) (sym (back closed ys h))
      (subst (λ (l : List OutletOf). Each (posted P.Close) l ys) (ap (λ (w : WriterOf). w.outlets) p.view) alone)

  -- ---- frames

  pub open_waiting : (ys : List OutletOf) → Each (posted P.Open) lent ys → frames_waiting (written n ys xs) ≡ frames_waiting self.outlets
  open_waiting ys h = ap frames_waiting (back (posted P.Open) ys h) ∙ waiting_opened lent ys h ∙ ap frames_waiting (p.value ∙ ap (λ (w : WriterOf). w.outlets) p.view)

  pub all_exports : (ys : List OutletOf) (a b : BankOf) → length ys ≡ length lent → Exports (frames_waiting lent) (frames_waiting ys) a b → Exports (frames_waiting self.outlets) (frames_waiting (written n ys xs)) a b
  all_exports ys a b count x =
      subst (λ (l : List OutletOf). Exports (frames_waiting self.outlets) (frames_waiting l) a b) (sym (written_is n ys xs (count ∙ ap (λ (l : List OutletOf). length l) p.value) p.len))
      (subst (λ (l : List OutletOf). Exports (frames_waiting l) (frames_waiting ys) a b) (p.value ∙ ap (λ (w : WriterOf). w.outlets) p.view) x)

  -- ---- rows

  pub whole_out : (ys : List OutletOf) (a b : BankOf) → self.state ≡ Opened → route ≡ R.Whole → length ys ≡ length lent → FillNone ys → Lent 1 0 a b → b.out + (held_of self.outlets + 1) ≡ a.out + held_of (written n ys xs)
  whole_out ys a b e whole count none x =
      let w : held_of (written n ys xs) ≡ held_of ys = ap held_of (written_is n ys xs (count ∙ ap (λ (l : List OutletOf). length l) p.value) p.len) in
      let z : held_of ys ≡ 0 = held_none ys none in
      let quiet : fills s route ≡ false = ap (λ (r : Route). fills s r) whole ∙ ap (λ (t : WriterState). fills t R.Whole) (state_is Opened e) in
      let y : held_of self.outlets ≡ 0 = ap (λ (w : WriterOf). held_of w.outlets) (sym p.view) ∙ held_none xs (p.is.quiet quiet) in
      let t = x.out in
      omega arith

  wrote : (r : Route) (m : ℕ) (ys : List OutletOf) (rows : List Row) → self.state ≡ Opened → route ≡ r → m ≡ self.arity → Spreads r m lent rows ys → Writes self rows (writer_of route arity unit (written n ys xs) s)
  wrote r m ys rows e same wide h =
      let spreads : Spreads route arity xs rows ys =
      subst (λ (q : Route). Spreads q arity xs rows ys) (sym same)
      (subst (λ (a : ℕ). Spreads r a xs rows ys) (wide ∙ ap (λ (w : WriterOf). w.arity) (sym p.view))
      (subst (λ (l : List OutletOf). Spreads r m l rows ys) p.value h)) in
      subst (λ (l : List OutletOf). Writes self rows (writer_of route arity unit l s)) (sym (written_is n ys xs spreads.count p.len))
      (subst (λ (t : WriterState). Writes self rows (writer_of route arity unit ys t)) (sym (state_is Opened e))
      (subst (λ (w : WriterOf). Writes w rows (writer_of route arity unit ys Opened)) (self_in Opened e) (spread_writes route arity unit xs ys rows spreads)))

  tore : (r : Route) (m : ℕ) (ys : List OutletOf) (rows : List Row) → self.state ≡ Opened → route ≡ r → m ≡ self.arity → Rips r m lent rows ys → Tears self rows (writer_of route arity unit (written n ys xs) s)
  tore r m ys rows e same wide h =
      let rips : Rips route arity xs rows ys =
      subst (λ (q : Route). Rips q arity xs rows ys) (sym same)
      (subst (λ (a : ℕ). Rips r a xs rows ys) (wide ∙ ap (λ (w : WriterOf). w.arity) (sym p.view))
      (subst (λ (l : List OutletOf). Rips r m l rows ys) p.value h)) in
      subst (λ (l : List OutletOf). Tears self rows (writer_of route arity unit l s)) (sym (written_is n ys xs rips.count p.len))
      (subst (λ (t : WriterState). Tears self rows (writer_of route arity unit ys t)) (sym (state_is Opened e))
      (subst (λ (w : WriterOf). Tears w rows (writer_of route arity unit ys Opened)) (self_in Opened e) (rips_tears route arity unit xs ys rows rips)))

  pub rows_told : {E : Type 0} (result : Result (Unit {0}) E) (r : Route) (m : ℕ) (ys : List OutletOf) (rows : List Row) → self.state ≡ Opened → route ≡ r → m ≡ self.arity → OnOk result (Spreads r m lent rows ys) → OnErr result (Rips r m lent rows ys)
      → TellsWritten self rows (writer_of route arity unit (written n ys xs) s) result
  rows_told (Ok x) r m ys rows e same wide ok err = wrote r m ys rows e same wide ok
  rows_told (Err x) r m ys rows e same wide ok err = tore r m ys rows e same wide err

  pub rows_parcels : (ys : List OutletOf) → length ys ≡ length lent → MoreWait 1 lent ys → AddsParcels 1 self (writer_of route arity unit (written n ys xs) s)
  rows_parcels ys len h =
      subst (λ (l : List OutletOf). AddsParcels 1 self (writer_of route arity unit l s)) (sym (written_is n ys xs (len ∙ ap (λ (l : List OutletOf). length l) p.value) p.len))
      (subst (λ (w : WriterOf). AddsParcels 1 w (writer_of route arity unit ys s)) p.view
      (subst (λ (l : List OutletOf). MoreWait 1 l ys) p.value h))

-- ---- a parcel is put

self_at : (self : WriterOf) (route : Route) (arity unit : ℕ) (xs : List OutletOf) (s : WriterState) (k : ℕ) → writer_of route arity unit xs s ≡ self → outlet_at xs k ≡ outlet_at self.outlets k
self_at self route arity unit xs s k view = ap (λ (w : WriterOf). outlet_at w.outlets k) view

pub put_told : (self : WriterOf) (route : Route) (arity unit : ℕ) (xs : List OutletOf) (s : WriterState) (k : ℕ) (p : Parcel) (old new : OutletOf) → writer_of route arity unit xs s ≡ self → IsWriter (writer_of route arity unit xs s) → k < length xs → old ≡ outlet_at xs k → Pops old p new
    → SendsOn self k p (writer_of route arity unit (set xs k new) s)
put_told self route arity unit xs s k p old new view is low e h =
    subst (λ (w : WriterOf). SendsOn w k p (writer_of route arity unit (set xs k new) s)) view
    (pops_sends route arity unit xs s k p new is low (subst (λ (o : OutletOf). Pops o p new) e h))

pub put_words : (self : WriterOf) (route : Route) (arity unit : ℕ) (xs : List OutletOf) (s : WriterState) (k : ℕ) (p : Parcel) (old new : OutletOf) (word word' : ℕ → WriterState) → writer_of route arity unit xs s ≡ self → IsWriter (writer_of route arity unit xs s) → k < length xs → old ≡ outlet_at xs k → Pops old p new
    → ((m : ℕ) → word' m ≡ word_after (Put old.mailbox p) m (word m)) → IsAsFar word self → IsAsFar word' (writer_of route arity unit (set xs k new) s)
put_words self route arity unit xs s k p old new word word' view is low e h after far =
    pops_far route arity unit xs s k p new word word' is low (subst (λ (o : OutletOf). Pops o p new) e h)
    (λ m. after m ∙ ap (λ (o : OutletOf). word_after (Put o.mailbox p) m (word m)) e)
    (subst (IsAsFar word) (sym view) far)

-- as many frames are being filled as were
pub put_held : (self : WriterOf) (route : Route) (arity unit : ℕ) (xs : List OutletOf) (s : WriterState) (k : ℕ) (old new : OutletOf) → writer_of route arity unit xs s ≡ self → k < length xs → old ≡ outlet_at xs k → new.filling ≡ old.filling
    → held_of (set xs k new) ≡ held_of self.outlets
put_held self route arity unit xs s k old new view low e same =
    let h = held_set xs k new low in
    let f : held_in new.filling ≡ held_in (outlet_at xs k).filling = ap held_in (same ∙ ap (λ (o : OutletOf). o.filling) e) in
    let v : held_of xs ≡ held_of self.outlets = ap (λ (w : WriterOf). held_of w.outlets) view in
    omega arith

-- nothing was put, and the words are as they were
pub full_words : (self : WriterOf) (route : Route) (arity unit : ℕ) (xs : List OutletOf) (s : WriterState) (k : ℕ) (old new : OutletOf) (word word' : ℕ → WriterState) → writer_of route arity unit xs s ≡ self → k < length xs → old ≡ outlet_at xs k → new ≡ old
    → ((m : ℕ) → word' m ≡ word m) → IsAsFar word self → IsAsFar word' (writer_of route arity unit (set xs k new) s)
full_words self route arity unit xs s k old new word word' view low e same after far =
    subst (λ (l : List OutletOf). IsAsFar word' (writer_of route arity unit l s)) (sym (ap (λ (o : OutletOf). set xs k o) (same ∙ e) ∙ set-get_or xs k blank))
    (far_same word word' route arity unit xs s after (subst (IsAsFar word) (sym view) far))
