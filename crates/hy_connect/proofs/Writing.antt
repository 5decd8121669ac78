-- What a writer's calls do to what it may still offer, and to its words.
use Rattle.std.proofs.Common.{◌≡◌, ◌≢◌, ◌⊎◌, ◌<◌, ◌≤◌, ◌+◌, ◌-◌, ℕ, Bool, true, false, List, [], ◌∷◌, ◌++◌, length, set, Option, None, Some, refl, sym, ap, subst, ◌∙◌, inl, inr, arith, length-set, append-nil, append_assoc, flat_map, eq-eqb, ne_eqb, if◌then◌else◌}
use Rattle.std.specs.List.{AllByRecursion}
use Rattle.std.proofs.lemmas.List.{set-set, set-get_or}
use Rattle.hy_frame.specs.Frame.{FrameOf}
use Rattle.hy_frame.specs.declared.writer.WriterState.{WriterState}
use Rattle.hy_frame.specs.declared.writer.WriterState.TheVariants.{Initial, Opened, Failed, Closed}
use Rattle.hy_rest.specs.Rest.{Continues}
use Rattle.hy_mail.specs.declared.parcel.Parcel.{Parcel}
use Rattle.hy_mail.specs.declared.parcel.Parcel.TheVariants as P
use Rattle.hy_mail.specs.Events.{Put, word_after}
use Rattle.hy_mail.specs.Words.{HasArity, Leads, may, next}
use Rattle.hy_driver.specs.Rows.{Row}
use Rattle.hy_connect.specs.declared.route.Route.{Route}
use Rattle.hy_connect.specs.declared.route.Route.TheVariants as R
use Rattle.hy_connect.specs.Routes.{fills, sent_by}
use Rattle.hy_connect.specs.Outlets.{OutletOf, GoesOn, HasFilled, IsOutlet, IsSendable, Pops, blank, closed, emptied, failed, filled_rows, flushed, flushed_with, held_in, outlet_at, owed_rows, parcel_rows, posted, waiting_rows}
use Rattle.hy_connect.specs.Many.{Each, FillNone, HaveRoomToo, Rips, Spreads}
use Rattle.hy_connect.specs.Writers.{Fails, IsAsFar, IsWriter, MayGive, SendsOn, Tears, Writes, may_offer, reserve, writer_of}
use Rattle.hy_connect.proofs.Adding.{leads_push, owed_none, sendable_push, waiting_push}
use Rattle.hy_connect.proofs.Exporting.{waiting_popped}
use Rattle.hy_connect.proofs.Fronts.{set_at, set_off}
use Rattle.hy_connect.proofs.Held.{held_in_most}
use Rattle.hy_connect.proofs.Spreading.{same_or_not, sent_append, sent_nil}

-- what an outlet of a writer went through: it owes these rows more
pub record Moves (s s' : WriterState) (old : OutletOf) (sent : List Row) (new : OutletOf) : Type 0 where
  pub mailbox : new.mailbox ≡ old.mailbox
  pub owed : owed_rows new ≡ owed_rows old ++ sent
  pub word : GoesOn s old s' new

may_more : (s : WriterState) (given : List Row) → MayGive s given → MayGive s given
may_more s given h = h

-- what may be offered goes by what is owed
pub offers_by : (route : Route) (arity unit : ℕ) (xs ys : List OutletOf) (s s' : WriterState) (k : ℕ) (rows : List Row) → length ys ≡ length xs → ((given : List Row) → MayGive s' given → MayGive s (rows ++ given))
    → owed_rows (outlet_at ys k) ≡ owed_rows (outlet_at xs k) ++ sent_by route (length xs) k rows
    → Continues (may_offer (writer_of route arity unit xs s) k) rows [] (may_offer (writer_of route arity unit ys s') k)
offers_by route arity unit xs ys s s' k rows count may owed = record {
  back = λ given put h. (
    may given h.0,
    record {
      rest = sent_by route (length xs) k (rows ++ given);
      output = refl;
      is = h.1.is ∙ ap (λ (r : List Row). owed_rows (outlet_at ys k) ++ r) (h.1.output ∙ ap (λ (n : ℕ). sent_by route n k given) count)
          ∙ ap (λ (r : List Row). r ++ sent_by route (length xs) k given) owed
          ∙ append_assoc (owed_rows (outlet_at xs k)) (sent_by route (length xs) k rows) (sent_by route (length xs) k given)
          ∙ ap (λ (r : List Row). owed_rows (outlet_at xs k) ++ r) (sym (sent_append route (length xs) k rows given));
    },
  );
}

-- the words that have come as far as the writer was, have come as far as it is
pub words_by : (route : Route) (arity unit : ℕ) (xs ys : List OutletOf) (s s' : WriterState) → length ys ≡ length xs → ((k : ℕ) → k < length xs → (outlet_at ys k).mailbox ≡ (outlet_at xs k).mailbox) → ((k : ℕ) → k < length xs → GoesOn s (outlet_at xs k) s' (outlet_at ys k))
    → (word : ℕ → WriterState) → IsAsFar word (writer_of route arity unit xs s) → IsAsFar word (writer_of route arity unit ys s')
words_by route arity unit xs ys s s' count mailbox goes word far = λ k low.
    let low' : k < length xs = omega arith in
    subst (λ (m : ℕ). Leads (word m) (outlet_at ys k).waits s') (sym (mailbox k low')) (goes k low' (word (outlet_at xs k).mailbox) (far k low'))

pub writes_by : (route : Route) (arity unit : ℕ) (xs ys : List OutletOf) (s s' : WriterState) (rows : List Row) → length ys ≡ length xs → ((given : List Row) → MayGive s' given → MayGive s (rows ++ given))
    → ((k : ℕ) → k < length xs → Moves s s' (outlet_at xs k) (sent_by route (length xs) k rows) (outlet_at ys k))
    → Writes (writer_of route arity unit xs s) rows (writer_of route arity unit ys s')
writes_by route arity unit xs ys s s' rows count may each = record {
  still = record { route = refl; arity = refl; unit = refl; count = count; mailbox = λ k low. (each k low).mailbox };
  offers = λ k low. offers_by route arity unit xs ys s s' k rows count may (each k low).owed;
  words = words_by route arity unit xs ys s s' count (λ k low. (each k low).mailbox) (λ k low. (each k low).word);
}

-- ---- it is opened

opened_moves : (o : OutletOf) → Moves Initial Opened o [] (posted P.Open o)
opened_moves o = record {
  mailbox = refl;
  owed = ap (λ (r : List Row). r ++ filled_rows o.filling) (waiting_push o.waits P.Open ∙ append-nil (waiting_rows o)) ∙ sym (append-nil (owed_rows o));
  word = λ word a. leads_push word Initial o.waits P.Open a refl;
}

moves_sent : (route : Route) (n k : ℕ) (s s' : WriterState) (old new : OutletOf) → Moves s s' old [] new → Moves s s' old (sent_by route n k []) new
moves_sent route n k s s' old new h = subst (λ (r : List Row). Moves s s' old r new) (sym (sent_nil route n k)) h

pub opened_writes : (route : Route) (arity unit : ℕ) (xs ys : List OutletOf) → Each (posted P.Open) xs ys → Writes (writer_of route arity unit xs Initial) [] (writer_of route arity unit ys Opened)
opened_writes route arity unit xs ys h = writes_by route arity unit xs ys Initial Opened [] h.count (λ given may. tt)
    (λ k low. moves_sent route (length xs) k Initial Opened (outlet_at xs k) (outlet_at ys k) (subst (λ (o : OutletOf). Moves Initial Opened (outlet_at xs k) [] o) (sym (h.each k low)) (opened_moves (outlet_at xs k))))

-- ---- it takes rows

pub spread_writes : (route : Route) (arity unit : ℕ) (xs ys : List OutletOf) (rows : List Row) → Spreads route arity xs rows ys → Writes (writer_of route arity unit xs Opened) rows (writer_of route arity unit ys Opened)
spread_writes route arity unit xs ys rows h = writes_by route arity unit xs ys Opened Opened rows h.count (λ given may. tt)
    (λ k low. let a = h.each k low in record { mailbox = a.mailbox; owed = a.owed; word = a.word })

pub rips_tears : (route : Route) (arity unit : ℕ) (xs ys : List OutletOf) (rows : List Row) → Rips route arity xs rows ys → Tears (writer_of route arity unit xs Opened) rows (writer_of route arity unit ys Opened)
rips_tears route arity unit xs ys rows h = record {
  still = record { route = refl; arity = refl; unit = refl; count = h.count; mailbox = λ k low. (h.each k low).mailbox };
  fronts = λ k low. let a = h.each k low in (a.lost, a.front);
  words = words_by route arity unit xs ys Opened Opened h.count (λ k low. (h.each k low).mailbox) (λ k low. (h.each k low).word);
}

-- ---- it fails

failed_waits : (o : OutletOf) → waiting_rows (failed o) ≡ waiting_rows o
failed_waits o = waiting_push o.waits P.Fail ∙ append-nil (waiting_rows o)

failed_owes : (o : OutletOf) → owed_rows (failed o) ≡ waiting_rows o
failed_owes o = append-nil (waiting_rows (failed o)) ∙ failed_waits o

pub failed_fails : (route : Route) (arity unit : ℕ) (xs ys : List OutletOf) → Each failed xs ys → Fails (writer_of route arity unit xs Opened) (writer_of route arity unit ys Failed)
failed_fails route arity unit xs ys h = record {
  still = record { route = refl; arity = refl; unit = refl; count = h.count; mailbox = λ k low. ap (λ (o : OutletOf). o.mailbox) (h.each k low) };
  waits = λ k low. ap waiting_rows (h.each k low) ∙ failed_waits (outlet_at xs k);
  owed = λ k low. ap owed_rows (h.each k low) ∙ failed_owes (outlet_at xs k);
  words = words_by route arity unit xs ys Opened Failed h.count (λ k low. ap (λ (o : OutletOf). o.mailbox) (h.each k low))
      (λ k low. subst (GoesOn Opened (outlet_at xs k) Failed) (sym (h.each k low)) (λ word a. leads_push word Opened (outlet_at xs k).waits P.Fail a refl));
}

-- ---- it is closed

flushed_owes : (f : Option FrameOf) (o : OutletOf) → o.filling ≡ f → owed_rows (flushed_with f o) ≡ owed_rows o
flushed_owes None o e = append-nil (waiting_rows o) ∙ sym (owed_none o e)
flushed_owes (Some f) o e = append-nil (waiting_rows (posted (P.Frame f) (emptied o))) ∙ waiting_push o.waits (P.Frame f) ∙ ap (λ (g : Option FrameOf). waiting_rows o ++ filled_rows g) (sym e)

flushed_goes : (f : Option FrameOf) (o : OutletOf) → GoesOn Opened o Opened (flushed_with f o)
flushed_goes None o = λ word a. a
flushed_goes (Some f) o = λ word a. leads_push word Opened o.waits (P.Frame f) a refl

pub flushed_none : (f : Option FrameOf) (o : OutletOf) → (flushed_with f o).filling ≡ None
flushed_none None o = refl
flushed_none (Some f) o = refl

flushed_mailbox : (f : Option FrameOf) (o : OutletOf) → (flushed_with f o).mailbox ≡ o.mailbox
flushed_mailbox None o = refl
flushed_mailbox (Some f) o = refl

flushed_same : (f : Option FrameOf) (o : OutletOf) → f ≡ None → (flushed_with f o).waits ≡ o.waits
flushed_same None o e = refl
flushed_same (Some f) o e = cc

closed_owes : (o : OutletOf) → owed_rows (closed o) ≡ owed_rows o ++ []
closed_owes o =
    ap (λ (r : List Row). r ++ filled_rows (flushed o).filling) (waiting_push (flushed o).waits P.Close ∙ append-nil (waiting_rows (flushed o)))
    ∙ flushed_owes o.filling o refl ∙ sym (append-nil (owed_rows o))

closed_moves : (o : OutletOf) → Moves Opened Closed o [] (closed o)
closed_moves o = record {
  mailbox = flushed_mailbox o.filling o;
  owed = closed_owes o;
  word = λ word a. leads_push word Opened (flushed o).waits P.Close (flushed_goes o.filling o word a) refl;
}

closed_after : (o : OutletOf) → o.filling ≡ None → Moves Failed Closed o [] (closed o)
closed_after o none = record {
  mailbox = flushed_mailbox o.filling o;
  owed = closed_owes o;
  word = λ word a. leads_push word Failed (flushed o).waits P.Close (subst (λ (ws : List Parcel). Leads word ws Failed) (sym (flushed_same o.filling o none)) a) refl;
}

pub closed_writes : (route : Route) (arity unit : ℕ) (xs ys : List OutletOf) → Each closed xs ys → Writes (writer_of route arity unit xs Opened) [] (writer_of route arity unit ys Closed)
closed_writes route arity unit xs ys h = writes_by route arity unit xs ys Opened Closed [] h.count (λ given may. tt)
    (λ k low. moves_sent route (length xs) k Opened Closed (outlet_at xs k) (outlet_at ys k) (subst (λ (o : OutletOf). Moves Opened Closed (outlet_at xs k) [] o) (sym (h.each k low)) (closed_moves (outlet_at xs k))))

pub closed_failed : (route : Route) (arity unit : ℕ) (xs ys : List OutletOf) → FillNone xs → Each closed xs ys → Writes (writer_of route arity unit xs Failed) [] (writer_of route arity unit ys Closed)
closed_failed route arity unit xs ys none h = writes_by route arity unit xs ys Failed Closed [] h.count (λ given may. may)
    (λ k low. moves_sent route (length xs) k Failed Closed (outlet_at xs k) (outlet_at ys k) (subst (λ (o : OutletOf). Moves Failed Closed (outlet_at xs k) [] o) (sym (h.each k low)) (closed_after (outlet_at xs k) (none k low))))

pub failed_quiet : (route : Route) → fills Failed route ≡ false
failed_quiet R.Whole = refl
failed_quiet (R.ByHash columns) = refl

-- a Close alone joins what waits where no frame is being filled
flushed_quiet : (f : Option FrameOf) (o : OutletOf) → o.filling ≡ f → f ≡ None → posted P.Close (flushed_with f o) ≡ posted P.Close o
flushed_quiet None o e none = ap (λ (g : Option FrameOf). record { mailbox = o.mailbox; filling = g; waits = o.waits ++ P.Close ∷ []; spare = o.spare - 1 }) (sym e)
flushed_quiet (Some f) o e none = absurd (cc)

pub closed_quiet : (o : OutletOf) → o.filling ≡ None → closed o ≡ posted P.Close o
closed_quiet o none = flushed_quiet o.filling o refl none

-- in either state
pub closes : (route : Route) (arity unit : ℕ) (xs ys : List OutletOf) (s : WriterState) → (s ≡ Opened) ⊎ (s ≡ Failed) → IsWriter (writer_of route arity unit xs s) → Each closed xs ys → Writes (writer_of route arity unit xs s) [] (writer_of route arity unit ys Closed)
closes route arity unit xs ys s (inl e) is h = subst (λ (t : WriterState). Writes (writer_of route arity unit xs t) [] (writer_of route arity unit ys Closed)) (sym e) (closed_writes route arity unit xs ys h)
closes route arity unit xs ys s (inr e) is h =
    subst (λ (t : WriterState). Writes (writer_of route arity unit xs t) [] (writer_of route arity unit ys Closed)) (sym e)
    (closed_failed route arity unit xs ys (is.quiet (ap (λ (t : WriterState). fills t route) e ∙ failed_quiet route)) h)

-- ---- what is true of each writer stays true

pub stays : (route : Route) (arity unit : ℕ) (xs ys : List OutletOf) (s s' : WriterState) → IsWriter (writer_of route arity unit xs s) → length ys ≡ length xs → ((k : ℕ) → k < length xs → (outlet_at ys k).mailbox ≡ (outlet_at xs k).mailbox)
    → ((k : ℕ) → k < length xs → IsOutlet arity (reserve s') (outlet_at ys k)) → (fills s' route ≡ false → FillNone ys) → IsWriter (writer_of route arity unit ys s')
stays route arity unit xs ys s s' is count mailbox outlets quiet = record {
  some = let m = is.some in omega arith;
  apart = λ j k low low' e. is.apart j k (omega arith) (omega arith) (sym (mailbox j (omega arith)) ∙ e ∙ mailbox k (omega arith));
  columns = is.columns;
  few = is.few;
  outlets = λ k low. outlets k (omega arith);
  quiet = quiet;
}

pub spread_stays : (route : Route) (arity unit : ℕ) (xs ys : List OutletOf) (rows : List Row) → IsWriter (writer_of route arity unit xs Opened) → Spreads route arity xs rows ys → (fills Opened route ≡ false → FillNone ys) → IsWriter (writer_of route arity unit ys Opened)
spread_stays route arity unit xs ys rows is h quiet = stays route arity unit xs ys Opened Opened is h.count (λ k low. (h.each k low).mailbox) (λ k low. (h.each k low).outlet) quiet

pub rips_stays : (route : Route) (arity unit : ℕ) (xs ys : List OutletOf) (rows : List Row) → IsWriter (writer_of route arity unit xs Opened) → Rips route arity xs rows ys → (fills Opened route ≡ false → FillNone ys) → IsWriter (writer_of route arity unit ys Opened)
rips_stays route arity unit xs ys rows is h quiet = stays route arity unit xs ys Opened Opened is h.count (λ k low. (h.each k low).mailbox) (λ k low. (h.each k low).outlet) quiet

open_outlet : (arity : ℕ) (o : OutletOf) → IsOutlet arity 3 o → IsOutlet arity 2 (posted P.Open o)
open_outlet arity o is = record { filling = is.filling; waits = sendable_push arity o.waits P.Open is.waits tt; spare = let s = is.spare in omega arith }

fail_outlet : (arity : ℕ) (o : OutletOf) → IsOutlet arity 2 o → IsOutlet arity 1 (failed o)
fail_outlet arity o is = record { filling = tt; waits = sendable_push arity o.waits P.Fail is.waits tt; spare = let s = is.spare in omega arith }

pub opened_stays : (route : Route) (arity unit : ℕ) (xs ys : List OutletOf) → IsWriter (writer_of route arity unit xs Initial) → Each (posted P.Open) xs ys → IsWriter (writer_of route arity unit ys Opened)
opened_stays route arity unit xs ys is h = stays route arity unit xs ys Initial Opened is h.count (λ k low. ap (λ (o : OutletOf). o.mailbox) (h.each k low))
    (λ k low. subst (IsOutlet arity 2) (sym (h.each k low)) (open_outlet arity (outlet_at xs k) (is.outlets k low)))
    (λ e k low. let c = h.count in ap (λ (o : OutletOf). o.filling) (h.each k (omega arith)) ∙ is.quiet (initial_quiet route) k (omega arith))
  where
    initial_quiet : (route : Route) → fills Initial route ≡ false
    initial_quiet R.Whole = refl
    initial_quiet (R.ByHash columns) = refl

pub failed_stays : (route : Route) (arity unit : ℕ) (xs ys : List OutletOf) → IsWriter (writer_of route arity unit xs Opened) → Each failed xs ys → IsWriter (writer_of route arity unit ys Failed)
failed_stays route arity unit xs ys is h = stays route arity unit xs ys Opened Failed is h.count (λ k low. ap (λ (o : OutletOf). o.mailbox) (h.each k low))
    (λ k low. subst (IsOutlet arity 1) (sym (h.each k low)) (fail_outlet arity (outlet_at xs k) (is.outlets k low)))
    (λ e k low. let c = h.count in ap (λ (o : OutletOf). o.filling) (h.each k (omega arith)))

flushed_sendable : (arity : ℕ) (f : Option FrameOf) (o : OutletOf) → HasFilled arity f → AllByRecursion (IsSendable arity) o.waits → AllByRecursion (IsSendable arity) (flushed_with f o).waits
flushed_sendable arity None o rows waits = waits
flushed_sendable arity (Some f) o rows waits = sendable_push arity o.waits (P.Frame f) waits rows

close_outlet : (arity least : ℕ) (o : OutletOf) → IsOutlet arity least o → IsOutlet arity 0 (closed o)
close_outlet arity least o is = record {
  filling = subst (HasFilled arity) (sym (flushed_none o.filling o)) tt;
  waits = sendable_push arity (flushed o).waits P.Close (flushed_sendable arity o.filling o is.filling is.waits) tt;
  spare = omega arith;
}

pub closed_none : (xs ys : List OutletOf) → Each closed xs ys → FillNone ys
closed_none xs ys h = λ k low. let c = h.count in ap (λ (o : OutletOf). o.filling) (h.each k (omega arith)) ∙ flushed_none (outlet_at xs k).filling (outlet_at xs k)

pub failed_none : (xs ys : List OutletOf) → Each failed xs ys → FillNone ys
failed_none xs ys h = λ k low. let c = h.count in ap (λ (o : OutletOf). o.filling) (h.each k (omega arith))

pub closed_stays : (route : Route) (arity unit : ℕ) (xs ys : List OutletOf) (s : WriterState) → IsWriter (writer_of route arity unit xs s) → Each closed xs ys → IsWriter (writer_of route arity unit ys Closed)
closed_stays route arity unit xs ys s is h = stays route arity unit xs ys s Closed is h.count (λ k low. ap (λ (o : OutletOf). o.mailbox) (h.each k low) ∙ flushed_mailbox (outlet_at xs k).filling (outlet_at xs k))
    (λ k low. subst (IsOutlet arity 0) (sym (h.each k low)) (close_outlet arity (reserve s) (outlet_at xs k) (is.outlets k low)))
    (λ e. closed_none xs ys h)

-- ---- room for what comes behind

closing_room_at : (route : Route) (arity unit : ℕ) (xs : List OutletOf) (s : WriterState) (k : ℕ) → (s ≡ Opened) ⊎ (s ≡ Failed) → IsWriter (writer_of route arity unit xs s) → k < length xs → held_in (outlet_at xs k).filling + 1 ≤ (outlet_at xs k).spare
closing_room_at route arity unit xs s k (inl e) is low =
    let h : 2 ≤ (outlet_at xs k).spare = subst (λ (t : WriterState). reserve t ≤ (outlet_at xs k).spare) e (is.outlets k low).spare in
    let m = held_in_most (outlet_at xs k).filling in
    omega arith
closing_room_at route arity unit xs s k (inr e) is low =
    let h : 1 ≤ (outlet_at xs k).spare = subst (λ (t : WriterState). reserve t ≤ (outlet_at xs k).spare) e (is.outlets k low).spare in
    let m : held_in (outlet_at xs k).filling ≡ 0 = ap held_in (is.quiet (ap (λ (t : WriterState). fills t route) e ∙ failed_quiet route) k low) in
    omega arith

pub closing_room : (route : Route) (arity unit : ℕ) (xs : List OutletOf) (s : WriterState) → (s ≡ Opened) ⊎ (s ≡ Failed) → IsWriter (writer_of route arity unit xs s) → HaveRoomToo xs
closing_room route arity unit xs s e is = λ k low. closing_room_at route arity unit xs s k e is low

-- ---- the first parcel is put

pops_owes : (old new : OutletOf) (p : Parcel) → Pops old p new → parcel_rows p ++ owed_rows new ≡ owed_rows old
pops_owes old new p h =
    sym (append_assoc (parcel_rows p) (waiting_rows new) (filled_rows new.filling))
    ∙ ap (λ (ws : List Parcel). flat_map parcel_rows ws ++ filled_rows new.filling) (sym h.first)
    ∙ ap (λ (f : Option FrameOf). waiting_rows old ++ filled_rows f) h.filling

pops_offers : (route : Route) (arity unit : ℕ) (xs ys : List OutletOf) (s : WriterState) (k : ℕ) (p : Parcel) → length ys ≡ length xs → Pops (outlet_at xs k) p (outlet_at ys k)
    → Continues (may_offer (writer_of route arity unit xs s) k) [] (parcel_rows p) (may_offer (writer_of route arity unit ys s) k)
pops_offers route arity unit xs ys s k p count h = record {
  back = λ given put g. (
    g.0,
    record {
      rest = sent_by route (length xs) k given;
      output = refl;
      is = ap (λ (r : List Row). parcel_rows p ++ r) (g.1.is ∙ ap (λ (r : List Row). owed_rows (outlet_at ys k) ++ r) (g.1.output ∙ ap (λ (n : ℕ). sent_by route n k given) count))
          ∙ sym (append_assoc (parcel_rows p) (owed_rows (outlet_at ys k)) (sent_by route (length xs) k given))
          ∙ ap (λ (r : List Row). r ++ sent_by route (length xs) k given) (pops_owes (outlet_at xs k) (outlet_at ys k) p h);
    },
  );
}

set_mailbox : (xs : List OutletOf) (k j : ℕ) (o : OutletOf) → k < length xs → o.mailbox ≡ (outlet_at xs k).mailbox → (j ≡ k) ⊎ (j ≢ k) → (outlet_at (set xs k o) j).mailbox ≡ (outlet_at xs j).mailbox
set_mailbox xs k j o there same (inl e) = ap (λ (q : OutletOf). q.mailbox) (set_at xs k j o there e) ∙ same ∙ ap (λ (i : ℕ). (outlet_at xs i).mailbox) (sym e)
set_mailbox xs k j o there same (inr off) = ap (λ (q : OutletOf). q.mailbox) (set_off xs k j o off)

pub pops_sends : (route : Route) (arity unit : ℕ) (xs : List OutletOf) (s : WriterState) (k : ℕ) (p : Parcel) (o : OutletOf) → IsWriter (writer_of route arity unit xs s) → k < length xs → Pops (outlet_at xs k) p o
    → SendsOn (writer_of route arity unit xs s) k p (writer_of route arity unit (set xs k o) s)
pops_sends route arity unit xs s k p o is there h =
    let here : outlet_at (set xs k o) k ≡ o = set_at xs k k o there refl in
    let h' : Pops (outlet_at xs k) p (outlet_at (set xs k o) k) = subst (Pops (outlet_at xs k) p) (sym here) h in
    let waits : AllByRecursion (IsSendable arity) (p ∷ o.waits) = subst (AllByRecursion (IsSendable arity)) h.first (is.outlets k there).waits in
    record {
      still = record { route = refl; arity = refl; unit = refl; count = length-set xs k o; mailbox = λ j low. set_mailbox xs k j o there h.mailbox (same_or_not j k) };
      there = there;
      state = refl;
      first = h'.first;
      others = λ j off. set_off xs k j o off;
      frames = waiting_popped xs k p o there h;
      sendable = waits.0;
      offers = pops_offers route arity unit xs (set xs k o) s k p (length-set xs k o) h';
    }

pops_outlet : (arity least : ℕ) (old new : OutletOf) (p : Parcel) → IsOutlet arity least old → Pops old p new → IsOutlet arity least new
pops_outlet arity least old new p is h =
    let waits : AllByRecursion (IsSendable arity) (p ∷ new.waits) = subst (AllByRecursion (IsSendable arity)) h.first is.waits in
    record { filling = subst (HasFilled arity) (sym h.filling) is.filling; waits = waits.1; spare = let s = is.spare in let t = h.spare in omega arith }

set_outlet : (arity least : ℕ) (xs : List OutletOf) (k j : ℕ) (o : OutletOf) → k < length xs → IsOutlet arity least o → IsOutlet arity least (outlet_at xs j) → (j ≡ k) ⊎ (j ≢ k) → IsOutlet arity least (outlet_at (set xs k o) j)
set_outlet arity least xs k j o there new old (inl e) = subst (IsOutlet arity least) (sym (set_at xs k j o there e)) new
set_outlet arity least xs k j o there new old (inr off) = subst (IsOutlet arity least) (sym (set_off xs k j o off)) old

set_filling : (xs : List OutletOf) (k j : ℕ) (o : OutletOf) → k < length xs → o.filling ≡ (outlet_at xs k).filling → (j ≡ k) ⊎ (j ≢ k) → (outlet_at (set xs k o) j).filling ≡ (outlet_at xs j).filling
set_filling xs k j o there same (inl e) = ap (λ (q : OutletOf). q.filling) (set_at xs k j o there e) ∙ same ∙ ap (λ (i : ℕ). (outlet_at xs i).filling) (sym e)
set_filling xs k j o there same (inr off) = ap (λ (q : OutletOf). q.filling) (set_off xs k j o off)

pub pops_stays : (route : Route) (arity unit : ℕ) (xs : List OutletOf) (s : WriterState) (k : ℕ) (p : Parcel) (o : OutletOf) → IsWriter (writer_of route arity unit xs s) → k < length xs → Pops (outlet_at xs k) p o → IsWriter (writer_of route arity unit (set xs k o) s)
pops_stays route arity unit xs s k p o is there h = stays route arity unit xs (set xs k o) s s is (length-set xs k o) (λ j low. set_mailbox xs k j o there h.mailbox (same_or_not j k))
    (λ j low. set_outlet arity (reserve s) xs k j o there (pops_outlet arity (reserve s) (outlet_at xs k) o p (is.outlets k there) h) (is.outlets j low) (same_or_not j k))
    (λ e j low. let c = length-set xs k o in set_filling xs k j o there h.filling (same_or_not j k) ∙ is.quiet e j (omega arith))

-- ---- the words at the mailboxes

pub pops_may : (route : Route) (arity unit : ℕ) (xs : List OutletOf) (s : WriterState) (k : ℕ) (p : Parcel) (o : OutletOf) (word : ℕ → WriterState) → k < length xs → Pops (outlet_at xs k) p o → IsAsFar word (writer_of route arity unit xs s) → may (word (outlet_at xs k).mailbox) p ≡ true
pops_may route arity unit xs s k p o word there h far =
    let leads : Leads (word (outlet_at xs k).mailbox) (p ∷ o.waits) s = subst (λ (ws : List Parcel). Leads (word (outlet_at xs k).mailbox) ws s) h.first (far k there) in leads.0

pub sendable_arity : (n arity : ℕ) (p : Parcel) → n ≡ arity → IsSendable arity p → HasArity n p
sendable_arity n arity P.Open e h = tt
sendable_arity n arity (P.Frame f) e h = h.wide ∙ sym e
sendable_arity n arity P.Fail e h = tt
sendable_arity n arity P.Close e h = tt

word_here : (m : ℕ) (p : Parcel) (w : WriterState) → word_after (Put m p) m w ≡ next w p
word_here m p w = ap (λ (b : Bool). if b then next w p else w) (eq-eqb m m refl)

word_off : (k m : ℕ) (p : Parcel) (w : WriterState) → k ≢ m → word_after (Put k p) m w ≡ w
word_off k m p w off = ap (λ (b : Bool). if b then next w p else w) (ne_eqb k m off)

pops_far_at : (route : Route) (arity unit : ℕ) (xs : List OutletOf) (s : WriterState) (k j : ℕ) (p : Parcel) (o : OutletOf) (word word' : ℕ → WriterState) → IsWriter (writer_of route arity unit xs s) → k < length xs → Pops (outlet_at xs k) p o
    → ((m : ℕ) → word' m ≡ word_after (Put (outlet_at xs k).mailbox p) m (word m)) → IsAsFar word (writer_of route arity unit xs s) → j < length xs → (j ≡ k) ⊎ (j ≢ k) → Leads (word' (outlet_at (set xs k o) j).mailbox) (outlet_at (set xs k o) j).waits s
pops_far_at route arity unit xs s k j p o word word' is there h after far low (inl e) =
    let box : ℕ = (outlet_at xs k).mailbox in
    let leads : Leads (word box) (p ∷ o.waits) s = subst (λ (ws : List Parcel). Leads (word box) ws s) h.first (far k there) in
    subst (λ (q : OutletOf). Leads (word' q.mailbox) q.waits s) (sym (set_at xs k j o there e))
    (subst (λ (m : ℕ). Leads (word' m) o.waits s) (sym h.mailbox)
    (subst (λ (w : WriterState). Leads w o.waits s) (sym (after box ∙ word_here box p (word box))) leads.1))
pops_far_at route arity unit xs s k j p o word word' is there h after far low (inr off) =
    let box : ℕ = (outlet_at xs j).mailbox in
    let apart : (outlet_at xs k).mailbox ≢ box = λ e. off (is.apart j k low there (sym e)) in
    subst (λ (q : OutletOf). Leads (word' q.mailbox) q.waits s) (sym (set_off xs k j o off))
    (subst (λ (w : WriterState). Leads w (outlet_at xs j).waits s) (sym (after box ∙ word_off (outlet_at xs k).mailbox box p (word box) apart)) (far j low))

pub pops_far : (route : Route) (arity unit : ℕ) (xs : List OutletOf) (s : WriterState) (k : ℕ) (p : Parcel) (o : OutletOf) (word word' : ℕ → WriterState) → IsWriter (writer_of route arity unit xs s) → k < length xs → Pops (outlet_at xs k) p o
    → ((m : ℕ) → word' m ≡ word_after (Put (outlet_at xs k).mailbox p) m (word m)) → IsAsFar word (writer_of route arity unit xs s) → IsAsFar word' (writer_of route arity unit (set xs k o) s)
pops_far route arity unit xs s k p o word word' is there h after far = λ j low. let c = length-set xs k o in pops_far_at route arity unit xs s k j p o word word' is there h after far (omega arith) (same_or_not j k)

-- where nothing was put, the words are as they were
pub far_same : (word word' : ℕ → WriterState) (route : Route) (arity unit : ℕ) (xs : List OutletOf) (s : WriterState) → ((m : ℕ) → word' m ≡ word m) → IsAsFar word (writer_of route arity unit xs s) → IsAsFar word' (writer_of route arity unit xs s)
far_same word word' route arity unit xs s same far = λ k low. subst (λ (w : WriterState). Leads w (outlet_at xs k).waits s) (sym (same (outlet_at xs k).mailbox)) (far k low)

-- ---- a parcel that was taken is put back

outlet_is : (m m' : ℕ) (f f' : Option FrameOf) (w w' : List Parcel) (s s' : ℕ) → m ≡ m' → f ≡ f' → w ≡ w' → s ≡ s' → ◌≡◌ {A = OutletOf} (record { mailbox = m; filling = f; waits = w; spare = s }) (record { mailbox = m'; filling = f'; waits = w'; spare = s' })
outlet_is m m' f f' w w' s s' a b c d =
    ap (λ (x : ℕ). let o : OutletOf = record { mailbox = x; filling = f; waits = w; spare = s } in o) a
    ∙ ap (λ (x : Option FrameOf). let o : OutletOf = record { mailbox = m'; filling = x; waits = w; spare = s } in o) b
    ∙ ap (λ (x : List Parcel). let o : OutletOf = record { mailbox = m'; filling = f'; waits = x; spare = s } in o) c
    ∙ ap (λ (x : ℕ). let o : OutletOf = record { mailbox = m'; filling = f'; waits = w'; spare = x } in o) d

pops_back : (a b o : OutletOf) (p : Parcel) → Pops a p o → Pops b p o → b ≡ a
pops_back a b o p x y = outlet_is b.mailbox a.mailbox b.filling a.filling b.waits a.waits b.spare a.spare
    (sym y.mailbox ∙ x.mailbox) (sym y.filling ∙ x.filling) (y.first ∙ sym x.first) (let s = x.spare in let t = y.spare in omega arith)

pub put_back_same : (xs : List OutletOf) (k : ℕ) (p : Parcel) (o b : OutletOf) → Pops (outlet_at xs k) p o → Pops b p o → set (set xs k o) k b ≡ xs
put_back_same xs k p o b x y = set-set xs k o b ∙ ap (λ (q : OutletOf). set xs k q) (pops_back (outlet_at xs k) b o p x y) ∙ set-get_or xs k blank
