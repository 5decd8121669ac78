-- Single calls as steps of a task's parts.
use Rattle.std.proofs.Common.{◌≡◌, ◌≢◌, ◌<◌, ◌⊎◌, inl, inr, ℕ, zero, suc, nat_eq, false, List, [], ◌∷◌, ◌++◌, map, refl, ap, sym, subst, ◌∙◌, append_assoc, append-nil, arith}
use Rattle.std.specs.List.{flat_map}
use Rattle.std.proofs.lemmas.Bool.{cases_lt}
use Rattle.hy_frame.specs.Frame.{FrameOf}
use Rattle.hy_frame.specs.Row.{Fields}
use Rattle.hy_frame.specs.declared.writer.WriterState.{WriterState}
use Rattle.hy_frame.specs.declared.writer.WriterState.TheVariants.{Initial, Opened, Failed, Closed}
use Rattle.hy_rest.specs.Rest.{Continues}
use Rattle.hy_rest.specs.Words.{put_rows}
use Rattle.hy_job.specs.Runs.{Taken}
use Rattle.hy_job.specs.Settled.{taken_rows}
use Rattle.hy_job.proofs.Boxes.{is_nat, nat_is}
use Rattle.hy_job.proofs.Members.{by_cases, no_bool}
use Rattle.hy_mail.specs.declared.parcel.Parcel.{Parcel}
use Rattle.hy_mail.specs.declared.parcel.Parcel.TheVariants as P
use Rattle.hy_driver.specs.Rows.{Row, values_of}
use Rattle.hy_connect.specs.Outlets.{filled_rows, parcel_rows}
use Rattle.hy_connect.specs.Writers.{MayGive}
use Rattle.hy_connect.specs.Merges.{may_give, rows_taken}
use Rattle.hy_output.specs.declared.way.Way.{Way}
use Rattle.hy_output.specs.declared.way.Way.TheVariants as W
use Rattle.hy_output.specs.Keeper.{kept_rows}
use Rattle.hy_output.specs.Ways.{SendsOn, Stays, keeps, offers, places, rows_waiting, waiting}
use Rattle.hy_output.specs.Outputs.{packed}
use Rattle.hy_input.specs.declared.taker.Taker.{Taker}
use Rattle.hy_input.specs.declared.taker.Taker.TheVariants as T
use Rattle.hy_input.specs.Inputs.{InputOf, brings, brings_by, given, hand, only_at}
use Rattle.hy_pipeline.specs.Pipeline.{AreApart, OffersTo, PipelineOf, keeps_on, put_for, signal_of, take_of, waits_in}
use Rattle.hy_pipeline.specs.Laws.{ComeIsStep, EndedIsStep, FedIsStep, FinishIsStep, OpenIsStep, PutIsStep, TakesParcel, TurnIsStep, WaitingIsFront}

-- ---- nothing happens

same : {F A : Type 0} → (rest : List F → List A → Type 0) → Continues rest [] [] rest
same rest = record { back = λ took put r. r }

pub differ : (a b : ℕ) → nat_eq a b ≡ false → b ≢ a
differ a b f e = no_bool (sym (nat_is a b (sym e)) ∙ f)

input_stays : (i : ℕ) (x y : InputOf) → y ≡ x → Continues (brings i x) [] [] (brings i y)
input_stays i x y e = subst (λ z. Continues (brings i x) [] [] (brings i z)) (sym e) (same (brings i x))

-- ---- rows of other inputs

only_other : (i k p : ℕ) (rows : List Fields) (took : List Taken) → nat_eq k i ≡ false
    → only_at i (map {B = Taken} (λ row. record { input = k; sender = p; row = values_of row }) rows ++ took) ≡ only_at i took
only_other i k p [] took f = refl
only_other i k p (row ∷ rows) took f = rw f (only_other i k p rows took f)

other_by : (t : Taker) (at_hand : List Row) (i k p : ℕ) (f : FrameOf) → nat_eq k i ≡ false → Continues (brings_by t i at_hand) (rows_taken k p f) [] (brings_by t i at_hand)
other_by (T.One t) at_hand i k p f e = record { back = λ took put h. h ∙ ap (λ (only : List Taken). at_hand ++ map (λ t. t.row) only) (sym (only_other i k p f.rows took e)) }
other_by (T.Many t) at_hand i k p f e = record { back = λ took put h. h ∙ ap (λ (only : List Taken). at_hand ++ map (λ t. t.row) only) (sym (only_other i k p f.rows took e)) }
other_by (T.Merge m) at_hand i k p f e = record { back = λ took put h. subst (λ only. may_give m i only put) (sym (only_other i k p f.rows took e)) h }

other_input : (x y : InputOf) (i k p : ℕ) (f : FrameOf) → nat_eq k i ≡ false → y ≡ x → Continues (brings i x) (rows_taken k p f) [] (brings i y)
other_input x y i k p f e s = subst (λ z. Continues (brings i x) (rows_taken k p f) [] (brings i z)) (sym s) (other_by x.taker (map values_of (hand x)) i k p f e)

-- ---- what is taken

taken_each : (k p : ℕ) (rows : List Fields) → map {B = Taken} (λ row. record { input = k; sender = p; row = row }) (map values_of rows) ≡ map {B = Taken} (λ row. record { input = k; sender = p; row = values_of row }) rows
taken_each k p [] = refl
taken_each k p (row ∷ rows) = ap (λ xs. record { input = k; sender = p; row = values_of row } ∷ xs) (taken_each k p rows)

taken_frame : (k p : ℕ) (f : FrameOf) → taken_rows (take_of k p (P.Frame f)) ≡ rows_taken k p f
taken_frame k p f = append-nil (map {B = Taken} (λ row. record { input = k; sender = p; row = row }) (map values_of f.rows)) ∙ taken_each k p f.rows

-- at the input itself
pub taken_here : (k p : ℕ) (parcel : Parcel) (old new : PipelineOf) → TakesParcel k p parcel old new → Continues (brings k (old.input k)) (taken_rows (take_of k p parcel)) [] (brings k (new.input k))
taken_here k p P.Open old new h = h.brings k
taken_here k p (P.Frame f) old new h = subst (λ took. Continues (brings k (old.input k)) took [] (brings k (new.input k))) (sym (taken_frame k p f)) (h.brings k)
taken_here k p P.Fail old new h = h.brings k
taken_here k p P.Close old new h = h.brings k

-- and at another one
taken_there : (k p i : ℕ) (parcel : Parcel) (x y : InputOf) → nat_eq k i ≡ false → y ≡ x → Continues (brings i x) (taken_rows (take_of k p parcel)) [] (brings i y)
taken_there k p i P.Open x y f e = input_stays i x y e
taken_there k p i (P.Frame frame) x y f e = subst (λ took. Continues (brings i x) took [] (brings i y)) (sym (taken_frame k p frame)) (other_input x y i k p frame f e)
taken_there k p i P.Fail x y f e = input_stays i x y e
taken_there k p i P.Close x y f e = input_stays i x y e

-- ---- what goes out

pub places_stay : (old new : Way) → Stays old new → places new ≡ places old
places_stay (W.Wire w) (W.Wire w') h = h.count
places_stay (W.Kept k) (W.Kept k') h = refl
places_stay (W.Wire w) (W.Kept k') h = absurd h
places_stay (W.Kept k) (W.Wire w') h = absurd h

offers_on : (at : ℕ → ℕ) (old new : Way) (rows : List Row) (r : ℕ) → Stays old new → ((k : ℕ) → k < places old → Continues (offers old k) rows [] (offers new k))
    → Continues (OffersTo at old r) rows [] (OffersTo at new r)
offers_on at old new rows r still each = record {
  back = λ given put h. record {
    there = λ k lt e. (each k lt).back given put (h.there k (subst (λ n. k < n) (sym (places_stay old new still)) lt) e);
    none = λ no. h.none (λ k lt e. no k (subst (λ n. k < n) (places_stay old new still) lt) e);
  };
}

pub no_more : (s : WriterState) → MayGive s []
no_more Initial = tt
no_more Opened = tt
no_more Failed = refl
no_more Closed = refl

keeps_more : (old new : Way) (rows : List Row) → Stays old new → Continues (keeps old) rows [] (keeps new) → Continues (keeps_on old) rows [] (keeps_on new)
keeps_more (W.Wire w) (W.Wire w') rows still h = record { back = λ given on e. e }
keeps_more (W.Kept k) (W.Kept k') rows still h =
    let all : kept_rows k' ≡ kept_rows k ++ rows =
    sym (append-nil (kept_rows k')) ∙ ((h.back [] (kept_rows k' ++ []) (no_more k'.state, refl)).1 ∙ ap (λ xs. kept_rows k ++ xs) (append-nil rows)) in
    record { back = λ given on e. e ∙ (ap (λ xs. xs ++ given) all ∙ append_assoc (kept_rows k) rows given) }
keeps_more (W.Wire w) (W.Kept k') rows still h = absurd still
keeps_more (W.Kept k) (W.Wire w') rows still h = absurd still

keeps_same : (old new : Way) → Stays old new → Continues (keeps old) [] [] (keeps new) → Continues (keeps_on old) [] [] (keeps_on new)
keeps_same old new still h = keeps_more old new [] still h

signal_row : (p : Parcel) → put_rows (signal_of p ∷ []) ≡ parcel_rows p
signal_row P.Open = refl
signal_row (P.Frame f) = append-nil (map values_of f.rows)
signal_row P.Fail = refl
signal_row P.Close = refl

signals_rows : (ps : List Parcel) → put_rows (map signal_of ps) ≡ flat_map parcel_rows ps
signals_rows [] = refl
signals_rows (p ∷ ps) = ap (λ xs. xs ++ put_rows (map signal_of ps)) (sym (append-nil _) ∙ signal_row p) ∙ ap (λ xs. parcel_rows p ++ xs) (signals_rows ps)

-- ---- steps

module _ (old new : PipelineOf) where
  pub fed_is_step : FedIsStep old new
  fed_is_step at job a k row sound h = record {
    brings = λ i lt. by_cases (nat_eq k i)
        (λ t. rw t (subst (λ j. Continues (brings j (old.input j)) [] (row ∷ []) (brings j (new.input j))) (is_nat k i t)
        (subst (λ (r : Row). Continues (brings k (old.input k)) [] (r ∷ []) (brings k (new.input k))) h.row_is (h.gives.brings k))))
        (λ f. rw f (input_stays i (old.input i) (new.input i) (h.others i (differ k i f))));
    works = h.works.rest sound;
    packed = ap (λ o. packed o ++ []) (sym h.output) ∙ append-nil (packed new.output);
    offers = λ r lt. subst (λ o. Continues (OffersTo at old.output.way r) [] [] (OffersTo at o.way r)) (sym h.output) (same _);
    keeps = subst (λ o. Continues (keeps_on old.output.way) [] [] (keeps_on o.way)) (sym h.output) (same _);
  }

  pub ended_is_step : EndedIsStep old new
  ended_is_step at job a k sound h = record {
    brings = λ i lt. by_cases (nat_eq k i)
        (λ t. subst (λ j. Continues (brings j (old.input j)) [] [] (brings j (new.input j))) (is_nat k i t) (h.over.rests.brings k))
        (λ f. input_stays i (old.input i) (new.input i) (h.others i (differ k i f)));
    works = h.works.rest sound;
    packed = ap (λ o. packed o ++ []) (sym h.output) ∙ append-nil (packed new.output);
    offers = λ r lt. subst (λ o. Continues (OffersTo at old.output.way r) [] [] (OffersTo at o.way r)) (sym h.output) (same _);
    keeps = subst (λ o. Continues (keeps_on old.output.way) [] [] (keeps_on o.way)) (sym h.output) (same _);
  }

  pub turn_is_step : TurnIsStep old new
  turn_is_step at job a rows sound h = record {
    brings = λ i lt. input_stays i (old.input i) (new.input i) (h.inputs i);
    works = h.works.rest sound;
    packed = h.packs.is;
    offers = λ r lt. offers_on at old.output.way new.output.way h.packs.written r h.packs.way.still h.packs.way.offers;
    keeps = keeps_more old.output.way new.output.way h.packs.written h.packs.way.still h.packs.way.keeps;
  }

  pub open_is_step : OpenIsStep old new
  open_is_step at job a h = record {
    brings = λ i lt. input_stays i (old.input i) (new.input i) (h.inputs i);
    works = h.works;
    packed = h.packs.is;
    offers = λ r lt. offers_on at old.output.way new.output.way h.packs.written r h.packs.way.still h.packs.way.offers;
    keeps = keeps_more old.output.way new.output.way h.packs.written h.packs.way.still h.packs.way.keeps;
  }

  pub finish_is_step : FinishIsStep old new
  finish_is_step at job a h = record {
    brings = λ i lt. input_stays i (old.input i) (new.input i) (h.inputs i);
    works = h.works;
    packed = ap (λ f. packed old.output ++ filled_rows f) (sym h.flushes.filling);
    offers = λ r lt. offers_on at old.output.way new.output.way (packed old.output) r h.flushes.way.still h.flushes.way.offers;
    keeps = keeps_more old.output.way new.output.way (packed old.output) h.flushes.way.still h.flushes.way.keeps;
  }

  pub come_is_step : ComeIsStep old new
  come_is_step at job a k p parcel h = record {
    brings = λ i lt. by_cases (nat_eq k i)
        (λ t. subst (λ j. Continues (brings j (old.input j)) (taken_rows (take_of k p parcel)) [] (brings j (new.input j))) (is_nat k i t) (taken_here k p parcel old new h.takes))
        (λ f. taken_there k p i parcel (old.input i) (new.input i) f (h.others i (differ k i f)));
    works = h.works;
    packed = ap (λ o. packed o ++ []) (sym h.output) ∙ append-nil (packed new.output);
    offers = λ r lt. subst (λ o. Continues (OffersTo at old.output.way r) [] [] (OffersTo at o.way r)) (sym h.output) (same _);
    keeps = subst (λ o. Continues (keeps_on old.output.way) [] [] (keeps_on o.way)) (sym h.output) (same _);
  }

  module _ (at : ℕ → ℕ) (k : ℕ) (parcel : Parcel) (apart : AreApart at (places old.output.way)) (h : SendsOn old.output.way k parcel new.output.way) where
    after : places new.output.way ≡ places old.output.way
    after = places_stay old.output.way new.output.way h.still

    newly : (m : ℕ) → m < places old.output.way → m < places new.output.way
    newly m lt = subst (λ n. m < n) (sym after) lt

    put_here : (r : ℕ) → at k ≡ r → Continues (OffersTo at old.output.way r) [] (parcel_rows parcel) (OffersTo at new.output.way r)
    put_here r e = record {
      back = λ given put o. record {
        there = λ m lt is. (let j : k ≡ m = apart k m h.there lt (e ∙ sym is) in
            subst (λ i. offers old.output.way i given (parcel_rows parcel ++ put)) j (h.owes.back given put (o.there k (newly k h.there) e)));
        none = λ no. absurd (no k h.there e);
      };
    }

    put_there : (r : ℕ) → nat_eq r (at k) ≡ false → Continues (OffersTo at old.output.way r) [] [] (OffersTo at new.output.way r)
    put_there r f = record {
      back = λ given put o. record {
        there = λ m lt is. (h.same m (λ e. differ r (at k) f (ap at (sym e) ∙ is)) lt).back given put (o.there m (newly m lt) is);
        none = λ no. o.none (λ m lt is. no m (subst (λ n. m < n) after lt) is);
      };
    }

    put_each : (r : ℕ) → Continues (OffersTo at old.output.way r) [] (put_rows (put_for (at k) parcel r)) (OffersTo at new.output.way r)
    put_each r = by_cases (nat_eq r (at k))
        (λ t. rw t (subst (λ rows. Continues (OffersTo at old.output.way r) [] rows (OffersTo at new.output.way r)) (sym (signal_row parcel)) (put_here r (sym (is_nat r (at k) t)))))
        (λ f. rw f (put_there r f))

  pub put_is_step : PutIsStep old new
  put_is_step at job a k parcel apart h = record {
    brings = λ i lt. input_stays i (old.input i) (new.input i) (h.inputs i);
    works = h.works;
    packed = append-nil (packed old.output) ∙ sym h.packed_is;
    offers = λ r lt. put_each at k parcel apart h.sends r;
    keeps = keeps_same old.output.way new.output.way h.sends.still h.sends.keeps;
  }

-- ---- what waits

rows_wait : (way : Way) (k : ℕ) → put_rows (map signal_of (waiting way k)) ≡ rows_waiting way k
rows_wait (W.Wire w) k = signals_rows (waiting (W.Wire w) k)
rows_wait (W.Kept keeper) k = refl

last_or : (k n : ℕ) → k < suc n → (k < n) ⊎ (k ≡ n)
last_or k n lt = elim (cases_lt k n) [ inl less ↦ inl less | inr more ↦ inr (omega (arith, lt, more)) ]

module _ (at : ℕ → ℕ) (way : Way) (r : ℕ) where
  abbrev pub Found : ℕ → Type 0
  Found n = ((k : ℕ) × (k < n) × (at k ≡ r) × (waits_in at way n r ≡ map signal_of (waiting way k))) ⊎ ((waits_in at way n r ≡ []) × ((k : ℕ) → k < n → at k ≡ r → ⊥))

  pub found : (n : ℕ) → Found n
  found zero = inr (refl, λ k lt e. absurd (omega (arith, lt)))
  found (suc n) = by_cases (nat_eq (at n) r)
      (λ t. inl (n, omega arith, is_nat (at n) r t, rw t refl))
      (λ f. elim (found n) [
        | inl x ↦ inl (x.0, omega (arith, x.1), x.2, rw f x.3)
        | inr x ↦ inr (rw f x.0, λ k lt e. elim (last_or k n lt) [ inl less ↦ x.1 k less e | inr same ↦ no_bool (sym (nat_is (at n) r (subst (λ m. at m ≡ r) same e)) ∙ f) ])
      ])

-- where what now waits in each place is a front of what might be offered there, so is what waits for each receiver
pub fronts_wait : (at : ℕ → ℕ) (way way' : Way) → places way' ≡ places way → (r : ℕ) (given put : List Row)
    → ((k : ℕ) → k < places way → offers way k given put → (rest : List Row) × (put ≡ rows_waiting way' k ++ rest))
    → OffersTo at way r given put → (rest : List Row) × (put ≡ put_rows (waits_in at way' (places way') r) ++ rest)
fronts_wait at way way' same r given put fronts h = elim (found at way' r (places way')) [
  | inl x ↦
      (let low : x.0 < places way = subst (λ n. x.0 < n) same x.1 in
      let q = fronts x.0 low (h.there x.0 low x.2) in
      (q.0, q.1 ∙ ap (λ rows. rows ++ q.0) (sym (ap put_rows x.3 ∙ rows_wait way' x.0))))
  | inr x ↦ ([], h.none (λ k lt e. x.1 k (subst (λ n. k < n) (sym same) lt) e) ∙ ap (λ ws. put_rows ws ++ []) (sym x.0))
]

pub waiting_is_front : (p : PipelineOf) → WaitingIsFront p
waiting_is_front p at fronts r given put h = fronts_wait at p.output.way p.output.way refl r given put (λ k lt o. fronts k lt given put o) h
