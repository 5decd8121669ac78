-- What a merging taker says, of an input.
use Rattle.std.proofs.Common.{◌≡◌, ◌<◌, ℕ, Bool, true, false, ◌&&◌, ◌||◌, List, [], ◌∷◌, Option, refl, sym, ap, subst, ◌∙◌, nat_eq, nat_lt, inl, inr}
use Rattle.std.proofs.lemmas.Bool.{cases_Bool, lt-ltb, ltb-true}
use Rattle.hy_frame.specs.Bank.{BankOf}
use Rattle.hy_frame.specs.Frame.{FrameOf}
use Rattle.hy_rest.specs.Rest.{Continues}
use Rattle.hy_job.specs.Runs.{Taken}
use Rattle.hy_job.proofs.Members.{by_cases, no_bool}
use Rattle.hy_mail.specs.Events.{Event}
use Rattle.hy_driver.specs.Rows.{Row, values_of}
use Rattle.hy_connect.specs.Merges as C
use Rattle.hy_connect.specs.Merges.{MergerOf, StaysMerger, TellsMerged, current_row, may_give, senders, source}
use Rattle.hy_connect.specs.Sources.{IsWanted}
use Rattle.hy_connect.specs.declared.merge.Merged.TheVariants as M
use Rattle.hy_connect.proofs.Merging.{other_number, same_number}
use Rattle.hy_input.specs.declared.input.Came.{Came}
use Rattle.hy_input.specs.declared.input.Came.TheVariants as I
use Rattle.hy_input.specs.declared.taker.Taker.TheVariants as T
use Rattle.hy_input.specs.Inputs.{Closes, Drops, Gets, Gives, InputOf, IsAsked, IsOver, Rests, Stays, TellsCame, TellsRows, TellsRowsOfMerge, TellsTakenOfMerge, closed_at, input_of, only_at}
use Rattle.hy_input.proofs.Taking.{only_taken}

-- an input that takes from this merge
abbrev pub merging : MergerOf → ℕ → Option FrameOf → ℕ → Bool → InputOf
merging m from frame next up = input_of (T.Merge m) from frame next up

and_below : (p n : ℕ) (b c : Bool) → (p < n → b ≡ c) → (nat_lt p n && b) ≡ (nat_lt p n && c)
and_below p n b c h = elim (cases_Bool (nat_lt p n)) [
  | inl y ↦ ap (λ (x : Bool). nat_lt p n && x) (h (ltb-true p n y))
  | inr z ↦ ap (λ (x : Bool). x && b) z ∙ ap (λ (x : Bool). x && c) (sym z)
]

pub merge_stays : (m m' : MergerOf) (from : ℕ) (frame : Option FrameOf) (next : ℕ) (up : Bool) (frame' : Option FrameOf) (next' : ℕ) (up' : Bool) → StaysMerger m m' → Stays (merging m from frame next up) (merging m' from frame' next' up')
merge_stays m m' from frame next up frame' next' up' s = record {
  from = refl;
  sends = λ a n p h. (subst (λ (c : ℕ). p < c) (sym s.count) h.0, h.1 ∙ sym (s.mailbox p h.0), h.2);
  sent = λ a n p h. let low = subst (λ (c : ℕ). p < c) s.count h.0 in (low, h.1 ∙ s.mailbox p low, h.2);
}

pub merge_closed : (m m' : MergerOf) (from : ℕ) (frame : Option FrameOf) (next : ℕ) (up : Bool) (frame' : Option FrameOf) (next' : ℕ) (up' : Bool) → StaysMerger m m' → ((j : ℕ) → j < senders m → (source m' j).closed ≡ (source m j).closed)
    → (p : ℕ) → closed_at (merging m' from frame' next' up') p ≡ closed_at (merging m from frame next up) p
merge_closed m m' from frame next up frame' next' up' s same p =
    ap (λ (c : ℕ). nat_lt p c && (source m' p).closed) s.count ∙ and_below p (senders m) (source m' p).closed (source m p).closed (same p)

-- what is given at an input is given of the rows that come there
pub at_input : (m m' : MergerOf) (k : ℕ) (sent : List Row) → Continues (may_give m k) [] sent (may_give m' k) → Continues (λ took rows. may_give m k (only_at k took) rows) [] sent (λ took rows. may_give m' k (only_at k took) rows)
at_input m m' k sent h = record { back = λ took put g. h.back (only_at k took) put g }

pub merge_gives : (m m' : MergerOf) (from : ℕ) (frame : Option FrameOf) (next : ℕ) (up : Bool) (s : ℕ) → C.Gives s m m' → Gives (merging m from frame next up) (merging m' from frame next up)
merge_gives m m' from frame next up s g = record {
  stays = merge_stays m m' from frame next up frame next up g.still;
  given_up = g.given_up;
  closed = merge_closed m m' from frame next up frame next up g.still g.closed;
  there = λ none. let e = sym g.current ∙ none in absurd (cc);
  brings = λ k. at_input m m' k (values_of (current_row m') ∷ []) (g.gives k);
}

pub merge_rests : (m m' : MergerOf) (from : ℕ) (frame : Option FrameOf) (next : ℕ) (frame' : Option FrameOf) (next' : ℕ) (up : Bool) → C.Rests m m' → Rests (merging m from frame next up) (merging m' from frame' next' up)
merge_rests m m' from frame next frame' next' up r = record {
  stays = merge_stays m m' from frame next up frame' next' up r.still;
  given_up = r.given_up;
  closed = merge_closed m m' from frame next up frame' next' up r.still r.closed;
  brings = λ k. at_input m m' k [] (r.gives k);
}

pub merge_row : (bank bank' : BankOf) (m m' : MergerOf) (from : ℕ) (frame : Option FrameOf) (next : ℕ) (up : Bool) → TellsMerged bank bank' m m' M.Row → Gives (merging m from frame next up) (merging m' from frame next up)
merge_row bank bank' m m' from frame next up h = merge_gives m m' from frame next up h.1.0 h.1.1

pub merge_end : (bank bank' : BankOf) (m m' : MergerOf) (from : ℕ) (frame : Option FrameOf) (next : ℕ) (up : Bool) → TellsMerged bank bank' m m' M.End → IsOver (merging m from frame next up) (merging m' from frame next up)
merge_end bank bank' m m' from frame next up h = record {
  ended = h.0;
  done = (λ s low. let was = subst (λ (c : ℕ). s < c) h.2.still.count low in h.2.closed s was ∙ h.0 s was, λ s low. let was = subst (λ (c : ℕ). s < c) h.2.still.count low in h.2.hands s was ∙ h.1 s was);
  rests = merge_rests m m' from frame next frame next up h.2;
  none = λ k. (h.5 k).some;
}

pub merge_gets : (m m' : MergerOf) (s : ℕ) (f : FrameOf) (from : ℕ) (frame : Option FrameOf) (next : ℕ) (up : Bool) → C.Gets s f m m' → Gets f s (merging m from frame next up) (merging m' from frame next up)
merge_gets m m' s f from frame next up g = record {
  stays = merge_stays m m' from frame next up frame next up g.still;
  given_up = g.given_up;
  closed = merge_closed m m' from frame next up frame next up g.still g.closed;
  brings = λ k. record { back = λ took put h. subst (λ (xs : List Taken). may_give m k xs put) (sym (only_taken k s f.rows took)) ((g.gives k).back (only_at k took) put h) };
}

or_else : (b c d : Bool) → b ≡ false → c ≡ d → c ≡ (b || d)
or_else true c d e h = absurd (no_bool e)
or_else false c d e h = h

here_too : (b c d : Bool) → b ≡ true → c ≡ true → c ≡ (b || d)
here_too true c d e h = h
here_too false c d e h = absurd (no_bool (sym e))

both : (b c : Bool) → b ≡ true → c ≡ true → (b && c) ≡ true
both true c e h = h
both false c e h = e

pub merge_closes : (m m' : MergerOf) (s : ℕ) (from : ℕ) (frame : Option FrameOf) (next : ℕ) (up : Bool) → s < senders m → C.Closes s m m' → Closes s (merging m from frame next up) (merging m' from frame next up)
merge_closes m m' s from frame next up low g = record {
  stays = merge_stays m m' from frame next up frame next up g.still;
  given_up = g.given_up;
  closed = λ q. by_cases (nat_eq q s)
      (λ y. let is = same_number q s y in
      here_too (nat_eq q s) (nat_lt q (senders m') && (source m' q).closed) (nat_lt q (senders m) && (source m q).closed) y
      (both (nat_lt q (senders m')) (source m' q).closed (lt-ltb q (senders m') (subst (λ (c : ℕ). q < c) (sym g.still.count) (subst (λ (j : ℕ). j < senders m) (sym is) low))) (ap (λ (j : ℕ). (source m' j).closed) is ∙ g.here)))
      (λ n. or_else (nat_eq q s) (nat_lt q (senders m') && (source m' q).closed) (nat_lt q (senders m) && (source m q).closed) n
      (ap (λ (c : ℕ). nat_lt q c && (source m' q).closed) g.still.count ∙ ap (λ (c : Bool). nat_lt q (senders m) && c) (g.others q (other_number q s n))));
  brings = λ k. at_input m m' k [] (g.gives k);
}

pub merge_drops : (m m' : MergerOf) (from : ℕ) (frame : Option FrameOf) (next : ℕ) (up : Bool) → C.Rests m m' → Drops (merging m from frame next up) (merging m' from frame next up)
merge_drops m m' from frame next up r = record {
  stays = merge_stays m m' from frame next up frame next up r.still;
  given_up = r.given_up;
  closed = merge_closed m m' from frame next up frame next up r.still r.closed;
}

pub merge_rows : (m m' : MergerOf) (s : ℕ) (f : FrameOf) (from : ℕ) (frame : Option FrameOf) (next : ℕ) (up b : Bool) → TellsRowsOfMerge s f m m' b → TellsRows f s (merging m from frame next up) (merging m' from frame next up) b
merge_rows m m' s f from frame next up true h = merge_drops m m' from frame next up h
merge_rows m m' s f from frame next up false h = merge_gets m m' s f from frame next up h

-- the sender whose row is wanted is one of its senders, and it is asked
pub wanted_sends : (m : MergerOf) (s : ℕ) (from : ℕ) (frame : Option FrameOf) (next : ℕ) (up : Bool) → IsWanted m.sources s → IsAsked (merging m from frame next up) (source m s).mailbox 0 s
wanted_sends m s from frame next up w = ((w.there, refl, refl), (s, w, refl))

pub merge_comes : {P : Type 0} (happens : P → Event → P → Type 0) (port port' : P) (m m' : MergerOf) (from : ℕ) (frame : Option FrameOf) (next : ℕ) (up : Bool) (came : Came)
    → TellsTakenOfMerge happens port port' m m' came → TellsCame happens port port' (merging m from frame next up) (merging m' from frame next up) came
merge_comes happens port port' m m' from frame next up I.Empty h =
    ((source m h.0).mailbox, 0, h.0, wanted_sends m h.0 from frame next up h.1, merge_rests m m' from frame next frame next up h.2, h.3)
merge_comes happens port port' m m' from frame next up I.Rows h =
    ((source m h.0).mailbox, 0, h.0, h.1, wanted_sends m h.0 from frame next up h.2, merge_rows m m' h.0 h.1 from frame next up m.given_up h.3, h.4)
merge_comes happens port port' m m' from frame next up I.Word h = (
  (source m h.0).mailbox,
  0,
  h.0,
  wanted_sends m h.0 from frame next up h.1,
  elim h.2 [
    | inl o ↦ inl (merge_rests m m' from frame next frame next up o.0, o.1)
    | inr c ↦ inr (merge_closes m m' h.0 from frame next up h.1.there c.0, c.1)
  ],
)
merge_comes happens port port' m m' from frame next up I.Failed h =
    ((source m h.0).mailbox, 0, h.0, wanted_sends m h.0 from frame next up h.1, merge_rests m m' from frame next frame next up h.2, h.3)
