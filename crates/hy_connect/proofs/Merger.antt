-- What the calls of a merging taker tell, by its parts.
use Rattle.std.proofs.Common.{◌≡◌, ◌≢◌, ◌<◌, ◌≤◌, ◌+◌, inl, inr, ℕ, Bool, true, false, nat_eq, List, [], ◌∷◌, ◌++◌, map, length, set, get_or, Option, None, Some, refl, sym, ap, subst, ◌∙◌, arith, length-set}
use Rattle.al_value.specs.declared.settings.SortKey.{SortKey}
use Rattle.std.specs.List.{range_with_len}
use Rattle.hy_frame.specs.Bank.{BankOf, one_more}
use Rattle.hy_frame.specs.Frame.{FrameOf}
use Rattle.hy_frame.specs.FrameText.{AllRows}
use Rattle.hy_frame.specs.Row.{Fields}
use Rattle.hy_rest.specs.Rest.{Finished}
use Rattle.hy_job.proofs.Members.{by_cases, no_bool}
use Rattle.hy_job.specs.declared.job.Wire.{Wire}
use Rattle.hy_job.specs.declared.job.Wire.TheVariants as W
use Rattle.hy_job.specs.Runs.{rows_of}
use Rattle.hy_mail.specs.declared.parcel.Parcel.{Parcel}
use Rattle.hy_mail.specs.declared.parcel.Parcel.TheVariants as V
use Rattle.hy_mail.specs.Events.{Event, Took}
use Rattle.hy_driver.specs.Rows.{values_of}
use Rattle.hy_connect.specs.declared.merge.Merged.TheVariants as M
use Rattle.hy_connect.specs.declared.taker.Taken.{Taken}
use Rattle.hy_connect.specs.declared.taker.Taken.TheVariants as T
use Rattle.hy_connect.specs.Outlets.{held_in}
use Rattle.hy_connect.specs.Sources.{SourceOf, AllClosed, AreBare, AreNew, Brings, HasGiven, HoldRows, IsLeast, IsWanted, Lacks, LetGo, NoneAtHand, NoneLacks, Returns, TellsTake, advanced, bare, closing, first_at, first_of, frames_held, given, hand, is_before, keeping, source_at}
use Rattle.hy_connect.specs.Merges.{BeginsBy, Closes, Gets, Gives, GivesUp, HasCurrent, IsMerge, IsMerging, MergerOf, Rests, StaysMerger, TellsMergeTake, TellsMerged, may_give, merge_keys, merger_of, rows_from}
use Rattle.hy_connect.proofs.Merging.{merge_same, other_number, same_number}
use Rattle.hy_connect.proofs.Giving.{gets_on, gives_on, nothing_left, rests_on}
use Rattle.hy_connect.proofs.Hands.{advanced_given, advanced_hand, bare_hand, brings_set, frames_none, frames_set, keep_source, read_source, returns_none, returns_set, returns_then, set_source, source_held}

-- ---- a sender is taken from

module _ (keys : List SortKey) (xs : List SourceOf) (c : Option ℕ) (up : Bool) (s : ℕ) (wanted : IsWanted xs s) where
  -- what is true of the old one at this place and of the same ones elsewhere, is true of all
  by_place : (x : SourceOf) (P : ℕ → SourceOf → Type 0) → P s x → ((j : ℕ) → j ≢ s → P j (source_at xs j)) → (j : ℕ) → P j (source_at (set xs s x) j)
  by_place x P here there j = by_cases (nat_eq j s)
      (λ y. subst (λ (k : ℕ). P k (source_at (set xs s x) k)) (sym (same_number j s y)) (subst (P s) (sym (set_source xs s x wanted.there)) here))
      (λ m. let ne = other_number j s m in subst (P j) (sym (keep_source xs s j x ne)) (there j ne))

  stays : (x : SourceOf) (d : Option ℕ) (v : Bool) → x.mailbox ≡ (source_at xs s).mailbox → StaysMerger (merger_of keys xs c up) (merger_of keys (set xs s x) d v)
  stays x d v mailbox = record {
    keys = refl;
    count = length-set xs s x;
    mailbox = λ j low. by_place x (λ k y. y.mailbox ≡ (source_at xs k).mailbox) mailbox (λ k ne. refl) j;
  }

  hands_same : (x : SourceOf) → hand x ≡ [] → (j : ℕ) → hand (source_at (set xs s x) j) ≡ hand (source_at xs j)
  hands_same x none = by_place x (λ k y. hand y ≡ hand (source_at xs k)) (none ∙ sym wanted.lacks.none) (λ k ne. refl)

  pub rests : (x : SourceOf) → x ≡ bare (source_at xs s) → Rests (merger_of keys xs c up) (merger_of keys (set xs s x) None up)
  rests x is = record {
    still = stays x None up (ap (λ (y : SourceOf). y.mailbox) is);
    given_up = refl;
    current = refl;
    closed = λ j low. closed j;
    hands = λ j low. hands_same x none j;
    gives = rests_on keys xs (set xs s x) c None up up (length-set xs s x) (λ j low e. sym (closed j) ∙ e) (λ j low. hands_same x none j);
  }
    where
      none : hand x ≡ []
      none = ap hand is ∙ bare_hand (source_at xs s)

      closed : (j : ℕ) → (source_at (set xs s x) j).closed ≡ (source_at xs j).closed
      closed = by_place x (λ k y. y.closed ≡ (source_at xs k).closed) (ap (λ (y : SourceOf). y.closed) is) (λ k ne. refl)

  closes : (x : SourceOf) → x ≡ closing (bare (source_at xs s)) → Closes s (merger_of keys xs c up) (merger_of keys (set xs s x) None up)
  closes x is = record {
    still = stays x None up (ap (λ (y : SourceOf). y.mailbox) is);
    given_up = refl;
    current = refl;
    here = ap (λ (y : SourceOf). y.closed) (set_source xs s x wanted.there ∙ is);
    others = λ j ne. ap (λ (y : SourceOf). y.closed) (keep_source xs s j x ne);
    hands = λ j low. hands_same x none j;
    gives = rests_on keys xs (set xs s x) c None up up (length-set xs s x) (λ j low. on j) (λ j low. hands_same x none j);
  }
    where
      none : hand x ≡ []
      none = ap hand is ∙ bare_hand (source_at xs s)

      on : (j : ℕ) → (source_at (set xs s x) j).closed ≡ false → (source_at xs j).closed ≡ false
      on = by_place x (λ k y. y.closed ≡ false → (source_at xs k).closed ≡ false) (λ e. wanted.lacks.going) (λ k ne e. e)

  gets : (x : SourceOf) (f : FrameOf) → x ≡ keeping f (source_at xs s) → Gets s f (merger_of keys xs c up) (merger_of keys (set xs s x) None up)
  gets x f is = record {
    still = stays x None up (ap (λ (y : SourceOf). y.mailbox) is);
    given_up = refl;
    current = refl;
    closed = λ j low. closed j;
    here = here;
    others = others;
    gives = gets_on keys xs (set xs s x) c None up up s f (length-set xs s x) (λ j low e. sym (closed j) ∙ e) wanted.lacks here others;
  }
    where
      closed : (j : ℕ) → (source_at (set xs s x) j).closed ≡ (source_at xs j).closed
      closed = by_place x (λ k y. y.closed ≡ (source_at xs k).closed) (ap (λ (y : SourceOf). y.closed) is) (λ k ne. refl)

      here : hand (source_at (set xs s x) s) ≡ f.rows
      here = ap hand (set_source xs s x wanted.there ∙ is)

      others : (j : ℕ) → j ≢ s → hand (source_at (set xs s x) j) ≡ hand (source_at xs j)
      others j ne = ap hand (keep_source xs s j x ne)

  pub holds_set : (x : SourceOf) (width : ℕ) → AllRows width (hand x) → HoldRows width xs → HoldRows width (set xs s x)
  holds_set x width here all j low = by_place x (λ k y. k < length xs → AllRows width (hand y)) (λ l. here) (λ k ne l. all k l) j (subst (λ (n : ℕ). j < n) (length-set xs s x) low)

  back : (x : SourceOf) (a b : BankOf) → held_in x.frame ≡ 0 → Returns (held_in (source_at xs s).frame) 0 a b → Returns (frames_held xs) (frames_held (set xs s x)) a b
  back x a b e r = returns_set xs s x a b wanted.there (subst (λ (n : ℕ). Returns (held_in (source_at xs s).frame) n a b) (sym e) r)

  came : (x : SourceOf) (a b : BankOf) → held_in x.frame ≡ 0 → Brings (held_in (source_at xs s).frame) 1 a b → Brings (frames_held xs) (frames_held (set xs s x) + 1) a b
  came x a b e r = brings_set xs s x 1 a b wanted.there (subst (λ (n : ℕ). Brings (held_in (source_at xs s).frame) (n + 1) a b) (sym e) r)

  stayed : (x : SourceOf) (a b : BankOf) → held_in x.frame ≡ 1 → Brings (held_in (source_at xs s).frame) 1 a b → Brings (frames_held xs) (frames_held (set xs s x)) a b
  stayed x a b e r = record {
    out = let h = frames_set xs s x wanted.there in let t = r.out in omega arith;
    unit = r.unit;
    limit = r.limit;
    taken = r.taken;
    exported = r.exported;
    imported = r.imported;
  }

  pub take_told : {P : Type 0} (happens : P → Event → P → Type 0) (port port' : P) (a b : BankOf) (x : SourceOf) (result : Taken) → TellsTake happens port port' a b up (source_at xs s) x result
      → TellsMergeTake happens port port' a b (merger_of keys xs c up) (merger_of keys (set xs s x) None up) result
  take_told happens port port' a b x T.Empty t = (s, wanted, rests x t.0, back x a b (ap (λ (y : SourceOf). held_in y.frame) t.0) t.1, t.2)
  take_told happens port port' a b x (T.Frame f) t = (t.0, (s, wanted, rests x t.1, came x a b (ap (λ (y : SourceOf). held_in y.frame) t.1) t.2, t.3))
  take_told happens port port' a b x T.Kept t = (t.0, (s, t.1.0, wanted, gets x t.1.0 t.1.1, stayed x a b (ap (λ (y : SourceOf). held_in y.frame) t.1.1) t.1.2, t.1.3))
  take_told happens port port' a b x T.Word t = elim t.1 [
    | inl o ↦ (s, wanted, back x a b (ap (λ (y : SourceOf). held_in y.frame) o.0) t.0, inl (rests x o.0, o.1))
    | inr o ↦ (s, wanted, back x a b (ap (λ (y : SourceOf). held_in y.frame) o.0) t.0, inr (closes x o.0, o.1))
  ]
  take_told happens port port' a b x T.Failed t = (s, wanted, rests x t.0, back x a b (ap (λ (y : SourceOf). held_in y.frame) t.0) t.1, t.2)
  take_told happens port port' a b x T.Ended t = absurd t

-- nothing is taken where all have closed
pub rests_same : (keys : List SortKey) (xs : List SourceOf) (c : Option ℕ) (up : Bool) → Rests (merger_of keys xs c up) (merger_of keys xs None up)
rests_same keys xs c up = record {
  still = record { keys = refl; count = refl; mailbox = λ j low. refl };
  given_up = refl;
  current = refl;
  closed = λ j low. refl;
  hands = λ j low. refl;
  gives = rests_on keys xs xs c None up up refl (λ j low e. e) (λ j low. refl);
}

-- ---- the next row

module _ (keys : List SortKey) (xs ys : List SourceOf) (c : Option ℕ) (up : Bool) (go : LetGo xs ys) where
  lacks_before : (s : ℕ) → s < length xs → Lacks (source_at ys s) → Lacks (source_at xs s)
  lacks_before s low h = let e = go.each s low in record { going = sym e.closed ∙ h.going; none = sym e.hand_is ∙ h.none }

  lacks_after : (s : ℕ) → s < length xs → Lacks (source_at xs s) → Lacks (source_at ys s)
  lacks_after s low h = let e = go.each s low in record { going = e.closed ∙ h.going; none = e.hand_is ∙ h.none }

  pub let_go_rests : Rests (merger_of keys xs c up) (merger_of keys ys None up)
  let_go_rests = record {
    still = record { keys = refl; count = go.count; mailbox = λ j low. (go.each j low).mailbox };
    given_up = refl;
    current = refl;
    closed = λ j low. (go.each j low).closed;
    hands = λ j low. (go.each j low).hand_is;
    gives = rests_on keys xs ys c None up up go.count (λ j low e. let g = go.each j low in sym g.closed ∙ e) (λ j low. (go.each j low).hand_is);
  }

  pub wanted_before : (s : ℕ) → IsWanted ys s → IsWanted xs s
  wanted_before s w =
      let low : s < length xs = let t = w.there in let n = go.count in omega arith in
      record { there = low; lacks = lacks_before s low w.lacks; first = λ j before h. w.first j before (lacks_after j (omega arith) h) }

  pub none_before : NoneLacks ys → NoneLacks xs
  none_before h s low l = h s (let n = go.count in omega arith) (lacks_after s low l)

  -- ---- the end

  pub end_hands : NoneAtHand ys → NoneAtHand xs
  end_hands none s low = let e = go.each s low in sym e.hand_is ∙ none s (let n = go.count in omega arith)

  pub end_closed : NoneLacks ys → NoneAtHand ys → AllClosed xs
  end_closed full none s low = by_cases (source_at xs s).closed (λ y. y) (λ n. absurd (none_before full s low (record { going = n; none = end_hands none s low })))

  pub end_held : NoneAtHand ys → frames_held ys ≡ 0
  end_held none = frames_none ys (λ k low. let low' : k < length xs = (let n = go.count in omega arith) in (go.each k low').none (end_hands none k low'))

  pub end_finished : NoneLacks ys → NoneAtHand ys → (input : ℕ) → Finished (may_give (merger_of keys ys None up) input)
  end_finished full none = nothing_left keys ys None up (λ s low. let low' : s < length xs = (let n = go.count in omega arith) in (let g = go.each s low' in g.closed ∙ end_closed full none s low')) none

  -- ---- a row

  module _ (k : ℕ) (full : NoneLacks ys) (least : IsLeast keys ys k) (x : SourceOf) (is : x ≡ advanced (source_at ys k)) where
    there : k < length xs
    there = let t = least.there in let n = go.count in omega arith

    some : hand (source_at ys k) ≢ []
    some none = least.some (ap first_of none)

    before : (j : ℕ) → j < length xs → first_at ys j ≡ first_at xs j
    before j low = let g = go.each j low in ap first_of g.hand_is

    least_before : IsLeast keys xs k
    least_before = record {
      there = there;
      some = λ none. least.some (before k there ∙ none);
      least = λ j low.
          subst (λ (a : Option Fields). is_before keys (first_at xs j) a ≡ false) (before k there)
          (subst (λ (a : Option Fields). is_before keys a (first_at ys k) ≡ false) (before j low) (least.least j (let n = go.count in omega arith)));
    }

    now_at : source_at (set ys k x) k ≡ advanced (source_at ys k)
    now_at = set_source ys k x least.there ∙ is

    elsewhere : (j : ℕ) → j ≢ k → source_at (set ys k x) j ≡ source_at ys j
    elsewhere j ne = keep_source ys k j x ne

    closed_in : (j : ℕ) → (source_at (set ys k x) j).closed ≡ (source_at ys j).closed
    closed_in j = by_cases (nat_eq j k)
        (λ y. subst (λ (i : ℕ). (source_at (set ys k x) i).closed ≡ (source_at ys i).closed) (sym (same_number j k y)) (ap (λ (z : SourceOf). z.closed) now_at))
        (λ m. ap (λ (z : SourceOf). z.closed) (elsewhere j (other_number j k m)))

    closed_at : (j : ℕ) → j < length xs → (source_at (set ys k x) j).closed ≡ (source_at xs j).closed
    closed_at j low = let g = go.each j low in closed_in j ∙ g.closed

    mailbox_in : (j : ℕ) → (source_at (set ys k x) j).mailbox ≡ (source_at ys j).mailbox
    mailbox_in j = by_cases (nat_eq j k)
        (λ y. subst (λ (i : ℕ). (source_at (set ys k x) i).mailbox ≡ (source_at ys i).mailbox) (sym (same_number j k y)) (ap (λ (z : SourceOf). z.mailbox) now_at))
        (λ m. ap (λ (z : SourceOf). z.mailbox) (elsewhere j (other_number j k m)))

    mailbox_at : (j : ℕ) → j < length xs → (source_at (set ys k x) j).mailbox ≡ (source_at xs j).mailbox
    mailbox_at j low = let g = go.each j low in mailbox_in j ∙ g.mailbox

    pub row_here : hand (source_at xs k) ≡ given (source_at (set ys k x) k) ∷ hand (source_at (set ys k x) k)
    row_here =
        let g = go.each k there in
        sym g.hand_is ∙ advanced_hand (source_at ys k) some
        ∙ ap (λ (z : SourceOf). given z ∷ hand z) (sym now_at)

    others_at : (j : ℕ) → j < length xs → j ≢ k → hand (source_at (set ys k x) j) ≡ hand (source_at xs j)
    others_at j low ne = let g = go.each j low in ap hand (elsewhere j ne) ∙ g.hand_is

    count_at : length (set ys k x) ≡ length xs
    count_at = length-set ys k x ∙ go.count

    pub row_given : Gives k (merger_of keys xs c up) (merger_of keys (set ys k x) (Some k) up)
    row_given = record {
      still = record { keys = refl; count = count_at; mailbox = mailbox_at };
      given_up = refl;
      there = there;
      current = refl;
      closed = closed_at;
      here = row_here;
      others = others_at;
      gives = gives_on keys xs (set ys k x) k (given (source_at (set ys k x) k)) count_at (λ j low e. sym (closed_at j low) ∙ e) (none_before full) least_before row_here others_at c (Some k) up up;
    }

    pub row_current : HasCurrent (set ys k x) (Some k)
    row_current = (let n = count_at in let t = there in omega arith, subst HasGiven (sym now_at) (advanced_given (source_at ys k) some))

    pub row_bank : (a b : BankOf) → Returns (frames_held xs) (frames_held ys) a b → Returns (frames_held xs) (frames_held (set ys k x)) a b
    row_bank a b r = returns_then (frames_held xs) (frames_held ys) (frames_held (set ys k x)) a b b r
        (returns_set ys k x b b least.there (subst (λ (z : SourceOf). Returns (held_in (source_at ys k).frame) (held_in z.frame) b b) (sym is) (returns_none (held_in (source_at ys k).frame) b)))

-- ---- it is given up

pub given_up : (keys : List SortKey) (xs ys : List SourceOf) (c : Option ℕ) (up : Bool) → AreBare xs ys → GivesUp (merger_of keys xs c up) (merger_of keys ys None true)
given_up keys xs ys c up h = record {
  still = record { keys = refl; count = h.count; mailbox = λ j low. ap (λ (z : SourceOf). z.mailbox) (h.each j low) };
  given_up = refl;
  current = refl;
  closed = λ j low. ap (λ (z : SourceOf). z.closed) (h.each j low);
  none = λ j low. ap hand (h.each j (let n = h.count in omega arith)) ∙ bare_hand (source_at xs j);
  held = frames_none ys (λ j low. ap (λ (z : SourceOf). z.frame) (h.each j (let n = h.count in omega arith)));
}

pub bare_held : (xs ys : List SourceOf) → AreBare xs ys → frames_held ys ≡ 0
bare_held xs ys h = frames_none ys (λ j low. ap (λ (z : SourceOf). z.frame) (h.each j (let n = h.count in omega arith)))

-- ---- a frame that comes of a sender

module _ {P : Type 0} (happens : P → Event → P → Type 0) (port port' : P) (a mid b : BankOf) (up : Bool) (old between new : SourceOf) (f g : FrameOf) (p : Parcel) (mailbox : ℕ) (result : Taken)
    (bared : between ≡ bare old) (back : Returns (held_in old.frame) 0 a mid) (bank : b ≡ record mid { out = mid.out + 1; imported = one_more mid.imported }) (frame : g ≡ f) (parcel : p ≡ V.Frame f) (same : mailbox ≡ old.mailbox)
    (event : happens port (Took mailbox 0 p) port') where
  brought : Brings (held_in old.frame) 1 a b
  brought = record {
    out = let x = back.out in let y = ap (λ (z : BankOf). z.out) bank in omega arith;
    unit = ap (λ (z : BankOf). z.unit) bank ∙ back.unit;
    limit = ap (λ (z : BankOf). z.limit) bank ∙ back.limit;
    taken = ap (λ (z : BankOf). z.taken) bank ∙ back.taken;
    exported = ap (λ (z : BankOf). z.exported) bank ∙ back.exported;
    imported = ap (λ (z : BankOf). z.imported) bank ∙ ap one_more back.imported;
  }

  took : happens port (Took old.mailbox 0 (V.Frame g)) port'
  took = subst (λ (m : ℕ). happens port (Took m 0 (V.Frame g)) port') same (subst (λ (q : Parcel). happens port (Took mailbox 0 q) port') (parcel ∙ ap V.Frame (sym frame)) event)

  pub frame_told : (up ≡ true → (result ≡ T.Frame g) × (new ≡ between)) → (up ≡ false → (result ≡ T.Kept) × (new ≡ keeping g between)) → TellsTake happens port port' a b up old new result
  frame_told handed kept = by_cases up
      (λ y. let h = handed y in subst (λ (r : Taken). TellsTake happens port port' a b up old new r) (sym h.0) (y, h.1 ∙ bared, brought, took))
      (λ n. let h = kept n in subst (λ (r : Taken). TellsTake happens port port' a b up old new r) (sym h.0) (n, (g, h.1 ∙ ap (keeping g) bared, brought, took)))

kept_none : {P : Type 0} (happens : P → Event → P → Type 0) (port port' : P) (a b : BankOf) (up : Bool) (d x : SourceOf) (result : Taken) → up ≡ true → TellsTake happens port port' a b up d x result → held_in x.frame ≡ 0
kept_none happens port port' a b up d x T.Empty gave t = ap (λ (y : SourceOf). held_in y.frame) t.0
kept_none happens port port' a b up d x (T.Frame f) gave t = ap (λ (y : SourceOf). held_in y.frame) t.1
kept_none happens port port' a b up d x T.Kept gave t = absurd (no_bool (sym gave ∙ t.0))
kept_none happens port port' a b up d x T.Word gave t = elim t.1 [ inl o ↦ ap (λ (y : SourceOf). held_in y.frame) o.0 | inr c ↦ ap (λ (y : SourceOf). held_in y.frame) c.0 ]
kept_none happens port port' a b up d x T.Failed gave t = ap (λ (y : SourceOf). held_in y.frame) t.0
kept_none happens port port' a b up d x T.Ended gave t = absurd t

-- ---- calls, from a taker to a taker

module _ (self : MergerOf) (keys : List SortKey) (xs : List SourceOf) (c : Option ℕ) (up : Bool) (view : merger_of keys xs c up ≡ self) where
  self_held : frames_held xs ≡ frames_held self.sources
  self_held = ap (λ (m : MergerOf). frames_held m.sources) view

  pub call_held : (s n : ℕ) (zs : List SourceOf) (x : SourceOf) → zs ≡ xs → IsWanted zs s → x ≡ get_or xs s x → frames_held self.sources ≤ n → held_in x.frame ≤ n
  call_held s n zs x e wanted is le =
      let low : s < length xs = subst (λ (l : List SourceOf). s < length l) e wanted.there in
      source_held xs s n x low is (subst (λ (m : ℕ). m ≤ n) (sym self_held) le)

  pub call_took : {P : Type 0} (happens : P → Event → P → Type 0) (port port' : P) (a b : BankOf) (s : ℕ) (zs : List SourceOf) (d x : SourceOf) (result : Taken) → zs ≡ xs → IsWanted zs s → d ≡ get_or xs s d
      → TellsTake happens port port' a b up d x result → TellsMergeTake happens port port' a b self (merger_of keys (set xs s x) None up) result
  call_took happens port port' a b s zs d x result e wanted is told =
      let wants : IsWanted xs s = subst (λ (l : List SourceOf). IsWanted l s) e wanted in
      subst (λ (m : MergerOf). TellsMergeTake happens port port' a b m (merger_of keys (set xs s x) None up) result) view
      (take_told keys xs c up s wants happens port port' a b x result
      (subst (λ (y : SourceOf). TellsTake happens port port' a b up y x result) (is ∙ read_source xs s d wants.there) told))

  pub call_rows : (arity : ℕ → ℕ) (s : ℕ) (zs : List SourceOf) (d x : SourceOf) → zs ≡ xs → IsWanted zs s → d ≡ get_or xs s d → AllRows (arity d.mailbox) (hand x)
      → (width : ℕ) → ((j : ℕ) → j < length self.sources → arity (source_at self.sources j).mailbox ≡ width) → HoldRows width self.sources → HoldRows width (set xs s x)
  call_rows arity s zs d x e wanted is rows width all holds =
      let wants : IsWanted xs s = subst (λ (l : List SourceOf). IsWanted l s) e wanted in
      let same : d ≡ source_at xs s = is ∙ read_source xs s d wants.there in
      let sources : xs ≡ self.sources = ap (λ (m : MergerOf). m.sources) view in
      let here : arity d.mailbox ≡ width = ap (λ (y : SourceOf). arity y.mailbox) (same ∙ ap (λ (l : List SourceOf). source_at l s) sources) ∙ all s (subst (λ (l : List SourceOf). s < length l) sources wants.there) in
      holds_set keys xs c up s wants x width (subst (λ (n : ℕ). AllRows n (hand x)) here rows) (subst (HoldRows width) (sym sources) holds)

  -- who has given up keeps no frame that comes
  pub call_less : {P : Type 0} (happens : P → Event → P → Type 0) (port port' : P) (a b : BankOf) (s : ℕ) (zs : List SourceOf) (d x : SourceOf) (result : Taken) → zs ≡ xs → IsWanted zs s
      → TellsTake happens port port' a b up d x result → self.given_up ≡ true → frames_held (set xs s x) ≤ frames_held self.sources
  call_less happens port port' a b s zs d x result e wanted told gave =
      let low : s < length xs = subst (λ (l : List SourceOf). s < length l) e wanted.there in
      let none = kept_none happens port port' a b up d x result (ap (λ (m : MergerOf). m.given_up) view ∙ gave) told in
      let h = frames_set xs s x low in
      let same = self_held in
      omega arith

  pub call_gave_up : (ys : List SourceOf) → AreBare xs ys → GivesUp self (merger_of keys ys None true)
  call_gave_up ys h = subst (λ (m : MergerOf). GivesUp m (merger_of keys ys None true)) view (given_up keys xs ys c up h)

  pub call_gave_back : (ys : List SourceOf) (a b : BankOf) → AreBare xs ys → Returns (frames_held xs) (frames_held ys) a b → Returns (frames_held self.sources) 0 a b
  call_gave_back ys a b h r = subst (λ (n : ℕ). Returns n 0 a b) self_held (subst (λ (n : ℕ). Returns (frames_held xs) n a b) (bare_held xs ys h) r)

  module _ (ys zs : List SourceOf) (a b : BankOf) (go : LetGo xs ys) (value : zs ≡ ys) (r : Returns (frames_held xs) (frames_held ys) a b) where
    pub call_need : (s : ℕ) → IsWanted zs s → TellsMerged a b self (merger_of keys ys None up) (M.Need s)
    call_need s wanted =
        subst (λ (m : MergerOf). TellsMerged a b m (merger_of keys ys None up) (M.Need s)) view
        (wanted_before keys xs ys c up go s (subst (λ (l : List SourceOf). IsWanted l s) value wanted), let_go_rests keys xs ys c up go, r)

    pub call_end : (us : List SourceOf) → us ≡ ys → NoneLacks zs → NoneAtHand us → TellsMerged a b self (merger_of keys ys None up) M.End
    call_end us value' lacks hands =
        let full : NoneLacks ys = subst NoneLacks value lacks in
        let none : NoneAtHand ys = subst NoneAtHand value' hands in
        let held = end_held keys xs ys c up go none in
        subst (λ (m : MergerOf). TellsMerged a b m (merger_of keys ys None up) M.End) view
        (end_closed keys xs ys c up go full none, end_hands keys xs ys c up go none, let_go_rests keys xs ys c up go, held, subst (λ (n : ℕ). Returns (frames_held xs) n a b) held r, end_finished keys xs ys c up go full none)

    pub call_row : (us : List SourceOf) (keys' : List SortKey) (k : ℕ) (d x : SourceOf) → us ≡ ys → keys' ≡ keys → NoneLacks zs → IsLeast keys' us k → d ≡ get_or ys k d → x ≡ advanced d → TellsMerged a b self (merger_of keys (set ys k x) (Some k) up) M.Row
    call_row us keys' k d x value' same lacks found is goes =
        let full : NoneLacks ys = subst NoneLacks value lacks in
        let least : IsLeast keys ys k = subst (λ (l : List SourceOf). IsLeast keys l k) value' (subst (λ (o : List SortKey). IsLeast o us k) same found) in
        let here : x ≡ advanced (source_at ys k) = goes ∙ ap advanced (is ∙ read_source ys k d least.there) in
        subst (λ (m : MergerOf). TellsMerged a b m (merger_of keys (set ys k x) (Some k) up) M.Row) view
        (none_before keys xs ys c up go full, (k, row_given keys xs ys c up go k full least x here, row_bank keys xs ys c up go k full least x here a b r))

-- ---- a new one

pub begins : (wire : Wire) (keys : List SortKey) (boxes : List ℕ) (xs : List SourceOf) (n : ℕ) → IsMerging wire → keys ≡ merge_keys wire → AreNew boxes xs → length boxes ≡ n → BeginsBy wire n (merger_of keys xs None false)
begins W.OneToOne keys boxes xs n merging is new count input took put h = absurd merging
begins (W.Hash columns) keys boxes xs n merging is new count input took put h = absurd merging
begins W.Broadcast keys boxes xs n merging is new count input took put h = absurd merging
begins W.Gather keys boxes xs n merging is new count input took put h = absurd merging
begins (W.Merge ks) keys boxes xs n merging is new count input took put h =
    subst (λ (o : List SortKey). IsMerge o (map (λ (s : ℕ). rows_of input s took) (range_with_len 0 n)) put) is
    (subst (λ (m : ℕ). IsMerge keys (map (λ (s : ℕ). rows_of input s took) (range_with_len 0 m)) put) (new.count ∙ count)
    (subst (IsMerge keys (map (λ (s : ℕ). rows_of input s took) (range_with_len 0 (length xs)))) (sym h.1.is)
    (merge_same keys (λ (s : ℕ). rows_of input s took) (rows_from xs input took) (length xs) h.1.rest
    (λ s low. sym (ap (λ (x : SourceOf). map values_of (hand x) ++ rows_of input s took) (new.each s (let n = new.count in omega arith)))) h.1.output)))
