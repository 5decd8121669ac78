-- What a taker that doesn't merge tells, of an input.
use Rattle.std.proofs.Common.{◌≡◌, ◌≢◌, ◌<◌, ◌≤◌, ◌+◌, inl, inr, ℕ, zero, suc, Bool, true, false, nat_eq, ◌&&◌, ◌||◌, List, [], ◌∷◌, ◌++◌, map, length, drop, slice_index_or, slice_set, Option, None, refl, sym, ap, subst, ◌∙◌, arith}
use Rattle.std.proofs.lemmas.List.{length-set}
use Rattle.hy_frame.specs.Bank.{BankOf, one_more}
use Rattle.hy_frame.specs.Frame.{FrameOf}
use Rattle.hy_frame.specs.Row.{Fields}
use Rattle.hy_rest.specs.Rest.{Continues}
use Rattle.hy_job.specs.Runs.{Taken as TakenRow, rows_at}
use Rattle.hy_job.proofs.Members.{by_cases, nat_same}
use Rattle.hy_mail.specs.Events.{Event}
use Rattle.hy_driver.specs.Rows.{Row, values_of}
use Rattle.hy_connect.specs.Merges.{rows_taken}
use Rattle.hy_connect.proofs.Merging.{other_number, same_number}
use Rattle.hy_connect.specs.Sources.{Brings, Returns, frame_rows}
use Rattle.hy_connect.specs.Takers.{IsGoing, TakerOf, closing, with_import}
use Rattle.hy_connect.specs.declared.taker.Taken.{Taken}
use Rattle.hy_connect.specs.declared.taker.Taken.TheVariants as K
use Rattle.hy_input.specs.declared.taker.Taker.{Taker}
use Rattle.hy_input.specs.declared.taker.Taker.TheVariants as T
use Rattle.hy_input.specs.declared.input.Came.{Came}
use Rattle.hy_input.specs.declared.input.Came.TheVariants as C
use Rattle.hy_input.specs.Inputs.{Closes, HasOne, InputOf, Rests, TellsCame, TellsRows, TellsTakenBy, Wants, held_by, input_of, kept_by, only_at, wants_by}

-- ---- rows of a frame

row_at : (k : ℕ) (t : TakenRow) (took : List TakenRow) → nat_eq t.input k ≡ true → rows_at k (t ∷ took) ≡ t.row ∷ rows_at k took
row_at k t took y = rw y refl

only_row : (k : ℕ) (t : TakenRow) (took : List TakenRow) → nat_eq t.input k ≡ true → only_at k (t ∷ took) ≡ t ∷ only_at k took
only_row k t took y = rw y refl

-- the rows of a sender, as they are taken
abbrev taken : ℕ → ℕ → List Fields → List TakenRow
taken k p rows = map (λ row. record { input = k; sender = p; row = values_of row }) rows

pub taken_at : (k p : ℕ) (rows : List Fields) (took : List TakenRow) → rows_at k (taken k p rows ++ took) ≡ map values_of rows ++ rows_at k took
taken_at k p [] took = refl
taken_at k p (row ∷ rows) took =
    row_at k (record { input = k; sender = p; row = values_of row }) (taken k p rows ++ took) (nat_same k) ∙ ap (λ (xs : List Row). values_of row ∷ xs) (taken_at k p rows took)

pub only_taken : (k p : ℕ) (rows : List Fields) (took : List TakenRow) → only_at k (taken k p rows ++ took) ≡ taken k p rows ++ only_at k took
only_taken k p [] took = refl
only_taken k p (row ∷ rows) took =
    let t : TakenRow = record { input = k; sender = p; row = values_of row } in
    only_row k t (taken k p rows ++ took) (nat_same k) ∙ ap (λ (xs : List TakenRow). t ∷ xs) (only_taken k p rows took)

-- what rows at hand and those that come bring
abbrev comes : List Fields → ℕ → List TakenRow → List Row → Type 0
comes rows k took put = put ≡ map values_of rows ++ rows_at k took

none_rests : (k : ℕ) (rows : List Fields) → rows ≡ [] → Continues (comes rows k) [] [] (comes [] k)
none_rests k rows none = record { back = λ took put e. e ∙ ap (λ (xs : List Fields). map values_of xs ++ rows_at k took) (sym none) }

none_gets : (k p : ℕ) (f : FrameOf) (rows : List Fields) → rows ≡ [] → Continues (comes rows k) (rows_taken k p f) [] (comes f.rows k)
none_gets k p f rows none = record {
  back = λ took put e. e ∙ sym (taken_at k p f.rows took) ∙ ap (λ (xs : List Fields). map values_of xs ++ rows_at k (rows_taken k p f ++ took)) (sym none);
}

-- ---- senders

pub going_some : (closed : List Bool) → IsGoing closed → 0 < length closed
going_some [] g = absurd (g (λ s low. absurd (omega (arith, low))))
going_some (x ∷ xs) g = omega arith

is_not : (a b : ℕ) → a ≢ b → nat_eq a b ≡ false
is_not a b ne = by_cases (nat_eq a b) (λ y. absurd (ne (same_number a b y))) (λ n. n)

both_more : (a b : ℕ) → nat_eq a b ≡ nat_eq (suc a) (suc b)
both_more a b = by_cases (nat_eq a b)
    (λ y. y ∙ sym (subst (λ (c : ℕ). nat_eq (suc a) c ≡ true) (ap suc (same_number a b y)) (nat_same (suc a))))
    (λ n. n ∙ sym (is_not (suc a) (suc b) (λ e. other_number a b n (omega (arith, e)))))

pub set_at : (xs : List Bool) (s q : ℕ) → s < length xs → slice_index_or (slice_set xs s true) q false ≡ (nat_eq q s || slice_index_or xs q false)
set_at [] s q low = absurd (omega (arith, low))
set_at (x ∷ xs) zero zero low = refl
set_at (x ∷ xs) zero (suc q) low = sym (ap (λ (b : Bool). b || slice_index_or xs q false) (is_not (suc q) 0 (λ e. absurd (omega (arith, e)))))
set_at (x ∷ xs) (suc s) zero low = sym (ap (λ (b : Bool). b || x) (is_not 0 (suc s) (λ e. absurd (omega (arith, e)))))
set_at (x ∷ xs) (suc s) (suc q) low = set_at xs s q (omega (arith, low)) ∙ ap (λ (b : Bool). b || slice_index_or xs q false) (both_more q s)

set_first : (xs : List Bool) (s : ℕ) → length xs ≤ 1 → s < length xs → slice_index_or (slice_set xs s true) 0 false ≡ true
set_first xs zero one low = set_at xs zero 0 low
set_first xs (suc s) one low = absurd (omega (arith, one, low))

only_one : (b c d : Bool) → d ≡ true → (b && d) ≡ (b || (b && c))
only_one true c d e = e
only_one false c d e = refl

module _ (t : TakerOf) (from : ℕ) (frame : Option FrameOf) (next : ℕ) (up : Bool) (none : drop next (frame_rows frame) ≡ []) where
  one_rests : Rests (input_of (T.One t) from frame next up) (input_of (T.One t) from None 0 up)
  one_rests = record {
    stays = record { from = refl; sends = λ m n p h. h; sent = λ m n p h. h };
    given_up = refl;
    closed = λ p. refl;
    brings = λ k. none_rests k (drop next (frame_rows frame)) none;
  }

  pub many_rests : Rests (input_of (T.Many t) from frame next up) (input_of (T.Many t) from None 0 up)
  many_rests = record {
    stays = record { from = refl; sends = λ m n p h. h; sent = λ m n p h. h };
    given_up = refl;
    closed = λ p. refl;
    brings = λ k. none_rests k (drop next (frame_rows frame)) none;
  }

  pub one_closes : (s : ℕ) → length t.closed ≤ 1 → s < length t.closed → Closes from (input_of (T.One t) from frame next up) (input_of (T.One (closing t s)) from None 0 up)
  one_closes s one low = record {
    stays = record {
      from = refl;
      sends = λ m n p h. (h.0, subst (λ (c : ℕ). n < c) (sym (length-set t.closed s true)) h.1, h.2);
      sent = λ m n p h. (h.0, subst (λ (c : ℕ). n < c) (length-set t.closed s true) h.1, h.2);
    };
    given_up = refl;
    closed = λ q. only_one (nat_eq q from) (slice_index_or t.closed 0 false) (slice_index_or (slice_set t.closed s true) 0 false) (set_first t.closed s one low);
    brings = λ k. none_rests k (drop next (frame_rows frame)) none;
  }

  pub many_closes : (s : ℕ) → s < length t.closed → Closes s (input_of (T.Many t) from frame next up) (input_of (T.Many (closing t s)) from None 0 up)
  many_closes s low = record {
    stays = record {
      from = refl;
      sends = λ m n p h. (h.0, subst (λ (c : ℕ). n < c) (sym (length-set t.closed s true)) h.1, h.2);
      sent = λ m n p h. (h.0, subst (λ (c : ℕ). n < c) (length-set t.closed s true) h.1, h.2);
    };
    given_up = refl;
    closed = λ q. set_at t.closed s q low;
    brings = λ k. none_rests k (drop next (frame_rows frame)) none;
  }

one_rows : (t : TakerOf) (from : ℕ) (frame : Option FrameOf) (next p : ℕ) (f : FrameOf) (up : Bool) → drop next (frame_rows frame) ≡ []
    → TellsRows f p (input_of (T.One t) from frame next up) (kept_by up f (input_of (T.One t) from None 0 up)) up
one_rows t from frame next p f true none = record { stays = record { from = refl; sends = λ m n q h. h; sent = λ m n q h. h }; given_up = refl; closed = λ q. refl }
one_rows t from frame next p f false none =
    record { stays = record { from = refl; sends = λ m n q h. h; sent = λ m n q h. h }; given_up = refl; closed = λ q. refl; brings = λ k. none_gets k p f (drop next (frame_rows frame)) none }

pub many_rows : (t : TakerOf) (from : ℕ) (frame : Option FrameOf) (next p : ℕ) (f : FrameOf) (up : Bool) → drop next (frame_rows frame) ≡ []
    → TellsRows f p (input_of (T.Many t) from frame next up) (kept_by up f (input_of (T.Many t) from None 0 up)) up
many_rows t from frame next p f true none = record { stays = record { from = refl; sends = λ m n q h. h; sent = λ m n q h. h }; given_up = refl; closed = λ q. refl }
many_rows t from frame next p f false none =
    record { stays = record { from = refl; sends = λ m n q h. h; sent = λ m n q h. h }; given_up = refl; closed = λ q. refl; brings = λ k. none_gets k p f (drop next (frame_rows frame)) none }

-- ---- answers

module _ {P : Type 0} (happens : P → Event → P → Type 0) (port port' : P) (bank bank' : BankOf) (from : ℕ) (frame : Option FrameOf) (next : ℕ) (up : Bool) where
  -- before the take, and after it without the frame that was at hand
  abbrev was : Taker → InputOf
  was t = input_of t from frame next up

  abbrev then_is : Taker → InputOf
  then_is t = input_of t from None 0 up

  pub plain_empty : (t t' : Taker) → wants_by t (drop next (frame_rows frame)) → TellsTakenBy happens port port' bank bank' t t' K.Empty → TellsCame happens port port' (was t) (then_is t') C.Empty × (bank' ≡ bank)
  plain_empty (T.One t) (T.One t') w h = (
    (t.mailbox, 0, from, ((refl, going_some t.closed w.1, refl), refl), subst (λ (x : TakerOf). Rests (was (T.One t)) (then_is (T.One x))) (sym h.1) (one_rests t from frame next up w.0), h.3),
    h.2,
  )
  plain_empty (T.One t) (T.Many t') w h = absurd h
  plain_empty (T.One t) (T.Merge m) w h = absurd h
  plain_empty (T.Many t) (T.One t') w h = absurd h
  plain_empty (T.Many t) (T.Many t') w h = (
    (t.mailbox, 0, 0, ((refl, going_some t.closed w.1, refl), refl), subst (λ (x : TakerOf). Rests (was (T.Many t)) (then_is (T.Many x))) (sym h.1) (many_rests t from frame next up w.0), h.3),
    h.2,
  )
  plain_empty (T.Many t) (T.Merge m) w h = absurd h
  plain_empty (T.Merge m) t' w h = absurd h

  pub plain_failed : (t t' : Taker) → wants_by t (drop next (frame_rows frame)) → TellsTakenBy happens port port' bank bank' t t' K.Failed → TellsCame happens port port' (was t) (then_is t') C.Failed × (bank' ≡ bank)
  plain_failed (T.One t) (T.One t') w h = (
    (t.mailbox, h.3.0, from, ((refl, h.3.1, refl), refl), subst (λ (x : TakerOf). Rests (was (T.One t)) (then_is (T.One x))) (sym h.1) (one_rests t from frame next up w.0), h.3.2),
    h.2,
  )
  plain_failed (T.One t) (T.Many t') w h = absurd h
  plain_failed (T.One t) (T.Merge m) w h = absurd h
  plain_failed (T.Many t) (T.One t') w h = absurd h
  plain_failed (T.Many t) (T.Many t') w h = (
    (t.mailbox, h.3.0, h.3.0, ((refl, h.3.1, refl), refl), subst (λ (x : TakerOf). Rests (was (T.Many t)) (then_is (T.Many x))) (sym h.1) (many_rests t from frame next up w.0), h.3.2),
    h.2,
  )
  plain_failed (T.Many t) (T.Merge m) w h = absurd h
  plain_failed (T.Merge m) t' w h = absurd h

  pub plain_word : (t t' : Taker) → HasOne t → wants_by t (drop next (frame_rows frame)) → TellsTakenBy happens port port' bank bank' t t' K.Word → TellsCame happens port port' (was t) (then_is t') C.Word × (bank' ≡ bank)
  plain_word (T.One t) (T.One t') one w h = (
    (
      t.mailbox,
      h.2.0,
      from,
      ((refl, h.2.1, refl), refl),
      elim h.2.2 [
        | inl o ↦ inl (subst (λ (x : TakerOf). Rests (was (T.One t)) (then_is (T.One x))) (sym o.0) (one_rests t from frame next up w.0), o.1)
        | inr c ↦ inr (subst (λ (x : TakerOf). Closes from (was (T.One t)) (then_is (T.One x))) (sym c.0) (one_closes t from frame next up w.0 h.2.0 one h.2.1), c.1)
      ],
    ),
    h.1,
  )
  plain_word (T.One t) (T.Many t') one w h = absurd h
  plain_word (T.One t) (T.Merge m) one w h = absurd h
  plain_word (T.Many t) (T.One t') one w h = absurd h
  plain_word (T.Many t) (T.Many t') one w h = (
    (
      t.mailbox,
      h.2.0,
      h.2.0,
      ((refl, h.2.1, refl), refl),
      elim h.2.2 [
        | inl o ↦ inl (subst (λ (x : TakerOf). Rests (was (T.Many t)) (then_is (T.Many x))) (sym o.0) (many_rests t from frame next up w.0), o.1)
        | inr c ↦ inr (subst (λ (x : TakerOf). Closes h.2.0 (was (T.Many t)) (then_is (T.Many x))) (sym c.0) (many_closes t from frame next up w.0 h.2.0 h.2.1), c.1)
      ],
    ),
    h.1,
  )
  plain_word (T.Many t) (T.Merge m) one w h = absurd h
  plain_word (T.Merge m) t' one w h = absurd h

  pub plain_rows : (t t' : Taker) (f : FrameOf) → wants_by t (drop next (frame_rows frame)) → TellsTakenBy happens port port' bank bank' t t' (K.Frame f)
      → TellsCame happens port port' (was t) (kept_by up f (then_is t')) C.Rows
  plain_rows (T.One t) (T.One t') f w h =
      (t.mailbox, h.3.0, from, f, ((refl, h.3.1, refl), refl), subst (λ (x : TakerOf). TellsRows f from (was (T.One t)) (kept_by up f (then_is (T.One x))) up) (sym h.1) (one_rows t from frame next from f up w.0), h.3.2)
  plain_rows (T.One t) (T.Many t') f w h = absurd h
  plain_rows (T.One t) (T.Merge m) f w h = absurd h
  plain_rows (T.Many t) (T.One t') f w h = absurd h
  plain_rows (T.Many t) (T.Many t') f w h =
      (t.mailbox, h.3.0, h.3.0, f, ((refl, h.3.1, refl), refl), subst (λ (x : TakerOf). TellsRows f h.3.0 (was (T.Many t)) (kept_by up f (then_is (T.Many x))) up) (sym h.1) (many_rows t from frame next h.3.0 f up w.0), h.3.2)
  plain_rows (T.Many t) (T.Merge m) f w h = absurd h
  plain_rows (T.Merge m) t' f w h = absurd h

  -- the same, of an input that is seen whole
  pub moved : (answer : Taken) (came : Came) (t t' : Taker) (old mid : InputOf) → (wants_by t (drop next (frame_rows frame)) → TellsTakenBy happens port port' bank bank' t t' answer → TellsCame happens port port' (was t) (then_is t') came)
      → was t ≡ old → Wants old → mid ≡ then_is t → TellsTakenBy happens port port' bank bank' mid.taker t' answer
      → TellsCame happens port port' old (input_of t' mid.from mid.frame mid.next mid.given_up) came
  moved answer came t t' old mid plain view w e told =
      subst (λ (x : InputOf). Wants x → TellsCame happens port port' x (input_of t' mid.from mid.frame mid.next mid.given_up) came) view
      (λ v. subst (λ (x : InputOf). TellsTakenBy happens port port' bank bank' x.taker t' answer → TellsCame happens port port' (was t) (input_of t' x.from x.frame x.next x.given_up) came) (sym e) (plain v) told)
      w

  pub moved_rows : (f : FrameOf) (t t' : Taker) (old mid new : InputOf) → was t ≡ old → Wants old → mid ≡ then_is t → TellsTakenBy happens port port' bank bank' mid.taker t' (K.Frame f)
      → new ≡ kept_by mid.given_up f (input_of t' mid.from mid.frame mid.next mid.given_up) → TellsCame happens port port' old new C.Rows
  moved_rows f t t' old mid new view w e told is =
      subst (λ (x : InputOf). TellsCame happens port port' old x C.Rows) (sym is)
      (subst (λ (x : InputOf). Wants x → TellsCame happens port port' x (kept_by mid.given_up f (input_of t' mid.from mid.frame mid.next mid.given_up)) C.Rows) view
      (λ v. subst (λ (x : InputOf). TellsTakenBy happens port port' bank bank' x.taker t' (K.Frame f) → TellsCame happens port port' (was t) (kept_by x.given_up f (input_of t' x.from x.frame x.next x.given_up)) C.Rows) (sym e) (plain_rows t t' f v) told)
      w)

  -- ---- frames

  pub held_none : (t t' : Taker) (answer : Taken) → TellsTakenBy happens port port' bank bank' t t' answer → (held_by t ≡ 0) × (held_by t' ≡ 0)
  held_none (T.One t) (T.One t') answer h = (refl, refl)
  held_none (T.One t) (T.Many t') answer h = absurd h
  held_none (T.One t) (T.Merge m) answer h = absurd h
  held_none (T.Many t) (T.One t') answer h = absurd h
  held_none (T.Many t) (T.Many t') answer h = (refl, refl)
  held_none (T.Many t) (T.Merge m) answer h = absurd h
  held_none (T.Merge m) t' answer h = absurd h

  pub bank_empty : (t t' : Taker) → TellsTakenBy happens port port' bank bank' t t' K.Empty → bank' ≡ bank
  bank_empty (T.One t) (T.One t') h = h.2
  bank_empty (T.One t) (T.Many t') h = absurd h
  bank_empty (T.One t) (T.Merge m) h = absurd h
  bank_empty (T.Many t) (T.One t') h = absurd h
  bank_empty (T.Many t) (T.Many t') h = h.2
  bank_empty (T.Many t) (T.Merge m) h = absurd h
  bank_empty (T.Merge m) t' h = absurd h

  pub bank_failed : (t t' : Taker) → TellsTakenBy happens port port' bank bank' t t' K.Failed → bank' ≡ bank
  bank_failed (T.One t) (T.One t') h = h.2
  bank_failed (T.One t) (T.Many t') h = absurd h
  bank_failed (T.One t) (T.Merge m) h = absurd h
  bank_failed (T.Many t) (T.One t') h = absurd h
  bank_failed (T.Many t) (T.Many t') h = h.2
  bank_failed (T.Many t) (T.Merge m) h = absurd h
  bank_failed (T.Merge m) t' h = absurd h

  pub bank_word : (t t' : Taker) → TellsTakenBy happens port port' bank bank' t t' K.Word → bank' ≡ bank
  bank_word (T.One t) (T.One t') h = h.1
  bank_word (T.One t) (T.Many t') h = absurd h
  bank_word (T.One t) (T.Merge m) h = absurd h
  bank_word (T.Many t) (T.One t') h = absurd h
  bank_word (T.Many t) (T.Many t') h = h.1
  bank_word (T.Many t) (T.Merge m) h = absurd h
  bank_word (T.Merge m) t' h = absurd h

  pub bank_rows : (t t' : Taker) (f : FrameOf) → TellsTakenBy happens port port' bank bank' t t' (K.Frame f) → bank' ≡ with_import bank
  bank_rows (T.One t) (T.One t') f h = h.2
  bank_rows (T.One t) (T.Many t') f h = absurd h
  bank_rows (T.One t) (T.Merge m) f h = absurd h
  bank_rows (T.Many t) (T.One t') f h = absurd h
  bank_rows (T.Many t) (T.Many t') f h = h.2
  bank_rows (T.Many t) (T.Merge m) f h = absurd h
  bank_rows (T.Merge m) t' f h = absurd h

pub returns_then : (a b b' : ℕ) (bank bank' bank2 : BankOf) → Returns a 0 bank bank' → bank2 ≡ bank' → b ≡ 0 → b' ≡ 0 → Returns (a + b) (0 + b') bank bank2
returns_then a b b' bank bank' bank2 r e none none' =
    let o : bank'.out + a ≡ bank.out + 0 = r.out in
    let p : bank2.out ≡ bank'.out = ap (λ (x : BankOf). x.out) e in
    record {
      out = omega (arith, o, p, none, none');
      unit = ap (λ (x : BankOf). x.unit) e ∙ r.unit;
      limit = ap (λ (x : BankOf). x.limit) e ∙ r.limit;
      taken = ap (λ (x : BankOf). x.taken) e ∙ r.taken;
      exported = ap (λ (x : BankOf). x.exported) e ∙ r.exported;
      imported = ap (λ (x : BankOf). x.imported) e ∙ r.imported;
    }

pub brings_then : (a b b' h : ℕ) (bank bank' bank2 bank3 : BankOf) → Returns a 0 bank bank' → bank2 ≡ with_import bank' → Returns (1 + b') h bank2 bank3 → b ≡ 0 → b' ≡ 0 → Brings (a + b) h bank bank3
brings_then a b b' h bank bank' bank2 bank3 r e k none none' =
    let o : bank'.out + a ≡ bank.out + 0 = r.out in
    let p : bank2.out ≡ bank'.out + 1 = ap (λ (x : BankOf). x.out) e in
    let q : bank3.out + (1 + b') ≡ bank2.out + h = k.out in
    record {
      out = omega (arith, o, p, q, none, none');
      unit = k.unit ∙ ap (λ (x : BankOf). x.unit) e ∙ r.unit;
      limit = k.limit ∙ ap (λ (x : BankOf). x.limit) e ∙ r.limit;
      taken = k.taken ∙ ap (λ (x : BankOf). x.taken) e ∙ r.taken;
      exported = k.exported ∙ ap (λ (x : BankOf). x.exported) e ∙ r.exported;
      imported = k.imported ∙ ap (λ (x : BankOf). x.imported) e ∙ ap one_more r.imported;
    }
