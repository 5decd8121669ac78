-- Which worked cases of mailboxes of threads hold.
use Rattle.std.proofs.Common.{◌≡◌, ◌<◌, ◌≤◌, ◌==◌, ℕ, zero, suc, Bool, true, false, List, [], ◌∷◌, refl, sym, ap, ◌∙◌, subst, Option, Some, None, inl, inr, arith, eq-eqb}
use Rattle.std.specs.Prelude.{if◌then◌else◌}
use Rattle.std.proofs.lemmas.Bool.{cases_Bool}
use Rattle.std.proofs.lemmas.Bool.Decides.{nat_tests}
use Rattle.std.proofs.lemmas.List.Elements.{All-cons, All-nil}
use borrow.Author.Tests.{eqb-true}
use mathlib.Core.Option.{some, some-injective, some-ne-none}
use lib.ListN.{get_elem?}
use Rattle.hy_abort.specs.Seats.{SeatState}
use Rattle.hy_mail.specs.declared.parcel.Parcel.{Parcel}
use Rattle.hy_mail.specs.declared.parcel.Parcel.TheVariants.{Open, Frame, Close}
use Rattle.hy_mail.specs.declared.parcel.Posted.{Posted}
use Rattle.hy_mail.specs.declared.rule.MailView.{MailView}
use Rattle.hy_mail.specs.DeskRuns.{of_sender}
use Rattle.hy_mail.specs.Desks.{IsPostedIn}
use Rattle.hy_mail.specs.MailCases as C
use Rattle.hy_mail.specs.MailCases.{posted, sender_of, taker_of, two_senders}
use Rattle.hy_mail.specs.Mails.{Fits, HasPass, Ledger, spent}
use Rattle.hy_mail.specs.Words.{IsWordSoFar}
use Rattle.hy_mail.proofs.Keeps.{held_is, numbers_apart, one_takes, put_is}

less_differs : (a b : ℕ) → a ≡ b → a < b → ⊥
less_differs a b same less = omega arith

cons_nil : (p : Parcel) (ps : List Parcel) → ◌≡◌ {A = List Parcel} (p ∷ ps) [] → ⊥
cons_nil p ps e = cc

true_false : ◌≡◌ {A = Bool} true false → ⊥
true_false e = cc

-- ---- what doesn't meet the rule

pub none_is_dropped : C.NoneIsDropped
unfolding of_sender
none_is_dropped h = cons_nil Open [] (put_is (posted 0 Open ∷ []) (two_senders [] (Open ∷ []) (Open ∷ [])) h 0 2 (taker_of 2 []) (sender_of 1 (Open ∷ [])) refl refl refl refl).0

pub none_is_made_up : C.NoneIsMadeUp
unfolding of_sender
none_is_made_up h = cons_nil Open [] (sym (put_is (posted 1 Open ∷ []) (two_senders [] [] []) h 0 2 (taker_of 2 []) (sender_of 1 []) refl refl refl refl).0)

open_close : (xs ys : List Parcel) → ◌≡◌ {A = List Parcel} (Open ∷ xs) (Close ∷ ys) → ⊥
open_close xs ys e = cc

pub none_overtakes : C.NoneOvertakes
unfolding of_sender
none_overtakes h = open_close (Close ∷ []) (Open ∷ []) (put_is (posted 0 Close ∷ posted 0 Open ∷ []) (two_senders [] (Open ∷ Close ∷ []) []) h 0 1 (taker_of 2 []) (sender_of 0 (Open ∷ Close ∷ [])) refl refl refl refl).0

pub senders_put_words : C.SendersPutWords
senders_put_words h = (put_is (posted 0 Close ∷ []) (two_senders [] (Close ∷ []) []) h 0 1 (taker_of 2 []) (sender_of 0 (Close ∷ [])) refl refl refl refl).1.1

pub held_is_of_senders : C.HeldIsOfSenders
held_is_of_senders h =
    let low = (held_is (posted 2 Open ∷ []) (two_senders [] [] []) h 0 (taker_of 2 []) refl refl 0 (posted 0 Open) (omega arith)).0 in
    absurd (omega arith)

pub held_is_of_the_arity : C.HeldIsOfTheArity
held_is_of_the_arity f two h =
    let three = (held_is (posted 0 Open ∷ posted 0 (Frame f) ∷ []) (two_senders [] (Open ∷ Frame f ∷ []) []) h 0 (taker_of 2 []) refl refl 1 (posted 0 Open) (omega arith)).1 in
    less_differs 2 3 (sym two ∙ three) (omega arith)

pub no_second_taker : C.NoSecondTaker
no_second_taker h = less_differs 0 1 (one_takes [] (taker_of 0 [] ∷ taker_of 0 [] ∷ []) h 0 1 (taker_of 0 []) (taker_of 0 []) refl refl refl refl) (omega arith)

pub no_number_twice : C.NoNumberTwice
no_number_twice h = less_differs 1 2 (numbers_apart [] (taker_of 2 [] ∷ sender_of 0 [] ∷ sender_of 0 [] ∷ []) h 1 2 (sender_of 0 []) (sender_of 0 []) refl refl refl refl refl) (omega arith)

abbrev one_sender : List MailView
one_sender = taker_of 2 [] ∷ sender_of 0 [] ∷ []

none_of_one : (pass : ℕ) (v : MailView) → get_elem? one_sender pass ≡ some v → v.sends ≡ true → v.from ≡ 1 → ⊥
none_of_one zero v e s f = true_false (sym s ∙ ap (λ (w : MailView). w.sends) (sym (some-injective (taker_of 2 []) v e)))
none_of_one (suc zero) v e s f = less_differs 0 1 (ap (λ (w : MailView). w.from) (some-injective (sender_of 0 []) v e) ∙ f) (omega arith)
none_of_one (suc (suc k)) v e s f = some-ne-none v (sym e)

pub no_number_is_lost : C.NoNumberIsLost
no_number_is_lost h =
    let t = (h.1.fits 0 (taker_of 2 []) refl).taker refl in
    let made = t.made in
    let gone = t.gone in
    let a = h.1.alive 1 (omega arith) (omega arith) in
    none_of_one a.pass a.view a.there a.sends a.from

pub spent_holds_nothing : C.SpentHoldsNothing
spent_holds_nothing h = cons_nil Open [] ((h.1.fits 1 (record spent { put = Open ∷ [] }) refl).silent refl)

-- ---- what meets it

abbrev took : List Posted
took = posted 0 Open ∷ []

abbrev items : List Posted
items = posted 1 Open ∷ posted 0 Close ∷ []

abbrev views : List MailView
views = two_senders took (Open ∷ Close ∷ []) (Open ∷ [])

abbrev put_by : ℕ → List Parcel
put_by p = if p == 0 then Open ∷ Close ∷ [] else (if p == 1 then Open ∷ [] else [])

abbrev seat_of_two : ℕ → Option ℕ
seat_of_two p = if p == 0 then Some 1 else (if p == 1 then Some 2 else None)

abbrev ledger : Ledger
ledger = record { taker = 0; seat = seat_of_two; sent = put_by; took = took; made = 2; gone = 0; arity = 3 }

three_cases : (P : ℕ → Type 0) → P 0 → P 1 → ((p : ℕ) → (0 == p) ≡ false → (1 == p) ≡ false → (p == 0) ≡ false → (p == 1) ≡ false → P p) → (p : ℕ) → P p
three_cases P a b c p =
    elim (cases_Bool (p == 0)) [
      | inl y ↦ subst P (sym (eqb-true p 0 y)) a
      | inr n ↦ elim (cases_Bool (p == 1)) [
        | inl y ↦ subst P (sym (eqb-true p 1 y)) b
        | inr m ↦ c p (turned 0 p n) (turned 1 p m) n m
      ]
    ]
  where
    turned : (i p : ℕ) → (p == i) ≡ false → (i == p) ≡ false
    turned i p n = elim (cases_Bool (i == p)) [
      | inl y ↦ absurd (true_false (sym (subst (λ j. (j == i) ≡ true) (eqb-true i p y) (eq-eqb i i refl)) ∙ n))
      | inr m ↦ m
    ]

fits : (pass : ℕ) (v : MailView) → get_elem? views pass ≡ some v → Fits ledger pass v
fits zero v e = subst (Fits ledger 0) (some-injective (taker_of 2 took) v e)
    (record {
      sender = λ s. absurd (true_false (sym s));
      taker = λ _. record { only = refl; took = refl; made = refl; arity = refl; gone = refl; known = λ k lt. absurd (omega arith) };
      silent = λ _. refl;
      idle = λ i. absurd (true_false i);
    })
fits (suc zero) v e = subst (Fits ledger 1) (some-injective (sender_of 0 (Open ∷ Close ∷ [])) v e)
    (record {
      sender = λ _. record { seat = refl; put = refl; below = omega arith; arity = refl };
      taker = λ t. absurd (true_false (sym t));
      silent = λ s. absurd (true_false s);
      idle = λ _. (refl, refl);
    })
fits (suc (suc zero)) v e = subst (Fits ledger 2) (some-injective (sender_of 1 (Open ∷ [])) v e)
    (record {
      sender = λ _. record { seat = refl; put = refl; below = omega arith; arity = refl };
      taker = λ t. absurd (true_false (sym t));
      silent = λ s. absurd (true_false s);
      idle = λ _. (refl, refl);
    })
fits (suc (suc (suc k))) v e = absurd (some-ne-none v (sym e))

alive : (p : ℕ) → p < 2 → HasPass ledger views p
alive = three_cases (λ p. p < 2 → HasPass ledger views p)
    (λ lt. record { pass = 1; view = sender_of 0 (Open ∷ Close ∷ []); seat = refl; there = refl; sends = refl; from = refl })
    (λ lt. record { pass = 2; view = sender_of 1 (Open ∷ []); seat = refl; there = refl; sends = refl; from = refl })
    (λ p a b n m lt. absurd (none_below p n m lt))
  where
    none_below : (p : ℕ) → (p == 0) ≡ false → (p == 1) ≡ false → p < 2 → ⊥
    none_below p n m lt = grind (arith, nat_tests)

pub put_is_taken_then_held : C.PutIsTakenThenHeld
unfolding of_sender
put_is_taken_then_held = (
  ledger,
  record {
    delivered = three_cases (λ p. of_sender p (posted 0 Open ∷ posted 1 Open ∷ posted 0 Close ∷ []) ≡ put_by p) refl refl (λ p a b n m. rw (a, b, n, m) refl);
    words = three_cases (λ p. IsWordSoFar (put_by p)) ([], tt) (Close ∷ [], tt) (λ p a b n m. rw (n, m) (Open ∷ Close ∷ [], tt));
    posted = All-cons (IsPostedIn 2 3) (posted 1 Open) (posted 0 Close ∷ []) (omega arith, tt) (All-cons (IsPostedIn 2 3) (posted 0 Close) [] (omega arith, tt) (All-nil (IsPostedIn 2 3)));
    alive = λ p le lt. alive p lt;
    ended = λ p lt. absurd (omega arith);
    later = three_cases (λ p. 2 ≤ p → (seat_of_two p ≡ None) × (put_by p ≡ [])) (λ le. absurd (omega arith)) (λ le. absurd (omega arith)) (λ p a b n m le. rw (n, m) (refl, refl));
    gone = omega arith;
    fits = fits;
  },
)

-- ---- ports

pub words_are_by_mailbox : C.WordsAreByMailbox
words_are_by_mailbox id = (refl, refl, refl)

pub put_changes_its_pass : C.PutChangesItsPass
put_changes_its_pass id = refl

pub refusals_add : C.RefusalsAdd
refusals_add id = (refl, refl)

pub refusals_end : C.RefusalsEnd
refusals_end id = refl

pub raise_raises : C.RaiseRaises
raise_raises p q not_yet h =
    let r = h.first not_yet in
    let more = r.1 in
    (ap (λ (s : SeatState). s.raised) r.0, omega arith)

pub second_raise_is_no_step : C.SecondRaiseIsNoStep
second_raise_is_no_step p q raised h = h.is ∙ ap (λ (s : SeatState). record p { seat = s }) (h.again raised)

pub look_is_true_where_found : C.LookIsTrueWhereFound
look_is_true_where_found p q = (λ h. h.answer, λ h. h.answer)

pub seen_is_seen_again : C.SeenIsSeenAgain
seen_is_seen_again p q seen h = true_false (sym (h.after_seen seen))
