-- What each step keeps of a desk.
use Rattle.std.proofs.Common.{◌≡◌, ◌≢◌, ◌<◌, ◌==◌, ℕ, Bool, true, false, List, length, get_or, sym, refl, ap, ◌∙◌, subst, Some, inl, inr, eq-eqb}
use Rattle.std.specs.Prelude.{if◌then◌else◌}
use Rattle.std.proofs.lemmas.Bool.{cases_Bool}
use Rattle.std.proofs.lemmas.List.{get_or-set_same, get_or-set_other}
use Rattle.std.proofs.Math.ListN.{length-set}
use borrow.Author.Tests.{eqb-true}
use Rattle.hy_frame.specs.Bank.{one_more}
use Rattle.hy_frame.specs.declared.writer.WriterState.{WriterState}
use Rattle.hy_frame.specs.declared.writer.WriterState.TheVariants.{Initial}
use Rattle.hy_mail.specs.declared.parcel.Parcel.{Parcel}
use Rattle.hy_mail.specs.Words.{HasArity, may, next}
use Rattle.hy_mail.specs.Events.{Event, Put, Took, Raise, Look, Full, Empty, word_after, refused_after}
use Rattle.hy_mail.specs.Desks.{BoxState, DeskState, DeskStep, Sends, Receives, blank, box, with_box, pushed, popped, refusing, seat_of, word_at, word_of}

pub false_true : ◌≡◌ {A = Bool} false true → ⊥
false_true e = cc

-- numbers whose test says no differ
pub apart : (a b : ℕ) → (a == b) ≡ false → b ≢ a
apart a b n e = false_true (sym n ∙ eq-eqb a b (sym e))

pub box_same : (d : DeskState) (m : ℕ) (b : BoxState) → m < length d.boxes → box (with_box d m b) m ≡ b
box_same d m b lt = get_or-set_same d.boxes m b blank lt

pub box_other : (d : DeskState) (k m : ℕ) (b : BoxState) → m ≢ k → box (with_box d k b) m ≡ box d m
box_other d k m b ne = get_or-set_other d.boxes k m b blank ne

-- what a change of one mailbox leaves as it was there is so at each mailbox
pub after_change : (A : Type 0) (f : BoxState → A) (d : DeskState) (k m : ℕ) (b : BoxState) → k < length d.boxes → f b ≡ f (box d k) → f (box (with_box d k b) m) ≡ f (box d m)
after_change A f d k m b lt same =
    elim (cases_Bool (k == m)) [
      | inl y ↦ let e = eqb-true k m y in
          ap (λ j. f (box (with_box d k b) j)) (sym e) ∙ ap f (box_same d k b lt) ∙ same ∙ ap (λ j. f (box d j)) e
      | inr n ↦ ap f (box_other d k m b (apart k m n))
    ]

-- ---- words

unfoldable pub words_by : ℕ → BoxState → WriterState
words_by task b = word_at b.words (seat_of b.senders task)

word_put : (task : ℕ) (b : BoxState) (s : ℕ) (p : Parcel) → seat_of b.senders task ≡ Some s → s < length b.words → words_by task (pushed b s p) ≡ next (words_by task b) p
unfolding words_by
word_put task b s p seat known =
    ap (word_at (pushed b s p).words) seat ∙ get_or-set_same b.words s (next (get_or b.words s Initial) p) Initial known ∙ ap (λ o. next (word_at b.words o) p) (sym seat)

pub desk_words : (task : ℕ) (d e : DeskState) (x : Event) (m : ℕ) → DeskStep task d x e → word_of e task m ≡ word_after x m (word_of d task m)
unfolding words_by
desk_words task d e (Put k p) m h = ap (λ y. word_of y task m) h.is ∙
    elim (cases_Bool (k == m)) [
      | inl y ↦
          let same = eqb-true k m y in
          let here : word_of (with_box d k (pushed (box d k) h.number p)) task k ≡ next (word_of d task k) p =
          ap (words_by task) (box_same d k (pushed (box d k) h.number p) h.there) ∙ word_put task (box d k) h.number p h.seat h.known in
          rw y (subst (λ j. word_of (with_box d k (pushed (box d k) h.number p)) task j ≡ next (word_of d task j) p) same here)
      | inr n ↦ rw n (ap (words_by task) (box_other d k m (pushed (box d k) h.number p) (apart k m n)))
    ]
desk_words task d e (Took k s p) m h = ap (λ y. word_of y task m) h.is ∙ after_change WriterState (words_by task) d k m (popped (box d k) h.rest) h.there refl
desk_words task d e Raise m h = ap (λ y. word_of y task m) h
desk_words task d e (Look seen) m h = ap (λ y. word_of y task m) h.1
desk_words task d e (Full k) m h = ap (λ y. word_of y task m) h.2 ∙ after_change WriterState (words_by task) d k m (refusing (box d k)) h.0 refl
desk_words task d e (Empty k) m h = ap (λ y. word_of y task m) h.2 ∙ after_change WriterState (words_by task) d k m (refusing (box d k)) h.0 refl

-- ---- counts

-- the count of a mailbox after a refusal of one
counted : (d e : DeskState) (k m : ℕ) → k < length d.boxes → e ≡ with_box d k (refusing (box d k)) → (box e m).refused ≡ (if k == m then one_more (box d m).refused else (box d m).refused)
counted d e k m lt is = ap (λ y. (box y m).refused) is ∙
    elim (cases_Bool (k == m)) [
      | inl y ↦
          let same = eqb-true k m y in
          rw y (subst (λ j. (box (with_box d k (refusing (box d k))) j).refused ≡ one_more (box d j).refused) same (ap (λ b. b.refused) (box_same d k (refusing (box d k)) lt)))
      | inr n ↦ rw n (ap (λ b. b.refused) (box_other d k m (refusing (box d k)) (apart k m n)))
    ]

pub desk_counts : (task : ℕ) (d e : DeskState) (x : Event) (m : ℕ) → DeskStep task d x e → (box e m).refused ≡ refused_after x m (box d m).refused
desk_counts task d e (Put k p) m h = ap (λ y. (box y m).refused) h.is ∙ after_change ℕ (λ b. b.refused) d k m (pushed (box d k) h.number p) h.there refl
desk_counts task d e (Took k s p) m h = ap (λ y. (box y m).refused) h.is ∙ after_change ℕ (λ b. b.refused) d k m (popped (box d k) h.rest) h.there refl
desk_counts task d e Raise m h = ap (λ y. (box y m).refused) h
desk_counts task d e (Look seen) m h = ap (λ y. (box y m).refused) h.1
desk_counts task d e (Full k) m h = counted d e k m h.0 h.2
desk_counts task d e (Empty k) m h = counted d e k m h.0 h.2

-- ---- how the mailboxes were made

abbrev pub Made : Type 0
Made = List ℕ × ℕ × ℕ × ℕ

abbrev pub made : BoxState → Made
made b = (b.senders, b.receiver, b.arity, b.capacity)

unfoldable pub AreAsMade : DeskState → DeskState → Type 0
AreAsMade d e = (length e.boxes ≡ length d.boxes) × ((m : ℕ) → made (box e m) ≡ made (box d m))

changed_as_made : (d e : DeskState) (k : ℕ) (b : BoxState) → k < length d.boxes → e ≡ with_box d k b → made b ≡ made (box d k) → AreAsMade d e
unfolding AreAsMade
changed_as_made d e k b lt is same = (ap (λ y. length y.boxes) is ∙ length-set d.boxes k b, λ m. ap (λ y. made (box y m)) is ∙ after_change Made made d k m b lt same)

pub as_made : (task : ℕ) (d e : DeskState) (x : Event) → DeskStep task d x e → AreAsMade d e
unfolding AreAsMade
as_made task d e (Put k p) h = changed_as_made d e k (pushed (box d k) h.number p) h.there h.is refl
as_made task d e (Took k s p) h = changed_as_made d e k (popped (box d k) h.rest) h.there h.is refl
as_made task d e Raise h = (ap (λ y. length y.boxes) h, λ m. ap (λ y. made (box y m)) h)
as_made task d e (Look seen) h = (ap (λ y. length y.boxes) h.1, λ m. ap (λ y. made (box y m)) h.1)
as_made task d e (Full k) h = changed_as_made d e k (refusing (box d k)) h.0 h.2 refl
as_made task d e (Empty k) h = changed_as_made d e k (refusing (box d k)) h.0 h.2 refl

pub desk_plans : (task : ℕ) (d e : DeskState) (x : Event) (m : ℕ) → DeskStep task d x e → (length (box e m).senders ≡ length (box d m).senders) × ((box e m).arity ≡ (box d m).arity)
unfolding AreAsMade
desk_plans task d e x m h = let same = (as_made task d e x h).1 m in (ap (λ (q : Made). length q.0) same, ap (λ (q : Made). q.2) same)

pub desk_roles : (task now : ℕ) (d e : DeskState) (x : Event) → now ≡ task → DeskStep task d x e → ((m : ℕ) → Sends d task m → Sends e now m) × ((m : ℕ) → Receives d task m → Receives e now m)
unfolding AreAsMade
desk_roles task now d e x same h =
    let kept = as_made task d e x h in (
      (λ m s. (s.0, subst (λ n. m < n) (sym kept.0) s.1, ap (seat_of (box e m).senders) same ∙ ap (λ (q : Made). seat_of q.0 task) (kept.1 m) ∙ s.2)),
      (λ m s. (subst (λ n. m < n) (sym kept.0) s.0, ap (λ (q : Made). q.1) (kept.1 m) ∙ s.1 ∙ sym same)),
    )

-- ---- what is put and taken

pub desk_puts : (task : ℕ) (d e : DeskState) (m : ℕ) (p : Parcel) → DeskStep task d (Put m p) e → (may (word_of d task m) p ≡ true) × HasArity (box d m).arity p
desk_puts task d e m p h = (h.fits, h.arity)

pub desk_takes : (task : ℕ) (d e : DeskState) (m s : ℕ) (p : Parcel) → DeskStep task d (Took m s p) e → (s < length (box d m).senders) × HasArity (box d m).arity p
desk_takes task d e m s p h = (h.sender, h.arity)
