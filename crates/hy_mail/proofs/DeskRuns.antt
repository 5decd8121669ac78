-- Of each sender, what was put is what was taken and what is left; and what it puts is a word.
use Rattle.std.proofs.Common.{◌≡◌, ◌≢◌, ◌<◌, ◌==◌, ℕ, zero, suc, Bool, true, false, List, [], ◌∷◌, ◌++◌, length, get_or, sym, refl, ap, ◌∙◌, subst, inl, inr, Option, Some, None, append_assoc, append-nil, eq-eqb}
use Rattle.std.specs.Prelude.{if◌then◌else◌, replicate}
use Rattle.std.proofs.lemmas.Bool.{cases_Bool}
use Rattle.std.proofs.lemmas.List.{get_or-set_other}
use Rattle.std.proofs.lemmas.List.Quantifiers.{position-Some}
use borrow.Author.Tests.{eqb-true}
use Rattle.hy_frame.specs.declared.writer.WriterState.{WriterState}
use Rattle.hy_frame.specs.declared.writer.WriterState.TheVariants.{Initial}
use Rattle.hy_mail.specs.declared.parcel.Parcel.{Parcel}
use Rattle.hy_mail.specs.declared.parcel.Posted.{Posted}
use Rattle.hy_mail.specs.declared.plan.BoxPlan.{BoxPlan}
use Rattle.hy_mail.specs.DeskLaws.{AreAsMade, Made, after_change, apart, as_made, box_other, box_same, desk_words, false_true, words_by}
use Rattle.hy_mail.specs.DeskRuns.{ClosedIsTaken, MailboxesStay, OthersWait, RunsDeliver, RunsLead, held, of_sender, put_at, puts_of, takes_of, took_at}
use Rattle.hy_mail.specs.Desks.{BoxState, DeskState, DeskStep, box, fresh_box, fresh_desk, popped, pushed, refusing, seat_of, with_box, word_at, word_of}
use Rattle.hy_mail.specs.Events.{Event, Put, Took, Raise, Look, Full, Empty}
use Rattle.hy_mail.specs.Words.{Leads, may, next}
use Rattle.hy_mail.proofs.WordLaws.{all_taken, leads_on}

-- ---- numbers of senders

differs : (a b : ℕ) → a ≢ b → (a == b) ≡ false
differs a b n = elim (cases_Bool (a == b)) [ inl y ↦ absurd (n (eqb-true a b y)) | inr m ↦ m ]

same_some : (a b : ℕ) → ◌≡◌ {A = Option ℕ} (Some a) (Some b) → a ≡ b
same_some a b e = cc

-- two tasks have no number in common
one_task : (senders : List ℕ) (i q s : ℕ) → seat_of senders i ≡ Some s → seat_of senders q ≡ Some s → i ≡ q
one_task senders i q s a b =
    sym (eqb-true (get_or senders s 0) i (position-Some (λ x. x == i) senders s 0 a).1) ∙ eqb-true (get_or senders s 0) q (position-Some (λ x. x == q) senders s 0 b).1

-- ---- the words of others

word_beside : (task other : ℕ) (b : BoxState) (s : ℕ) (p : Parcel) → other ≢ task → seat_of b.senders task ≡ Some s → (o : Option ℕ) → seat_of b.senders other ≡ o → word_at (pushed b s p).words o ≡ word_at b.words o
word_beside task other b s p differ seat None is = refl
word_beside task other b s p differ seat (Some t) is =
    get_or-set_other b.words s t (next (get_or b.words s Initial) p) Initial (λ same. differ (one_task b.senders other task s (is ∙ ap (λ z. Some z) same) seat))

pub others_wait : OthersWait
unfolding words_by
others_wait task other d e (Put k p) m differ h = ap (λ y. word_of y other m) h.is
    ∙ after_change WriterState (words_by other) d k m (pushed (box d k) h.number p) h.there (word_beside task other (box d k) h.number p differ h.seat (seat_of (box d k).senders other) refl)
others_wait task other d e (Took k s p) m differ h = ap (λ y. word_of y other m) h.is ∙ after_change WriterState (words_by other) d k m (popped (box d k) h.rest) h.there refl
others_wait task other d e Raise m differ h = ap (λ y. word_of y other m) h
others_wait task other d e (Look seen) m differ h = ap (λ y. word_of y other m) h.1
others_wait task other d e (Full k) m differ h = ap (λ y. word_of y other m) h.2 ∙ after_change WriterState (words_by other) d k m (refusing (box d k)) h.0 refl
others_wait task other d e (Empty k) m differ h = ap (λ y. word_of y other m) h.2 ∙ after_change WriterState (words_by other) d k m (refusing (box d k)) h.0 refl

pub mailboxes_stay : MailboxesStay
unfolding AreAsMade
mailboxes_stay task d e x h =
    let same = as_made task d e x h in
    (same.0, λ m. (ap (λ (q : Made). q.0) (same.1 m), ap (λ (q : Made). q.1) (same.1 m), ap (λ (q : Made). q.3) (same.1 m), ap (λ (q : Made). q.2) (same.1 m)))

-- ---- parcels come through

of_more : (s : ℕ) (q : List Posted) (x : Posted) → of_sender s (q ++ x ∷ []) ≡ of_sender s q ++ (if x.from == s then x.parcel ∷ [] else [])
unfolding of_sender
of_more s [] x = elim (cases_Bool (x.from == s)) [ inl y ↦ rw y refl | inr n ↦ rw n refl ]
of_more s (y ∷ ys) x =
    elim (cases_Bool (y.from == s)) [
      | inl h ↦ rw h (ap (λ l. y.parcel ∷ l) (of_more s ys x))
      | inr n ↦ rw n (of_more s ys x)
    ]

abbrev put_by : ℕ → ℕ → ℕ → Event → List Parcel
put_by i task m what = if i == task then put_at m what else []

quiet : (b : Bool) (before after put took : List Parcel) → put ≡ [] → took ≡ [] → after ≡ before → before ++ (if b then put else []) ≡ took ++ after
quiet true before after put took p t h = rw (p, t, h) (append-nil before)
quiet false before after put took p t h = rw (t, h) (append-nil before)

held_kept : (d e : DeskState) (k m s : ℕ) (b : BoxState) → k < length d.boxes → b.queue ≡ (box d k).queue → e ≡ with_box d k b → held e m s ≡ held d m s
held_kept d e k m s b lt same is = ap (λ y. held y m s) is ∙ ap (of_sender s) (after_change (List Posted) (λ z. z.queue) d k m b lt same)

held_other : (d e : DeskState) (k m s : ℕ) (b : BoxState) → (k == m) ≡ false → e ≡ with_box d k b → held e m s ≡ held d m s
held_other d e k m s b n is = ap (λ z. held z m s) is ∙ ap (λ z. of_sender s z.queue) (box_other d k m b (apart k m n))

taken_front : (b : Bool) (p s : ℕ) (x : Parcel) (rest : List Posted) → of_sender s (record { from = p; parcel = x } ∷ rest) ++ (if b then [] else []) ≡ (if p == s then x ∷ [] else []) ++ of_sender s rest
unfolding of_sender
taken_front b p s x rest =
    elim (cases_Bool (p == s)) [
      | inl h ↦ rw h (quiet b (x ∷ of_sender s rest) (x ∷ of_sender s rest) [] [] refl refl refl)
      | inr h ↦ rw h (quiet b (of_sender s rest) (of_sender s rest) [] [] refl refl refl)
    ]

-- a parcel is the sender's where the task is
put_agrees : (i task s t : ℕ) (p : Parcel) (senders : List ℕ) → seat_of senders i ≡ Some t → seat_of senders task ≡ Some s → (if i == task then p ∷ [] else []) ≡ (if t == s then p ∷ [] else [])
put_agrees i task s t p senders a b =
    elim (cases_Bool (i == task)) [
      | inl h ↦
          let same : t ≡ s = same_some t s (sym a ∙ ap (seat_of senders) (eqb-true i task h) ∙ b) in
          let u = eq-eqb t s same in rw (h, u) refl
      | inr h ↦
          let u = differs t s (λ same. false_true (sym h ∙ eq-eqb i task (one_task senders i task s (a ∙ ap (λ z. Some z) same) b))) in rw (h, u) refl
    ]

step_delivers : (i : ℕ) (d e : DeskState) (what : Event) (m s task : ℕ) → seat_of (box d m).senders task ≡ Some s → DeskStep i d what e
    → held d m s ++ put_by i task m what ≡ took_at m s what ++ held e m s
step_delivers i d e Raise m s task seat h = quiet (i == task) _ _ [] [] refl refl (ap (λ y. held y m s) h)
step_delivers i d e (Look seen) m s task seat h = quiet (i == task) _ _ [] [] refl refl (ap (λ y. held y m s) h.1)
step_delivers i d e (Full k) m s task seat h = quiet (i == task) _ _ [] [] refl refl (held_kept d e k m s (refusing (box d k)) h.0 refl h.2)
step_delivers i d e (Empty k) m s task seat h = quiet (i == task) _ _ [] [] refl refl (held_kept d e k m s (refusing (box d k)) h.0 refl h.2)
step_delivers i d e (Took k p x) m s task seat h =
    elim (cases_Bool (k == m)) [
      | inl y ↦
          let same = eqb-true k m y in
          let before : (box d m).queue ≡ record { from = p; parcel = x } ∷ h.rest = subst (λ j. (box d j).queue ≡ record { from = p; parcel = x } ∷ h.rest) same h.queue in
          let after : (box e m).queue ≡ h.rest = subst (λ j. (box e j).queue ≡ h.rest) same (ap (λ z. (box z k).queue) h.is ∙ ap (λ b. b.queue) (box_same d k (popped (box d k) h.rest) h.there)) in
          rw (y, before, after) (taken_front (i == task) p s x h.rest)
      | inr n ↦ rw n (quiet (i == task) _ _ [] [] refl refl (held_other d e k m s (popped (box d k) h.rest) n h.is))
    ]
step_delivers i d e (Put k p) m s task seat h =
    elim (cases_Bool (k == m)) [
      | inl y ↦
          let same = eqb-true k m y in
          let after : (box e m).queue ≡ (box d m).queue ++ record { from = h.number; parcel = p } ∷ [] =
          subst (λ j. (box e j).queue ≡ (box d j).queue ++ record { from = h.number; parcel = p } ∷ []) same (ap (λ z. (box z k).queue) h.is ∙ ap (λ b. b.queue) (box_same d k (pushed (box d k) h.number p) h.there)) in
          let mine : seat_of (box d m).senders i ≡ Some h.number = subst (λ j. seat_of (box d j).senders i ≡ Some h.number) same h.seat in
          rw (y, after) (ap (λ l. of_sender s (box d m).queue ++ l) (put_agrees i task s h.number p (box d m).senders mine seat) ∙ sym (of_more s (box d m).queue (record { from = h.number; parcel = p })))
      | inr n ↦ rw n (quiet (i == task) _ _ [] [] refl refl (held_other d e k m s (pushed (box d k) h.number p) n h.is))
    ]

pub runs_deliver : RunsDeliver
unfolding puts_of takes_of
runs_deliver d e [] m s task seat h = append-nil (held d m s) ∙ ap (λ y. held y m s) (sym h)
runs_deliver d e (x ∷ xs) m s task seat h =
    let f = h.0 in
    let now = step_delivers x.0 d f x.1 m s task seat h.1 in
    let kept : seat_of (box f m).senders task ≡ Some s = ap (λ l. seat_of l task) ((mailboxes_stay x.0 d f x.1 h.1).1 m).0 ∙ seat in
    let later = runs_deliver f e xs m s task kept h.2 in
    sym (append_assoc (held d m s) (put_by x.0 task m x.1) (puts_of task m xs)) ∙ ap (λ l. l ++ puts_of task m xs) now
    ∙ append_assoc (took_at m s x.1) (held f m s) (puts_of task m xs) ∙ ap (λ l. took_at m s x.1 ++ l) later ∙ sym (append_assoc (took_at m s x.1) (takes_of m s xs) (held e m s))

-- ---- words

-- what another task puts, and what is no put here, leads nowhere
stays : (w v : WriterState) (b : Bool) (put : List Parcel) → v ≡ w → put ≡ [] → Leads w (if b then put else []) v
stays w v true put same none = subst (λ l. Leads w l v) (sym none) same
stays w v false put same none = same

step_leads : (i : ℕ) (d e : DeskState) (what : Event) (m task : ℕ) → DeskStep i d what e → Leads (word_of d task m) (put_by i task m what) (word_of e task m)
step_leads i d e what m task h =
    elim (cases_Bool (i == task)) [
      | inl y ↦ rw y (own what (subst (λ t. DeskStep t d what e) (eqb-true i task y) h))
      | inr n ↦ rw n (others_wait i task d e what m (apart i task n) h)
    ]
  where
    own : (x : Event) → DeskStep task d x e → Leads (word_of d task m) (put_at m x) (word_of e task m)
    own (Put k p) g =
        elim (cases_Bool (k == m)) [
          | inl y ↦
              let after : word_of e task m ≡ next (word_of d task m) p = desk_words task d e (Put k p) m g ∙ rw y refl in
              let fits : may (word_of d task m) p ≡ true = subst (λ j. may (word_of d task j) p ≡ true) (eqb-true k m y) g.fits in
              rw y (fits, after)
          | inr n ↦ let same : word_of e task m ≡ word_of d task m = desk_words task d e (Put k p) m g ∙ rw n refl in rw n same
        ]
    own (Took k s p) g = desk_words task d e (Took k s p) m g
    own Raise g = desk_words task d e Raise m g
    own (Look seen) g = desk_words task d e (Look seen) m g
    own (Full k) g = desk_words task d e (Full k) m g
    own (Empty k) g = desk_words task d e (Empty k) m g

pub runs_lead : RunsLead
unfolding puts_of
runs_lead d e [] m task h = ap (λ y. word_of y task m) h
runs_lead d e (x ∷ xs) m task h =
    leads_on (word_of d task m) (word_of h.0 task m) (word_of e task m) (put_by x.0 task m x.1) (puts_of task m xs) (step_leads x.0 d h.0 x.1 m task h.1) (runs_lead h.0 e xs m task h.2)

-- ---- from the beginning on

fresh_holds : (plans : List BoxPlan) (m s : ℕ) → held (fresh_desk plans) m s ≡ []
unfolding of_sender
fresh_holds [] m s = refl
fresh_holds (plan ∷ plans) zero s = refl
fresh_holds (plan ∷ plans) (suc m) s = fresh_holds plans m s

initially : (n : ℕ) (s : ℕ) → get_or (replicate n Initial) s Initial ≡ Initial
initially zero s = refl
initially (suc n) zero = refl
initially (suc n) (suc s) = initially n s

word_of_plan : (plan : BoxPlan) (o : Option ℕ) → word_at (fresh_box plan).words o ≡ Initial
word_of_plan plan None = refl
word_of_plan plan (Some s) = initially (length plan.senders) s

fresh_words : (plans : List BoxPlan) (task m : ℕ) → word_of (fresh_desk plans) task m ≡ Initial
fresh_words [] task m = refl
fresh_words (plan ∷ plans) task zero = word_of_plan plan (seat_of plan.senders task)
fresh_words (plan ∷ plans) task (suc m) = fresh_words plans task m

pub closed_is_taken : ClosedIsTaken
closed_is_taken plans e xs m s task seat ran closed =
    let all : puts_of task m xs ≡ takes_of m s xs ++ held e m s =
    ap (λ l. l ++ puts_of task m xs) (sym (fresh_holds plans m s)) ∙ runs_deliver (fresh_desk plans) e xs m s task seat ran in
    let word : Leads Initial (puts_of task m xs) (word_of e task m) =
    subst (λ w. Leads w (puts_of task m xs) (word_of e task m)) (fresh_words plans task m) (runs_lead (fresh_desk plans) e xs m task ran) in
    let none = all_taken (puts_of task m xs) (takes_of m s xs) (held e m s) (word_of e task m) word all closed in
    sym (all ∙ ap (λ l. takes_of m s xs ++ l) none ∙ append-nil (takes_of m s xs))
