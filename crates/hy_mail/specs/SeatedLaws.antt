-- What each step of a port over passes keeps.
use Rattle.std.proofs.Common.{◌≡◌, ◌<◌, ◌+◌, ◌-◌, ◌^◌, ◌==◌, ℕ, true, false, List, [], ◌∷◌, length, sym, refl, ap, ◌∙◌, subst, inl, inr, arith}
use Rattle.std.specs.Prelude.{min}
use Rattle.std.proofs.lemmas.Bool.{cases_Bool}
use borrow.Author.Tests.{eqb-true}
use Rattle.hy_frame.specs.Bank.{one_more}
use Rattle.hy_frame.specs.declared.writer.WriterState.TheVariants.{Initial}
use Rattle.hy_mail.specs.declared.parcel.Parcel.{Parcel}
use Rattle.hy_mail.specs.DeskLaws.{false_true}
use Rattle.hy_mail.specs.Events.{Event, Put, Took, Raise, Look, Full, Empty, refused_after, word_after}
use Rattle.hy_mail.specs.Passes.{SendState, TakeState, putting, refused_put, refused_take, taking}
use Rattle.hy_mail.specs.Seated.{PortState, PortStep, ReceivesAt, SendsAt, arity_in, change_at, first_at, has, refused_at, senders_in, word_at}
use Rattle.hy_mail.specs.Words.{HasArity, may, next}

-- ---- a change of the first pass of a mailbox

-- what the change leaves as it was is shown as it was
pub shown_same : {A B : Type 0} (show : A → B) (none : B) (change : A → A) → ((x : A) → show (change x) ≡ show x) → (xs : List (ℕ × A)) (k m : ℕ) → first_at show none (change_at change xs k) m ≡ first_at show none xs m
shown_same show none change same [] k m = refl
shown_same show none change same (x ∷ xs) k m =
    elim (cases_Bool (x.0 == k)) [
      | inl y ↦ rw y (elim (cases_Bool (x.0 == m)) [ inl z ↦ rw z (same x.1) | inr z ↦ rw z refl ])
      | inr n ↦ rw n (elim (cases_Bool (x.0 == m)) [ inl z ↦ rw z refl | inr z ↦ rw z (shown_same show none change same xs k m) ])
    ]

-- at another mailbox all is as it was
pub shown_other : {A B : Type 0} (show : A → B) (none : B) (change : A → A) (xs : List (ℕ × A)) (k m : ℕ) → (k == m) ≡ false → first_at show none (change_at change xs k) m ≡ first_at show none xs m
shown_other show none change [] k m apart = refl
shown_other show none change (x ∷ xs) k m apart =
    elim (cases_Bool (x.0 == k)) [
      | inl y ↦ let other : (x.0 == m) ≡ false = subst (λ j. (j == m) ≡ false) (sym (eqb-true x.0 k y)) apart in rw (y, other) refl
      | inr n ↦ rw n (elim (cases_Bool (x.0 == m)) [ inl z ↦ rw z refl | inr z ↦ rw z (shown_other show none change xs k m apart) ])
    ]

-- and at its own the change is shown
pub shown_here : {A B : Type 0} (show : A → B) (none : B) (change : A → A) (grow : B → B) → ((x : A) → show (change x) ≡ grow (show x)) → (xs : List (ℕ × A)) (k : ℕ) → has xs k ≡ true
    → first_at show none (change_at change xs k) k ≡ grow (first_at show none xs k)
shown_here show none change grow is [] k there = absurd (false_true there)
shown_here show none change grow is (x ∷ xs) k there =
    elim (cases_Bool (x.0 == k)) [
      | inl y ↦ rw (y, y) (is x.1)
      | inr n ↦ let later : has xs k ≡ true = rw n at there in rw (n, n) (shown_here show none change grow is xs k later)
    ]

has_same : {A : Type 0} (change : A → A) (xs : List (ℕ × A)) (k m : ℕ) → has (change_at change xs k) m ≡ has xs m
has_same change [] k m = refl
has_same change (x ∷ xs) k m =
    elim (cases_Bool (x.0 == k)) [
      | inl y ↦ rw y refl
      | inr n ↦ rw n (elim (cases_Bool (x.0 == m)) [ inl z ↦ rw z refl | inr z ↦ rw z (has_same change xs k m) ])
    ]

-- ---- words

pub port_words : (p q : PortState) (e : Event) (m : ℕ) → PortStep p e q → word_at q.sends m ≡ word_after e m (word_at p.sends m)
port_words p q (Put k x) m h = ap (λ (r : PortState). word_at r.sends m) h.is
    ∙ elim (cases_Bool (k == m)) [
      | inl y ↦ rw y (subst (λ j. word_at (change_at (λ s. putting s x) p.sends k) j ≡ next (word_at p.sends j) x) (eqb-true k m y)
          (shown_here (λ (s : SendState). s.word) Initial (λ s. putting s x) (λ w. next w x) (λ s. refl) p.sends k h.there))
      | inr n ↦ rw n (shown_other (λ (s : SendState). s.word) Initial (λ s. putting s x) p.sends k m n)
    ]
port_words p q (Took k from x) m h = ap (λ (r : PortState). word_at r.sends m) h.is
port_words p q Raise m h = ap (λ (r : PortState). word_at r.sends m) h.is
port_words p q (Look seen) m h = ap (λ (r : PortState). word_at r.sends m) h.is
port_words p q (Full k) m h = ap (λ (r : PortState). word_at r.sends m) h.is ∙ shown_same (λ (s : SendState). s.word) Initial refused_put (λ s. refl) p.sends k m
port_words p q (Empty k) m h = ap (λ (r : PortState). word_at r.sends m) h.is

-- ---- counts

abbrev fulls : List (ℕ × SendState) → ℕ → ℕ
fulls sends m = first_at (λ s. s.refused) 0 sends m

abbrev empties : List (ℕ × TakeState) → ℕ → ℕ
empties takes m = first_at (λ t. t.refused) 0 takes m

one_more_left : (a b : ℕ) → min (one_more a + b) (2 ^ 64 - 1) ≡ one_more (min (a + b) (2 ^ 64 - 1))
one_more_left a b = omega arith

one_more_right : (a b : ℕ) → min (a + one_more b) (2 ^ 64 - 1) ≡ one_more (min (a + b) (2 ^ 64 - 1))
one_more_right a b = omega arith

abbrev both : ℕ → ℕ → ℕ
both a b = min (a + b) (2 ^ 64 - 1)

pub port_counts : (p q : PortState) (e : Event) (m : ℕ) → PortStep p e q → refused_at q.sends q.takes m ≡ refused_after e m (refused_at p.sends p.takes m)
port_counts p q (Put k x) m h = ap (λ (r : PortState). refused_at r.sends r.takes m) h.is ∙ ap (λ a. both a (empties p.takes m)) (shown_same (λ (s : SendState). s.refused) 0 (λ s. putting s x) (λ s. refl) p.sends k m)
port_counts p q (Took k from x) m h = ap (λ (r : PortState). refused_at r.sends r.takes m) h.is ∙ ap (λ b. both (fulls p.sends m) b) (shown_same (λ (t : TakeState). t.refused) 0 (λ t. taking t from x) (λ t. refl) p.takes k m)
port_counts p q Raise m h = ap (λ (r : PortState). refused_at r.sends r.takes m) h.is
port_counts p q (Look seen) m h = ap (λ (r : PortState). refused_at r.sends r.takes m) h.is
port_counts p q (Full k) m h = ap (λ (r : PortState). refused_at r.sends r.takes m) h.is
    ∙ elim (cases_Bool (k == m)) [
      | inl y ↦ rw y (subst (λ j. refused_at (change_at refused_put p.sends k) p.takes j ≡ one_more (refused_at p.sends p.takes j)) (eqb-true k m y)
          (ap (λ a. both a (empties p.takes k)) (shown_here (λ (s : SendState). s.refused) 0 refused_put one_more (λ s. refl) p.sends k h.there) ∙ one_more_left (fulls p.sends k) (empties p.takes k)))
      | inr n ↦ rw n (ap (λ a. both a (empties p.takes m)) (shown_other (λ (s : SendState). s.refused) 0 refused_put p.sends k m n))
    ]
port_counts p q (Empty k) m h = ap (λ (r : PortState). refused_at r.sends r.takes m) h.is
    ∙ elim (cases_Bool (k == m)) [
      | inl y ↦ rw y (subst (λ j. refused_at p.sends (change_at refused_take p.takes k) j ≡ one_more (refused_at p.sends p.takes j)) (eqb-true k m y)
          (ap (λ b. both (fulls p.sends k) b) (shown_here (λ (t : TakeState). t.refused) 0 refused_take one_more (λ t. refl) p.takes k h.there) ∙ one_more_right (fulls p.sends k) (empties p.takes k)))
      | inr n ↦ rw n (ap (λ b. both (fulls p.sends m) b) (shown_other (λ (t : TakeState). t.refused) 0 refused_take p.takes k m n))
    ]

-- ---- what stays

pub port_kept : (p q : PortState) (e : Event) → PortStep p e q → (q.boxes ≡ p.boxes) × (q.word ≡ p.word)
port_kept p q (Put k x) h = (ap (λ (r : PortState). r.boxes) h.is, ap (λ (r : PortState). r.word) h.is)
port_kept p q (Took k from x) h = (ap (λ (r : PortState). r.boxes) h.is, ap (λ (r : PortState). r.word) h.is)
port_kept p q Raise h = (ap (λ (r : PortState). r.boxes) h.is, ap (λ (r : PortState). r.word) h.is)
port_kept p q (Look seen) h = (ap (λ (r : PortState). r.boxes) h.is, ap (λ (r : PortState). r.word) h.is)
port_kept p q (Full k) h = (ap (λ (r : PortState). r.boxes) h.is, ap (λ (r : PortState). r.word) h.is)
port_kept p q (Empty k) h = (ap (λ (r : PortState). r.boxes) h.is, ap (λ (r : PortState). r.word) h.is)

pub port_plans : (p q : PortState) (e : Event) (m : ℕ) → PortStep p e q → (senders_in q.boxes m ≡ senders_in p.boxes m) × (arity_in q.boxes m ≡ arity_in p.boxes m)
port_plans p q e m h = let same = (port_kept p q e h).0 in (ap (λ b. senders_in b m) same, ap (λ b. arity_in b m) same)

passes_stay : (p q : PortState) (e : Event) (m : ℕ) → PortStep p e q → (has q.sends m ≡ has p.sends m) × (has q.takes m ≡ has p.takes m)
passes_stay p q (Put k x) m h = (ap (λ (r : PortState). has r.sends m) h.is ∙ has_same (λ s. putting s x) p.sends k m, ap (λ (r : PortState). has r.takes m) h.is)
passes_stay p q (Took k from x) m h = (ap (λ (r : PortState). has r.sends m) h.is, ap (λ (r : PortState). has r.takes m) h.is ∙ has_same (λ t. taking t from x) p.takes k m)
passes_stay p q Raise m h = (ap (λ (r : PortState). has r.sends m) h.is, ap (λ (r : PortState). has r.takes m) h.is)
passes_stay p q (Look seen) m h = (ap (λ (r : PortState). has r.sends m) h.is, ap (λ (r : PortState). has r.takes m) h.is)
passes_stay p q (Full k) m h = (ap (λ (r : PortState). has r.sends m) h.is ∙ has_same refused_put p.sends k m, ap (λ (r : PortState). has r.takes m) h.is)
passes_stay p q (Empty k) m h = (ap (λ (r : PortState). has r.sends m) h.is, ap (λ (r : PortState). has r.takes m) h.is ∙ has_same refused_take p.takes k m)

pub port_roles : (p q : PortState) (e : Event) → PortStep p e q → ((m : ℕ) → SendsAt p m → SendsAt q m) × ((m : ℕ) → ReceivesAt p m → ReceivesAt q m)
port_roles p q e h =
    let long = ap length (port_kept p q e h).0 in (
      (λ m s. (subst (λ n. m < n) (sym long) s.0, (passes_stay p q e m h).0 ∙ s.1)),
      (λ m s. (subst (λ n. m < n) (sym long) s.0, (passes_stay p q e m h).1 ∙ s.1)),
    )

pub port_puts : (p q : PortState) (m : ℕ) (x : Parcel) → PortStep p (Put m x) q → (may (word_at p.sends m) x ≡ true) × HasArity (arity_in p.boxes m) x
port_puts p q m x h = (h.fits, h.arity)

pub port_takes : (p q : PortState) (m from : ℕ) (x : Parcel) → PortStep p (Took m from x) q → (from < senders_in p.boxes m) × HasArity (arity_in p.boxes m) x
port_takes p q m from x h = (h.sender, h.arity)
