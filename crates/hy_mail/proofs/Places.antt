-- The pass of a mailbox by its place, and what a call by it leaves.
use Rattle.std.proofs.Common.{◌≡◌, ◌<◌, ◌+◌, ◌==◌, ℕ, zero, suc, true, false, List, [], ◌∷◌, ◌++◌, length, get_or, set, sym, refl, ap, ◌∙◌, subst, inl, inr, Option, Some, None, arith, eq-eqb}
use Rattle.std.specs.Prelude.{All}
use Rattle.std.specs.List.{position_from}
use Rattle.std.proofs.lemmas.Bool.{cases_Bool}
use Rattle.std.proofs.lemmas.Iterator.Adapters.{position_from-zero}
use Rattle.std.proofs.lemmas.List.{get_or-map}
use Rattle.std.proofs.lemmas.List.Elements.{All-get_or, All-push, All-set}
use Rattle.std.proofs.lemmas.List.Quantifiers.{position-Some}
use borrow.Author.Tests.{eqb-true}
use Rattle.hy_frame.specs.declared.writer.WriterState.TheVariants.{Initial}
use Rattle.hy_mail.specs.declared.parcel.Parcel.{Parcel}
use Rattle.hy_mail.specs.declared.parcel.PutAnswer.{PutAnswer}
use Rattle.hy_mail.specs.declared.parcel.PutAnswer.TheVariants as A
use Rattle.hy_mail.specs.DeskLaws.{false_true}
use Rattle.hy_mail.specs.Passes.{IsSendOf, IsTakeOf, MailboxState, SendState, TakeState, TellsMailPut, TellsMailTake, putting, refused_put, refused_take, taking}
use Rattle.hy_mail.specs.Seated.{IsBoxAt, IsSentAt, IsTakenAt, TellsPutAt, TellsTakeAt, arity_in, change_at, first_at, has, place_in, senders_in, word_at}
use Rattle.hy_mail.specs.Words.{HasArity}

-- the place of the first pass of a mailbox
pub record IsPlace {A : Type 0} (xs : List (ℕ × A)) (m k : ℕ) : Type 0 where
  pub low : k < length xs
  pub key : (d : ℕ × A) → (get_or xs k d).0 ≡ m
  pub before : (j : ℕ) (d : ℕ × A) → j < k → ((get_or xs j d).0 == m) ≡ false

pub is_place : {A : Type 0} (xs : List (ℕ × A)) (m k : ℕ) (d : ℕ × A) → place_in xs m ≡ Some k → IsPlace xs m k
is_place xs m k d e =
    record {
      low = (position-Some (λ x. x.0 == m) xs k d e).0;
      key = λ d. eqb-true (get_or xs k d).0 m (position-Some (λ x. x.0 == m) xs k d e).1;
      before = λ j d lt. (position-Some (λ x. x.0 == m) xs k d e).2 j lt;
    }

none_some : (a : ℕ) → ◌≡◌ {A = Option ℕ} (Some a) None → ⊥
none_some a e = cc

not_found : {A : Type 0} (xs : List (ℕ × A)) (m i : ℕ) → has xs m ≡ true → position_from (λ x. x.0 == m) i xs ≡ None → ⊥
not_found [] m i there none = false_true there
not_found (x ∷ xs) m i there none =
    elim (cases_Bool (x.0 == m)) [
      | inl y ↦ none_some i (rw y at none)
      | inr n ↦ not_found xs m (i + 1) (rw n at there) (rw n at none)
    ]

pub found : {A : Type 0} (xs : List (ℕ × A)) (m : ℕ) → has xs m ≡ true → place_in xs m ≡ None → ⊥
found xs m there none = not_found xs m 0 there (sym (position_from-zero (λ x. x.0 == m) xs) ∙ none)

later : {A : Type 0} (x : ℕ × A) (xs : List (ℕ × A)) (m k : ℕ) → IsPlace (x ∷ xs) m (suc k) → IsPlace xs m k
later x xs m k h = let low = h.low in record { low = omega arith; key = h.key; before = λ j d lt. h.before (suc j) d (omega arith) }

pub first_is : {A B : Type 0} (show : A → B) (none : B) (xs : List (ℕ × A)) (m k : ℕ) (d : ℕ × A) → IsPlace xs m k → first_at show none xs m ≡ show (get_or xs k d).1
first_is show none [] m k d h = let low = h.low in absurd (omega arith)
first_is show none (x ∷ xs) m zero d h = let y = eq-eqb x.0 m (h.key d) in rw y refl
first_is show none (x ∷ xs) m (suc k) d h = let n = h.before 0 d (omega arith) in rw n (first_is show none xs m k d (later x xs m k h))

pub change_is : {A : Type 0} (change : A → A) (xs : List (ℕ × A)) (m k n : ℕ) (y : A) (d : ℕ × A) → IsPlace xs m k → n ≡ (get_or xs k d).0 → y ≡ change (get_or xs k d).1 → set xs k (n, y) ≡ change_at change xs m
change_is change [] m k n y d h a b = let low = h.low in absurd (omega arith)
change_is change (x ∷ xs) m zero n y d h a b = let t = eq-eqb x.0 m (h.key d) in rw t (λ i. (a i, b i) ∷ xs)
change_is change (x ∷ xs) m (suc k) n y d h a b = let f = h.before 0 d (omega arith) in rw f (λ i. x ∷ change_is change xs m k n y d (later x xs m k h) a b i)

-- ---- mailboxes

pub same_box : (boxes : List MailboxState) (m : ℕ) (a b : MailboxState) → a ≡ get_or boxes m a → IsBoxAt boxes m b → a ≡ b
same_box boxes m a b e h = e ∙ defaults boxes m a b h.there ∙ h.is
  where
    defaults : (xs : List MailboxState) (i : ℕ) (x y : MailboxState) → i < length xs → get_or xs i x ≡ get_or xs i y
    defaults [] i x y lt = absurd (omega arith)
    defaults (z ∷ zs) zero x y lt = refl
    defaults (z ∷ zs) (suc i) x y lt = defaults zs i x y (omega arith)

pub arity_is : (boxes : List MailboxState) (m : ℕ) (b : MailboxState) → IsBoxAt boxes m b → arity_in boxes m ≡ b.arity
arity_is boxes m b h = get_or-map (λ (x : MailboxState). x.arity) boxes m b 0 h.there ∙ ap (λ (x : MailboxState). x.arity) h.is

pub senders_is : (boxes : List MailboxState) (m : ℕ) (b : MailboxState) → IsBoxAt boxes m b → senders_in boxes m ≡ b.senders
senders_is boxes m b h = get_or-map (λ (x : MailboxState). x.senders) boxes m b 0 h.there ∙ ap (λ (x : MailboxState). x.senders) h.is

-- ---- a call by the pass at a place

-- what stands at a place of a list of passes
at_place : {A : Type 0} (P : ℕ × A → Type 0) (xs : List (ℕ × A)) (m k : ℕ) (x : ℕ × A) → All P xs → IsPlace xs m k → x ≡ get_or xs k x → P (m, x.1)
at_place P xs m k x all h e = subst P (λ i. ((ap (λ (z : ℕ × _). z.0) e ∙ h.key x) i, x.1)) (subst P (sym e) (All-get_or P xs k x h.low all))

pub sent_at : (boxes : List MailboxState) (xs : List (ℕ × SendState)) (m k : ℕ) (x : ℕ × SendState) → All (IsSentAt boxes) xs → IsPlace xs m k → x ≡ get_or xs k x → IsSentAt boxes (m, x.1)
sent_at boxes xs m k x all h e = at_place (IsSentAt boxes) xs m k x all h e

pub taken_at : (boxes : List MailboxState) (xs : List (ℕ × TakeState)) (m k : ℕ) (x : ℕ × TakeState) → All (IsTakenAt boxes) xs → IsPlace xs m k → x ≡ get_or xs k x → IsTakenAt boxes (m, x.1)
taken_at boxes xs m k x all h e = at_place (IsTakenAt boxes) xs m k x all h e

still_sent : (b : MailboxState) (s t : SendState) (p : Parcel) (r : PutAnswer) → IsSendOf b s → TellsMailPut b s p t r → IsSendOf b t
still_sent b s t p A.Put h is = subst (IsSendOf b) (sym is) (record { mailbox = h.mailbox; number = h.number; arity = h.arity })
still_sent b s t p (A.Full back) h is = subst (IsSendOf b) (sym is.2) (record { mailbox = h.mailbox; number = h.number; arity = h.arity })

pub put_seated : (boxes : List MailboxState) (xs : List (ℕ × SendState)) (m k : ℕ) (x : ℕ × SendState) (b : MailboxState) (y : SendState) (p : Parcel) (r : PutAnswer)
    → All (IsSentAt boxes) xs → IsPlace xs m k → x ≡ get_or xs k x → b ≡ get_or boxes m b → TellsMailPut b x.1 p y r → All (IsSentAt boxes) (set xs k (x.0, y))
put_seated boxes xs m k x b y p r all h e box is =
    let old = sent_at boxes xs m k x all h e in
    let key : m ≡ x.0 = sym (h.key x) ∙ ap (λ (z : ℕ × SendState). z.0) (sym e) in
    let own = same_box boxes m b old.0 box old.1 in
    All-set (IsSentAt boxes) xs k (x.0, y) (subst (λ n. IsSentAt boxes (n, y)) key (old.0, old.1, subst (λ c. IsSendOf c y) own (still_sent b x.1 y p r (subst (λ c. IsSendOf c x.1) (sym own) old.2) is))) all

pub put_told : (boxes : List MailboxState) (xs : List (ℕ × SendState)) (m k : ℕ) (x : ℕ × SendState) (b : MailboxState) (y : SendState) (p : Parcel) (r : PutAnswer)
    → IsPlace xs m k → has xs m ≡ true → x ≡ get_or xs k x → IsBoxAt boxes m b → TellsMailPut b x.1 p y r → TellsPutAt boxes m xs p (set xs k (x.0, y)) r
put_told boxes xs m k x b y p A.Put h there e box is =
    change_is (λ s. putting s p) xs m k x.0 y x h (ap (λ (z : ℕ × SendState). z.0) e) (is ∙ ap (λ (z : ℕ × SendState). putting z.1 p) e)
put_told boxes xs m k x b y p (A.Full back) h there e box is = (
  is.0,
  record { box = b; pass = x.1; is_box = box; is_pass = record { there = there; is = first_is (λ s. s) x.1 xs m k x h ∙ ap (λ (z : ℕ × SendState). z.1) (sym e) }; full = is.1 },
  change_is refused_put xs m k x.0 y x h (ap (λ (z : ℕ × SendState). z.0) e) (is.2 ∙ ap (λ (z : ℕ × SendState). refused_put z.1) e),
)

still_taken : (b : MailboxState) (s t : TakeState) (r : Option (ℕ × Parcel)) → IsTakeOf b s → TellsMailTake s t r → IsTakeOf b t
still_taken b s t (Some x) h is = subst (IsTakeOf b) (sym is.0) (record { mailbox = h.mailbox; senders = h.senders; arity = h.arity })
still_taken b s t None h is = subst (IsTakeOf b) (sym is.1) (record { mailbox = h.mailbox; senders = h.senders; arity = h.arity })

pub take_seated : (boxes : List MailboxState) (xs : List (ℕ × TakeState)) (m k : ℕ) (x : ℕ × TakeState) (y : TakeState) (r : Option (ℕ × Parcel))
    → All (IsTakenAt boxes) xs → IsPlace xs m k → x ≡ get_or xs k x → TellsMailTake x.1 y r → All (IsTakenAt boxes) (set xs k (x.0, y))
take_seated boxes xs m k x y r all h e is =
    let old = taken_at boxes xs m k x all h e in
    let key : m ≡ x.0 = sym (h.key x) ∙ ap (λ (z : ℕ × TakeState). z.0) (sym e) in
    All-set (IsTakenAt boxes) xs k (x.0, y) (subst (λ n. IsTakenAt boxes (n, y)) key (old.0, old.1, still_taken old.0 x.1 y r old.2 is)) all

pub take_told : (boxes : List MailboxState) (xs : List (ℕ × TakeState)) (m k : ℕ) (x : ℕ × TakeState) (b : MailboxState) (y : TakeState) (r : Option (ℕ × Parcel))
    → IsPlace xs m k → has xs m ≡ true → x ≡ get_or xs k x → IsBoxAt boxes m b → IsTakeOf b x.1 → TellsMailTake x.1 y r → TellsTakeAt boxes m xs (set xs k (x.0, y)) r
take_told boxes xs m k x b y (Some t) h there e box mine is = (
  change_is (λ s. taking s t.0 t.1) xs m k x.0 y x h (ap (λ (z : ℕ × TakeState). z.0) e) (is.0 ∙ ap (λ (z : ℕ × TakeState). taking z.1 t.0 t.1) e),
  subst (λ n. t.0 < n) (mine.senders ∙ sym (senders_is boxes m b box)) is.1,
  subst (λ n. HasArity n t.1) (mine.arity ∙ sym (arity_is boxes m b box)) is.2,
)
take_told boxes xs m k x b y None h there e box mine is = (
  record { pass = x.1; is_pass = record { there = there; is = first_is (λ s. s) x.1 xs m k x h ∙ ap (λ (z : ℕ × TakeState). z.1) (sym e) }; empty = is.0 },
  change_is refused_take xs m k x.0 y x h (ap (λ (z : ℕ × TakeState). z.0) e) (is.1 ∙ ap (λ (z : ℕ × TakeState). refused_take z.1) e),
)

-- ---- what the code finds on its way

-- the mailbox at a number, which the slice lends
pub is_box : (boxes : List MailboxState) (m : ℕ) (b : MailboxState) → m < length boxes → b ≡ get_or boxes m b → IsBoxAt boxes m b
is_box boxes m b lt e = record { there = lt; is = sym e }

pub word_is : (xs : List (ℕ × SendState)) (m k : ℕ) (x : ℕ × SendState) → IsPlace xs m k → x ≡ get_or xs k x → word_at xs m ≡ x.1.word
word_is xs m k x h e = first_is (λ (s : SendState). s.word) Initial xs m k x h ∙ ap (λ (z : ℕ × SendState). z.1.word) (sym e)

-- ---- a pass more

pub one_sent : (boxes given : List MailboxState) (xs ys zs : List (ℕ × SendState)) (x : ℕ × SendState) → given ≡ boxes → ys ≡ xs → zs ≡ ys ++ x ∷ [] → All (IsSentAt boxes) xs → IsSentAt given x → All (IsSentAt boxes) zs
one_sent boxes given xs ys zs x b e is all h = subst (All (IsSentAt boxes)) (sym (is ∙ ap (λ l. l ++ x ∷ []) e)) (All-push (IsSentAt boxes) xs x all (subst (λ c. IsSentAt c x) b h))

pub one_taken : (boxes given : List MailboxState) (xs ys zs : List (ℕ × TakeState)) (x : ℕ × TakeState) → given ≡ boxes → ys ≡ xs → zs ≡ ys ++ x ∷ [] → All (IsTakenAt boxes) xs → IsTakenAt given x → All (IsTakenAt boxes) zs
one_taken boxes given xs ys zs x b e is all h = subst (All (IsTakenAt boxes)) (sym (is ∙ ap (λ l. l ++ x ∷ []) e)) (All-push (IsTakenAt boxes) xs x all (subst (λ c. IsTakenAt c x) b h))
