-- Words by their parcels, and by how far they have come.
use Rattle.std.proofs.Common.{◌≡◌, ◌<◌, ℕ, zero, suc, true, List, [], ◌∷◌, ◌++◌, length, get_or, refl, sym, subst, ◌∙◌, arith}
use Rattle.std.specs.List.{Contains}
use Rattle.hy_frame.specs.declared.writer.WriterState.{WriterState}
use Rattle.hy_frame.specs.declared.writer.WriterState.TheVariants.{Initial, Opened, Failed, Closed}
use Rattle.hy_mail.specs.declared.parcel.Parcel.{Parcel}
use Rattle.hy_mail.specs.declared.parcel.Parcel.TheVariants.{Open, Frame, Fail, Close}
use Rattle.hy_mail.specs.Laws.{EndedIsWriterWord, MayIsNext, WordsAreSoFar, WordsTellState}
use Rattle.hy_mail.specs.Words.{IsWordOnceOpen, IsWordSoFar, IsWriterWord, Leads, may, next}

pub told_state : WordsTellState
told_state w u v [] a b = a ∙ sym b
told_state w u v (p ∷ ps) a b = told_state (next w p) u v ps a.1 b.1

-- ---- one piece of a word behind another

pub leads_on : (w u v : WriterState) (xs ys : List Parcel) → Leads w xs u → Leads u ys v → Leads w (xs ++ ys) v
leads_on w u v [] ys a b = subst (λ s. Leads s ys v) a b
leads_on w u v (x ∷ xs) ys a b = (a.0, leads_on (next w x) u v xs ys a.1 b)

-- a word passes through how far its first piece leads
pub leads_through : (w v : WriterState) (xs ys : List Parcel) → Leads w (xs ++ ys) v → (u : WriterState) × Leads w xs u × Leads u ys v
leads_through w v [] ys a = (w, refl, a)
leads_through w v (x ∷ xs) ys a = let h = leads_through (next w x) v xs ys a.1 in (h.0, (a.0, h.1), h.2)

-- ---- words that have ended

-- nothing comes behind a Close
pub closed_last : (ps : List Parcel) (v : WriterState) → Leads Closed ps v → ps ≡ []
closed_last [] v a = refl
closed_last (Open ∷ ps) v a = cc
closed_last (Frame f ∷ ps) v a = cc
closed_last (Fail ∷ ps) v a = cc
closed_last (Close ∷ ps) v a = cc

ended : (ps : List Parcel) → Leads Closed ps Closed → IsWordOnceOpen (Close ∷ ps)
ended [] a = tt
ended (p ∷ ps) a = absurd (cons_nil (closed_last (p ∷ ps) Closed a))
  where
    cons_nil : ◌≡◌ {A = List Parcel} (p ∷ ps) [] → ⊥
    cons_nil e = cc

failed : (ps : List Parcel) → Leads Failed ps Closed → IsWordOnceOpen (Fail ∷ ps)
failed [] a = absurd cc
failed (Open ∷ ps) a = absurd cc
failed (Frame f ∷ ps) a = absurd cc
failed (Fail ∷ ps) a = absurd cc
failed (Close ∷ []) a = tt
failed (Close ∷ p ∷ ps) a = ended (p ∷ ps) a.1

opened : (ps : List Parcel) → Leads Opened ps Closed → IsWordOnceOpen ps
opened [] a = absurd cc
opened (Open ∷ ps) a = absurd cc
opened (Frame f ∷ ps) a = opened ps a.1
opened (Fail ∷ ps) a = failed ps a.1
opened (Close ∷ ps) a = ended ps a.1

opens : (ps : List Parcel) → IsWordOnceOpen ps → Leads Opened ps Closed
opens [] a = absurd a
opens (Open ∷ ps) a = absurd a
opens (Frame f ∷ ps) a = (refl, opens ps a)
opens (Fail ∷ []) a = absurd a
opens (Fail ∷ Open ∷ ps) a = absurd a
opens (Fail ∷ Frame f ∷ ps) a = absurd a
opens (Fail ∷ Fail ∷ ps) a = absurd a
opens (Fail ∷ Close ∷ []) a = (refl, (refl, refl))
opens (Fail ∷ Close ∷ p ∷ ps) a = absurd a
opens (Close ∷ []) a = (refl, refl)
opens (Close ∷ p ∷ ps) a = absurd a

pub whole : (word : List Parcel) → Leads Initial word Closed → IsWriterWord word
whole [] a = absurd cc
whole (Open ∷ ps) a = opened ps a.1
whole (Frame f ∷ ps) a = absurd cc
whole (Fail ∷ ps) a = absurd cc
whole (Close ∷ ps) a = absurd cc

leads_whole : (word : List Parcel) → IsWriterWord word → Leads Initial word Closed
leads_whole [] a = absurd a
leads_whole (Open ∷ ps) a = (refl, opens ps a)
leads_whole (Frame f ∷ ps) a = absurd a
leads_whole (Fail ∷ ps) a = absurd a
leads_whole (Close ∷ ps) a = absurd a

pub writer_word : EndedIsWriterWord
writer_word word = (whole word, leads_whole word)

-- ---- words that have perhaps not ended

completion : (v : WriterState) → (rest : List Parcel) × Leads v rest Closed
completion Initial = (Open ∷ Close ∷ [], (refl, (refl, refl)))
completion Opened = (Close ∷ [], (refl, refl))
completion Failed = (Close ∷ [], (refl, refl))
completion Closed = ([], refl)

pub begins : (word : List Parcel) (v : WriterState) → Leads Initial word v → IsWordSoFar word
begins word v a = let c = completion v in (c.0, whole (word ++ c.0) (leads_on Initial v Closed word c.0 a c.1))

pub leads : (word : List Parcel) → IsWordSoFar word → (v : WriterState) × Leads Initial word v
leads word far = let h = leads_through Initial Closed word far.0 (leads_whole (word ++ far.0) far.1) in (h.0, h.1)

pub so_far : WordsAreSoFar
so_far word = (λ x. begins word x.0 x.1, leads word)

pub may_next : MayIsNext
may_next word v p a = (
  λ yes. begins (word ++ p ∷ []) (next v p) (leads_on Initial v (next v p) word (p ∷ []) a (yes, refl)),
  λ far.
      let l = leads (word ++ p ∷ []) far in
      let h = leads_through Initial l.0 word (p ∷ []) l.1 in
      subst (λ s. may s p ≡ true) (told_state Initial h.0 v word h.1 a) h.2.0,
)

-- ---- a Close that was taken

-- behind a Close the word has closed
closes : (w u : WriterState) (word : List Parcel) (k : ℕ) → Leads w word u → k < length word → get_or word k Close ≡ Close → u ≡ Closed
closes w u [] k a lt is = absurd (omega arith)
closes w u (p ∷ ps) zero a lt is =
    let at : Leads Closed ps u = subst (λ x. Leads (next w x) ps u) is a.1 in
    subst (λ l. Leads Closed l u) (closed_last ps u at) at
closes w u (p ∷ ps) (suc k) a lt is = closes (next w p) u ps k a.1 (omega arith) is

-- of a word so far, of which a front with a Close was taken, nothing is left
pub all_taken : (put taken left : List Parcel) (v : WriterState) → Leads Initial put v → put ≡ taken ++ left → Contains taken Close → left ≡ []
all_taken put taken left v word is closed =
    let h = leads_through Initial v taken left (subst (λ l. Leads Initial l v) is word) in
    closed_last left v (subst (λ u. Leads u left v) (closes Initial h.0 taken closed.0 h.1 closed.1 closed.2) h.2)
