-- What the passes of a port know after each step.
use Rattle.std.proofs.Common.{◌≡◌, ◌==◌, List, [], ◌∷◌, ◌++◌, refl, ap, ◌∙◌, subst, inl, inr}
use Rattle.std.proofs.lemmas.Bool.{cases_Bool}
use borrow.Author.Tests.{eqb-true}
use Rattle.hy_mail.specs.declared.parcel.Parcel.{Parcel}
use Rattle.hy_mail.specs.declared.parcel.Posted.{Posted}
use Rattle.hy_mail.specs.Events.{Put, Took, Raise, Look, Full, Empty}
use Rattle.hy_mail.specs.Passes.{SendState, TakeState, putting, refused_put, refused_take, taking}
use Rattle.hy_mail.specs.PortLaws.{PassesKnowPuts, PassesKnowTakes, put_into, taken_from}
use Rattle.hy_mail.specs.Seated.{PortState, change_at, first_at}
use Rattle.hy_mail.specs.SeatedLaws.{shown_here, shown_other, shown_same}

abbrev put_by : SendState → List Parcel
put_by s = s.put

abbrev taken_by : TakeState → List Posted
taken_by t = t.took

pub passes_know_puts : PassesKnowPuts
passes_know_puts p q (Put k x) m h = ap (λ (r : PortState). put_into r m) h.is
    ∙ elim (cases_Bool (k == m)) [
      | inl y ↦ rw y (subst (λ j. first_at put_by [] (change_at (λ s. putting s x) p.sends k) j ≡ first_at put_by [] p.sends j ++ x ∷ []) (eqb-true k m y)
          (shown_here put_by [] (λ s. putting s x) (λ l. l ++ x ∷ []) (λ s. refl) p.sends k h.there))
      | inr n ↦ rw n (shown_other put_by [] (λ s. putting s x) p.sends k m n)
    ]
passes_know_puts p q (Took k from x) m h = ap (λ (r : PortState). put_into r m) h.is
passes_know_puts p q Raise m h = ap (λ (r : PortState). put_into r m) h.is
passes_know_puts p q (Look seen) m h = ap (λ (r : PortState). put_into r m) h.is
passes_know_puts p q (Full k) m h = ap (λ (r : PortState). put_into r m) h.is ∙ shown_same put_by [] refused_put (λ s. refl) p.sends k m
passes_know_puts p q (Empty k) m h = ap (λ (r : PortState). put_into r m) h.is

pub passes_know_takes : PassesKnowTakes
passes_know_takes p q (Took k from x) m h = ap (λ (r : PortState). taken_from r m) h.is
    ∙ elim (cases_Bool (k == m)) [
      | inl y ↦ rw y (subst (λ j. first_at taken_by [] (change_at (λ t. taking t from x) p.takes k) j ≡ first_at taken_by [] p.takes j ++ record { from = from; parcel = x } ∷ []) (eqb-true k m y)
          (shown_here taken_by [] (λ t. taking t from x) (λ l. l ++ record { from = from; parcel = x } ∷ []) (λ t. refl) p.takes k h.there))
      | inr n ↦ rw n (shown_other taken_by [] (λ t. taking t from x) p.takes k m n)
    ]
passes_know_takes p q (Put k x) m h = ap (λ (r : PortState). taken_from r m) h.is
passes_know_takes p q Raise m h = ap (λ (r : PortState). taken_from r m) h.is
passes_know_takes p q (Look seen) m h = ap (λ (r : PortState). taken_from r m) h.is
passes_know_takes p q (Full k) m h = ap (λ (r : PortState). taken_from r m) h.is
passes_know_takes p q (Empty k) m h = ap (λ (r : PortState). taken_from r m) h.is ∙ shown_same taken_by [] refused_take (λ t. refl) p.takes k m
