-- Which senders' Close was taken, once a parcel more was.
use Rattle.std.proofs.Common.{◌≡◌, ◌<◌, ◌+◌, ℕ, Bool, true, List, [], ◌∷◌, ◌++◌, length, get_or, refl, sym, ap, ◌∙◌, subst, inl, inr, arith, eq-eqb, length-append}
use Rattle.std.specs.List.{Contains}
use Rattle.std.proofs.lemmas.Bool.{cases_lt}
use Rattle.std.proofs.lemmas.List.{get_or_append_left}
use Rattle.std.proofs.Math.Seq.{get_or-append_seam}
use Rattle.hy_mail.specs.declared.parcel.Parcel.{Parcel}
use Rattle.hy_mail.specs.declared.parcel.Parcel.TheVariants.{Close}
use Rattle.hy_mail.specs.declared.parcel.Posted.{Posted}
use Rattle.hy_mail.specs.DeskRuns.{of_sender}
use Rattle.hy_mail.specs.Passes.{TakeState, taking}
use Rattle.hy_mail.proofs.Posts.{of_append}
use Rattle.hy_mail_tests.specs.Closed.{HasClosed}

stays_in : (xs ys : List Parcel) → Contains xs Close → Contains (xs ++ ys) Close
stays_in xs ys h = (h.0, omega (arith, length-append xs ys, h.1), get_or_append_left xs ys Close h.0 h.1 ∙ h.2)

comes_in : (xs : List Parcel) → Contains (xs ++ Close ∷ []) Close
comes_in xs = (length xs, omega (arith, length-append xs (Close ∷ [])), get_or-append_seam xs Close [] Close)

pub one_more : (old new : TakeState) (s : ℕ) (p : Parcel) (a b : Bool) → new ≡ taking old s p → HasClosed old.took a b → HasClosed new.took a b
one_more old new s p a b is h =
    let x : Posted = record { from = s; parcel = p } in
    subst (λ (t : TakeState). HasClosed t.took a b) (sym is) (
      (λ e. subst (λ l. Contains l Close) (sym (of_append 0 old.took (x ∷ []))) (stays_in (of_sender 0 old.took) (of_sender 0 (x ∷ [])) (h.0 e))),
      λ e. subst (λ l. Contains l Close) (sym (of_append 1 old.took (x ∷ []))) (stays_in (of_sender 1 old.took) (of_sender 1 (x ∷ [])) (h.1 e)),
    )

closes : (old new : TakeState) (s : ℕ) → new ≡ taking old s Close → Contains (of_sender s new.took) Close
unfolding of_sender
closes old new s is =
    let own : of_sender s (record { from = s; parcel = Close } ∷ []) ≡ Close ∷ [] = let t = eq-eqb s s refl in rw t refl in
    subst (λ (t : TakeState). Contains (of_sender s t.took) Close) (sym is)
    (subst (λ l. Contains l Close) (sym (of_append s old.took (record { from = s; parcel = Close } ∷ []) ∙ ap (λ l. of_sender s old.took ++ l) own)) (comes_in (of_sender s old.took)))

pub first_closes : (old new : TakeState) (s : ℕ) (p : Parcel) (a b : Bool) → new ≡ taking old s p → s ≡ 0 → p ≡ Close → HasClosed old.took a b → HasClosed new.took true b
first_closes old new s p a b is zero closed h =
    let at : new ≡ taking old 0 Close = is ∙ (λ i. taking old (zero i) (closed i)) in
    ((λ _. closes old new 0 at), (one_more old new s p a b is h).1)

pub second_closes : (old new : TakeState) (s : ℕ) (p : Parcel) (a b : Bool) → new ≡ taking old s p → s ≡ 1 → p ≡ Close → HasClosed old.took a b → HasClosed new.took a true
second_closes old new s p a b is one closed h =
    let at : new ≡ taking old 1 Close = is ∙ (λ i. taking old (one i) (closed i)) in
    ((one_more old new s p a b is h).0, λ _. closes old new 1 at)

-- of two senders both have closed
pub all_closed : (took : List Posted) (n : ℕ) → n ≡ 2 → HasClosed took true true → (k : ℕ) → k < n → Contains (of_sender k took) Close
all_closed took n two h k lt =
    elim (cases_lt k 1) [
      | inl low ↦ let zero_is : 0 ≡ k = omega arith in subst (λ j. Contains (of_sender j took) Close) zero_is (h.0 refl)
      | inr high ↦ let one_is : 1 ≡ k = omega arith in subst (λ j. Contains (of_sender j took) Close) one_is (h.1 refl)
    ]
