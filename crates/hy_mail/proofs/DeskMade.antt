-- A desk's mailboxes, as they are made.
use Rattle.std.proofs.Common.{◌≡◌, ◌⊎◌, ◌==◌, ◌<◌, ◌≤◌, ◌^◌, ℕ, suc, true, List, [], ◌∷◌, ◌++◌, length, get_or, sym, subst, ◌∙◌, inl, inr, arith, length-append}
use Rattle.std.specs.List.{IsDistinct, list_any}
use Rattle.std.specs.Prelude.{All}
use Rattle.std.proofs.lemmas.Map.Steps.{length-le_from_distinct_below}
use Rattle.std.proofs.lemmas.Map.Views.{Contains-from_any}
use Rattle.std.proofs.lemmas.List.{get_or_append_left, get_or_default}
use Rattle.std.proofs.lemmas.List.Elements.{All-nil}
use borrow.Author.Tests.{eqb-true}
use Rattle.hy_mail.specs.declared.parcel.Posted.{Posted}
use Rattle.hy_mail.specs.Desks.{IsPostedIn}

-- numbers of 32 bits, no two equal, are at most as many as there are
pub few_senders : (senders : List ℕ) → IsDistinct ◌==◌ senders → ((i : ℕ) → get_or senders i 0 < 2 ^ 32) → length senders ≤ 2 ^ 32
few_senders senders different small = length-le_from_distinct_below senders (2 ^ 32) different below
  where
    below : (q : ℕ) → list_any (λ x. q == x) senders ≡ true → q < 2 ^ 32
    below q found =
        let h = Contains-from_any {eq = ◌==◌} eqb-true q senders found in
        subst (λ x. x < 2 ^ 32) (get_or_default senders h.0 0 q h.1 ∙ h.2) (small h.0)

pub no_posted : (senders arity : ℕ) (queue : List Posted) → queue ≡ [] → All (IsPostedIn senders arity) queue
no_posted senders arity queue is = subst (All (IsPostedIn senders arity)) (sym is) (All-nil (IsPostedIn senders arity))

-- what is left once one was taken at an end
pub rest_posted : (senders arity : ℕ) (x : Posted) (queue rest : List Posted) → (queue ≡ (x ∷ []) ++ rest) ⊎ (queue ≡ rest ++ (x ∷ [])) → All (IsPostedIn senders arity) queue → All (IsPostedIn senders arity) rest
rest_posted senders arity x queue rest (inl is) h k d lt = subst (All (IsPostedIn senders arity)) is h (suc k) d (omega arith)
rest_posted senders arity x queue rest (inr is) h k d lt =
    subst (IsPostedIn senders arity) (get_or_append_left rest (x ∷ []) d k lt) (subst (All (IsPostedIn senders arity)) is h k d (omega (arith, length-append rest (x ∷ []))))
