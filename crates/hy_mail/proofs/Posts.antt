-- Parcels by their senders.
use Rattle.std.proofs.Common.{◌≡◌, ◌≢◌, ◌==◌, ℕ, false, List, [], ◌∷◌, ◌++◌, refl, Option, Some, None, inl, inr}
use Rattle.std.proofs.lemmas.Bool.{cases_Bool}
use borrow.Author.Tests.{eqb-true}
use Rattle.hy_mail.specs.declared.parcel.Posted.{Posted}
use Rattle.hy_mail.specs.DeskRuns.{of_sender}

pub differs : (a b : ℕ) → a ≢ b → (a == b) ≡ false
differs a b n = elim (cases_Bool (a == b)) [ inl y ↦ absurd (n (eqb-true a b y)) | inr m ↦ m ]

pub same_some : (a b : ℕ) → ◌≡◌ {A = Option ℕ} (Some a) (Some b) → a ≡ b
same_some a b e = cc

pub none_some : (a : ℕ) → ◌≡◌ {A = Option ℕ} None (Some a) → ⊥
none_some a e = cc

pub of_append : (p : ℕ) (xs ys : List Posted) → of_sender p (xs ++ ys) ≡ of_sender p xs ++ of_sender p ys
unfolding of_sender
of_append p [] ys = refl
of_append p (x ∷ xs) ys =
    elim (cases_Bool (x.from == p)) [
      | inl y ↦ rw (y, of_append p xs ys) refl
      | inr n ↦ rw (n, of_append p xs ys) refl
    ]
