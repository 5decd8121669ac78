-- The worked cases of stretches.
use Rattle.std.proofs.Common.{◌≡◌, ℕ, pos, negsuc, List, [], ◌∷◌, ◌++◌, refl, ap, arith}
use Rattle.std.proofs.lemmas.List.Elements.{All-cons, All-nil}
use Rattle.al_value.specs.declared.value.Value.TheVariants as V
use Rattle.hy_driver.specs.Rows.{Row}
use Rattle.hy_job.specs.Cases.{row_of}
use Rattle.hy_job.specs.Columns.{key_of}
use Rattle.hy_subplan.specs.Cases.{EqualKeysAreStretch, OtherKeyBreaks, StretchHasTwoTurns}

-- the number that a row begins with
first_number : Row → ℕ
first_number (V.Int (pos n) ∷ row) = n
first_number _ = 0

two_is_one : key_of (0 ∷ []) (row_of 2) ≡ key_of (0 ∷ []) (row_of 1) → ⊥
unfolding first_number
two_is_one e = let same : 2 ≡ 1 = ap first_number e in omega (arith, same)

pub equal_keys_are_stretch : EqualKeysAreStretch
equal_keys_are_stretch = (
  All-cons (λ (r : Row). key_of (0 ∷ []) r ≡ key_of (0 ∷ []) (row_of 1 ++ row_of 2)) (row_of 1 ++ row_of 3) [] refl (All-nil (λ (r : Row). key_of (0 ∷ []) r ≡ key_of (0 ∷ []) (row_of 1 ++ row_of 2))),
  λ h. two_is_one (h 0 (row_of 2) (omega arith)),
)

pub other_key_breaks : OtherKeyBreaks
other_key_breaks = (refl, (λ h. h refl), (λ e. two_is_one e), (λ e. two_is_one e), λ h. h)

pub stretch_has_two_turns : StretchHasTwoTurns
stretch_has_two_turns = (refl, refl)
