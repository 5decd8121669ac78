-- The worked cases of drivers and tasks on their way.
use Rattle.std.proofs.Common.{◌≡◌, ℕ, false, true, List, [], ◌∷◌, ◌++◌, refl, ap, sym, subst, ◌∙◌, arith, append_assoc}
use Rattle.std.specs.List.{All}
use Rattle.std.specs.List.Sorted.{IsPermutation, IsSorted}
use Rattle.std.proofs.lemmas.List.Elements.{All-from_recursion}
use Rattle.std.proofs.lemmas.List.Sorted.{IsPermutation-refl}
use Rattle.hy_job.specs.declared.nested.AggRex.TheVariants as C
use Rattle.hy_job.specs.declared.job.Kind.TheVariants as K
use Rattle.hy_job.specs.Columns.{Row, holds, keys_cmp, state_row}
use Rattle.hy_rest.specs.Words.{Signal, Open, Rows, Fail, Close, is_fail}
use Rattle.hy_job.specs.Settled.{IsFailedSoFar, IsLiveSoFar}
use Rattle.hy_job.specs.Cases.{row_of, is_text, act}
use Rattle.hy_job.specs.SettledCases.{checking, take_first}
use Rattle.hy_job.specs.RunCases.{InputsApart, LimitGoesOn, EmitsWhatIsLeft, LastRowOnce, failing_record, FailedSoFar, passing_record, LiveSoFar}
use Rattle.hy_job.proofs.FreeLaws.{IsPermutation-one}
use Rattle.hy_job.proofs.CheckCases.{told, failed_part}
use Rattle.hy_job.proofs.Members.{in_here}
use Rattle.hy_job.proofs.Stopped.{passes_at_last}

pub received : InputsApart
received = refl

pub limit_goes_on : LimitGoesOn
limit_goes_on out = (λ h. h, λ h. h)

pub emits_what_is_left : EmitsWhatIsLeft
emits_what_is_left keys out = (
  λ h. IsPermutation-one (row_of 2) out h.0,
  λ e. subst (λ xs. IsPermutation (row_of 2 ∷ []) xs × IsSorted (keys_cmp keys) xs) (sym e) (IsPermutation-refl (row_of 2 ∷ []), λ k d low high. absurd (omega arith)),
)

pub last_row : LastRowOnce
last_row out = ((λ h. h.2 ∙ ap (λ row. row ∷ []) h.1, λ e. (state_row (C.CountAll ∷ []) [], refl, e)), (λ h. h, λ h. h))

module _ (set name text : List ℕ) (row : Row) where
  so_far_told : IsFailedSoFar (checking set name text) (act 1 (K.Check name (is_text text)) 2) 0 (failing_record name row) (λ r. Fail ∷ Close ∷ []) → holds (is_text text) row ≡ false
  so_far_told h = told set name text row (record {
    before = h.before;
    behind = h.behind ++ take_first Close ∷ [];
    took = ap (λ xs. xs ++ take_first Close ∷ []) h.took ∙ append_assoc h.before h.behind (take_first Close ∷ []);
    takes_no_fail = h.takes_no_fail;
    put = h.put;
    ends = h.ends;
    part = h.part;
    cause = h.cause;
  })

  so_far_made : holds (is_text text) row ≡ false → IsFailedSoFar (checking set name text) (act 1 (K.Check name (is_text text)) 2) 0 (failing_record name row) (λ r. Fail ∷ Close ∷ [])
  so_far_made e = record {
    before = take_first Open ∷ take_first (Rows (row ∷ [])) ∷ [];
    behind = [];
    took = refl;
    takes_no_fail = All-from_recursion (λ t. is_fail t.signal ≡ false) (take_first Open ∷ take_first (Rows (row ∷ [])) ∷ []) (refl, (refl, tt));
    put = λ r. Open ∷ [];
    ends = λ to is. refl;
    part = failed_part set name text row;
    cause = (refl, (row, in_here row [], e));
  }

  no_fail_owed : IsFailedSoFar (checking set name text) (act 1 (K.Check name (is_text text)) 2) 0 (failing_record name row) (λ r. Close ∷ []) → ⊥
  no_fail_owed h = by (h.put 0) (h.ends 0 refl)
    where
      by : (word : List (Signal Row)) → Open ∷ Close ∷ [] ≡ word ++ Fail ∷ Close ∷ [] → ⊥
      by [] e = cc
      by (x ∷ []) e = cc
      by (x ∷ y ∷ []) e = cc
      by (x ∷ y ∷ z ∷ word) e = cc

  live : (worked left : List Row) → IsPermutation (row ∷ []) (worked ++ left) → All (λ r. holds (is_text text) r ≡ true) worked → IsLiveSoFar (checking set name text) (act 1 (K.Check name (is_text text)) 2) 0 (passing_record row) left
  live worked left p h = record {
    takes_no_fail = All-from_recursion (λ t. is_fail t.signal ≡ false) (passing_record row).took (refl, (refl, (refl, tt)));
    puts_no_fail = λ to is. All-from_recursion (λ s. is_fail s ≡ false) (Open ∷ Rows (row ∷ []) ∷ Close ∷ []) (refl, (refl, (refl, tt)));
    worked = worked;
    all = p;
    passed = h;
  }

pub failed_so_far : FailedSoFar
failed_so_far set name text row = ((so_far_told set name text row, so_far_made set name text row), no_fail_owed set name text row)

pub live_so_far : LiveSoFar
live_so_far set name text row = (
  live set name text row [] (row ∷ []) (IsPermutation-refl (row ∷ [])) (λ k d lt. absurd (omega (arith, lt))),
  (
    λ h. passes_at_last (checking set name text) (act 1 (K.Check name (is_text text)) 2) 0 (passing_record row) h 0 row (omega arith),
    λ e. live set name text row (row ∷ []) [] (IsPermutation-refl (row ∷ [])) (All-from_recursion (λ r. holds (is_text text) r ≡ true) (row ∷ []) (e, tt)),
  ),
)
