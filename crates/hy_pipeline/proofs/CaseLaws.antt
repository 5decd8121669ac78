-- The worked cases.
use Rattle.std.proofs.Common.{◌≡◌, ◌<◌, ℕ, zero, suc, List, [], ◌∷◌, refl, ap, ◌∙◌, arith}
use Rattle.hy_rest.specs.Words.{Close}
use Rattle.hy_job.specs.Settled.{Take}
use Rattle.hy_mail.specs.declared.parcel.Parcel.TheVariants as P
use Rattle.hy_driver.specs.Rows as X
use Rattle.hy_connect.specs.Outlets.{outlet_at, owed_rows}
use Rattle.hy_output.specs.Cases.{frame, yes}
use Rattle.hy_output.specs.Ways.{offers}
use Rattle.hy_pipeline.specs.Pipeline.{take_of}
use Rattle.hy_pipeline.specs.Cases.{ChecksTest, FailedOwes, FramesAreRows, HandsAreLeft, HandsOfBoth, KeptComesFirst, LeftComesLast, NewWaysAreOfEdges, OfferedToSecond, PutForOne, RowsAreOwed, SwappedAreApart, WaitsForSecond, first_waits, no_row, outlet_with, swapped, yes_row}

abbrev first_input : List Take → ℕ
first_input [] = 0
first_input (t ∷ ts) = t.input

no_one : ◌≡◌ {A = ℕ} zero (suc zero) → ⊥
no_one e = cc

turned_take : take_of 0 1 P.Close ≡ record { input = 1; sender = 0; signal = Close } ∷ [] → ⊥
turned_take e = no_one (ap first_input e)

pub frames_are_rows : FramesAreRows
unfolding X.values_of
frames_are_rows = (refl, λ e. absurd (cc), refl, λ e. turned_take e)

pub put_for_one : PutForOne
put_for_one = (refl, refl, refl)

both_apart : (k m : ℕ) → k < 2 → m < 2 → swapped k ≡ swapped m → k ≡ m
both_apart zero zero a b e = refl
both_apart zero (suc m) a b e = absurd (cc)
both_apart (suc k) zero a b e = absurd (cc)
both_apart (suc zero) (suc zero) a b e = refl
both_apart (suc zero) (suc (suc m)) a b e = absurd (omega (arith, b))
both_apart (suc (suc k)) m a b e = absurd (omega (arith, a))

pub swapped_apart : SwappedAreApart
swapped_apart = (both_apart, λ h. let e = h 0 1 (omega arith) (omega arith) refl in absurd (cc))

pub waits_for_second : WaitsForSecond
waits_for_second = (refl, refl, refl)

pub kept_first : KeptComesFirst
unfolding X.values_of
kept_first = (refl, λ e. absurd (cc), λ e. absurd (cc), refl, λ e. absurd (cc))

pub left_last : LeftComesLast
unfolding X.values_of
left_last = ((refl, refl), λ h. let e = h.0 in absurd (cc), refl, λ e. absurd (cc))

nothing_at : (k : ℕ) → k < 2 → owed_rows (outlet_at (outlet_with (P.Close ∷ []) ∷ outlet_with [] ∷ []) k) ≡ []
nothing_at zero lt = refl
nothing_at (suc zero) lt = refl
nothing_at (suc (suc k)) lt = absurd (omega (arith, lt))

pub rows_owed : RowsAreOwed
unfolding X.values_of
rows_owed = (λ k lt. nothing_at k lt, λ h. let e = h 0 (omega arith) in absurd (cc))

no_place : (k : ℕ) → swapped k ≡ 2 → ⊥
no_place zero e = cc
no_place (suc k) e = cc

at_first : (k : ℕ) → k < 2 → swapped k ≡ 1 → offers (first_waits (P.Frame (frame (yes ∷ [])) ∷ [])) k (no_row ∷ []) (yes_row ∷ no_row ∷ [])
unfolding X.values_of
at_first zero lt e = (tt, record { rest = no_row ∷ []; output = refl; is = refl })
at_first (suc k) lt e = absurd (cc)

pub second_offered : OfferedToSecond
unfolding X.values_of
second_offered = (
  record {
    there = λ k lt e. at_first k lt e;
    none = λ no. absurd (no 0 (omega arith) refl);
  },
  λ h. let p = h.there 0 (omega arith) refl in let e = p.1.is ∙ ap (λ r. yes_row ∷ r) p.1.output in absurd (cc),
  λ h. let p = h.there 1 (omega arith) refl in let e = p.1.is ∙ p.1.output in absurd (cc),
  record { there = λ k lt e. absurd (no_place k e); none = λ no. refl },
  λ h. let e = h.none (λ k lt e. no_place k e) in absurd (cc),
)

-- ---- new ways

nothing_owed : (k : ℕ) → k < 2 → owed_rows (outlet_at (outlet_with [] ∷ outlet_with [] ∷ []) k) ≡ []
nothing_owed zero lt = refl
nothing_owed (suc zero) lt = refl
nothing_owed (suc (suc k)) lt = absurd (omega (arith, lt))

pub new_ways : NewWaysAreOfEdges
unfolding X.values_of
new_ways = (
  refl,
  λ e. absurd (cc),
  λ h. h,
  record { route = refl; count = refl; at_is = λ k lt. refl; owes = nothing_owed },
  λ h. let e = h.count in absurd (cc),
  λ h. let e = h.at_is 0 (omega arith) in absurd (cc),
  λ h. let e = h.owes 0 (omega arith) in absurd (cc),
)

-- ---- tasks

pub failed_owes : FailedOwes
failed_owes = (refl, refl, λ e. absurd (cc), refl, refl, refl)

pub hands_are_left : HandsAreLeft
unfolding X.values_of
hands_are_left = (refl, refl, λ e. absurd (cc))

pub hands_of_both : HandsOfBoth
unfolding X.values_of
hands_of_both = (refl, λ e. absurd (cc))

pub checks_test : ChecksTest
checks_test c name = (refl, refl)
