-- The worked cases.
use Rattle.std.proofs.Common.{◌≡◌, ◌≢◌, ◌<◌, ◌≤◌, ℕ, zero, suc, Bool, true, false, List, [], ◌∷◌, refl, ap, sym, subst, ◌∙◌, arith}
use Rattle.std.specs.List.{AllByRecursion}
use Rattle.std.specs.Prelude.{slice_index_or}
use Rattle.hy_job.specs.Sound.{width_in}
use Rattle.hy_input.specs.Laws.{HasRowsOf}
use Rattle.hy_pipeline.specs.Tests.{at_hand}
use Rattle.hy_job.proofs.Members.{no_bool}
use Rattle.hy_driver.specs.Forms.{may_come}
use Rattle.hy_frame.specs.Row.{Fields}
use Rattle.hy_frame.specs.declared.writer.WriterState.{WriterState}
use Rattle.al_func.specs.declared.rex.Rex.{Rex}
use Rattle.hy_frame.specs.declared.writer.WriterState.TheVariants.{Opened, Closed}
use Rattle.hy_job.specs.Runs.{IsSender}
use Rattle.hy_job.specs.Settled as S
use Rattle.hy_mail.specs.declared.parcel.Parcel.{Parcel}
use Rattle.hy_mail.specs.declared.parcel.Parcel.TheVariants as P
use Rattle.hy_driver.specs.Rows as X
use Rattle.hy_driver.specs.Rows.{Fed, Row}
use Rattle.hy_driver.specs.declared.phase.Phase.TheVariants.{Ended, Hungry}
use Rattle.hy_output.specs.Cases.{frame, yes}
use Rattle.hy_output.specs.Ways.{offers, rows_waiting, waiting}
use Rattle.hy_input.specs.Inputs.{HasEnded}
use Rattle.hy_course.specs.Cases.{passing, results, selects}
use Rattle.hy_pipeline.specs.Cases.{no_row, swapped, yes_row}
use Rattle.hy_pipeline.proofs.CaseLaws.{swapped_apart}
use Rattle.hy_task.specs.Standing.{IsFrom, IsPlaced, IsSuited, Lives}
use Rattle.hy_task.specs.Cases.{EndsWithoutDuties, FailWaitsInOne, FaultsAreOutcomes, FaultsAreRaised, FilledIsOwed, FinishedLeavesNothing, HandsOnByWay, PlacesAreReceivers, RowsAtHandAreToCome, SendersAreOfEdges, TellsWhatIsLeft, ThroughHasTested, both_wait, first_ended, first_input, hungry, of_one, owing}

-- ---- places and senders

to_swapped : (k : ℕ) → k < 2 → swapped k < 2
to_swapped zero lt = omega arith
to_swapped (suc k) lt = omega arith

from_swapped : (r : ℕ) → r < 2 → (k : ℕ) × (k < 2) × (swapped k ≡ r)
from_swapped zero lt = (1, omega arith, refl)
from_swapped (suc zero) lt = (0, omega arith, refl)
from_swapped (suc (suc r)) lt = absurd (omega (arith, lt))

swapped_placed : (set : List ℕ) (c : Rex) (first second : List Parcel) (state : WriterState) → IsPlaced (passing set c) (selects c) 1 swapped (both_wait first second state)
swapped_placed set c first second state = record {
  apart = swapped_apart.0;
  receiver = λ k lt. (to_swapped k lt, to_swapped k lt);
  reached = λ r is. from_swapped r is;
}

pub places_are_receivers : PlacesAreReceivers
places_are_receivers set c = (
  record {
    apart = swapped_apart.0;
    receiver = λ k lt. (to_swapped k lt, to_swapped k lt);
    reached = λ r is. from_swapped r is;
  },
  λ h. let e = h.apart 0 1 (omega arith) (omega arith) refl in absurd (cc),
  λ h. let lt = (h.receiver 1 (omega arith)).1 in absurd (omega (arith, lt)),
  λ h. let lt = (h.reached 0 (omega arith)).1 in absurd (omega (arith, lt)),
)

one_sends : (set : List ℕ) (c : Rex) (p : ℕ) → p ≡ 1 → IsSender (passing set c) (selects c) 1 0 p
one_sends set c p e = subst (IsSender (passing set c) (selects c) 1 0) (sym e) (record { known = omega arith; within = omega arith; sends = refl })

both_send : (set : List ℕ) (c : Rex) (p : ℕ) → p < 2 → IsSender (passing set c) results 1 0 p
both_send set c p lt = record { known = omega arith; within = lt; sends = omega arith }

scan_from : (set : List ℕ) (c : Rex) (closed : Bool) (rows : List Fields) (next : ℕ) → IsFrom (passing set c) (selects c) 1 0 (of_one 1 (closed ∷ []) rows next)
scan_from set c closed rows next = record {
  sender = λ m n p s. one_sends set c p s.2;
  sent = λ p is. (3, 0, (refl, omega arith, sym is.sends));
}

pub senders_are_of_edges : SendersAreOfEdges
senders_are_of_edges set c = (
  scan_from set c false [] 0,
  λ h. let e = (h.sender 3 0 0 (refl, omega arith, refl)).sends in absurd (omega (arith, e)),
  λ h. let s = (h.sent 1 (one_sends set c 1 refl)).2 in absurd (let lt = s.1 in omega (arith, lt)),
  record {
    sender = λ m n p s. both_send set c p (subst (λ q. q < 2) (sym s.2) s.1);
    sent = λ p is. (3, p, (refl, is.within, refl));
  },
  λ h. let s = (h.sent 1 (both_send set c 1 (omega arith))).2 in absurd (let lt = s.1 in let e = s.2 in omega (arith, lt, e)),
  λ h. let lt = (h.sender 3 2 2 (refl, omega arith, refl)).within in absurd (omega (arith, lt)),
)

-- ---- operators

only_none : (took : List Fed) (put owed : List Row) → (took ≡ []) × (put ≡ owed) → (took ≡ []) × (put ≡ owed)
only_none took put owed h = h

ended_all : (k : ℕ) → first_ended true k ≡ true
ended_all zero = refl
ended_all (suc k) = refl

none_comes : (ended : ℕ → Bool) → ((k : ℕ) → ended k ≡ true) → (took : List Fed) → may_come ended (λ k. 1) took → took ≡ []
none_comes ended all [] may = refl
none_comes ended all (x ∷ took) may = absurd (no_bool (sym (all x.0) ∙ may.0.0))

hungry_apart : Hungry ≡ Ended → ⊥
hungry_apart e = cc

pub tells_what_is_left : TellsWhatIsLeft
tells_what_is_left = (
  record {
    sound = tt;
    alive = λ took may. (yes_row ∷ [], (none_comes (first_ended true) ended_all took may, refl));
    over = λ e. record { finished = record { some = (refl, refl); only = λ took put h. h }; makes = refl };
  },
  λ h. let e = ((h.over refl).finished.some).1 in absurd (cc),
  record {
    sound = tt;
    alive = λ took may. (yes_row ∷ [], (none_comes (first_ended true) ended_all took may, refl));
    over = λ e. absurd (hungry_apart e);
  },
)

pub through_has_tested : ThroughHasTested
through_has_tested = (
  record { ended = ended_all; untested = refl },
  λ h. let e = h.ended 0 in absurd (cc),
  λ h. let e = h.untested in absurd (cc),
)

-- ---- what goes out

only_in : (k : ℕ) → k < 2 → (put : List Row) → offers (both_wait (P.Frame (frame (yes ∷ [])) ∷ P.Close ∷ []) (P.Close ∷ []) Closed) k [] put → put ≡ rows_waiting (both_wait (P.Frame (frame (yes ∷ [])) ∷ P.Close ∷ []) (P.Close ∷ []) Closed) k
unfolding X.values_of
only_in zero lt put may = may.1.is ∙ ap (λ (rest : List Row). yes_row ∷ rest) may.1.output
only_in (suc zero) lt put may = may.1.is ∙ may.1.output
only_in (suc (suc k)) lt put may = absurd (omega (arith, lt))

pub filled_is_owed : FilledIsOwed
unfolding X.values_of
filled_is_owed = (
  only_in,
  λ h. let e = h 1 (omega arith) (no_row ∷ []) (refl, record { rest = []; output = refl; is = refl }) in absurd (cc),
)

no_fail_in : (k : ℕ) → k < 2 → AllByRecursion (λ p. p ≢ P.Fail) (waiting (both_wait (P.Open ∷ P.Close ∷ []) (P.Frame (frame (yes ∷ [])) ∷ P.Close ∷ []) Closed) k)
no_fail_in zero lt = (λ e. absurd (cc), (λ e. absurd (cc), tt))
no_fail_in (suc zero) lt = (λ e. absurd (cc), (λ e. absurd (cc), tt))
no_fail_in (suc (suc k)) lt = absurd (omega (arith, lt))

pub fail_waits_in_one : FailWaitsInOne
fail_waits_in_one = (
  no_fail_in,
  λ h. (h 1 (omega arith)).1.0 refl,
  λ h. (h 0 (omega arith)).0 refl,
)

-- ---- the task

pub hands_on_by_way : HandsOnByWay
unfolding X.values_of
hands_on_by_way = (refl, λ e. absurd (cc), refl, refl)

only_closes : (k : ℕ) → k < 2 → (put : List Row) → offers (both_wait (P.Close ∷ []) (P.Close ∷ []) Closed) k [] put → put ≡ rows_waiting (both_wait (P.Close ∷ []) (P.Close ∷ []) Closed) k
only_closes zero lt put may = may.1.is ∙ may.1.output
only_closes (suc zero) lt put may = may.1.is ∙ may.1.output
only_closes (suc (suc k)) lt put may = absurd (omega (arith, lt))

pub finished_leaves_nothing : FinishedLeavesNothing
unfolding X.values_of
finished_leaves_nothing = (
  record { phase = refl; packed_is = refl; waits = only_closes; quiet = refl },
  λ h. hungry_apart h.phase,
  λ h. let e = h.packed_is in absurd (cc),
  λ h. let e = h.quiet in absurd (cc),
)

-- past its one input there is none
none_beyond : (rows : List Fields) (next : ℕ) (ended : Bool) (k : ℕ) → 1 ≤ k → (first_ended ended k ≡ true) × (at_hand (first_input (of_one 1 (false ∷ []) rows next) k) ≡ [])
none_beyond rows next ended zero le = absurd (omega (arith, le))
none_beyond rows next ended (suc k) le = (refl, refl)

open_no_fail : (k : ℕ) → k < 2 → AllByRecursion (λ p. p ≢ P.Fail) (waiting (both_wait (P.Open ∷ []) [] Opened) k)
open_no_fail zero lt = (λ e. absurd (cc), tt)
open_no_fail (suc zero) lt = tt
open_no_fail (suc (suc k)) lt = absurd (omega (arith, lt))

row_at_hand : (k : ℕ) → k < 1 → HasRowsOf (first_input (of_one 1 (false ∷ []) (yes ∷ []) 0) k) 1
unfolding X.values_of
row_at_hand zero lt = ((refl, (tt, tt)), tt)
row_at_hand (suc k) lt = absurd (omega (arith, lt))

hungry_lives : (c : Rex) → Lives (selects c) (hungry (yes ∷ []) 0 false (both_wait (P.Open ∷ []) [] Opened))
hungry_lives c = record {
  going = λ e. absurd (cc);
  wide = row_at_hand;
  beyond = none_beyond (yes ∷ []) 0 false;
  told = λ k lt e. absurd (first_open k lt e);
  over = λ e. absurd (hungry_apart e);
  no_fail = open_no_fail;
  stage = tt;
}
  where
    first_open : (k : ℕ) → k < 1 → first_ended false k ≡ true → ⊥
    first_open zero lt e = cc
    first_open (suc k) lt e = omega (arith, lt)

pub rows_at_hand_are_to_come : RowsAtHandAreToCome
unfolding X.values_of
rows_at_hand_are_to_come c = (
  hungry_lives c,
  λ h. let e = (h.told 0 (omega arith) refl).1 in absurd (cc),
  λ h. (h.no_fail 0 (omega arith)).1.0 refl,
  λ h. let e = (h.wide 0 (omega arith)).0.0 in absurd (cc),
  λ h. hungry_apart h.stage.phase,
)

pub faults_are_raised : FaultsAreRaised
faults_are_raised set c = (
  record {
    placed = swapped_placed set c (P.Open ∷ []) [] Opened;
    from = from_first set c;
    suited = suited set c;
    raises = refl;
    lives = λ e. hungry_lives c;
    fails = λ failed. absurd (failed refl);
  },
  λ h. let e = h.raises in absurd (cc),
  record {
    placed = swapped_placed set c (P.Open ∷ []) [] Opened;
    from = from_first set c;
    suited = suited set c;
    raises = refl;
    lives = λ e. absurd (cc);
    fails = λ failed e. absurd (cc);
  },
  λ h. let e = h.raises in absurd (cc),
  λ h. let e = h.raises in absurd (cc),
  λ h. h.fails (λ e. absurd (cc)) refl,
)
  where
    from_first : (set : List ℕ) (c : Rex) (k : ℕ) → k < 1 → IsFrom (passing set c) (selects c) 1 k (first_input (of_one 1 (false ∷ []) (yes ∷ []) 0) k)
    from_first set c zero lt = scan_from set c false (yes ∷ []) 0
    from_first set c (suc k) lt = absurd (omega (arith, lt))

    suited : (set : List ℕ) (c : Rex) → IsSuited (passing set c) (selects c) (owing [] false Hungry [] [])
    suited set c = record { widths = one_wide set c; check = refl }
      where
        one_wide : (set : List ℕ) (c : Rex) (k : ℕ) → k < 1 → 1 ≡ width_in (passing set c) 1 k
        one_wide set c zero lt = refl
        one_wide set c (suc k) lt = absurd (omega (arith, lt))

none_left : (k : ℕ) → k < 2 → waiting (both_wait [] [] Closed) k ≡ []
none_left zero lt = refl
none_left (suc zero) lt = refl
none_left (suc (suc k)) lt = absurd (omega (arith, lt))

pub ends_without_duties : EndsWithoutDuties
ends_without_duties c = (
  record { closed = refl; idle = none_left; ended = closed_first; owes_raise = refl },
  λ h. let e = h.idle 1 (omega arith) in absurd (cc),
  λ h. let e = h.ended 0 (omega arith) 0 (omega arith) in absurd (cc),
  λ h. let e = h.owes_raise in absurd (cc),
)
  where
    closed_first : (k : ℕ) → k < 1 → HasEnded (first_input (of_one 1 (true ∷ []) [] 0) k)
    closed_first zero lt = λ s low. one_closed s low
      where
        one_closed : (s : ℕ) → s < 1 → slice_index_or (true ∷ []) s true ≡ true
        one_closed zero low = refl
        one_closed (suc s) low = absurd (omega (arith, low))
    closed_first (suc k) lt = absurd (omega (arith, lt))

store_apart : S.Store ≡ S.NoMemory → ⊥
store_apart e = cc

pub faults_are_outcomes : FaultsAreOutcomes
faults_are_outcomes name = (refl, refl, refl, store_apart)
