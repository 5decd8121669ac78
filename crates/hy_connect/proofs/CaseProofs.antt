-- Worked cases, and which rows go where.
use Rattle.std.proofs.Common.{◌≡◌, ℕ, zero, suc, true, true≢false, List, [], ◌∷◌, length, if◌then◌else◌, nat_eq, refl, sym, ap, arith, eq-eqb}
use Rattle.hy_frame.specs.Row.{Fields}
use Rattle.hy_frame.specs.declared.writer.WriterState.TheVariants.{Opened}
use Rattle.hy_job.specs.declared.job.Wire.TheVariants as W
use Rattle.hy_job.specs.Columns.{key_hash}
use Rattle.hy_driver.specs.Rows.{Row, values_of}
use Rattle.hy_connect.specs.Cases.{BothHaveToClose, CountsEnd, EachHasABox, EmptyIsNotSent, ExportsWhatWaits, FilledIsOwed, FramesAreCounted, HashSplits, NothingBehindFail, TasksFollow, TwoShareABox, WaitingComesFirst, WordsAreBehind, null_row, to_two, true_frame, true_row}
use Rattle.hy_connect.specs.Takers.{HaveClosed}
use Rattle.hy_connect.specs.Writers.{IsAsFar}
use Rattle.hy_mail.specs.declared.parcel.Parcel.TheVariants as P
use Rattle.hy_connect.specs.Routes.{PlacesReceive, RoutesAreWires}

-- ---- which rows go where

-- the receiver of a wire to one is found
one_of : (k : ℕ) (rows : List Row) → rows ≡ (if nat_eq k k then rows else [])
one_of k rows = ap (λ b. if b then rows else []) (sym (eq-eqb k k refl))

pub routes_are_wires : RoutesAreWires
routes_are_wires W.OneToOne n j k rows = one_of j rows
routes_are_wires (W.Hash columns) n j k rows = refl
routes_are_wires W.Broadcast n j k rows = refl
routes_are_wires W.Gather n j k rows = refl
routes_are_wires (W.Merge keys) n j k rows = refl

pub places_receive : PlacesReceive
places_receive W.OneToOne n j k low = refl
places_receive (W.Hash columns) n j k low = low
places_receive W.Broadcast n j k low = low
places_receive W.Gather n j k low = refl
places_receive (W.Merge keys) n j k low = refl

-- ---- worked cases

no_less : (a b : Row) (rest : List Row) → rest ≡ b ∷ [] → b ∷ [] ≡ a ∷ rest → ⊥
no_less a b rest e h = let l : 1 ≡ suc (length rest) = ap (λ (r : List Row). length r) h in let m : length rest ≡ 1 = ap (λ (r : List Row). length r) e in absurd (omega arith)

pub waiting_comes_first : WaitingComesFirst
unfolding values_of
waiting_comes_first = (
  (tt, record { rest = null_row ∷ []; output = refl; is = refl }),
  (λ h. no_less true_row null_row h.1.rest h.1.output h.1.is),
  (tt, record { rest = null_row ∷ []; output = refl; is = refl }),
)

some_none : (a : Row) (rest : List Row) → a ∷ rest ≡ [] → ⊥
some_none a rest e = cc

pub nothing_behind_fail : NothingBehindFail
unfolding values_of
nothing_behind_fail =
    ((refl, record { rest = []; output = refl; is = refl }), (λ h. some_none null_row [] h.0), (λ h. some_none null_row [] h.0))

pub filled_is_owed : FilledIsOwed
unfolding values_of
filled_is_owed = ((tt, record { rest = []; output = refl; is = refl }), (λ h. some_none null_row h.1.rest (sym h.1.is)))

far : IsAsFar (λ m. Opened) (to_two Opened (P.Frame true_frame ∷ []))
far zero low = (refl, refl)
far (suc zero) low = refl
far (suc (suc k)) low = absurd (omega arith)

pub words_are_behind : WordsAreBehind
words_are_behind = ((λ h. true≢false (sym (h 0 (omega arith)).0)), far, (λ h. true≢false (sym (h 0 (omega arith)).0)))

one_row : (row : Fields) → row ∷ [] ≡ [] → ⊥
one_row row e = cc

pub empty_is_not_sent : EmptyIsNotSent
empty_is_not_sent = ((λ h. h.some refl), record { wide = refl; some = one_row ((2 ∷ []) ∷ []) }, (λ h. let e = h.wide in absurd (omega arith)))

pub frames_are_counted : FramesAreCounted
frames_are_counted = (refl, refl, (λ e. absurd (omega arith)), (λ e. absurd (omega arith)))

pub exports_what_waits : ExportsWhatWaits
exports_what_waits = (
  record { no_less = omega arith; exported = λ low. refl; imported = refl },
  (λ h. let e = h.exported (omega arith) in absurd (omega arith)),
  (λ h. let e = h.exported (omega arith) in absurd (omega arith)),
  (λ h. let e = h.imported in absurd (omega arith)),
  (λ h. let e = h.no_less in absurd (omega arith)),
)

pub counts_end : CountsEnd
counts_end = (
  record { no_less = omega arith; exported = λ low. absurd (omega arith); imported = refl },
  (λ h. let e = h.exported (omega arith) in absurd (omega arith)),
)

both : HaveClosed (true ∷ true ∷ [])
both zero low = refl
both (suc zero) low = refl
both (suc (suc s)) low = absurd (omega arith)

pub both_have_to_close : BothHaveToClose
both_have_to_close = (both, (λ h. true≢false (sym (h 1 (omega arith)))), (λ s low. absurd (omega arith)))

pub hash_splits : HashSplits
unfolding key_hash
hash_splits = (refl, refl)

pub two_share_a_box : TwoShareABox
two_share_a_box = refl

pub each_has_a_box : EachHasABox
each_has_a_box = (refl, refl)

pub tasks_follow : TasksFollow
tasks_follow = (refl, refl)
