-- Which worked cases hold.
use Rattle.std.proofs.Common.{◌≡◌, ◌<◌, ℕ, Bool, true, false, List, [], ◌∷◌, length, get_or, refl, sym, ap, Option, Some, None, pos, arith}
use Rattle.std.specs.Prelude.{All}
use Rattle.std.proofs.lemmas.Int.{ints}
use Rattle.std.proofs.lemmas.List.Elements.{All-cons, All-nil}
use Rattle.al_value.specs.Value.{IsValue}
use Rattle.al_value.specs.declared.value.Value.{Value}
use Rattle.al_value.specs.declared.value.Value.TheVariants as V
use Rattle.hy_mail.specs.declared.parcel.Parcel.{Parcel}
use Rattle.hy_mail.specs.declared.parcel.Parcel.TheVariants.{Open, Fail, Close}
use Rattle.hy_mail.specs.declared.parcel.Posted.{Posted}
use Rattle.hy_mail.specs.Cases as C
use Rattle.hy_mail.specs.Desks.{DeskState, box}

-- ---- words

pub frames_may_come : C.FramesMayCome
frames_may_come f g = tt

pub fail_may_come : C.FailMayCome
fail_may_come f = tt

pub open_is_a_beginning : C.OpenIsABeginning
open_is_a_beginning f = (Close ∷ [], tt)

pub open_is_no_end : C.OpenIsNoEnd
open_is_no_end f h = h

pub fail_is_no_end : C.FailIsNoEnd
fail_is_no_end h = h

pub open_comes_first : C.OpenComesFirst
open_comes_first f h = h.1

pub open_comes_once : C.OpenComesOnce
open_comes_once h = h.1

pub no_frame_behind_fail : C.NoFrameBehindFail
no_frame_behind_fail f h = h.1

pub nothing_behind_close : C.NothingBehindClose
nothing_behind_close p h = h.1

-- ---- rows of values

less_differs : (a b : ℕ) → a ≡ b → a < b → ⊥
less_differs a b same less = omega arith

two_values : (a b : Value) → IsValue a → IsValue b → All IsValue (a ∷ b ∷ [])
two_values a b p q = All-cons IsValue a (b ∷ []) p (All-cons IsValue b [] q (All-nil IsValue))

pub frame_shows_its_values : C.FrameShowsItsValues
frame_shows_its_values = record {
  fields = refl;
  values = All-cons (All IsValue) (V.Null ∷ V.Bool true ∷ []) ((V.Bool false ∷ V.Int (pos 1) ∷ []) ∷ []) (two_values V.Null (V.Bool true) tt tt)
      (All-cons (All IsValue) (V.Bool false ∷ V.Int (pos 1) ∷ []) [] (two_values (V.Bool false) (V.Int (pos 1)) tt (omega (arith, ints))) (All-nil (All IsValue)));
}

-- the field in this place of this row
at : List (List (List ℕ)) → ℕ → ℕ → ℕ
at rows i j = get_or (get_or (get_or rows i []) j []) 0 0

pub frame_shows_no_others : C.FrameShowsNoOthers
unfolding at
frame_shows_no_others h = less_differs 1 2 (sym (ap (λ rows. at rows 0 1) h.fields)) (omega arith)

pub frame_shows_no_other_order : C.FrameShowsNoOtherOrder
unfolding at
frame_shows_no_other_order h = less_differs 0 1 (ap (λ rows. at rows 0 0) h.fields) (omega arith)

pub close_shows_no_row : C.CloseShowsNoRow
close_shows_no_row row h = less_differs 0 1 (ap (λ (rows : List (List (List ℕ))). length rows) h.fields) (omega arith)

pub frame_is_rows_between : C.FrameIsRowsBetween
frame_is_rows_between = (tt, (frame_shows_its_values, (tt, tt)))

pub kinds_are_the_same : C.KindsAreTheSame
kinds_are_the_same h = h.1.0

pub no_signal_is_missing : C.NoSignalIsMissing
no_signal_is_missing h = h.1

-- ---- a desk

no_yes : ◌≡◌ {A = Bool} false true → ⊥
no_yes e = cc

yes_no : ◌≡◌ {A = Bool} true false → ⊥
yes_no e = cc

same_number : (a b : ℕ) → ◌≡◌ {A = Option ℕ} (Some a) (Some b) → a ≡ b
same_number a b e = cc

none_some : (a : ℕ) → ◌≡◌ {A = Option ℕ} None (Some a) → ⊥
none_some a e = cc

-- the number from which the front of the first mailbox is
front_of : DeskState → ℕ
front_of d = (get_or (box d 0).queue 0 (record { from = 9; parcel = Fail })).from

pub senders_have_numbers : C.SendersHaveNumbers
senders_have_numbers = (refl, (1, omega arith, refl), (0, omega arith, refl))

pub others_dont_send : C.OthersDontSend
others_dont_send h = none_some h.0 h.2

pub one_receives : C.OneReceives
one_receives = ((omega arith, refl), λ h. less_differs 2 7 h.1 (omega arith))

pub put_goes_in : C.PutGoesIn
put_goes_in = record { there = omega arith; number = 1; seat = refl; known = omega arith; room = omega arith; fits = refl; arity = tt; is = refl }

pub put_is_its_senders : C.PutIsItsSenders
unfolding front_of
put_is_its_senders h =
    let number : 1 ≡ h.number = same_number 1 h.number h.seat in
    let front : 0 ≡ h.number = ap front_of h.is in
    absurd (omega arith)

pub put_is_not_dropped : C.PutIsNotDropped
put_is_not_dropped h = less_differs 0 1 (ap (λ (d : DeskState). length (box d 0).queue) h.is) (omega arith)

pub words_are_apart : C.WordsAreApart
words_are_apart = (refl, refl)

pub open_once : C.OpenOnce
open_once e h = no_yes h.fits

pub frames_have_the_arity : C.FramesHaveTheArity
frames_have_the_arity e h = less_differs 1 2 (sym h.arity) (omega arith)

pub full_is_counted : C.FullIsCounted
full_is_counted = (omega arith, omega arith, refl)

pub full_takes_no_more : C.FullTakesNoMore
full_takes_no_more e h = let room = h.room in absurd (omega arith)

pub room_is_not_full : C.RoomIsNotFull
room_is_not_full e h = let full = h.1 in absurd (omega arith)

pub front_is_taken : C.FrontIsTaken
front_is_taken = record { there = omega arith; mine = refl; rest = record { from = 0; parcel = Close } ∷ []; queue = refl; sender = omega arith; arity = tt; is = refl }

open_close : ◌≡◌ {A = Parcel} Open Close → ⊥
open_close e = cc

pub last_is_not_taken : C.LastIsNotTaken
last_is_not_taken e h = open_close (ap (λ (q : List Posted). (get_or q 0 (record { from = 9; parcel = Fail })).parcel) h.queue)

pub empty_is_counted : C.EmptyIsCounted
empty_is_counted = (omega arith, refl, refl)

pub some_is_not_empty : C.SomeIsNotEmpty
some_is_not_empty e h = less_differs 0 1 (sym (ap (λ (q : List Posted). length q) h.1)) (omega arith)

pub not_raised_at_first : C.NotRaisedAtFirst
not_raised_at_first e h = yes_no h.0

pub raise_is_seen : C.RaiseIsSeen
raise_is_seen = (refl, (refl, refl))

pub raise_is_not_unseen : C.RaiseIsNotUnseen
raise_is_not_unseen e h = no_yes h.0

pub refusals_count : C.RefusalsCount
refusals_count = (refl, refl, refl, refl, refl)
