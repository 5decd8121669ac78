-- The worked cases.
use Rattle.std.proofs.Common.{◌≡◌, ◌<◌, inl, inr, ℕ, zero, suc, nat_lt, Bool, true, false, true≢false, ◌&&◌, List, [], ◌∷◌, Some, None, refl, sym, ap, subst, ◌∙◌, arith}
use Rattle.std.proofs.lemmas.List.Elements.{All-from_recursion}
use Rattle.al_value.specs.declared.value.Value.TheVariants as V
use Rattle.hy_frame.specs.Row.{Fields, IsRow}
use Rattle.hy_job.specs.Columns.{Interleaves, Takes}
use Rattle.hy_driver.specs.Rows.{Row, values_of}
use Rattle.hy_connect.specs.Cases.{false_row, true_frame, true_row}
use Rattle.hy_connect.specs.MergeCases.{by_first, has_closed, sends_true}
use Rattle.hy_connect.specs.Merges.{IsMerge}
use Rattle.hy_connect.specs.Sources.{AllClosed, IsWanted, Lacks, NoneAtHand, SourceOf, source_at}
use Rattle.hy_connect.specs.Takers.{HaveClosed, IsGoing}
use Rattle.hy_connect.proofs.MergeCaseProofs.{first_bare_is_wanted, lesser_is_first}
use Rattle.hy_input.specs.Cases.{CloseCountsOnce, CloseIsItsSenders, DoneWhereNoneIsLeft, FirstBareIsAsked, MailboxesHaveWidth, RowsAreHeld, RowsAreKept, SendersStay, from_box, FramesAreHeld, FramesComeWhole, GivingUpKeepsNone, HandIsBrought, LesserIsBrought, OpenSendersSend, RowsComeOneByOne, RowsHaveWidth, SendersHavePartitions, WantedWhereNoneIsLeft, comes, gave_back, two_rows}
use Rattle.hy_input.proofs.Taking.{many_closes, many_rests, many_rows, one_closes}

-- whether the first row is TRUE
begins_true : List Row → Bool
begins_true ((V.Bool b ∷ row) ∷ rows) = b
begins_true _ = false

some_row : (x : Fields) (xs : List Fields) → x ∷ xs ≡ [] → ⊥
some_row x xs e = cc

some_value : (x : Row) (xs : List Row) → [] ≡ x ∷ xs → ⊥
some_value x xs e = cc

not_less : (n : ℕ) → n < n → ⊥
not_less n low = omega (arith, low)

not_none : (n : ℕ) → suc n ≡ 0 → ⊥
not_none n e = omega (arith, e)

-- ---- rows

pub hand_is_brought : HandIsBrought
unfolding values_of begins_true
hand_is_brought = (refl, (λ e. true≢false (ap begins_true e)), (λ e. true≢false (ap begins_true e)))

pub lesser_is_brought : LesserIsBrought
unfolding values_of
lesser_is_brought = (
  (((refl, refl), tt), record { rest = false_row ∷ true_row ∷ []; output = lesser_is_first.0; is = refl }),
  (λ h. lesser_is_first.1 (subst (IsMerge by_first ((true_row ∷ []) ∷ (false_row ∷ []) ∷ [])) (sym h.1.is) h.1.output)),
  (λ h. true≢false h.0.0.1),
)

-- ---- senders

pub close_is_its_senders : CloseIsItsSenders
close_is_its_senders = (refl, refl, refl, refl, refl, refl, refl)

both_closed : HaveClosed (true ∷ true ∷ [])
both_closed zero low = refl
both_closed (suc zero) low = refl
both_closed (suc (suc s)) low = absurd (omega (arith, low))

second_goes : IsGoing (true ∷ false ∷ [])
second_goes h = true≢false (sym (h 1 (omega arith)))

pub wanted_where_none_is_left : WantedWhereNoneIsLeft
wanted_where_none_is_left = (
  (refl, second_goes),
  (λ w. some_row ((1 ∷ []) ∷ []) [] w.0),
  (λ w. w.1 both_closed),
  (1, first_bare_is_wanted.0),
  (λ w. first_bare_is_wanted.3 w.0 w.1.there w.1.lacks),
)

closed_both : AllClosed (has_closed ∷ has_closed ∷ [])
closed_both zero low = refl
closed_both (suc zero) low = refl
closed_both (suc (suc s)) low = absurd (omega (arith, low))

none_of_both : NoneAtHand (has_closed ∷ has_closed ∷ [])
none_of_both zero low = refl
none_of_both (suc zero) low = refl
none_of_both (suc (suc s)) low = absurd (omega (arith, low))

pub done_where_none_is_left : DoneWhereNoneIsLeft
done_where_none_is_left = (
  both_closed,
  (λ d. some_row ((1 ∷ []) ∷ []) [] d.1),
  (both_closed, refl),
  second_goes,
  (closed_both, none_of_both),
  (λ d. true≢false (sym (d.0 1 (omega arith)))),
)

pub senders_have_partitions : SendersHavePartitions
senders_have_partitions = (
  (refl, omega arith, refl),
  (λ h. not_none 0 (sym h.2)),
  (refl, omega arith, refl),
  (λ h. not_none 0 h.2),
  (omega arith, refl, refl),
  (λ h. not_none 0 h.2),
  (λ h. not_less 2 h.0),
)

-- ---- frames

pub frames_are_held : FramesAreHeld
frames_are_held = (refl, refl, refl)

-- where the first has none, what the second sends comes as it is
second_alone : Interleaves ([] ∷ (true_row ∷ false_row ∷ []) ∷ []) (true_row ∷ false_row ∷ [])
unfolding Interleaves Takes
second_alone = (
  [] ∷ (false_row ∷ []) ∷ [],
  inr ((false_row ∷ []) ∷ [], inl (false_row ∷ [], refl, refl), refl),
  (
    [] ∷ [] ∷ [],
    inr ([] ∷ [], inl ([], refl, refl), refl),
    All-from_recursion (λ (xs : List Row). xs ≡ []) ([] ∷ [] ∷ []) (refl, (refl, tt)),
  ),
)

pub frames_come_whole : FramesComeWhole
unfolding values_of begins_true
frames_come_whole = (
  many_rows (record { mailbox = 4; closed = false ∷ false ∷ [] }) 1 (Some true_frame) 1 1 two_rows false refl,
  (λ g. let e = (g.brings 0).back [] (false_row ∷ []) refl in true≢false (sym (ap begins_true e))),
  (λ g. let e = (g.brings 0).back [] [] refl in true≢false (sym (ap begins_true e))),
  (λ g.
      let b = (g.brings 0).back (comes 0 1 false_row ∷ []) (true_row ∷ false_row ∷ [])
      (((refl, refl), tt), record { rest = true_row ∷ false_row ∷ []; output = (second_alone, λ sorted. sorted 1 [] (omega arith)); is = refl }) in
      lesser_is_first.1 (subst (IsMerge by_first ((true_row ∷ []) ∷ (false_row ∷ []) ∷ [])) (sym b.1.is) b.1.output)),
  many_rows (record { mailbox = 4; closed = false ∷ false ∷ [] }) 1 None 0 1 two_rows true refl,
  (λ d. true≢false (sym d.given_up)),
)

-- ---- calls

pub close_counts_once : CloseCountsOnce
close_counts_once = (
  many_closes (record { mailbox = 4; closed = false ∷ false ∷ [] }) 1 (Some two_rows) 2 false refl 1 (omega arith),
  (λ c. true≢false (sym (c.closed 0))),
  (λ c. true≢false (c.closed 0)),
  one_closes (record { mailbox = 4; closed = false ∷ [] }) 1 None 0 false refl 0 (omega arith) (omega arith),
  (λ c. true≢false (sym (c.closed 0))),
)

pub rows_come_one_by_one : RowsComeOneByOne
unfolding values_of begins_true
rows_come_one_by_one = (
  record {
    stays = record { from = refl; sends = λ m n p h. h; sent = λ m n p h. h };
    given_up = refl;
    closed = λ p. refl;
    there = (omega arith, omega arith);
    brings = λ k. record { back = λ took put e. ap (λ (rows : List Row). true_row ∷ rows) e };
  },
  (λ g. let e = (g.brings 0).back [] [] refl in true≢false (sym (ap begins_true e))),
  many_rests (record { mailbox = 4; closed = false ∷ false ∷ [] }) 1 (Some two_rows) 2 false refl,
  (λ r. let e = (r.brings 0).back [] [] refl in some_value false_row [] e),
)

same_box : (p : ℕ) → (source_at (sends_true 0 ∷ sends_true 1 ∷ []) p).mailbox ≡ (source_at (gave_back ∷ gave_back ∷ []) p).mailbox
same_box zero = refl
same_box (suc zero) = refl
same_box (suc (suc p)) = refl

same_closed : (p : ℕ) → (source_at (gave_back ∷ gave_back ∷ []) p).closed ≡ (source_at (sends_true 0 ∷ sends_true 1 ∷ []) p).closed
same_closed zero = refl
same_closed (suc zero) = refl
same_closed (suc (suc p)) = refl

pub giving_up_keeps_none : GivingUpKeepsNone
giving_up_keeps_none = (
  record {
    stays = record { from = refl; sends = λ m n p h. h; sent = λ m n p h. h };
    given_up = refl;
    closed = λ p. refl;
    held = refl;
  },
  (λ g. not_none 0 g.held),
  (λ g. true≢false (sym g.given_up)),
  record {
    stays = record { from = refl; sends = λ m n p h. (h.0, h.1 ∙ same_box p, h.2); sent = λ m n p h. (h.0, h.1 ∙ sym (same_box p), h.2) };
    given_up = refl;
    closed = λ p. ap (λ (b : Bool). nat_lt p 2 && b) (same_closed p);
    held = refl;
  },
  (λ g. not_none 0 g.held),
)

pub open_senders_send : OpenSendersSend
open_senders_send = (
  ((λ e. ((4, 1, (refl, omega arith, refl)), refl)), ((λ e. absurd (not_none 1 e)), tt)),
  (λ h. true≢false (h.0 refl).1),
  (λ h. let sent = (h.0 refl).0.2 in let low = sent.1 in let is = sent.2 in omega (arith, low, is)),
)

pub rows_have_width : RowsHaveWidth
unfolding values_of
rows_have_width = (
  ((refl, (tt, tt)), ((refl, (tt, tt)), tt)),
  (λ h. let e = h.0.0 in omega (arith, e)),
  tt,
  (λ h. let e = (h 1 (omega arith)).0.0 in omega (arith, e)),
)

-- ---- who is asked, and what stays

-- a mailbox of its own for each of three senders, of whom the second and the third have no row at hand
abbrev three : List SourceOf
three = from_box 3 0 ∷ from_box 5 1 ∷ from_box 7 1 ∷ []

first_lacks_not : Lacks (source_at three 0) → ⊥
first_lacks_not l = some_row ((2 ∷ []) ∷ []) [] l.none

second_lacks : Lacks (source_at three 1)
second_lacks = record { going = refl; none = refl }

second_wanted : IsWanted three 1
second_wanted = record { there = omega arith; lacks = second_lacks; first = before }
  where
    before : (j : ℕ) → j < 1 → Lacks (source_at three j) → ⊥
    before zero low l = first_lacks_not l
    before (suc j) low l = absurd (omega (arith, low))

only_second : (s : ℕ) → IsWanted three s → s ≡ 1
only_second zero w = absurd (first_lacks_not w.lacks)
only_second (suc zero) w = refl
only_second (suc (suc s)) w = absurd (w.first 1 (omega arith) second_lacks)

box_of_second : (s m : ℕ) → IsWanted three s → m ≡ (source_at three s).mailbox → m ≡ 5
box_of_second s m w e = e ∙ ap (λ (k : ℕ). (source_at three k).mailbox) (only_second s w)

pub first_bare_is_asked : FirstBareIsAsked
first_bare_is_asked = (
  (1, second_wanted, refl),
  (λ a. let e = box_of_second a.0 3 a.1 a.2 in omega (arith, e)),
  (λ a. let e = box_of_second a.0 7 a.1 a.2 in omega (arith, e)),
  refl,
  (λ e. omega (arith, e)),
)

tag_is_field : (tag : ℕ) → tag < 3 → IsRow 1 ((tag ∷ []) ∷ [])
tag_is_field tag low = (refl, (inl (low, refl), tt))

pub rows_are_held : RowsAreHeld
rows_are_held = (
  record { rows = (tag_is_field 2 (omega arith), (tag_is_field 1 (omega arith), tt)); lone = tt },
  (λ h. let e = h.rows.0.0 in omega (arith, e)),
  record { rows = tt; lone = tt },
  (λ h. let e = (h.rows 1 (omega arith)).0.0 in omega (arith, e)),
  (λ h. let e = h.lone in absurd (cc)),
)

pub rows_are_kept : RowsAreKept
rows_are_kept = (
  record { holds = record { rows = (tag_is_field 1 (omega arith), tt); lone = tt }; row = λ e. tag_is_field 2 (omega arith); empty = λ e. absurd (true≢false e) },
  (λ h. not_none 0 (h.empty refl)),
)

pub senders_stay : SendersStay
senders_stay = (
  record { taker = (refl, refl); from = refl },
  (λ h. let e = h.taker.1 in omega (arith, e)),
  (λ h. h.taker),
  (λ h. let e = h.taker.mailbox 0 (omega arith) in omega (arith, e)),
)

pub mailboxes_have_width : MailboxesHaveWidth
mailboxes_have_width = (
  (λ m n p h. h.0),
  (λ h. let e = h 4 0 1 (refl, omega arith, refl) in omega (arith, e)),
  (λ m n p h. let low = h.1 in absurd (omega (arith, low))),
  (λ h. let e = h 5 0 1 (omega arith, refl, refl) in omega (arith, e)),
  refl,
  refl,
)
