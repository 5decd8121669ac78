-- Records that settle, and worked cases.
use Rattle.std.proofs.Common.{◌≡◌, ◌<◌, ◌≤◌, ℕ, zero, suc, true, false, nat_eq, inl, inr, ◌⊎◌, Option, Some, None, List, [], ◌∷◌, refl, ap, sym, subst, arith}
use Rattle.std.specs.List.{Contains}
use Rattle.hy_job.specs.declared.job.Wire.TheVariants as W
use Rattle.hy_job.specs.declared.job.Edge.{Edge}
use Rattle.hy_job.specs.Boxes.{StageBox, IsBox, box_for, box_to, boxes_of}
use Rattle.hy_job.specs.Runs.{ReceivesOver}
use Rattle.hy_job.specs.Cases.{wire}
use Rattle.hy_job.proofs.Members.{in_cases, in_here, in_none, in_there, no_bool}
use Rattle.hy_progress.specs.Stuck.{IsAsked, IsOver}
use Rattle.hy_progress.specs.Ends.{RecordsSettle}
use Rattle.hy_progress.specs.Numbers.{LaterMayRise, RiseAloneIsNone}
use Rattle.hy_progress.specs.Cases.{both, gathering, BeginningIsView, EmptyMailboxWaits, FullMailboxWaits, LostCloseIsNone, MergeAsksInTurn, NoSenderNoWait, OthersAreAsked, RoomIsUsed, SignalIsTaken}

pub records_settle : RecordsSettle
records_settle job stages records own between = record {
  completed = λ a j ma ms lj. (own a j ma ms lj).completed;
  failed = λ a j ma ms lj. (own a j ma ms lj).failed;
  words = λ a j ma ms lj. (own a j ma ms lj).words;
  taken = λ a j ma ms lj. (own a j ma ms lj).taken;
  delivered = between.delivered;
  handed = between.handed;
  causes = λ a j ma ms lj. record { raised = (own a j ma ms lj).raised; stopped = (own a j ma ms lj).stopped; saw = between.saw a j ma ms lj };
}

-- ---- a gather on two partitions

the_edge : (set : List ℕ) (e : Edge) → Contains (gathering set).edges e → wire 0 1 W.Gather ≡ e
the_edge set e m = elim (in_cases (wire 0 1 W.Gather) e [] m) [ inl is ↦ is | inr k ↦ absurd (in_none e k) ]

-- what the second task of the scan puts
sends : (set : List ℕ) (s : ℕ) → s < 2 → IsOver (gathering set) both (wire 0 1 W.Gather) s 0
sends set s low = record { edge = in_here (wire 0 1 W.Gather) []; ends = in_there 0 1 (1 ∷ []) (in_here 1 []); sender = low; receiver = omega arith; over = refl }

-- the capacity of a mailbox that is there
capacity_of : Option StageBox → ℕ
capacity_of (Some b) = b.capacity
capacity_of None = 0

pub full_mailbox_waits : FullMailboxWaits
unfolding capacity_of
full_mailbox_waits set = record {
  edge = wire 0 1 W.Gather;
  leaves = refl;
  to = 0;
  over = sends set 1 (omega arith);
  full = λ b is. (let four : 4 ≡ b.capacity = ap capacity_of is in omega (arith, four));
  unclosed = refl;
}

pub room_is_used : RoomIsUsed
room_is_used set f =
    let e = the_edge set f.edge f.over.edge in
    let to : f.to ≡ 0 = subst (λ (x : Edge). ReceivesOver x.wire 2 1 f.to) (sym e) f.over.over in
    let at_first = subst (λ y. (b : StageBox) → IsBox (gathering set) both (box_to (boxes_of (gathering set) both) f.edge y 1) b → b.capacity ≤ 3) to f.full in
    let at_edge = subst (λ (x : Edge). (b : StageBox) → IsBox (gathering set) both (box_to (boxes_of (gathering set) both) x 0 1) b → b.capacity ≤ 3) (sym e) at_first in
    let four : 4 ≤ 3 = at_edge (box_for (gathering set) (wire 0 1 W.Gather) 0 (0 ∷ 1 ∷ [])) refl in
    omega (arith, four)

-- whoever hasn't closed is asked
asked_there : (set : List ℕ) (e : Edge) (s : ℕ) → Contains (gathering set).edges e → IsAsked e.wire (λ t. false) (λ t. false) s
asked_there set e s m = subst (λ (x : Edge). IsAsked x.wire (λ t. false) (λ t. false) s) (the_edge set e m) refl

pub empty_mailbox_waits : EmptyMailboxWaits
empty_mailbox_waits set = record {
  edge = wire 0 1 W.Gather;
  enters = refl;
  sender = 0;
  over = sends set 0 (omega arith);
  unclosed = refl;
  waits = λ e s to over unclosed. (s, record { over = over; asked = asked_there set e s over.edge });
  empty = λ e s to may. refl;
}

pub signal_is_taken : SignalIsTaken
signal_is_taken set w =
    let t = w.waits w.edge w.sender w.enters w.over w.unclosed in
    let none : 1 ≡ 0 = w.empty w.edge t.0 w.enters t.1 in
    omega (arith, none)

pub no_sender_no_wait : NoSenderNoWait
no_sender_no_wait set w =
    let first : 1 ≡ 0 = subst (λ (x : Edge). ReceivesOver x.wire 2 w.sender 1) (sym (the_edge set w.edge w.over.edge)) w.over.over in
    omega (arith, first)

pub beginning_is_view : BeginningIsView
beginning_is_view set = record {
  put_all = λ e s r over done. absurd (no_bool (sym done));
  took_all = λ e s r over done. absurd (no_bool (sym done));
  put_first = λ e s r over took. absurd (no_bool (sym took));
  in_mailbox = λ e s r over put. absurd (no_bool (sym put));
}

pub lost_close_is_none : LostCloseIsNone
lost_close_is_none set v = let some : 0 < 0 = v.in_mailbox (wire 0 1 W.Gather) 0 0 (sends set 0 (omega arith)) refl refl in omega (arith, some)

-- ---- who is asked

first_at_hand : (t : ℕ) → t < 1 → (false ≡ true) ⊎ (nat_eq t 0 ≡ true)
first_at_hand zero low = inr refl
first_at_hand (suc t) low = absurd (omega (arith, low))

pub merge_asks_in_turn : MergeAsksInTurn
merge_asks_in_turn = ((refl, refl, first_at_hand), λ h. no_bool h.1, (refl, refl, λ t low. absurd (omega (arith, low))), λ h. elim (h.2 0 (omega arith)) [ inl closed ↦ no_bool (sym closed) | inr hand ↦ no_bool (sym hand) ])

pub others_are_asked : OthersAreAsked
others_are_asked = (refl, λ h. no_bool h)

-- ---- numbers

pub later_may_rise : LaterMayRise
later_may_rise = inl (omega arith, (omega arith, (omega arith, (omega arith, tt))))

pub rise_alone_is_none : RiseAloneIsNone
rise_alone_is_none h = elim h [ inl p ↦ omega (arith, p.0) | inr p ↦ omega (arith, p.0) ]
