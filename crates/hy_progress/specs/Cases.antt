-- Small stages at a moment: whose next step would do nothing, and whose not.
use Rattle.std.specs.Prelude.{ℕ, nat_eq, true, false, List, [], ◌∷◌}
use Rattle.hy_job.specs.declared.job.Kind.TheVariants as K
use Rattle.hy_job.specs.declared.job.Wire.TheVariants as W
use Rattle.hy_job.specs.declared.job.Job.{Job}
use Rattle.hy_job.specs.declared.job.Stage.{Stage}
use Rattle.hy_job.specs.Cases.{act, by_first, stage, wire}
use Rattle.hy_progress.specs.Stuck.{View, IsView, FindsFull, FindsEmpty, IsAsked}

-- nothing is done and no Close was put, and the mailboxes hold these numbers of signals
abbrev pub begun : (ℕ → ℕ) → View
begun held = record {
  done = λ a j. false;
  put_close = λ a j r. false;
  took_close = λ a j input s. false;
  at_hand = λ a j input s. false;
  held = held;
}

-- on two partitions, a dataset's rows go to the result of the first one
abbrev pub gathering : List ℕ → Job
gathering set = record {
  activities = act 0 (K.Scan set) 1 ∷ act 1 (K.Result (0 ∷ [])) 1 ∷ [];
  edges = wire 0 1 W.Gather ∷ [];
  blocks = [];
  partitions = 2;
}

abbrev pub both : Stage
both = stage (0 ∷ 1 ∷ [])

-- a mailbox of two senders has room for four signals: with four in it the second scan waits, and with three it doesn't
abbrev pub FullMailboxWaits : Type 0
FullMailboxWaits = (set : List ℕ) → FindsFull (gathering set) both (begun (λ k. 4)) 0 1

abbrev pub RoomIsUsed : Type 0
RoomIsUsed = (set : List ℕ) → FindsFull (gathering set) both (begun (λ k. 3)) 0 1 → ⊥

-- the result waits where its mailbox is empty, and where it isn't it doesn't; in the second partition no sender keeps it
abbrev pub EmptyMailboxWaits : Type 0
EmptyMailboxWaits = (set : List ℕ) → FindsEmpty (gathering set) both (begun (λ k. 0)) 1 0

abbrev pub SignalIsTaken : Type 0
SignalIsTaken = (set : List ℕ) → FindsEmpty (gathering set) both (begun (λ k. 1)) 1 0 → ⊥

abbrev pub NoSenderNoWait : Type 0
NoSenderNoWait = (set : List ℕ) → FindsEmpty (gathering set) both (begun (λ k. 0)) 1 1 → ⊥

-- at the beginning all is as it has to be; where a Close was put, and neither taken nor is in its mailbox, it isn't
abbrev pub BeginningIsView : Type 0
BeginningIsView = (set : List ℕ) → IsView (gathering set) both (begun (λ k. 0))

abbrev pub lost : View
lost = record {
  done = λ a j. nat_eq a 0;
  put_close = λ a j r. true;
  took_close = λ a j input s. false;
  at_hand = λ a j input s. false;
  held = λ k. 0;
}

abbrev pub LostCloseIsNone : Type 0
LostCloseIsNone = (set : List ℕ) → IsView (gathering set) both lost → ⊥

-- a merge that has a row of its first sender at hand asks the second one, and not the first; without a row at hand, as after a
-- failure, it asks the first one, and not the second
abbrev pub MergeAsksInTurn : Type 0
MergeAsksInTurn = IsAsked (W.Merge by_first) (λ s. false) (λ s. nat_eq s 0) 1 × (IsAsked (W.Merge by_first) (λ s. false) (λ s. nat_eq s 0) 0 → ⊥)
    × IsAsked (W.Merge by_first) (λ s. false) (λ s. false) 0 × (IsAsked (W.Merge by_first) (λ s. false) (λ s. false) 1 → ⊥)

-- over any other wire whoever hasn't closed is asked
abbrev pub OthersAreAsked : Type 0
OthersAreAsked = IsAsked (W.Hash (0 ∷ [])) (λ s. nat_eq s 0) (λ s. false) 1 × (IsAsked (W.Hash (0 ∷ [])) (λ s. nat_eq s 0) (λ s. false) 0 → ⊥)
