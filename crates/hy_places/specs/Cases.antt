-- Worked cases of the mailboxes of tasks: of jobs on two partitions, what is taken from and put into, and what not.
use Rattle.std.specs.Prelude.{◌≡◌, ℕ, List, [], ◌∷◌}
use Rattle.hy_job.specs.declared.job.Job.{Job}
use Rattle.hy_job.specs.declared.job.Stage.{Stage}
use Rattle.hy_job.specs.Cases.{block, grouping, reading, sorting, stage}
use Rattle.hy_places.specs.Places.{AreDifferent, inboxes_of, outboxes_of}

-- over a hash wire the tasks of a scan put into a mailbox of each partition, in the order of the receivers, and the second
-- task of the group takes from the second
abbrev pub HashReaches : Type 0
HashReaches = (set : List ℕ) → (outboxes_of (grouping set 6 3) (stage (0 ∷ 1 ∷ [])) 0 1 ≡ 0 ∷ 1 ∷ [])
    × (outboxes_of (grouping set 6 3) (stage (0 ∷ 1 ∷ [])) 0 1 ≡ 1 ∷ 0 ∷ [] → ⊥)
    × (inboxes_of (grouping set 6 3) (stage (0 ∷ 1 ∷ [])) 1 0 1 ≡ 1 ∷ [])
    × (inboxes_of (grouping set 6 3) (stage (0 ∷ 1 ∷ [])) 1 0 1 ≡ 0 ∷ [] → ⊥)

-- over a gathering wire both tasks put into one mailbox, and the second receiver has none
abbrev pub GatherReaches : Type 0
GatherReaches = (set : List ℕ) → (outboxes_of (grouping set 6 3) (stage (2 ∷ 3 ∷ [])) 2 1 ≡ 0 ∷ [])
    × (inboxes_of (grouping set 6 3) (stage (2 ∷ 3 ∷ [])) 3 0 0 ≡ 0 ∷ [])
    × (inboxes_of (grouping set 6 3) (stage (2 ∷ 3 ∷ [])) 3 0 1 ≡ [])

-- over a merging wire each puts into a mailbox of its own, and the first receiver takes from them in the order of the senders
abbrev pub merging : List ℕ → Job
merging set = sorting set (block 1 2 ∷ [])

abbrev pub MergeReaches : Type 0
MergeReaches = (set : List ℕ) → (outboxes_of (merging set) (stage (2 ∷ 3 ∷ [])) 2 1 ≡ 1 ∷ [])
    × (inboxes_of (merging set) (stage (2 ∷ 3 ∷ [])) 3 0 0 ≡ 0 ∷ 1 ∷ [])
    × (inboxes_of (merging set) (stage (2 ∷ 3 ∷ [])) 3 0 0 ≡ 1 ∷ 0 ∷ [] → ⊥)
    × (inboxes_of (merging set) (stage (2 ∷ 3 ∷ [])) 3 0 1 ≡ [])

-- the mailboxes of an edge follow those of the edges before it in the stage
abbrev pub all_five : Stage
all_five = stage (0 ∷ 1 ∷ 2 ∷ 3 ∷ 4 ∷ [])

abbrev pub EdgesFollow : Type 0
EdgesFollow = (set text : List ℕ) → (outboxes_of (reading set text) all_five 2 1 ≡ 5 ∷ []) × (inboxes_of (reading set text) all_five 3 0 1 ≡ 5 ∷ [])
    × (inboxes_of (reading set text) all_five 4 0 0 ≡ 6 ∷ []) × (inboxes_of (reading set text) all_five 0 0 1 ≡ []) × (outboxes_of (reading set text) all_five 4 0 ≡ [])

-- twice the same number is none that differ
abbrev pub TwiceIsNotDifferent : Type 0
TwiceIsNotDifferent = AreDifferent (3 ∷ 1 ∷ []) × (AreDifferent (1 ∷ 1 ∷ []) → ⊥)
