-- Worked cases of what contracts say of merging takers.
use Rattle.std.specs.Prelude.{ℕ, true, false, List, [], ◌∷◌, Some, None}
use Rattle.al_value.specs.declared.settings.SortKey.{SortKey}
use Rattle.hy_job.specs.Runs.{Taken as TakenRow}
use Rattle.hy_connect.specs.Cases.{false_row, true_frame, true_row}
use Rattle.hy_connect.specs.Sources.{SourceOf, IsWanted, NoneLacks}
use Rattle.hy_connect.specs.Merges.{IsMerge, IsOfOpen, may_give, merger_of}

abbrev pub by_first : List SortKey
by_first = record { column = 0; descending = false } ∷ []

-- a sender with TRUE at hand, of whose frame so many rows were given
abbrev pub sends_true : ℕ → SourceOf
sends_true given = record { mailbox = 3; closed = false; frame = Some true_frame; next = given }

abbrev pub has_closed : SourceOf
has_closed = record { mailbox = 3; closed = true; frame = None; next = 0 }

-- FALSE, as it is taken of a sender
abbrev pub false_of : ℕ → TakenRow
false_of sender = record { input = 0; sender = sender; row = false_row }

-- a row is wanted of the first sender whose rows were all given, and of none that has closed
abbrev pub FirstBareIsWanted : Type 0
FirstBareIsWanted = IsWanted (sends_true 0 ∷ sends_true 1 ∷ sends_true 1 ∷ []) 1 × (IsWanted (sends_true 0 ∷ sends_true 1 ∷ []) 0 → ⊥)
    × (IsWanted (sends_true 1 ∷ sends_true 1 ∷ []) 1 → ⊥) × NoneLacks (sends_true 0 ∷ has_closed ∷ [])

-- the lesser row comes first, whoever sends it; where a sender's rows are in no order, neither need those be that come
abbrev pub LesserIsFirst : Type 0
LesserIsFirst = IsMerge by_first ((true_row ∷ []) ∷ (false_row ∷ []) ∷ []) (false_row ∷ true_row ∷ [])
    × (IsMerge by_first ((true_row ∷ []) ∷ (false_row ∷ []) ∷ []) (true_row ∷ false_row ∷ []) → ⊥)
    × IsMerge by_first ((true_row ∷ false_row ∷ []) ∷ []) (true_row ∷ false_row ∷ [])

-- rows may come of senders that haven't closed, and of no other
abbrev pub OpenOnesSend : Type 0
OpenOnesSend = IsOfOpen (sends_true 0 ∷ has_closed ∷ []) 0 (false_of 0 ∷ []) × (IsOfOpen (sends_true 0 ∷ has_closed ∷ []) 0 (false_of 1 ∷ []) → ⊥)
    × (IsOfOpen (sends_true 0 ∷ has_closed ∷ []) 0 (false_of 2 ∷ []) → ⊥)

-- of one sender the row at hand comes before one that is still to be taken, though it is more
abbrev pub HandComesFirst : Type 0
HandComesFirst = may_give (merger_of by_first (sends_true 0 ∷ []) None false) 0 (false_of 0 ∷ []) (true_row ∷ false_row ∷ [])
    × (may_give (merger_of by_first (sends_true 0 ∷ []) None false) 0 (false_of 0 ∷ []) (false_row ∷ true_row ∷ []) → ⊥)
