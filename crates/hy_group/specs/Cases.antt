-- Worked cases of what contracts say of groups.
use Rattle.std.specs.Prelude.{◌≡◌, ◌↔◌, pos, ℕ, None, List, [], ◌∷◌}
use Rattle.al_value.specs.declared.value.Value.TheVariants as V
use Rattle.al_agg.specs.declared.agg.Agg.TheVariants as A
use Rattle.al_agg.specs.declared.state.State.TheVariants as S
use Rattle.hy_job.specs.Columns.{Row}
use Rattle.hy_job.specs.StateCases.{part_of_state}
use Rattle.hy_group.specs.Fresh.{row_sees}
use Rattle.hy_group.specs.Emit.{AreGiven}
use Rattle.hy_group.specs.Groups.{Added, Entry, StandFor}
use Rattle.hy_group.specs.Joining.{HaveJoined}
use Rattle.hy_group.specs.Making.{entry_row}

abbrev pub null_row : Row
null_row = V.Null ∷ []

abbrev pub int_row : ℕ → Row
int_row n = V.Int (pos n) ∷ []

-- a group of different rows has no states
abbrev pub alone : Row → Entry
alone row = (row, [])

abbrev pub AddedAlone : Row → List Entry → List Entry → Type 0
AddedAlone row = Added (row_sees None) (λ states. states ≡ []) row row

-- a second row of NULL is of the group of the first one
abbrev pub NullIsOneGroup : Type 0
NullIsOneGroup = (new : List Entry) → AddedAlone null_row (alone null_row ∷ []) new ↔ (new ≡ alone null_row ∷ [])

-- and one of another key is of a new group behind it
abbrev pub OthersAreNew : Type 0
OthersAreNew = (new : List Entry) → AddedAlone (int_row 3) (alone null_row ∷ []) new ↔ (new ≡ alone null_row ∷ alone (int_row 3) ∷ [])

abbrev pub StandAlone : List Entry → List Row → Type 0
StandAlone = StandFor (row_sees None) (0 ∷ [])

-- two groups stand for rows in any order, but for no others, and not for none
abbrev pub GroupsStandForRows : Type 0
GroupsStandForRows = StandAlone (alone null_row ∷ alone (int_row 3) ∷ []) (int_row 3 ∷ null_row ∷ int_row 3 ∷ [])
    × (StandAlone (alone null_row ∷ []) (int_row 3 ∷ []) → ⊥)
    × (StandAlone (alone null_row ∷ []) [] → ⊥)

-- two groups of one key stand for no rows
abbrev pub GroupsHaveOwnKeys : Type 0
GroupsHaveOwnKeys = (rows : List Row) → StandAlone (alone null_row ∷ alone null_row ∷ []) rows → ⊥

-- a group's row has its key and then the fields of its states
abbrev pub StatesStandBehindKeys : Type 0
StatesStandBehindKeys = entry_row (int_row 7, part_of_state (S.Min V.Null) ∷ part_of_state (S.Max (V.Int (pos 5))) ∷ []) ≡ V.Int (pos 7) ∷ V.Null ∷ V.Int (pos 5) ∷ []

-- ---- groups that are given

abbrev pub two_groups : List Entry
two_groups = alone null_row ∷ alone (int_row 3) ∷ []

-- each group's row is given once, in any order
abbrev pub GroupsAreGivenOnce : Type 0
GroupsAreGivenOnce = AreGiven two_groups (int_row 3 ∷ null_row ∷ []) × (AreGiven two_groups (null_row ∷ []) → ⊥)
    × (AreGiven two_groups (int_row 3 ∷ null_row ∷ null_row ∷ []) → ⊥) × (AreGiven (alone null_row ∷ []) (int_row 3 ∷ []) → ⊥)

-- without aggregates there are no states, and each aggregate has one
abbrev pub EachAggregateHasState : Type 0
EachAggregateHasState = (rows : List Row) → HaveJoined [] rows [] × (HaveJoined [] rows (part_of_state (S.Max V.Null) ∷ []) → ⊥) × (HaveJoined (A.Max ∷ []) rows [] → ⊥)
