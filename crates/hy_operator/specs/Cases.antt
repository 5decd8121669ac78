-- Worked cases of what operators are made of, and of new ones.
use Rattle.std.specs.Prelude.{◌≡◌, ℕ, true, false, Some, None, List, [], ◌∷◌}
use Rattle.al_value.specs.declared.settings.Settings.{Settings}
use Rattle.al_func.specs.declared.rex.Rex.TheVariants as R
use Rattle.hy_frame.specs.Row.{Fields}
use Rattle.hy_driver.specs.Seen.{no_store}
use Rattle.hy_driver.specs.declared.handed.Handed.{Handed}
use Rattle.hy_driver.specs.declared.phase.Phase.TheVariants.{Working}
use Rattle.hy_job.specs.declared.job.GroupArg.{GroupArg}
use Rattle.hy_job.specs.declared.job.JoinArg.{JoinArg}
use Rattle.hy_job.specs.declared.job.Kind.TheVariants as K
use Rattle.hy_job.specs.Columns.{holds}
use Rattle.hy_job.specs.Sound.{is_second}
use Rattle.hy_rows.specs.State.{row_state}
use Rattle.hy_driver.specs.Forms.{one_ended}
use Rattle.hy_stream.specs.Source.{nothing_out, one_row, source_fixed}
use Rattle.hy_operator.specs.declared.input.RowShape.{RowShape}
use Rattle.hy_operator.specs.Begins.{Begins, IsFixed, check_of, cost_of, listed, width_at}
use Rattle.hy_operator.specs.Kinds.{IsHandedGroups, StandsBeside, Suits, There, hands_rows, has_store, is_alone, works_on_rows}

abbrev pub shape_of : ℕ → ℕ → ℕ → ℕ → RowShape
shape_of left right handed arity = record { left = left; right = right; handed = handed; arity = arity }

-- a distinct of two columns
abbrev pub distinct : GroupArg
distinct = record { keys = 0 ∷ 1 ∷ []; nested = None }

-- a join of the first columns
abbrev pub on_first : JoinArg
on_first = record { left = 0 ∷ []; right = 0 ∷ []; rest = R.Col 0; outer = false }

-- ---- what it is given

-- a sort-emit is given what was handed and no store, a group-build a store and nothing that was handed, a probe both
abbrev pub EachIsGivenItsOwn : Type 0
EachIsGivenItsOwn = (is_second (K.SortEmit []) ≡ true) × (has_store (K.SortEmit []) ≡ false) × (is_second (K.GroupBuild distinct) ≡ false) × (has_store (K.GroupBuild distinct) ≡ true)
    × (is_second (K.JoinProbe on_first) ≡ true) × (has_store (K.JoinProbe on_first) ≡ true) × (has_store (K.Select (R.Col 0)) ≡ false)

-- the first of two hands rows on, and the second gives its own
abbrev pub FirstOnesHandOn : Type 0
FirstOnesHandOn = (hands_rows (K.SortBuild []) ≡ true) × (hands_rows (K.SortEmit []) ≡ false) × (hands_rows (K.GroupBuild distinct) ≡ true)
    × (hands_rows (K.GroupEmit distinct) ≡ false) × (hands_rows (K.JoinProbe on_first) ≡ false) × (hands_rows K.One ≡ false)

-- a select works on each row alone and is given nothing beside its kind, and neither a join's build nor a scan does
abbrev pub KindsAreTold : Type 0
KindsAreTold = (works_on_rows (K.Select (R.Col 0)) ≡ true) × (works_on_rows K.One ≡ false) × (is_alone (K.Select (R.Col 0)) ≡ true) × (is_alone (K.JoinBuild on_first) ≡ false) × (is_alone (K.Scan []) ≡ false)

-- what is wanted has to be there, and nothing else
abbrev pub WantedIsThere : Type 0
WantedIsThere = There {A = ℕ} true (Some 3) (λ n. n ≡ 3) × (There {A = ℕ} true (Some 3) (λ n. n ≡ 4) → ⊥) × (There {A = ℕ} true None (λ n. Unit {0}) → ⊥)
    × There {A = ℕ} false None (λ n. ⊥) × (There {A = ℕ} false (Some 3) (λ n. n ≡ 3) → ⊥)

-- nothing is listed of what isn't there
abbrev pub ListedIfThere : Type 0
ListedIfThere = (listed {A = ℕ} (λ n. n ∷ []) (Some 3) ≡ 3 ∷ []) × (listed {A = ℕ} (λ n. n ∷ []) None ≡ [])

abbrev pub handed_of : List Fields → List ℕ → Handed
handed_of rows runs = record { rows = rows; frames = []; runs = runs }

-- rows of one width may be handed, and neither another width nor a run
abbrev pub RowsAreHanded : Type 0
RowsAreHanded = (field : List ℕ) → StandsBeside 1 (handed_of ((field ∷ []) ∷ (field ∷ []) ∷ []) [])
    × (StandsBeside 2 (handed_of ((field ∷ []) ∷ []) []) → ⊥) × (StandsBeside 1 (handed_of ((field ∷ []) ∷ []) (7 ∷ [])) → ⊥)

-- ---- widths

-- a distinct of two columns is handed rows of two values
abbrev pub DistinctIsHandedKeys : Type 0
DistinctIsHandedKeys = IsHandedGroups (K.GroupEmit distinct) 2 × (IsHandedGroups (K.GroupEmit distinct) 3 → ⊥) × IsHandedGroups (K.SortEmit []) 3

-- a projection to the second column suits rows of two values, gives one of each, and reads none of rows of one value
abbrev pub ProjectSuits : Type 0
ProjectSuits = Suits (K.Project (1 ∷ [])) (shape_of 2 0 0 1) × (Suits (K.Project (1 ∷ [])) (shape_of 2 0 0 2) → ⊥) × (Suits (K.Project (1 ∷ [])) (shape_of 1 0 0 1) → ⊥)

-- a union cuts the columns of each side out of that side's rows
abbrev pub UnionSuits : Type 0
UnionSuits = Suits (K.Union (2 ∷ []) (0 ∷ [])) (shape_of 3 1 0 1) × (Suits (K.Union (2 ∷ []) (0 ∷ [])) (shape_of 1 3 0 1) → ⊥)
    × (width_at (shape_of 3 1 0 1) 0 ≡ 3) × (width_at (shape_of 3 1 0 1) 1 ≡ 1)

-- ---- new operators

abbrev pub two_partitions : Settings
two_partitions = record { partitions = 2; frame_size = 256; memory = 3 }

-- of two partitions the one row is given in the first, and in no other
abbrev pub OneBeginsInFirst : Type 0
OneBeginsInFirst = Begins K.One two_partitions 0 (shape_of 0 0 0 0) [] [] no_store (row_state (source_fixed 256 3 0) nothing_out (one_ended true) (one_row true) Working)
    × (Begins K.One two_partitions 1 (shape_of 0 0 0 0) [] [] no_store (row_state (source_fixed 256 3 0) nothing_out (one_ended true) (one_row true) Working) → ⊥)

-- a probe may be put off by each row that was handed, an unnest by each item of a list, and a select by its row
abbrev pub TurnsAreCounted : Type 0
TurnsAreCounted = (cost_of (K.JoinProbe on_first) 3 ≡ 5) × (cost_of (K.Select (R.Col 0)) 3 ≡ 2) × (cost_of (K.Limit 1 1) 0 ≡ 2) × (cost_of K.One 0 ≡ 1)

-- a check has its own name, and nothing else has one
abbrev pub ChecksAreNamed : Type 0
ChecksAreNamed = (check_of (K.Check (7 ∷ []) (R.Col 0)) ≡ Some (7 ∷ [], holds (R.Col 0))) × (check_of (K.Check (7 ∷ []) (R.Col 0)) ≡ Some (8 ∷ [], holds (R.Col 0)) → ⊥) × (check_of (K.Select (R.Col 0)) ≡ None)

-- frames are of the settings' size
abbrev pub SettingsAreKept : Type 0
SettingsAreKept = IsFixed K.One two_partitions (shape_of 0 0 0 0) 0 (source_fixed 256 3 0) × (IsFixed K.One two_partitions (shape_of 0 0 0 0) 0 (source_fixed 512 3 0) → ⊥)
