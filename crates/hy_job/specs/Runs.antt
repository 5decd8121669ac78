-- What a task of an activity may put and hand on, for what it takes and is handed.
use Rattle.std.specs.Prelude.{◌≡◌, ◌⊎◌, ◌<◌, ℕ, zero, suc, nat_eq, Bool, true, false, ◌&&◌, if◌then◌else◌, Option, Some, None, List, [], ◌∷◌, ◌++◌, map, filter, take, drop, length}
use Rattle.std.specs.List.{flat_map, All, AllZip, AllByRecursion, range_with_len}
use Rattle.std.specs.List.Sorted.{IsPermutation, IsSorted}
use Rattle.al_value.specs.declared.value.Value.{Value}
use Rattle.al_agg.specs.declared.agg.Agg.{Agg}
use Rattle.al_agg.specs.Agg.{agg}
use Rattle.al_agg.specs.Part.{width, state_fields, IsState}
use Rattle.hy_job.specs.declared.nested.NestedPlan.{NestedPlan}
use Rattle.hy_job.specs.declared.job.GroupArg.{GroupArg}
use Rattle.hy_job.specs.declared.job.Kind.{Kind}
use Rattle.hy_job.specs.declared.job.Kind.TheVariants as K
use Rattle.hy_job.specs.declared.job.Wire.{Wire}
use Rattle.hy_job.specs.declared.job.Wire.TheVariants as W
use Rattle.hy_job.specs.declared.job.Activity.{Activity}
use Rattle.hy_job.specs.declared.job.Edge.{Edge}
use Rattle.hy_job.specs.declared.job.Job.{Job}
use Rattle.hy_job.specs.Columns.{Row, AreValues, dealt, holds, cut, assigned, expanded, keys_cmp, agg_of, state_row, joined, key_of, Group, rows_in, IsGrouping, ArePieces, part_of, Interleaves}
use Rattle.hy_job.specs.Nested.{root_aggs, n_state, IsNested, IsPreGrouped}
use Rattle.hy_job.specs.Sound.{inputs, edges_at, edges_from, width_in}

-- ---- what is taken

-- a row that was taken: the input at which it came, the partition of the task that sent it, and the row
pub record Taken : Type 0 where
  pub input : ℕ
  pub sender : ℕ
  pub row : Row

-- the rows of an input as they came
abbrev pub rows_at : ℕ → List Taken → List Row
rows_at input took = map (λ t. t.row) (filter (λ t. nat_eq t.input input) took)

-- the rows of an input that one sender sent
abbrev pub rows_of : ℕ → ℕ → List Taken → List Row
rows_of input sender took = map (λ t. t.row) (filter (λ t. nat_eq t.input input && nat_eq t.sender sender) took)

-- the rows of each sender
abbrev pub by_sender : ℕ → ℕ → List Taken → List (List Row)
by_sender partitions input took = map (λ s. rows_of input s took) (range_with_len 0 partitions)

-- what comes out of a wire, of which these rows were taken: the rows as they came, and of a merging wire an interleaving of the
-- senders' rows that is in order where each sender's rows are
abbrev pub ComesBy : Wire → ℕ → ℕ → List Taken → List Row → Type 0
ComesBy W.OneToOne partitions input took rows = rows ≡ rows_at input took
ComesBy (W.Hash columns) partitions input took rows = rows ≡ rows_at input took
ComesBy W.Broadcast partitions input took rows = rows ≡ rows_at input took
ComesBy W.Gather partitions input took rows = rows ≡ rows_at input took
ComesBy (W.Merge keys) partitions input took rows =
    Interleaves (by_sender partitions input took) rows × (All (IsSorted (keys_cmp keys)) (by_sender partitions input took) → IsSorted (keys_cmp keys) rows)

-- what comes out of the edge of an input, and nothing where there is none
abbrev pub ComesOver : List Edge → ℕ → ℕ → List Taken → List Row → Type 0
ComesOver [] partitions input took rows = rows ≡ []
ComesOver (e ∷ es) partitions input took rows = ComesBy e.wire partitions input took rows

-- the rows that an activity receives at an input, in the order in which it works on them
abbrev pub Receives : Job → ℕ → List Taken → ℕ → List Row → Type 0
Receives job a took input rows = ComesOver (edges_at job a input) job.partitions input took rows

-- ---- states

-- a list of values that these fields of a partial state stand for; fields of no state are read as those of the empty list
abbrev pub StandFor : Agg → List Value → List Value → Type 0
StandFor a fields vs = (state_fields a vs ≡ fields) ⊎ ((IsState a fields → ⊥) × (vs ≡ []))

-- the value of the joined states, each given by its fields
abbrev pub IsJoined : Agg → List (List Value) → Value → Type 0
IsJoined a states v = (lists : List (List Value)) × AllZip (StandFor a) states lists × (v ≡ agg a (flat_map (λ vs. vs) lists))

-- the values of aggregates over rows of their states, each row with the fields of one aggregate after those of the other
abbrev pub AreJoined : List Agg → List Row → Row → Type 0
AreJoined [] rows values = values ≡ []
AreJoined (a ∷ more) rows values =
    (v : Value) × (others : Row) × (values ≡ v ∷ others) × IsJoined a (map (take (width a)) rows) v × AreJoined more (map (drop (width a)) rows) others

-- the fields that a group's row has behind its keys, for a piece of the group's rows; a distinct has none
abbrev pub piece_fields : Option NestedPlan → List Row → Row
piece_fields (Some n) rows = n_state n rows
piece_fields None rows = []

abbrev pub piece_row : GroupArg → Group → Row
piece_row arg piece = key_of arg.keys piece.0 ++ piece_fields arg.nested (rows_in piece)

-- the values that a group's row has behind its keys, for the fields of its pieces
abbrev pub AreGroupValues : Option NestedPlan → List Row → Row → Type 0
AreGroupValues (Some n) fields values = AreJoined (map agg_of (root_aggs n)) fields values
AreGroupValues None fields values = values ≡ []

-- the columns of the keys in the rows that are handed on, which stand first
abbrev pub first_columns : GroupArg → List ℕ
first_columns arg = range_with_len 0 (length arg.keys)

-- one row for each list of key values in the rows that were handed on, in any order
abbrev pub IsGroupOf : GroupArg → List Row → List Row → Type 0
IsGroupOf arg handed out =
    (groups : List Group) × (made : List Row) × IsGrouping (first_columns arg) handed groups
    × AllZip (λ g row. (values : Row) × AreGroupValues arg.nested (map (drop (length arg.keys)) (rows_in g)) values × (row ≡ key_of (first_columns arg) g.0 ++ values)) groups made
    × IsPermutation made out

-- ---- who sends

-- the task of partition `r` receives over the wire from the task of partition `j`
abbrev pub ReceivesOver : Wire → ℕ → ℕ → ℕ → Type 0
ReceivesOver W.OneToOne partitions j r = r ≡ j
ReceivesOver (W.Hash columns) partitions j r = r < partitions
ReceivesOver W.Broadcast partitions j r = r < partitions
ReceivesOver W.Gather partitions j r = r ≡ 0
ReceivesOver (W.Merge keys) partitions j r = r ≡ 0

-- it receives over the first of these edges, if there is one
abbrev pub SendsBy : List Edge → ℕ → ℕ → ℕ → Type 0
SendsBy [] partitions j r = ⊥
SendsBy (e ∷ es) partitions j r = ReceivesOver e.wire partitions j r

-- partition `r` is a receiver of what the activity's task of partition `j` puts
abbrev pub IsReceiver : Job → ℕ → ℕ → ℕ → Type 0
IsReceiver job a j r = SendsBy (edges_from job a) job.partitions j r

-- the task of partition `s` is a sender of what the activity's task of partition `j` takes at an input
pub record IsSender (job : Job) (a : Activity) (j input s : ℕ) : Type 0 where
  pub known : input < inputs a.kind
  pub within : s < job.partitions
  pub sends : SendsBy (edges_at job a.number input) job.partitions s j

-- ---- what is made

-- these rows in partition 0, and none in the others
abbrev pub InFirst : (List Row → Type 0) → ℕ → List Row → Type 0
InFirst P zero out = P out
InFirst P (suc j) out = out ≡ []

-- what an activity of this kind makes in partition `j` of `n`, its rows having `arity` values, for the rows that it receives at each
-- input, those of the dataset that a scan is given, and those that it is handed. The first activity of an operator makes what it hands on
abbrev pub Output : Kind → ℕ → ℕ → ℕ → (ℕ → List Row) → List Row → List Row → List Row → Type 0
Output (K.Scan set) arity n j received scanned handed out = out ≡ dealt n j scanned
Output K.One arity n j received scanned handed out = InFirst (λ rows. rows ≡ [] ∷ []) j out
Output (K.Assign made) arity n j received scanned handed out = out ≡ map (assigned made) (received 0)
Output (K.Select c) arity n j received scanned handed out = out ≡ filter (holds c) (received 0)
Output (K.Project columns) arity n j received scanned handed out = out ≡ map (cut columns) (received 0)
Output (K.Unnest g) arity n j received scanned handed out = out ≡ flat_map (expanded g) (received 0)
Output (K.Subplan inner) arity n j received scanned handed out = IsNested inner (received 0) out
Output (K.Check name c) arity n j received scanned handed out = out ≡ received 0
Output (K.Union ls rs) arity n j received scanned handed out = Interleaves (map (cut ls) (received 0) ∷ map (cut rs) (received 1) ∷ []) out
Output (K.Limit m k) arity n j received scanned handed out = out ≡ take m (drop k (received 0))
Output (K.LocalLimit m) arity n j received scanned handed out = out ≡ take m (received 0)
Output (K.PreGroup keys inner) arity n j received scanned handed out = IsPreGrouped keys inner (received 0) out
Output (K.Result columns) arity n j received scanned handed out = out ≡ map (cut columns) (received 0)
Output (K.SortBuild keys) arity n j received scanned handed out = IsPermutation (received 0) out
Output (K.SortEmit keys) arity n j received scanned handed out = IsPermutation handed out × IsSorted (keys_cmp keys) out
Output (K.GroupBuild arg) arity n j received scanned handed out = (pieces : List Group) × ArePieces arg.keys (received 0) pieces × (out ≡ map (piece_row arg) pieces)
Output (K.GroupEmit arg) arity n j received scanned handed out = IsGroupOf arg handed out
Output (K.JoinBuild arg) arity n j received scanned handed out = IsPermutation (received 0) out
Output (K.JoinProbe arg) arity n j received scanned handed out = IsPermutation (joined arity arg (received 0) handed) out
Output (K.AggPart made) arity n j received scanned handed out = out ≡ state_row made (received 0) ∷ []
Output (K.AggFinal made) arity n j received scanned handed out = InFirst (λ rows. (row : Row) × AreJoined made (received 0) row × (rows ≡ row ∷ [])) j out

-- whether an activity's rows may come in any order; those of a sort-emit may only where keys tie
abbrev pub is_free : Kind → Bool
is_free (K.SortBuild keys) = true
is_free (K.GroupBuild arg) = true
is_free (K.GroupEmit arg) = true
is_free (K.JoinBuild arg) = true
is_free (K.JoinProbe arg) = true
is_free (K.AggPart made) = true
is_free (K.AggFinal made) = true
is_free _ = false

abbrev pub FreeOutputs : Type 0
FreeOutputs = (kind : Kind) (arity n j : ℕ) (received : ℕ → List Row) (scanned handed out moved : List Row) → is_free kind ≡ true
    → Output kind arity n j received scanned handed out → IsPermutation out moved → Output kind arity n j received scanned handed moved

-- ---- what is put

-- what the task of partition `r` is sent over a wire, of the rows that the task of partition `j` makes
abbrev pub sent_over : Wire → ℕ → ℕ → ℕ → List Row → List Row
sent_over W.OneToOne partitions j r rows = if nat_eq r j then rows else []
sent_over (W.Hash columns) partitions j r rows = filter (λ row. nat_eq (part_of partitions columns row) r) rows
sent_over W.Broadcast partitions j r rows = rows
sent_over W.Gather partitions j r rows = if nat_eq r 0 then rows else []
sent_over (W.Merge keys) partitions j r rows = if nat_eq r 0 then rows else []

-- over the edge that leaves an activity, if there is one
abbrev pub sent_by : List Edge → ℕ → ℕ → ℕ → List Row → List Row
sent_by [] partitions j r rows = []
sent_by (e ∷ es) partitions j r rows = sent_over e.wire partitions j r rows

-- what is handed on, which is what is made where no edge leaves
abbrev pub kept_by : List Edge → List Row → List Row
kept_by [] rows = rows
kept_by (e ∷ es) rows = []

-- ---- whole runs

-- all that a task is given: the rows that it takes, those that a scan is given, and those that it is handed
pub record Took : Type 0 where
  pub rows : List Taken
  pub scanned : List Row
  pub handed : List Row

-- all that a task gives: the rows that it puts for each receiving partition, and those that it hands on
pub record Put : Type 0 where
  pub to : ℕ → List Row
  pub on : List Row

-- the activity's task of partition `j` may give this for that
pub record TaskRun (job : Job) (a : Activity) (j : ℕ) (took : Took) (put : Put) : Type 0 where
  pub received : ℕ → List Row
  pub made : List Row
  pub receives : (input : ℕ) → input < inputs a.kind → Receives job a.number took.rows input (received input)
  pub makes : Output a.kind a.arity job.partitions j received took.scanned took.handed made
  pub sends : (r : ℕ) → r < job.partitions → put.to r ≡ sent_by (edges_from job a.number) job.partitions j r made
  pub hands_on : put.on ≡ kept_by (edges_from job a.number) made

-- ---- runs that go on

-- a row that may still come to the task of partition `j`: of a sender that has not ended, as wide as its rows are, and of values
pub record MayCome (job : Job) (a : Activity) (j : ℕ) (ended : ℕ → ℕ → Bool) (t : Taken) : Type 0 where
  pub of : IsSender job a j t.input t.sender
  pub fits : length t.row ≡ width_in job a.number t.input
  pub values : AreValues t.row
  pub to_come : ended t.input t.sender ≡ false

-- the one with more rows behind what was taken
abbrev pub with_more : Took → List Taken → Took
with_more took more = record { rows = took.rows ++ more; scanned = took.scanned; handed = took.handed }

-- what is put begins with this
pub record GoesOn (partitions : ℕ) (put whole : Put) : Type 0 where
  pub to : (r : ℕ) → r < partitions → (rest : List Row) × (whole.to r ≡ put.to r ++ rest)
  pub on : (rest : List Row) × (whole.on ≡ put.on ++ rest)

-- however the taking goes on, what was put can go on so that it is a whole run
abbrev pub TaskPart : Job → Activity → ℕ → (ℕ → ℕ → Bool) → Took → Put → Type 0
TaskPart job a j ended took put =
    (more : List Taken) → AllByRecursion (MayCome job a j ended) more → (whole : Put) × GoesOn job.partitions put whole × TaskRun job a j (with_more took more) whole
