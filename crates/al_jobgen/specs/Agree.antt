-- Rows by column agree with rows by variable: what is made over the values of these variables, in order, is made over the row that binds them.
use Rattle.std.specs.Prelude.{◌≡◌, ◌↔◌, ℕ, Bool, true, List, [], ◌∷◌, ◌++◌, map, filter, length, nat_eq, Some, None}
use Rattle.std.specs.List.{All, AllByRecursion, flat_map, range_with_len}
use Rattle.std.specs.List.Sorted.{IsSorted}
use Rattle.al_value.specs.declared.value.Value.{Value}
use Rattle.al_value.specs.Value.{IsValue}
use Rattle.al_func.specs.declared.rex.Rex.{Rex}
use Rattle.al_func.specs.Rex.{eval_rex}
use Rattle.al_agg.specs.declared.agg.Agg.{Agg}
use Rattle.al_agg.specs.Agg.{agg}
use Rattle.al_plan.specs.declared.expr.Var.{Var}
use Rattle.al_plan.specs.declared.expr.Expr.{Expr}
use Rattle.al_plan.specs.declared.plan.OrderKey.{OrderKey}
use Rattle.al_plan.specs.declared.plan.AggCall.{AggCall}
use Rattle.al_plan.specs.declared.plan.Generator.{Generator}
use Rattle.al_plan.specs.declared.plan.Plan.{Plan}
use Rattle.al_plan.specs.Eval.{bind, eval, holds}
use Rattle.al_plan.specs.Calls.{agg_call}
use Rattle.al_plan.specs.Allows.{renamed}
use Rattle.al_plan.specs.Allows as V
use Rattle.al_plan.specs.Refines.{FitsEach, NoTwice, makes}
use Rattle.al_phys.specs.Gives.{joined, AreStretches, IsNested, IsGrouped, IsPreGrouped}
use Rattle.al_phys.specs.Parts.{values_at, part_of, Interleaves}
use Rattle.al_phys.specs.Properties.{old_of}
use Rattle.al_phys.specs.Placed.{IsInner, is_row_wise}
use Rattle.hy_job.specs.declared.nested.NestedPlan.{NestedPlan, more_of-NestedPlan as Is, end_of-NestedPlan as At}
use Rattle.hy_job.specs.declared.nested.NestedPlan.TheVariants.{Aggregate'}
use Rattle.hy_job.specs.declared.nested.AggRex.{AggRex}
use Rattle.hy_job.specs.declared.nested.GenRex.{GenRex}
use Rattle.hy_job.specs.declared.job.GroupArg.{GroupArg}
use Rattle.hy_job.specs.Columns.{Row, AreValues, agg_of, agg_value}
use Rattle.hy_job.specs.Literals.{literals, gen_literals, agg_literals, n_literals}
use Rattle.hy_job.specs.Columns as C
use Rattle.hy_job.specs.Nested.{NAllows}
use Rattle.hy_job.specs.Nested as H
use Rattle.hy_job.specs.Runs.{AreJoined, IsGroupOf, piece_row}
use Rattle.al_jobgen.specs.Columns.{columns_of, rex_of, gen_rex, agg_rex, agg_kind, made_rexes, made_aggs, sort_keys, nested_of, join_arg}

-- a value for each variable
abbrev pub IsAsWide : List Var → Row → Type 0
IsAsWide vars row = length row ≡ length vars

abbrev pub AreAsWide : List Var → List Row → Type 0
AreAsWide vars = All (IsAsWide vars)

-- the variables that are made
abbrev pub made_vars : {X : Type 0} → List (Var × X) → List Var
made_vars made = map (λ m. m.0) made

-- ---- expressions

abbrev pub ExpressionsAgree : Type 0
ExpressionsAgree = (vars : List Var) (row : Row) → IsAsWide vars row → (e : Expr) → eval_rex (rex_of vars e) row ≡ eval e (bind vars row)

abbrev pub ConditionsAgree : Type 0
ConditionsAgree = (vars : List Var) (row : Row) → IsAsWide vars row → (c : Expr) → C.holds (rex_of vars c) row ≡ holds c (bind vars row)

-- ---- columns

-- the values of variables' columns are the variables' values
abbrev pub ValuesAgree : Type 0
ValuesAgree = (vars : List Var) (row : Row) → IsAsWide vars row → (vs : List Var) → C.cut (columns_of vars vs) row ≡ values_at vs (bind vars row)

-- rows that are cut
abbrev pub CutsAgree : Type 0
CutsAgree = (vars : List Var) (row : Row) → IsAsWide vars row → (vs : List Var) → bind vs (C.cut (columns_of vars vs) row) ≡ V.cut vs (bind vars row)

-- the values of old variables under new names
abbrev pub RenamesAgree : Type 0
RenamesAgree = (vars : List Var) (row : Row) → IsAsWide vars row → (made vs : List Var) → bind made (C.cut (columns_of vars vs) row) ≡ renamed made vs (bind vars row)

abbrev pub KeysAgree : Type 0
KeysAgree = (vars : List Var) (row : Row) → IsAsWide vars row → (keys : List (Var × Var)) → C.key_of (columns_of vars (old_of keys)) row ≡ V.key_of keys (bind vars row)

-- the parts that hashes name
abbrev pub HashesAgree : Type 0
HashesAgree = (vars : List Var) (row : Row) → IsAsWide vars row → (n : ℕ) (vs : List Var) → C.part_of n (columns_of vars vs) row ≡ part_of n vs (bind vars row)

-- the rows that a hash sends to a part
abbrev pub HashedRowsAgree : Type 0
HashedRowsAgree = (vars : List Var) (rows : List Row) → AreAsWide vars rows → (n j : ℕ) (vs : List Var)
    → map (bind vars) (filter (λ row. nat_eq (C.part_of n (columns_of vars vs) row) j) rows) ≡ filter (λ r. nat_eq (part_of n vs r) j) (map (bind vars) rows)

-- rows of several lists that come as one
abbrev pub InterleavesAgree : Type 0
InterleavesAgree = (vars : List Var) (lists : List (List Row)) (rows : List Row) → C.Interleaves lists rows → Interleaves (map (map (bind vars)) lists) (map (bind vars) rows)

-- ---- new values

abbrev pub AssignsAgree : Type 0
AssignsAgree = (vars : List Var) (row : Row) → IsAsWide vars row → (made : List (Var × Expr)) → NoTwice (vars ++ made_vars made)
    → bind (vars ++ made_vars made) (C.assigned (made_rexes vars made) row) ≡ V.assigned made (bind vars row)

abbrev pub UnnestsAgree : Type 0
UnnestsAgree = (vars : List Var) (row : Row) → IsAsWide vars row → (v : Var) (g : Generator) → NoTwice (vars ++ v ∷ [])
    → map (bind (vars ++ v ∷ [])) (C.expanded (gen_rex vars g) row) ≡ V.expanded v g (bind vars row)

-- ---- order

abbrev pub OrdersAgree : Type 0
OrdersAgree = (vars : List Var) (a b : Row) → IsAsWide vars a → IsAsWide vars b → (keys : List OrderKey) → C.keys_cmp (sort_keys vars keys) a b ≡ V.keys_cmp keys (bind vars a) (bind vars b)

-- rows are in order by column where they are by variable
abbrev pub SortsAgree : Type 0
SortsAgree = (vars : List Var) (rows : List Row) → AreAsWide vars rows → (keys : List OrderKey) → IsSorted (C.keys_cmp (sort_keys vars keys)) rows ↔ IsSorted (V.keys_cmp keys) (map (bind vars) rows)

-- ---- aggregates

abbrev pub AggregatesAgree : Type 0
AggregatesAgree = (vars : List Var) (rows : List Row) → AreAsWide vars rows → (call : AggCall) → agg_value (agg_rex vars call) rows ≡ agg_call call (map (bind vars) rows)

abbrev pub AggregateRowsAgree : Type 0
AggregateRowsAgree = (vars : List Var) (rows : List Row) → AreAsWide vars rows → (made : List (Var × AggCall))
    → bind (made_vars made) (C.agg_row (made_aggs vars made) rows) ≡ V.agg_row made (map (bind vars) rows)

abbrev pub KindsAgree : Type 0
KindsAgree = (vars : List Var) (call : AggCall) → agg_of (agg_rex vars call) ≡ agg_kind call

-- the values of the row that binds values to variables are those values
abbrev pub ValuesReturn : Type 0
ValuesReturn = (vars : List Var) → NoTwice vars → (row : Row) → IsAsWide vars row → values_at vars (bind vars row) ≡ row

-- ---- joins

abbrev pub JoinsAgree : Type 0
JoinsAgree = (ls rs : List Var) → NoTwice (ls ++ rs) → (left right : List Row) → AreAsWide ls left → AreAsWide rs right → (hash outer : Bool) (c : Expr)
    → map (bind (ls ++ rs)) (C.joined (length (ls ++ rs)) (join_arg hash outer ls rs c) left right) ≡ joined outer ls c (map (bind ls) left) (map (bind rs) right)

-- ---- groups

-- a group by column as one by variable
abbrev pub bind_group : List Var → C.Group → V.Group
bind_group vars g = (bind vars g.0, map (bind vars) g.1)

abbrev pub GroupingsAgree : Type 0
GroupingsAgree = (vars : List Var) (rows : List Row) → AreAsWide vars rows → (keys : List (Var × Var)) (groups : List C.Group)
    → C.IsGrouping (columns_of vars (old_of keys)) rows groups → V.IsGrouping keys (map (bind vars) rows) (map (bind_group vars) groups)

abbrev pub StretchesAgree : Type 0
StretchesAgree = (vars : List Var) (rows : List Row) → AreAsWide vars rows → (keys : List (Var × Var)) (groups : List C.Group)
    → C.AreStretches (columns_of vars (old_of keys)) rows groups → AreStretches keys (map (bind vars) rows) (map (bind_group vars) groups)

abbrev pub DistinctsAgree : Type 0
DistinctsAgree = (vars : List Var) → NoTwice vars → (rows : List Row) → AreAsWide vars rows → (kept : List Row) → C.IsDistinctOf rows kept → V.IsDistinctOf (map (bind vars) rows) (map (bind vars) kept)

-- ---- nested plans

-- what a nested plan allows by column, over outer rows of these variables, the plan allows; no variable is given or made twice
abbrev pub NestedPlansAgree : Type 0
NestedPlansAgree = (n : Plan) (vars : List Var) → FitsEach n true vars → NoTwice (vars ++ makes n) → (outer rows : List Row) → AreAsWide vars outer → NAllows (nested_of vars n) outer rows → (passing : Bool) (sets : V.Sets)
    → V.Allows n passing sets vars (map (bind vars) outer) (map (bind (V.live n vars)) rows) × AreAsWide (V.live n vars) rows

-- rows with the values of a nested plan behind them
abbrev pub SubplansAgree : Type 0
SubplansAgree = (n : Plan) (vars : List Var) → IsInner n vars → NoTwice (vars ++ makes n) → (rows out : List Row) → AreAsWide vars rows → H.IsNested (nested_of vars n) rows out → (passing : Bool) (sets : V.Sets)
    → IsNested n passing sets vars (map (bind vars) rows) (map (bind (vars ++ V.live n [])) out) × AreAsWide (vars ++ V.live n []) out

-- a row for each group
abbrev pub GroupRowsAgree : Type 0
GroupRowsAgree = (n : Plan) (vars : List Var) → IsInner n vars → NoTwice (vars ++ makes n) → (keys : List (Var × Var)) (rows out : List Row) → AreAsWide vars rows
    → H.IsGrouped (columns_of vars (old_of keys)) (nested_of vars n) rows out → (passing : Bool) (sets : V.Sets)
    → IsGrouped keys n passing sets vars (map (bind vars) rows) (map (bind (V.new_of keys ++ V.live n [])) out) × AreAsWide (V.new_of keys ++ V.live n []) out

-- a row for each stretch
abbrev pub StretchRowsAgree : Type 0
StretchRowsAgree = (n : Plan) (vars : List Var) → IsInner n vars → NoTwice (vars ++ makes n) → (keys : List (Var × Var)) (rows out : List Row) → AreAsWide vars rows
    → H.IsPreGrouped (columns_of vars (old_of keys)) (nested_of vars n) rows out → (passing : Bool) (sets : V.Sets)
    → IsPreGrouped keys n passing sets vars (map (bind vars) rows) (map (bind (V.new_of keys ++ V.live n [])) out) × AreAsWide (V.new_of keys ++ V.live n []) out

-- ---- row-wise nested plans

abbrev pub RowWiseAgrees : Type 0
RowWiseAgrees = (n : Plan) (vars : List Var) → FitsEach n true vars → H.is_row_wise (nested_of vars n) ≡ is_row_wise n

-- what aggregates are taken over, over these rows, are values of the program
abbrev pub AreTaken : List AggRex → List Row → Type 0
AreTaken made rows = AllByRecursion (λ a. All IsValue (C.agg_values a rows)) made

-- so are those of the aggregates of a row-wise nested plan
abbrev pub HaveValues : NestedPlan → List Row → Type 0
HaveValues (Aggregate' made _ (Is p At)) rows = AreTaken made (H.chain_rows p rows)
HaveValues _ rows = Unit {0}

-- the joined states of pieces give the nested plan's row over all their rows
abbrev pub StatesJoin : Type 0
StatesJoin = (n : NestedPlan) → H.is_row_wise n ≡ true → (pieces : List (List Row)) → AllByRecursion (HaveValues n) pieces → (values : Row)
    → AreJoined (map agg_of (H.root_aggs n)) (map (H.n_state n) pieces) values → NAllows n (flat_map (λ rows. rows) pieces) (values ∷ [])

-- what a group works by
abbrev pub group_by : List ℕ → NestedPlan → GroupArg
group_by keys n = record { keys = keys; nested = Some n }

-- pieces of rows, each handed on with its state, are put together to the groups' rows
abbrev pub PiecesAreGrouped : Type 0
PiecesAreGrouped = (n : NestedPlan) → H.is_row_wise n ≡ true → (keys : List ℕ) (rows : List Row) (pieces : List C.Group) → C.ArePieces keys rows pieces → AllByRecursion (λ g. HaveValues n (C.rows_in g)) pieces → (out : List Row)
    → IsGroupOf (group_by keys n) (map (piece_row (group_by keys n)) pieces) out → H.IsGrouped keys n rows out

-- what a distinct of rows of this many columns works by
abbrev pub distinct_by : ℕ → GroupArg
distinct_by width = record { keys = range_with_len 0 width; nested = None }

-- pieces of equal rows, each handed on once, are put together to the different rows
abbrev pub PiecesAreDistinct : Type 0
PiecesAreDistinct = (width : ℕ) (rows : List Row) → All (λ r. length r ≡ width) rows → (pieces : List C.Group) → C.ArePieces (distinct_by width).keys rows pieces → (out : List Row)
    → IsGroupOf (distinct_by width) (map (piece_row (distinct_by width)) pieces) out → C.IsDistinctOf rows out

-- the joined states of parts of the rows give the row of the aggregates over all rows
abbrev pub PartsJoin : Type 0
PartsJoin = (made : List AggRex) (parts : List (List Row)) → AllByRecursion (AreTaken made) parts → (values : Row) → AreJoined (map agg_of made) (map (C.state_row made) parts) values → values ≡ C.agg_row made (flat_map (λ rows. rows) parts)

-- ---- lists of rows

abbrev pub AssignedRowsAgree : Type 0
AssignedRowsAgree = (vars : List Var) (rows : List Row) → AreAsWide vars rows → (made : List (Var × Expr)) → NoTwice (vars ++ made_vars made)
    → (map (bind (vars ++ made_vars made)) (map (C.assigned (made_rexes vars made)) rows) ≡ map (V.assigned made) (map (bind vars) rows)) × AreAsWide (vars ++ made_vars made) (map (C.assigned (made_rexes vars made)) rows)

abbrev pub SelectedRowsAgree : Type 0
SelectedRowsAgree = (vars : List Var) (rows : List Row) → AreAsWide vars rows → (c : Expr)
    → (map (bind vars) (filter (C.holds (rex_of vars c)) rows) ≡ filter (holds c) (map (bind vars) rows)) × AreAsWide vars (filter (C.holds (rex_of vars c)) rows)

abbrev pub CutRowsAgree : Type 0
CutRowsAgree = (vars : List Var) (rows : List Row) → AreAsWide vars rows → (vs : List Var)
    → (map (bind vs) (map (C.cut (columns_of vars vs)) rows) ≡ map (V.cut vs) (map (bind vars) rows)) × AreAsWide vs (map (C.cut (columns_of vars vs)) rows)

abbrev pub ExpandedRowsAgree : Type 0
ExpandedRowsAgree = (vars : List Var) (rows : List Row) → AreAsWide vars rows → (v : Var) (g : Generator) → NoTwice (vars ++ v ∷ [])
    → (map (bind (vars ++ v ∷ [])) (flat_map (C.expanded (gen_rex vars g)) rows) ≡ flat_map (V.expanded v g) (map (bind vars) rows)) × AreAsWide (vars ++ v ∷ []) (flat_map (C.expanded (gen_rex vars g)) rows)

abbrev pub RenamedRowsAgree : Type 0
RenamedRowsAgree = (vars : List Var) (rows : List Row) → AreAsWide vars rows → (made vs : List Var) → length vs ≡ length made
    → (map (bind made) (map (C.cut (columns_of vars vs)) rows) ≡ map (renamed made vs) (map (bind vars) rows)) × AreAsWide made (map (C.cut (columns_of vars vs)) rows)

-- a condition holds of all rows by column where it does by variable
abbrev pub ChecksAgree : Type 0
ChecksAgree = (vars : List Var) (rows : List Row) → AreAsWide vars rows → (c : Expr) → All (λ row. C.holds (rex_of vars c) row ≡ true) rows ↔ All (λ r. holds c r ≡ true) (map (bind vars) rows)

-- joined rows have the values of both sides
abbrev pub JoinedRowsAreWide : Type 0
JoinedRowsAreWide = (ls rs : List Var) (left right : List Row) → AreAsWide ls left → AreAsWide rs right → (hash outer : Bool) (c : Expr) → AreAsWide (ls ++ rs) (C.joined (length (ls ++ rs)) (join_arg hash outer ls rs c) left right)

-- ---- values

-- expressions over rows of values give values, where their literals are values
abbrev pub ValuesStay : Type 0
ValuesStay = (e : Rex) → AllByRecursion IsValue (literals e) → (row : Row) → AllByRecursion IsValue row → IsValue (eval_rex e row)

-- so do generators
abbrev pub ItemsAreValues : Type 0
ItemsAreValues = (g : GenRex) → AllByRecursion IsValue (gen_literals g) → (row : Row) → AllByRecursion IsValue row → AllByRecursion IsValue (C.items g row)

-- over rows of values, aggregates whose literals are values are taken over values
abbrev pub TakenAreValues : Type 0
TakenAreValues = (made : List AggRex) → AllByRecursion IsValue (flat_map agg_literals made) → (rows : List Row) → AllByRecursion AreValues rows → AreTaken made rows

-- so are those of a nested plan
abbrev pub NestedHasValues : Type 0
NestedHasValues = (n : NestedPlan) → AllByRecursion IsValue (n_literals n) → (rows : List Row) → AllByRecursion AreValues rows → HaveValues n rows

-- an aggregate of values is a value
abbrev pub AggregatesAreValues : Type 0
AggregatesAreValues = (a : Agg) (vs : List Value) → AllByRecursion IsValue vs → IsValue (agg a vs)
