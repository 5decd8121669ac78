-- The lists of rows that a plan allows.
use Rattle.std.specs.Prelude.{◌≡◌, ◌≢◌, ◌⊎◌, Bool, true, false, List, [], ◌∷◌, ◌++◌, map, filter, take, drop, if◌then◌else◌, nat_eq}
use Rattle.std.specs.List.{flat_map, list_any, AllZip, All, AllPairs, Contains}
use Rattle.std.specs.List.Sorted.{IsPermutation, IsSorted}
use Rattle.std.specs.Cmp.Lexicographic.{pointwise}
use Rattle.std.specs.declared.cmp.Ordering.{Ordering}
use Rattle.std.specs.Ordering.{ordering_then, ordering_reverse}
use Rattle.std.specs.declared.cmp.Ordering.TheVariants.{Equal}
use Rattle.al_value.specs.declared.value.Value.{Value}
use Rattle.al_value.specs.declared.value.Value.TheVariants as V
use Rattle.al_value.specs.Value.{value_cmp}
use Rattle.al_plan.specs.declared.expr.Var.{Var}
use Rattle.al_plan.specs.declared.expr.Expr.{Expr}
use Rattle.al_plan.specs.declared.plan.OrderKey.{OrderKey}
use Rattle.al_plan.specs.declared.plan.AggCall.{AggCall}
use Rattle.al_plan.specs.declared.plan.Generator.{Generator}
use Rattle.al_plan.specs.declared.plan.Plan.{Plan, fold-Plan, rec-Plan}
use Rattle.al_plan.specs.declared.plan.Plan.TheOpen.{Plan-F}
use Rattle.al_plan.specs.declared.plan.Plan.TheOpen as P
use Rattle.al_plan.specs.Eval.{Bytes, Env, bind, eval, holds}
use Rattle.al_plan.specs.Calls.{agg_call, items}

-- the datasets' rows by name, each row with its values in the order of the columns
abbrev pub Sets : Type 0
Sets = Bytes → List (List Value)

-- the live variables, in order; `given` is live at `nested`
abbrev pub live_step : Plan-F (List Var → List Var) → List Var → List Var
live_step (P.Scan set vars) given = vars
live_step P.Empty given = []
live_step P.Nested given = given
live_step (P.Assign made p) given = p given ++ map (λ m. m.0) made
live_step (P.Select c p) given = p given
live_step (P.Project vars p) given = vars
live_step (P.Unnest v g p) given = p given ++ v ∷ []
live_step (P.Subplan n p) given = p given ++ n (p given)
live_step (P.Join c l r) given = l given ++ r given
live_step (P.LeftJoin c l r) given = l given ++ r given
live_step (P.Group keys n p) given = map (λ k. k.0) keys ++ n (p given)
live_step (P.Distinct p) given = p given
live_step (P.Union made ls rs l r) given = made
live_step (P.Aggregate made p) given = map (λ m. m.0) made
live_step (P.Order keys p) given = p given
live_step (P.Limit n k p) given = p given
live_step (P.Check name c p) given = p given
live_step (P.Result vars p) given = vars

unfoldable pub live : Plan → List Var → List Var
live = fold-Plan (List Var → List Var) live_step

-- whether the order of the rows is a part of the answer
abbrev pub ordered_step : Plan-F Bool → Bool
ordered_step (P.Scan set vars) = false
ordered_step P.Empty = false
ordered_step P.Nested = false
ordered_step (P.Assign made p) = p
ordered_step (P.Select c p) = p
ordered_step (P.Project vars p) = p
ordered_step (P.Unnest v g p) = p
ordered_step (P.Subplan n p) = p
ordered_step (P.Join c l r) = false
ordered_step (P.LeftJoin c l r) = false
ordered_step (P.Group keys n p) = false
ordered_step (P.Distinct p) = false
ordered_step (P.Union made ls rs l r) = false
ordered_step (P.Aggregate made p) = false
ordered_step (P.Order keys p) = true
ordered_step (P.Limit n k p) = p
ordered_step (P.Check name c p) = p
ordered_step (P.Result vars p) = p

unfoldable pub ordered : Plan → Bool
ordered = fold-Plan Bool ordered_step

abbrev pub is_among : List Var → Bytes → Bool
is_among vars q = list_any (λ v. pointwise nat_eq v.name q) vars

abbrev pub nulls : Env
nulls q = V.Null

-- the row cut to these variables
abbrev pub cut : List Var → Env → Env
cut vars r q = if is_among vars q then r q else V.Null

-- the values of one row at these variables, and of another elsewhere
abbrev pub beside : List Var → Env → Env → Env
beside vars a b q = if is_among vars q then a q else b q

-- a row with new variables
abbrev pub with_new : List Var → List Value → Env → Env
with_new new values r = beside new (bind new values) r

abbrev pub assigned : List (Var × Expr) → Env → Env
assigned made r = with_new (map (λ m. m.0) made) (map (λ m. eval m.1 r) made) r

abbrev pub expanded : Var → Generator → Env → List Env
expanded v g r = map (λ x. with_new (v ∷ []) (x ∷ []) r) (items g r)

-- the old variables' values under the new names
abbrev pub renamed : List Var → List Var → Env → Env
renamed new old r = bind new (map (λ v. r v.name) old)

-- the pairs of a left row whose condition is TRUE
abbrev pub matches : List Var → Expr → List Env → Env → List Env
matches vars c rs l = filter (holds c) (map (beside vars l) rs)

-- the left row with NULL for the right variables, where it is in no pair
abbrev pub or_alone : Env → List Env → List Env
or_alone l [] = l ∷ []
or_alone l (r ∷ rs) = r ∷ rs

abbrev pub pairs : List Var → Expr → List Env → List Env → List Env
pairs vars c ls rs = flat_map (matches vars c rs) ls

abbrev pub left_pairs : List Var → Expr → List Env → List Env → List Env
left_pairs vars c ls rs = flat_map (λ l. or_alone (beside vars l nulls) (matches vars c rs l)) ls

abbrev pub directed : Bool → Ordering → Ordering
directed descending o = if descending then ordering_reverse o else o

-- the order of two rows by the keys
abbrev pub keys_cmp : List OrderKey → Env → Env → Ordering
keys_cmp [] a b = Equal
keys_cmp (k ∷ ks) a b = ordering_then (directed k.descending (value_cmp (a k.var.name) (b k.var.name))) (keys_cmp ks a b)

-- the values of the old variables
abbrev pub key_of : List (Var × Var) → Env → List Value
key_of keys r = map (λ k. r k.1.name) keys

abbrev pub new_of : List (Var × Var) → List Var
new_of keys = map (λ k. k.0) keys

-- a group is its first row and the other rows with the same key
abbrev pub Group : Type 0
Group = Env × List Env

abbrev pub rows_in : Group → List Env
rows_in g = g.0 ∷ g.1

-- the rows cut into groups of equal keys, whose keys differ; NULL equals NULL
pub record IsGrouping (keys : List (Var × Var)) (rows : List Env) (groups : List Group) : Type 0 where
  pub moved : IsPermutation rows (flat_map rows_in groups)
  pub alike : All (λ g. All (λ r. key_of keys r ≡ key_of keys g.0) g.1) groups
  pub apart : AllPairs (λ g h. key_of keys g.0 ≢ key_of keys h.0) groups

-- the different rows, each once, in any order
pub record IsDistinctOf (rows kept : List Env) : Type 0 where
  pub within : All (Contains rows) kept
  pub all : All (Contains kept) rows
  pub once : AllPairs ◌≢◌ kept

-- the row of the aggregates' values
abbrev pub agg_row : List (Var × AggCall) → List Env → Env
agg_row made rows = bind (map (λ m. m.0) made) (map (λ m. agg_call m.1 rows) made)

-- the same list, or where its order is free any order of it
abbrev pub IsOrderOf : Bool → List Env → List Env → Type 0
IsOrderOf true xs ys = ys ≡ xs
IsOrderOf false xs ys = IsPermutation xs ys

-- P, but where checks are read as passing all rows on
abbrev pub IsChecked : Bool → Type 0 → Type 0
IsChecked true P = Unit {0}
IsChecked false P = P

-- whether a list of rows is allowed: whether checks are read as passing all rows on, the datasets, the variables of the outer rows, the outer rows, and the list
abbrev pub Allowing : Type 1
Allowing = Bool → Sets → List Var → List Env → List Env → Type 0

-- a list that the input allows
abbrev pub Over : Allowing → Bool → Sets → List Var → List Env → (List Env → Type 0) → Type 0
Over allows passing sets given outer P = (input : List Env) × allows passing sets given outer input × P input

-- the one row that a nested plan allows over these outer rows
abbrev pub Gives : Allowing → Bool → Sets → List Var → List Env → (Env → Type 0) → Type 0
Gives allows passing sets given outer P = (inner : Env) × allows passing sets given outer (inner ∷ []) × P inner

-- one layer of a plan: `plan` is the plan of an input, and `allows` what it allows
abbrev pub allows_step : (X : Type 0) → (X → Plan) → (X → Allowing) → Plan-F X → Allowing
allows_step X plan allows (P.Scan set vars) passing sets given outer rows = IsPermutation (map (bind vars) (sets set)) rows
allows_step X plan allows P.Empty passing sets given outer rows = rows ≡ nulls ∷ []
allows_step X plan allows P.Nested passing sets given outer rows = IsPermutation outer rows
allows_step X plan allows (P.Assign made p) passing sets given outer rows = Over (allows p) passing sets given outer (λ input. rows ≡ map (assigned made) input)
allows_step X plan allows (P.Select c p) passing sets given outer rows = Over (allows p) passing sets given outer (λ input. rows ≡ filter (holds c) input)
allows_step X plan allows (P.Project vars p) passing sets given outer rows = Over (allows p) passing sets given outer (λ input. rows ≡ map (cut vars) input)
allows_step X plan allows (P.Unnest v g p) passing sets given outer rows = Over (allows p) passing sets given outer (λ input. IsOrderOf (ordered (plan p)) (flat_map (expanded v g) input) rows)
allows_step X plan allows (P.Subplan n p) passing sets given outer rows =
    Over (allows p) passing sets given outer (λ input. AllZip (λ r row. Gives (allows n) passing sets (live (plan p) given) (r ∷ []) (λ inner. row ≡ beside (live (plan n) (live (plan p) given)) inner r)) input rows)
allows_step X plan allows (P.Join c l r) passing sets given outer rows =
    Over (allows l) passing sets given outer (λ left. Over (allows r) passing sets given outer (λ right. IsPermutation (pairs (live (plan l) given) c left right) rows))
allows_step X plan allows (P.LeftJoin c l r) passing sets given outer rows =
    Over (allows l) passing sets given outer (λ left. Over (allows r) passing sets given outer (λ right. IsPermutation (left_pairs (live (plan l) given) c left right) rows))
allows_step X plan allows (P.Group keys n p) passing sets given outer rows =
    Over (allows p) passing sets given outer (λ input. (groups : List Group) × (made : List Env) × IsGrouping keys input groups
    × AllZip (λ g row. Gives (allows n) passing sets (live (plan p) given) (rows_in g) (λ inner. row ≡ with_new (new_of keys) (key_of keys g.0) inner)) groups made × IsPermutation made rows)
allows_step X plan allows (P.Distinct p) passing sets given outer rows = Over (allows p) passing sets given outer (λ input. IsDistinctOf input rows)
allows_step X plan allows (P.Union made ls rs l r) passing sets given outer rows =
    Over (allows l) passing sets given outer (λ left. Over (allows r) passing sets given outer (λ right. IsPermutation (map (renamed made ls) left ++ map (renamed made rs) right) rows))
allows_step X plan allows (P.Aggregate made p) passing sets given outer rows = Over (allows p) passing sets given outer (λ input. rows ≡ agg_row made input ∷ [])
allows_step X plan allows (P.Order keys p) passing sets given outer rows = Over (allows p) passing sets given outer (λ input. IsPermutation input rows × IsSorted (keys_cmp keys) rows)
allows_step X plan allows (P.Limit n k p) passing sets given outer rows = Over (allows p) passing sets given outer (λ input. rows ≡ take n (drop k input))
allows_step X plan allows (P.Check name c p) passing sets given outer rows = allows p passing sets given outer rows × IsChecked passing (All (λ r. holds c r ≡ true) rows)
allows_step X plan allows (P.Result vars p) passing sets given outer rows = Over (allows p) passing sets given outer (λ input. rows ≡ map (cut vars) input)

unfoldable pub Allows : Plan → Allowing
Allows = rec-Plan Allowing allows_step

-- a check of this name over an input that allows a list with a row that is not TRUE, lower checks passing all rows on; a nested plan has no checks
abbrev pub Faulting : Type 1
Faulting = Sets → List Var → List Env → Bytes → Type 0

abbrev pub faults_step : (X : Type 0) → (X → Plan) → (X → Faulting) → Plan-F X → Faulting
faults_step X plan faults (P.Scan s vs) sets given outer name = ⊥
faults_step X plan faults P.Empty sets given outer name = ⊥
faults_step X plan faults P.Nested sets given outer name = ⊥
faults_step X plan faults (P.Assign m p) sets given outer name = faults p sets given outer name
faults_step X plan faults (P.Select c p) sets given outer name = faults p sets given outer name
faults_step X plan faults (P.Project vs p) sets given outer name = faults p sets given outer name
faults_step X plan faults (P.Unnest v g p) sets given outer name = faults p sets given outer name
faults_step X plan faults (P.Subplan n p) sets given outer name = faults p sets given outer name
faults_step X plan faults (P.Join c l r) sets given outer name = faults l sets given outer name ⊎ faults r sets given outer name
faults_step X plan faults (P.LeftJoin c l r) sets given outer name = faults l sets given outer name ⊎ faults r sets given outer name
faults_step X plan faults (P.Group ks n p) sets given outer name = faults p sets given outer name
faults_step X plan faults (P.Distinct p) sets given outer name = faults p sets given outer name
faults_step X plan faults (P.Union m ls rs l r) sets given outer name = faults l sets given outer name ⊎ faults r sets given outer name
faults_step X plan faults (P.Aggregate m p) sets given outer name = faults p sets given outer name
faults_step X plan faults (P.Order ks p) sets given outer name = faults p sets given outer name
faults_step X plan faults (P.Limit n k p) sets given outer name = faults p sets given outer name
faults_step X plan faults (P.Check own c p) sets given outer name =
    ((name ≡ own) × ((input : List Env) × (r : Env) × Allows (plan p) true sets given outer input × Contains input r × (holds c r ≡ false))) ⊎ faults p sets given outer name
faults_step X plan faults (P.Result vs p) sets given outer name = faults p sets given outer name

unfoldable pub Faults : Plan → Faulting
Faults = rec-Plan Faulting faults_step
