-- What small plans allow over a few rows, and what not.
use Rattle.std.specs.Prelude.{◌≡◌, ◌⊎◌, ℕ, pos, Bool, true, false, List, [], ◌∷◌, map, nat_eq, if◌then◌else◌}
use Rattle.std.specs.List.Sorted.{IsPermutation}
use Rattle.std.specs.Cmp.Lexicographic.{pointwise}
use Rattle.al_value.specs.declared.value.Value.{Value}
use Rattle.al_value.specs.declared.value.Value.TheVariants as V
use Rattle.al_plan.specs.declared.expr.Var.{Var}
use Rattle.al_func.specs.declared.func.Func.TheVariants as F
use Rattle.al_plan.specs.declared.expr.Expr.{Expr}
use Rattle.al_plan.specs.declared.expr.Expr.TheVariants as E
use Rattle.al_plan.specs.declared.plan.OrderKey.{OrderKey}
use Rattle.al_plan.specs.declared.plan.AggCall.TheVariants as C
use Rattle.al_plan.specs.declared.plan.Generator.{Generator}
use Rattle.al_plan.specs.declared.plan.Generator.TheVariants as G
use Rattle.al_plan.specs.declared.plan.Plan.{Plan}
use Rattle.al_plan.specs.declared.plan.Plan.TheVariants as P
use Rattle.al_plan.specs.Eval.{Bytes, Env, bind}
use Rattle.al_plan.specs.Uses.{named}
use Rattle.al_plan.specs.Allows.{Sets, Allows, Faults, nulls}

-- ---- names and rows

abbrev pub t : Bytes
t = 116 ∷ []

abbrev pub u : Bytes
u = 117 ∷ []

abbrev pub a : Var
a = named (97 ∷ [])

abbrev pub b : Var
b = named (98 ∷ [])

abbrev pub n : Var
n = named (110 ∷ [])

abbrev pub int : ℕ → Value
int n = V.Int (pos n)

-- a row of one variable
abbrev pub row : Var → Value → Env
row x v = bind (x ∷ []) (v ∷ [])

-- each dataset has these rows of one column
abbrev pub one_column : List Value → Sets
one_column vs q = map (λ v. v ∷ []) vs

-- the dataset t has these values in its one column, and each other dataset has those
abbrev pub two_sets : List Value → List Value → Sets
two_sets vs ws q = if pointwise nat_eq q t then one_column vs q else one_column ws q

-- a row of the variables a and b
abbrev pub pair : Value → Value → Env
pair v w = bind (a ∷ b ∷ []) (v ∷ w ∷ [])

abbrev pub scan_a : Plan
scan_a = P.Scan t (a ∷ [])

abbrev pub scan_ab : Plan
scan_ab = P.Scan t (a ∷ b ∷ [])

-- $a < number
abbrev pub below : ℕ → Expr
below k = E.Call F.Lt (E.Var a ∷ E.Lit (int k) ∷ [])

-- the count of the rows, as n
abbrev pub counting : Plan → Plan
counting p = P.Aggregate ((n, C.CountAll) ∷ []) p

-- whether a plan allows a list of rows
abbrev pub Answers : Sets → Plan → List Env → Type 0
Answers sets p rows = Allows p false sets [] [] rows

-- these rows are allowed, and no other list is
pub record AllowsOnly (sets : Sets) (p : Plan) (rows : List Env) : Type 0 where
  pub allowed : Answers sets p rows
  pub no_other : (others : List Env) → Answers sets p others → others ≡ rows

-- these rows are allowed in each order, and no other list is
pub record AllowsOrders (sets : Sets) (p : Plan) (rows : List Env) : Type 0 where
  pub allowed : (others : List Env) → IsPermutation rows others → Answers sets p others
  pub no_other : (others : List Env) → Answers sets p others → IsPermutation rows others

-- ---- scan, limit

abbrev pub one_and_two : Sets
one_and_two = one_column (int 1 ∷ int 2 ∷ [])

-- the rows of a dataset have no order
abbrev pub ScanIsFree : Type 0
ScanIsFree = AllowsOrders one_and_two scan_a (row a (int 1) ∷ row a (int 2) ∷ [])

abbrev pub first_one : Plan
first_one = P.Limit 1 0 scan_a

-- a limit of 1 over an unordered scan of two rows may give either of them, and gives one
pub record LimitTakesAny : Type 0 where
  pub one : Answers one_and_two first_one (row a (int 1) ∷ [])
  pub other : Answers one_and_two first_one (row a (int 2) ∷ [])
  pub no_more : (rows : List Env) → Answers one_and_two first_one rows → (rows ≡ row a (int 1) ∷ []) ⊎ (rows ≡ row a (int 2) ∷ [])
  pub not_none : Answers one_and_two first_one [] → ⊥

-- ---- select, aggregate, distinct, empty, project

-- a row whose condition is NULL is dropped like one whose condition is FALSE
abbrev pub SelectDropsNull : Type 0
SelectDropsNull = AllowsOnly (one_column (V.Null ∷ int 1 ∷ int 20 ∷ [])) (P.Select (below 15) scan_a) (row a (int 1) ∷ [])

-- no rows are counted as one row with 0
abbrev pub NothingIsCounted : Type 0
NothingIsCounted = AllowsOnly (one_column []) (counting scan_a) (row n (int 0) ∷ [])

-- two rows of NULL are one
abbrev pub DistinctNull : Type 0
DistinctNull = AllowsOnly (one_column (V.Null ∷ V.Null ∷ [])) (P.Distinct scan_a) (row a V.Null ∷ [])

-- whatever the datasets are
abbrev pub EmptyIsOneRow : Type 0
EmptyIsOneRow = (sets : Sets) → AllowsOnly sets P.Empty (nulls ∷ [])

-- one row of two variables
abbrev pub a_pair : Sets
a_pair q = (int 1 ∷ int 2 ∷ []) ∷ []

-- the row of 1 and 2 is cut to its first variable
abbrev pub ProjectCuts : Type 0
ProjectCuts = AllowsOnly a_pair (P.Project (a ∷ []) scan_ab) (row a (int 1) ∷ [])

abbrev pub ResultCuts : Type 0
ResultCuts = AllowsOnly a_pair (P.Result (a ∷ []) scan_ab) (row a (int 1) ∷ [])

-- ---- check

abbrev pub small : Bytes
small = 115 ∷ []

-- the first row of 1 and 20, which all have to be below 15
abbrev pub first_checked : Plan
first_checked = P.Limit 1 0 (P.Check small (below 15) scan_a)

abbrev pub one_and_twenty : Sets
one_and_twenty = one_column (int 1 ∷ int 20 ∷ [])

-- a check sees the rows that a limit above it doesn't need
pub record CheckSeesAll : Type 0 where
  pub faults : Faults first_checked one_and_twenty [] [] small
  pub no_other : (name : Bytes) → Faults first_checked one_and_twenty [] [] name → name ≡ small
  pub nothing : (rows : List Env) → Answers one_and_twenty first_checked rows → ⊥
  pub passing : Allows first_checked true one_and_twenty [] [] (row a (int 1) ∷ [])

abbrev pub upper : Bytes
upper = 117 ∷ []

-- a check over a check
abbrev pub two_checks : Plan
two_checks = P.Check upper (below 15) (P.Check small (below 15) scan_a)

-- the lower check hides no row from the upper one: both names fault
pub record ChecksFaultBoth : Type 0 where
  pub below_faults : Faults two_checks one_and_twenty [] [] small
  pub above_faults : Faults two_checks one_and_twenty [] [] upper
  pub no_other : (name : Bytes) → Faults two_checks one_and_twenty [] [] name → (name ≡ small) ⊎ (name ≡ upper)

-- where each row is TRUE, all lists of the input are allowed, and no name faults
pub record CheckPasses : Type 0 where
  pub rows : AllowsOrders one_and_two (P.Check small (below 15) scan_a) (row a (int 1) ∷ row a (int 2) ∷ [])
  pub no_fault : (name : Bytes) → Faults (P.Check small (below 15) scan_a) one_and_two [] [] name → ⊥

-- ---- order

abbrev pub by_a : Bool → List OrderKey
by_a falling = record { var = a; descending = falling } ∷ []

-- 1 and NULL come as NULL and 1
abbrev pub OrderRises : Type 0
OrderRises = AllowsOnly (one_column (int 1 ∷ V.Null ∷ [])) (P.Order (by_a false) scan_a) (row a V.Null ∷ row a (int 1) ∷ [])

-- 1 and 2 come as 2 and 1 where the order is descending
abbrev pub OrderFalls : Type 0
OrderFalls = AllowsOnly one_and_two (P.Order (by_a true) scan_a) (row a (int 2) ∷ row a (int 1) ∷ [])

-- a limit passes over its second number of rows, and gives its first number of them
abbrev pub LimitSkips : Type 0
LimitSkips = AllowsOnly one_and_two (P.Limit 1 1 (P.Order (by_a false) scan_a)) (row a (int 2) ∷ [])

-- rows with equal keys stand in either order
abbrev pub TiesAreFree : Type 0
TiesAreFree = AllowsOrders (λ q. (int 1 ∷ int 10 ∷ []) ∷ (int 1 ∷ int 20 ∷ []) ∷ []) (P.Order (by_a false) scan_ab) (pair (int 1) (int 10) ∷ pair (int 1) (int 20) ∷ [])

-- ---- union, joins

abbrev pub scan_b : Plan
scan_b = P.Scan u (b ∷ [])

-- 1 and 2 under t, and 1 under u
abbrev pub two_and_one : Sets
two_and_one = two_sets (int 1 ∷ int 2 ∷ []) (int 1 ∷ [])

-- the rows of both inputs under the new name, the equal ones too
abbrev pub UnionKeepsAll : Type 0
UnionKeepsAll = AllowsOrders two_and_one (P.Union (n ∷ []) (a ∷ []) (b ∷ []) scan_a scan_b) (row n (int 1) ∷ row n (int 2) ∷ row n (int 1) ∷ [])

-- $a = $b
abbrev pub same : Expr
same = E.Call F.Eq (E.Var a ∷ E.Var b ∷ [])

-- 1 pairs with 1, and 2 stands alone
abbrev pub LeftJoinAlone : Type 0
LeftJoinAlone = AllowsOrders two_and_one (P.LeftJoin same scan_a scan_b) (pair (int 1) (int 1) ∷ pair (int 2) V.Null ∷ [])

-- 1 pairs with 1, and 2 is in no pair
abbrev pub JoinDropsAlone : Type 0
JoinDropsAlone = AllowsOnly two_and_one (P.Join same scan_a scan_b) (pair (int 1) (int 1) ∷ [])

-- NULL pairs with nothing, not with NULL
abbrev pub NullsDoNotJoin : Type 0
NullsDoNotJoin = AllowsOnly (one_column (V.Null ∷ [])) (P.Join same scan_a scan_b) []

-- ---- unnest, subplan, group, assign

-- the pieces of $a between the occurrences of `n`
abbrev pub by_n : Generator
by_n = G.Split (E.Var a) (E.Lit (V.Text (110 ∷ [])))

-- `Ann`
abbrev pub ann : Value
ann = V.Text (65 ∷ 110 ∷ 110 ∷ [])

-- a row of the variables b and a
abbrev pub made : Value → Value → Env
made v w = bind (b ∷ a ∷ []) (v ∷ w ∷ [])

-- `Ann` has the pieces `A`, empty and empty
abbrev pub UnnestGivesPieces : Type 0
UnnestGivesPieces = AllowsOrders (one_column (ann ∷ [])) (P.Unnest b by_n scan_a) (made (V.Text (65 ∷ [])) ann ∷ made (V.Text []) ann ∷ made (V.Text []) ann ∷ [])

-- over an ordered input the pieces keep their order
abbrev pub UnnestKeepsOrder : Type 0
UnnestKeepsOrder = AllowsOnly (one_column (ann ∷ [])) (P.Unnest b by_n (P.Order (by_a false) scan_a)) (made (V.Text (65 ∷ [])) ann ∷ made (V.Text []) ann ∷ made (V.Text []) ann ∷ [])

-- the row of `Ann` gets the count of its pieces, and stays one row
abbrev pub SubplanCounts : Type 0
SubplanCounts = AllowsOnly (one_column (ann ∷ [])) (P.Subplan (counting (P.Unnest b by_n P.Nested)) scan_a) (bind (n ∷ a ∷ []) (int 3 ∷ ann ∷ []) ∷ [])

-- the count of the rows of each value of a, which is b from there on
abbrev pub count_by_a : Plan
count_by_a = P.Group ((b, a) ∷ []) (counting P.Nested) scan_a

-- two rows with NULL are one group
abbrev pub NullIsAGroup : Type 0
NullIsAGroup = AllowsOnly (one_column (V.Null ∷ V.Null ∷ [])) count_by_a (bind (b ∷ n ∷ []) (V.Null ∷ int 2 ∷ []) ∷ [])

-- NULL and 1 are two groups, each of one row
abbrev pub GroupForEachKey : Type 0
GroupForEachKey = AllowsOrders (one_column (V.Null ∷ int 1 ∷ [])) count_by_a (bind (b ∷ n ∷ []) (V.Null ∷ int 1 ∷ []) ∷ bind (b ∷ n ∷ []) (int 1 ∷ int 1 ∷ []) ∷ [])

-- without rows there is no group
abbrev pub NoRowsNoGroup : Type 0
NoRowsNoGroup = AllowsOnly (one_column []) count_by_a []

-- the new variable's value stands beside the old one's
abbrev pub AssignAdds : Type 0
AssignAdds = AllowsOnly (one_column (int 1 ∷ [])) (P.Assign ((b, below 15) ∷ []) scan_a) (made (V.Bool true) (int 1) ∷ [])
