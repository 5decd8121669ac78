-- What operators need of their inputs, what they deliver, and which property meets which need.
use Rattle.std.specs.Prelude.{ℕ, zero, suc, Bool, true, false, not, ◌&&◌, ◌||◌, nat_eq, if◌then◌else◌, List, [], ◌∷◌, map, Option, Some, None}
use Rattle.std.specs.List.{filter_map}
use Rattle.std.specs.Cmp.Lexicographic.{pointwise}
use Rattle.al_func.specs.declared.func.Func.TheVariants as F
use Rattle.al_plan.specs.declared.expr.Var.{Var}
use Rattle.al_plan.specs.declared.expr.Expr.{Expr, out-Expr}
use Rattle.al_plan.specs.declared.expr.Expr.TheOpen.{Expr-F}
use Rattle.al_plan.specs.declared.expr.Expr.TheOpen as L
use Rattle.al_plan.specs.declared.plan.OrderKey.{OrderKey}
use Rattle.al_plan.specs.Allows.{is_among}
use Rattle.al_plan.specs.Accept.{are_among}
use Rattle.al_conj.specs.Conj.{conj}
use Rattle.al_phys.specs.declared.property.Partitioning.{Partitioning}
use Rattle.al_phys.specs.declared.property.Partitioning.TheVariants as D
use Rattle.al_phys.specs.declared.property.Local.{Local}
use Rattle.al_phys.specs.declared.property.Local.TheVariants as O
use Rattle.al_phys.specs.declared.property.Need.{Need}
use Rattle.al_phys.specs.declared.property.Need.TheVariants as N
use Rattle.al_phys.specs.declared.phys.Phys.{Phys, fold-Phys, rec-Phys, out-Phys}
use Rattle.al_phys.specs.declared.phys.Phys.TheOpen.{Phys-F}
use Rattle.al_phys.specs.declared.phys.Phys.TheOpen as P
use Rattle.al_phys.specs.Operators.{phys_live}
use Rattle.al_phys.specs.Gives.{is_hash}

abbrev pub is_same_var : Var → Var → Bool
is_same_var v w = pointwise nat_eq v.name w.name

-- ---- which property meets which need

abbrev pub is_broadcast : Partitioning → Bool
is_broadcast D.Unpartitioned = false
is_broadcast (D.Hash vars) = false
is_broadcast D.Broadcast = true
is_broadcast D.Random = false

abbrev pub is_unpartitioned : Partitioning → Bool
is_unpartitioned D.Unpartitioned = true
is_unpartitioned (D.Hash vars) = false
is_unpartitioned D.Broadcast = false
is_unpartitioned D.Random = false

-- rows with equal values at these variables stand in one part: all rows do, or the hash looks at these variables alone
abbrev pub is_keyed : List Var → Partitioning → Bool
is_keyed vars D.Unpartitioned = true
is_keyed vars (D.Hash ws) = are_among vars ws
is_keyed vars D.Broadcast = false
is_keyed vars D.Random = false

-- the hash is that of these variables, in this order
abbrev pub is_exactly : List Var → Partitioning → Bool
is_exactly vars D.Unpartitioned = false
is_exactly vars (D.Hash ws) = pointwise is_same_var ws vars
is_exactly vars D.Broadcast = false
is_exactly vars D.Random = false

-- with more than one partition
abbrev pub fits : Partitioning → Need → Bool
fits d N.Any = not (is_broadcast d)
fits d N.One = is_unpartitioned d
fits d (N.Keyed vars) = is_keyed vars d
fits d (N.Exactly vars) = is_exactly vars d
fits d N.All = is_broadcast d

abbrev pub meets : Partitioning → Need → ℕ → Bool
meets d need partitions = nat_eq partitions 1 || fits d need

-- ---- the equi keys of a join

-- the variable that an expression is
abbrev pub variable_step : Expr-F Expr → Option Var
variable_step (L.Var v) = Some v
variable_step (L.Lit v) = None
variable_step (L.Call f args) = None

abbrev pub variable_of : Expr → Option Var
variable_of e = variable_step (out-Expr e)

-- a variable of the left side and one of the right side
abbrev pub sided : List Var → List Var → Var → Var → Option (Var × Var)
sided ls rs x y =
    if is_among ls x.name && is_among rs y.name then Some (x, y)
    else if is_among rs x.name && is_among ls y.name then Some (y, x)
    else None

abbrev pub both_sided : List Var → List Var → Option Var → Option Var → Option (Var × Var)
both_sided ls rs (Some x) (Some y) = sided ls rs x y
both_sided ls rs _ _ = None

-- the keys of `(eq x y)`, where one variable is of the left side and the other of the right side
abbrev pub equi_step : List Var → List Var → Expr-F Expr → Option (Var × Var)
equi_step ls rs (L.Call F.Eq (a ∷ b ∷ [])) = both_sided ls rs (variable_of a) (variable_of b)
equi_step ls rs _ = None

abbrev pub equi_key : List Var → List Var → Expr → Option (Var × Var)
equi_key ls rs e = equi_step ls rs (out-Expr e)

-- the equi keys of a condition, in the order of its conjuncts: each a left variable and a right one
abbrev pub equi_keys : List Var → List Var → Expr → List (Var × Var)
equi_keys ls rs c = filter_map (equi_key ls rs) (conj c)

abbrev pub left_keys : Phys → Phys → Expr → List Var
left_keys l r c = map (λ k. k.0) (equi_keys (phys_live l) (phys_live r) c)

abbrev pub right_keys : Phys → Phys → Expr → List Var
right_keys l r c = map (λ k. k.1) (equi_keys (phys_live l) (phys_live r) c)

-- ---- what an operator needs of an input, given its number

abbrev pub old_of : List (Var × Var) → List Var
old_of keys = map (λ k. k.1) keys

abbrev pub join_need : Bool → Phys → Phys → Expr → ℕ → Need
join_need true l r c zero = N.Exactly (left_keys l r c)
join_need true l r c (suc i) = N.Exactly (right_keys l r c)
join_need false l r c zero = N.Any
join_need false l r c (suc i) = N.All

abbrev pub required_step : Phys-F Phys → ℕ → Need
required_step (P.Join form c l r) i = join_need (is_hash form) l r c i
required_step (P.HashGroup keys inner p) i = N.Keyed (old_of keys)
required_step (P.PreGroup keys inner p) i = N.Keyed (old_of keys)
required_step (P.HashDistinct p) i = N.Keyed (phys_live p)
required_step (P.AggFinal made p) i = N.One
required_step (P.Limit m k p) i = N.One
required_step (P.Result vars p) i = N.One
required_step _ i = N.Any

unfoldable pub required : Phys → ℕ → Need
required p i = required_step (out-Phys p) i

-- ---- what an operator delivers

-- rows cut to these variables
abbrev pub kept_parts : List Var → Partitioning → Partitioning
kept_parts vars (D.Hash ws) = if are_among vars ws then D.Hash ws else D.Random
kept_parts vars d = d

-- the first new key that takes the values of this variable
abbrev pub new_for : List (Var × Var) → Var → Var
new_for [] w = w
new_for (k ∷ ks) w = if is_same_var k.1 w then k.0 else new_for ks w

abbrev pub group_parts : List (Var × Var) → Partitioning → Partitioning
group_parts keys D.Unpartitioned = D.Unpartitioned
group_parts keys (D.Hash ws) = if are_among (old_of keys) ws then D.Hash (map (new_for keys) ws) else D.Random
group_parts keys D.Broadcast = D.Random
group_parts keys D.Random = D.Random

abbrev pub union_parts : Partitioning → Partitioning → Partitioning
union_parts D.Unpartitioned D.Unpartitioned = D.Unpartitioned
union_parts _ _ = D.Random

abbrev pub join_parts : Bool → List Var → Partitioning → Partitioning
join_parts true keys d = D.Hash keys
join_parts false keys d = d

-- a partitioning, where a recursion over plans asks for a type of types
pub record Spread : Type 1 where
  pub by : Partitioning

-- with more than one partition; `plan` is the plan of an input, and `spread` what it delivers
abbrev pub spread_by : (X : Type 0) → (X → Phys) → (X → Spread) → Phys-F X → Partitioning
spread_by X plan spread (P.Scan set vars) = D.Random
spread_by X plan spread P.One = D.Unpartitioned
spread_by X plan spread (P.Assign made p) = (spread p).by
spread_by X plan spread (P.Select c p) = (spread p).by
spread_by X plan spread (P.Project vars p) = kept_parts vars (spread p).by
spread_by X plan spread (P.Unnest v g p) = (spread p).by
spread_by X plan spread (P.Subplan inner p) = (spread p).by
spread_by X plan spread (P.Check name c p) = (spread p).by
spread_by X plan spread (P.Join form c l r) = join_parts (is_hash form) (left_keys (plan l) (plan r) c) (spread l).by
spread_by X plan spread (P.HashGroup keys inner p) = group_parts keys (spread p).by
spread_by X plan spread (P.PreGroup keys inner p) = group_parts keys (spread p).by
spread_by X plan spread (P.HashDistinct p) = (spread p).by
spread_by X plan spread (P.AggPart made p) = D.Random
spread_by X plan spread (P.AggFinal made p) = D.Unpartitioned
spread_by X plan spread (P.Union made ls rs l r) = union_parts (spread l).by (spread r).by
spread_by X plan spread (P.Sort keys p) = (spread p).by
spread_by X plan spread (P.Limit m k p) = D.Unpartitioned
spread_by X plan spread (P.LocalLimit m p) = (spread p).by
spread_by X plan spread (P.Result vars p) = D.Unpartitioned
spread_by X plan spread (P.HashExchange vars p) = D.Hash vars
spread_by X plan spread (P.Broadcast p) = D.Broadcast
spread_by X plan spread (P.Gather p) = D.Unpartitioned
spread_by X plan spread (P.Merge keys p) = D.Unpartitioned

abbrev pub spread_step : (X : Type 0) → (X → Phys) → (X → Spread) → Phys-F X → Spread
spread_step X plan spread x = record { by = spread_by X plan spread x }

unfoldable pub spread_of : Phys → Spread
spread_of = rec-Phys Spread spread_step

abbrev pub parts_of : Phys → ℕ → Partitioning
parts_of p partitions = if nat_eq partitions 1 then D.Unpartitioned else (spread_of p).by

-- an order by no variables is none
abbrev pub order_by : List OrderKey → Local
order_by [] = O.None
order_by (k ∷ ks) = O.Order (k ∷ ks)

-- the longest prefix of an order whose variables are kept
abbrev pub kept_keys : List Var → List OrderKey → List OrderKey
kept_keys vars [] = []
kept_keys vars (k ∷ ks) = if is_among vars k.var.name then k ∷ kept_keys vars ks else []

abbrev pub kept_order : List Var → Local → Local
kept_order vars O.None = O.None
kept_order vars (O.Order keys) = order_by (kept_keys vars keys)

abbrev pub order_step : Phys-F Local → Local
order_step (P.Assign made p) = p
order_step (P.Select c p) = p
order_step (P.Project vars p) = kept_order vars p
order_step (P.Unnest v g p) = p
order_step (P.Subplan inner p) = p
order_step (P.Check name c p) = p
order_step (P.Sort keys p) = O.Order keys
order_step (P.Limit m k p) = p
order_step (P.Result vars p) = kept_order vars p
order_step (P.Merge keys p) = O.Order keys
order_step _ = O.None

unfoldable pub order_of : Phys → Local
order_of = fold-Phys Local order_step

abbrev pub delivered : Phys → ℕ → Partitioning × Local
delivered p partitions = (parts_of p partitions, order_of p)
