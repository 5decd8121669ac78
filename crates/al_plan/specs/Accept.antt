-- Which plan files are accepted, and the first place at which another one is refused.
use Rattle.std.specs.Prelude.{◌≡◌, ◌≤◌, ℕ, zero, suc, ◌+◌, Bool, true, false, not, ◌&&◌, ◌||◌, nat_eq, nat_le, if◌then◌else◌, List, [], ◌∷◌, ◌++◌, map, length, Option, Some, None}
use Rattle.std.specs.Cmp.Lexicographic.{pointwise}
use Rattle.std.specs.List.{flat_map, list_all, list_any, AllByRecursion}
use Rattle.al_csv.specs.declared.decl.Decl.{Decl}
use Rattle.al_plan.specs.declared.expr.Var.{Var}
use Rattle.al_plan.specs.declared.expr.Expr.{Expr}
use Rattle.al_plan.specs.declared.plan.Plan.{Plan, fold-Plan, rec-Plan, map-Plan, roll-Plan}
use Rattle.al_plan.specs.declared.plan.Plan.TheOpen.{Plan-F}
use Rattle.al_plan.specs.declared.plan.Plan.TheOpen as P
use Rattle.al_plan.specs.declared.file.PlanFile.{PlanFile}
use Rattle.al_plan.specs.declared.file.Refused.{Refused}
use Rattle.al_plan.specs.declared.file.RefusedKind.{RefusedKind}
use Rattle.al_plan.specs.declared.file.RefusedKind.TheVariants as kind
use Rattle.al_plan.specs.Eval.{Bytes}
use Rattle.al_plan.specs.Names.{names, has_arities, agg_exprs, item_exprs}
use Rattle.al_plan.specs.Allows.{live, is_among}
use Rattle.al_plan.specs.Refines.{makes, is_aggregate}

-- ---- an operator where it stands

-- an operator, given with its inputs: its number in the order in which operators are written, whether it stands
-- in a nested plan, the variables that `nested` has there, and those that operators checked before it make
pub record Site : Type 0 where
  pub number : ℕ
  pub inside : Bool
  pub given : List Var
  pub before : List Var
  pub op : Plan-F Plan

-- how many operators a plan has
abbrev pub size_step : Plan-F ℕ → ℕ
size_step (P.Scan set vars) = 1
size_step P.Empty = 1
size_step P.Nested = 1
size_step (P.Assign made p) = suc p
size_step (P.Select c p) = suc p
size_step (P.Project vars p) = suc p
size_step (P.Unnest v g p) = suc p
size_step (P.Subplan n p) = suc (n + p)
size_step (P.Join c l r) = suc (l + r)
size_step (P.LeftJoin c l r) = suc (l + r)
size_step (P.Group keys n p) = suc (n + p)
size_step (P.Distinct p) = suc p
size_step (P.Union made ls rs l r) = suc (l + r)
size_step (P.Aggregate made p) = suc p
size_step (P.Order keys p) = suc p
size_step (P.Limit n k p) = suc p
size_step (P.Check name c p) = suc p
size_step (P.Result vars p) = suc p

unfoldable pub size : Plan → ℕ
size = fold-Plan ℕ size_step

-- the operators of a plan where it stands, in the order in which they are checked
abbrev pub Listing : Type 0
Listing = ℕ → Bool → List Var → List Var → List Site

-- a listing, where a recursion over plans asks for a type of types
pub record Listed : Type 1 where
  pub list : Listing

-- an operator behind those of its inputs
abbrev pub at_site : ℕ → Bool → List Var → List Var → Plan-F Plan → List Site
at_site number inside given before op = record { number = number; inside = inside; given = given; before = before; op = op } ∷ []

-- an operator over one input
abbrev pub over_one : (X : Type 0) → (X → Plan) → (X → Listed) → X → Plan-F X → Listing
over_one X plan sites p op number inside given before =
    (sites p).list (suc number) inside given before
    ++ at_site number inside given (before ++ makes (plan p)) (map-Plan X Plan plan op)

-- an operator over a left and a right input
abbrev pub over_two : (X : Type 0) → (X → Plan) → (X → Listed) → X → X → Plan-F X → Listing
over_two X plan sites l r op number inside given before =
    (sites l).list (suc number) inside given before
    ++ ((sites r).list (suc number + size (plan l)) inside given (before ++ makes (plan l))
    ++ at_site number inside given ((before ++ makes (plan l)) ++ makes (plan r)) (map-Plan X Plan plan op))

-- an operator with a nested plan, which is written before the input and checked after it
abbrev pub over_nested : (X : Type 0) → (X → Plan) → (X → Listed) → X → X → Plan-F X → Listing
over_nested X plan sites n p op number inside given before =
    (sites p).list (suc number + size (plan n)) inside given before
    ++ ((sites n).list (suc number) true (live (plan p) given) (before ++ makes (plan p))
    ++ at_site number inside given ((before ++ makes (plan p)) ++ makes (plan n)) (map-Plan X Plan plan op))

abbrev pub sites_step : (X : Type 0) → (X → Plan) → (X → Listed) → Plan-F X → Listed
sites_step X plan sites (P.Scan set vars) = record { list = λ number inside given before. at_site number inside given before (P.Scan set vars) }
sites_step X plan sites P.Empty = record { list = λ number inside given before. at_site number inside given before P.Empty }
sites_step X plan sites P.Nested = record { list = λ number inside given before. at_site number inside given before P.Nested }
sites_step X plan sites (P.Assign made p) = record { list = over_one X plan sites p (P.Assign made p) }
sites_step X plan sites (P.Select c p) = record { list = over_one X plan sites p (P.Select c p) }
sites_step X plan sites (P.Project vars p) = record { list = over_one X plan sites p (P.Project vars p) }
sites_step X plan sites (P.Unnest v g p) = record { list = over_one X plan sites p (P.Unnest v g p) }
sites_step X plan sites (P.Subplan n p) = record { list = over_nested X plan sites n p (P.Subplan n p) }
sites_step X plan sites (P.Join c l r) = record { list = over_two X plan sites l r (P.Join c l r) }
sites_step X plan sites (P.LeftJoin c l r) = record { list = over_two X plan sites l r (P.LeftJoin c l r) }
sites_step X plan sites (P.Group keys n p) = record { list = over_nested X plan sites n p (P.Group keys n p) }
sites_step X plan sites (P.Distinct p) = record { list = over_one X plan sites p (P.Distinct p) }
sites_step X plan sites (P.Union made ls rs l r) = record { list = over_two X plan sites l r (P.Union made ls rs l r) }
sites_step X plan sites (P.Aggregate made p) = record { list = over_one X plan sites p (P.Aggregate made p) }
sites_step X plan sites (P.Order keys p) = record { list = over_one X plan sites p (P.Order keys p) }
sites_step X plan sites (P.Limit n k p) = record { list = over_one X plan sites p (P.Limit n k p) }
sites_step X plan sites (P.Check name c p) = record { list = over_one X plan sites p (P.Check name c p) }
sites_step X plan sites (P.Result vars p) = record { list = over_one X plan sites p (P.Result vars p) }

unfoldable pub listed : Plan → Listed
listed = rec-Plan Listed sites_step

abbrev pub sites : Plan → Listing
sites p = (listed p).list

-- ---- the rules of an operator

-- the dataset of that name, the first one
abbrev pub declared : List Decl → Bytes → Option Decl
declared [] set = None
declared (d ∷ ds) set = if pointwise nat_eq d.name set then Some d else declared ds set

abbrev pub is_some : {A : Type 0} → Option A → Bool
is_some None = false
is_some (Some x) = true

-- the expressions of an operator
abbrev pub exprs_of : Plan-F Plan → List Expr
exprs_of (P.Assign made p) = map (λ m. m.1) made
exprs_of (P.Select c p) = c ∷ []
exprs_of (P.Unnest v g p) = item_exprs g
exprs_of (P.Join c l r) = c ∷ []
exprs_of (P.LeftJoin c l r) = c ∷ []
exprs_of (P.Aggregate made p) = flat_map (λ m. agg_exprs m.1) made
exprs_of (P.Check name c p) = c ∷ []
exprs_of _ = []

-- the variables that an operator makes itself
abbrev pub made_by : Plan-F Plan → List Var
made_by (P.Scan set vars) = vars
made_by (P.Assign made p) = map (λ m. m.0) made
made_by (P.Unnest v g p) = v ∷ []
made_by (P.Group keys n p) = map (λ k. k.0) keys
made_by (P.Union made ls rs l r) = made
made_by (P.Aggregate made p) = map (λ m. m.0) made
made_by _ = []

-- every variable is one of the first ones
abbrev pub are_among : List Var → List Var → Bool
are_among vars = list_all (λ v. is_among vars v.name)

-- an expression reads these variables alone
abbrev pub reads_among : List Var → Expr → Bool
reads_among vars e = list_all (is_among vars) (names e)

-- no variable stands twice
abbrev pub are_different : List Var → Bool
are_different [] = true
are_different (v ∷ vs) = not (is_among vs v.name) && are_different vs

-- one: the dataset of a scan is declared
abbrev pub is_known : List Decl → Plan-F Plan → Bool
is_known decls (P.Scan set vars) = is_some (declared decls set)
is_known decls _ = true

abbrev pub has_columns : Option Decl → ℕ → Bool
has_columns None n = true
has_columns (Some d) n = nat_eq n (length d.columns)

abbrev pub fills_columns : List Decl → Plan-F Plan → Bool
fills_columns decls (P.Scan set vars) = has_columns (declared decls set) (length vars)
fills_columns decls _ = true

-- two: a scan has a variable for each column, and each function as many arguments as it takes
abbrev pub is_filled_in : List Decl → Plan-F Plan → Bool
is_filled_in decls op = fills_columns decls op && list_all has_arities (exprs_of op)

-- an operator that may stand in a nested plan
abbrev pub may_be_inside : Plan-F Plan → Bool
may_be_inside P.Nested = true
may_be_inside (P.Assign made p) = true
may_be_inside (P.Select c p) = true
may_be_inside (P.Project vars p) = true
may_be_inside (P.Unnest v g p) = true
may_be_inside (P.Order keys p) = true
may_be_inside (P.Distinct p) = true
may_be_inside (P.Limit n k p) = true
may_be_inside (P.Aggregate made p) = true
may_be_inside _ = false

-- an operator that may stand outside: all but `nested`, where the root of a nested plan is an aggregate
abbrev pub may_be_outside : Plan-F Plan → Bool
may_be_outside P.Nested = false
may_be_outside (P.Subplan n p) = is_aggregate n
may_be_outside (P.Group keys n p) = is_aggregate n
may_be_outside _ = true

-- three: an operator stands where it may
abbrev pub is_in_place : Bool → Plan-F Plan → Bool
is_in_place true op = may_be_inside op
is_in_place false op = may_be_outside op

-- four: the lists of a union are equally long
abbrev pub is_even : Plan-F Plan → Bool
is_even (P.Union made ls rs l r) = nat_eq (length ls) (length made) && nat_eq (length rs) (length made)
is_even _ = true

-- a listing names no variable twice
abbrev pub lists_once : Plan-F Plan → Bool
lists_once (P.Project vars p) = are_different vars
lists_once (P.Result vars p) = are_different vars
lists_once _ = true

-- five: what an operator makes is made once, and what it lists is listed once
abbrev pub is_new : List Var → Plan-F Plan → Bool
is_new before op = list_all (λ v. not (is_among before v.name)) (made_by op) && are_different (made_by op) && lists_once op

-- six: what an operator reads is live in the input that it reads
abbrev pub reads_live : List Var → Plan-F Plan → Bool
reads_live given (P.Scan set vars) = true
reads_live given P.Empty = true
reads_live given P.Nested = true
reads_live given (P.Assign made p) = list_all (reads_among (live p given)) (map (λ m. m.1) made)
reads_live given (P.Select c p) = reads_among (live p given) c
reads_live given (P.Project vars p) = are_among (live p given) vars
reads_live given (P.Unnest v g p) = list_all (reads_among (live p given)) (item_exprs g)
reads_live given (P.Subplan n p) = true
reads_live given (P.Join c l r) = reads_among (live l given ++ live r given) c
reads_live given (P.LeftJoin c l r) = reads_among (live l given ++ live r given) c
reads_live given (P.Group keys n p) = are_among (live p given) (map (λ k. k.1) keys)
reads_live given (P.Distinct p) = true
reads_live given (P.Union made ls rs l r) = are_among (live l given) ls && are_among (live r given) rs
reads_live given (P.Aggregate made p) = list_all (reads_among (live p given)) (flat_map (λ m. agg_exprs m.1) made)
reads_live given (P.Order keys p) = are_among (live p given) (map (λ k. k.var) keys)
reads_live given (P.Limit n k p) = true
reads_live given (P.Check name c p) = reads_among (live p given) c
reads_live given (P.Result vars p) = are_among (live p given) vars

-- seven: at most 64 variables are live
abbrev pub is_narrow : List Var → Plan-F Plan → Bool
is_narrow given op = nat_le (length (live (roll-Plan op) given)) 64

-- the seven rules hold of an operator where it stands
pub record KeepsRules (decls : List Decl) (s : Site) : Type 0 where
  pub known : is_known decls s.op ≡ true
  pub filled : is_filled_in decls s.op ≡ true
  pub in_place : is_in_place s.inside s.op ≡ true
  pub even : is_even s.op ≡ true
  pub new : is_new s.before s.op ≡ true
  pub live_reads : reads_live s.given s.op ≡ true
  pub narrow : is_narrow s.given s.op ≡ true

-- the first rule that an operator breaks
abbrev pub broken : List Decl → Site → Option RefusedKind
broken decls s =
    if not (is_known decls s.op) then Some kind.UnknownDataset
    else if not (is_filled_in decls s.op) then Some kind.WrongArity
    else if not (is_in_place s.inside s.op) then Some kind.NotInNested
    else if not (is_even s.op) then Some kind.UnionArity
    else if not (is_new s.before s.op) then Some kind.TwiceMade
    else if not (reads_live s.given s.op) then Some kind.NotLive
    else if not (is_narrow s.given s.op) then Some kind.TooWide
    else None

-- ---- the rules of a dataset

-- a dataset and the names of those that are declared before it
abbrev pub broken_dataset : List Bytes → Decl → Option RefusedKind
broken_dataset before d =
    if list_any (λ name. pointwise nat_eq name d.name) before then Some kind.TwiceMade
    else if not (nat_le (length d.columns) 64) then Some kind.TooWide
    else None

-- a dataset is declared once and has at most 64 columns
pub record KeepsDatasetRules (before : List Bytes) (d : Decl) : Type 0 where
  pub once : list_any (λ name. pointwise nat_eq name d.name) before ≡ false
  pub narrow : length d.columns ≤ 64

abbrev pub AreGoodDatasets : List Bytes → List Decl → Type 0
AreGoodDatasets before [] = Unit {0}
AreGoodDatasets before (d ∷ ds) = KeepsDatasetRules before d × AreGoodDatasets (before ++ d.name ∷ []) ds

-- ---- the file

-- the operators of a file in the order in which they are checked
abbrev pub file_sites : PlanFile → List Site
file_sites f = sites f.root 0 false [] []

-- each rule holds of each dataset and of each operator
pub record IsAccepted (f : PlanFile) : Type 0 where
  pub datasets : AreGoodDatasets [] f.datasets
  pub operators : AllByRecursion (KeepsRules f.datasets) (file_sites f)

-- the place of this number, and 0 where there is none
abbrev pub place_at : List ℕ → ℕ → ℕ
place_at [] n = 0
place_at (p ∷ ps) zero = p
place_at (p ∷ ps) (suc n) = place_at ps n

abbrev pub refused_at : ℕ → Option RefusedKind → Option Refused
refused_at place None = None
refused_at place (Some kind) = Some (record { kind = kind; place = place })

abbrev pub or_else : {A : Type 0} → Option A → Option A → Option A
or_else None next = next
or_else (Some x) next = Some x

-- the first dataset that breaks a rule, given with the places of the datasets
abbrev pub dataset_refusal : List Bytes → List Decl → List ℕ → ℕ → Option Refused
dataset_refusal before [] places n = None
dataset_refusal before (d ∷ ds) places n =
    or_else (refused_at (place_at places n) (broken_dataset before d)) (dataset_refusal (before ++ d.name ∷ []) ds places (suc n))

-- the first operator that breaks a rule
abbrev pub site_refusal : List Decl → List ℕ → List Site → Option Refused
site_refusal decls places [] = None
site_refusal decls places (s ∷ ss) = or_else (refused_at (place_at places s.number) (broken decls s)) (site_refusal decls places ss)

-- the first refusal of a file: that of its datasets, else that of its operators
abbrev pub accept_refusal : PlanFile → Option Refused
accept_refusal f = or_else (dataset_refusal [] f.datasets f.dataset_places 0) (site_refusal f.datasets f.places (file_sites f))

-- there is a place for each dataset and each operator
pub record HasPlaces (f : PlanFile) : Type 0 where
  pub datasets : length f.dataset_places ≡ length f.datasets
  pub operators : length f.places ≡ size f.root
