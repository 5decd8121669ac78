-- The words of plan text: what a file, its datasets, its operators and their expressions are written with.
use Rattle.std.specs.Prelude.{◌≡◌, ℕ, ℤ, pos, Bool, true, false, ◌&&◌, nat_lt, ◌^◌, List, [], ◌∷◌, ◌++◌, map, codes, string_bytes}
use Rattle.std.specs.List.{flat_map, list_all}
use Rattle.al_value.specs.declared.value.Value.{Value}
use Rattle.al_value.specs.declared.value.Value.TheVariants as V
use Rattle.al_func.specs.declared.func.Func.{Func}
use Rattle.al_func.specs.declared.func.Func.TheVariants as F
use Rattle.al_func.specs.Func.{is_i64}
use Rattle.al_csv.specs.declared.decl.Kind.{Kind}
use Rattle.al_csv.specs.declared.decl.Kind.TheVariants as K
use Rattle.al_csv.specs.declared.decl.Column.{Column}
use Rattle.al_csv.specs.declared.decl.Decl.{Decl}
use Rattle.al_plan.specs.declared.expr.Var.{Var}
use Rattle.al_plan.specs.declared.expr.Expr.{Expr, fold-Expr}
use Rattle.al_plan.specs.declared.expr.Expr.TheOpen.{Expr-F}
use Rattle.al_plan.specs.declared.expr.Expr.TheOpen as L
use Rattle.al_plan.specs.declared.plan.OrderKey.{OrderKey}
use Rattle.al_plan.specs.declared.plan.AggCall.{AggCall}
use Rattle.al_plan.specs.declared.plan.AggCall.TheVariants as C
use Rattle.al_plan.specs.declared.plan.Generator.{Generator}
use Rattle.al_plan.specs.declared.plan.Generator.TheVariants as G
use Rattle.al_plan.specs.declared.plan.Plan.{Plan, fold-Plan, rec-Plan}
use Rattle.al_plan.specs.declared.plan.Plan.TheOpen.{Plan-F}
use Rattle.al_plan.specs.declared.plan.Plan.TheOpen as P
use Rattle.al_plan.specs.declared.file.PlanFile.{PlanFile}
use Rattle.al_plan.specs.Eval.{Bytes}
use Rattle.al_plan.specs.Names.{item_exprs, agg_exprs}

-- a word of the text: a token whose number is its value
pub data Word : Type 0 where
  Open : Word
  Close : Word
  Name : Bytes → Word
  Variable : Bytes → Word
  Number : ℤ → Word
  Text : Bytes → Word

-- what begins at a parenthesis that opens
pub data Mark : Type 0 where
  Dataset : Mark
  Operator : Mark
  Other : Mark

abbrev pub Marked : Type 0
Marked = Mark × Word

abbrev pub plain : Word → Marked
plain w = (Other, w)

-- what stands between two parentheses
abbrev pub enclosed : List Marked → List Marked
enclosed inside = plain Open ∷ (inside ++ plain Close ∷ [])

-- the same, where a dataset or an operator begins with the first one, and its name behind it
abbrev pub headed : Mark → Bytes → List Marked → List Marked
headed mark word inside = (mark, Open) ∷ (plain (Name word) ∷ (inside ++ plain Close ∷ []))

abbrev pub operator : Bytes → List Marked → List Marked
operator = headed Operator

-- ---- expressions

abbrev pub func_name : Func → Bytes
func_name F.Eq = codes "eq"
func_name F.Lt = codes "lt"
func_name F.Le = codes "le"
func_name F.And = codes "and"
func_name F.Or = codes "or"
func_name F.Not = codes "not"
func_name F.Add = codes "add"
func_name F.Sub = codes "sub"
func_name F.Mul = codes "mul"
func_name F.Div = codes "div"
func_name F.Mod = codes "mod"
func_name F.Neg = codes "neg"
func_name F.Concat = codes "concat"
func_name F.Length = codes "length"
func_name F.Substr = codes "substr"
func_name F.LowerAscii = codes "lower_ascii"
func_name F.If = codes "if"
func_name F.IsNull = codes "is_null"
func_name F.Coalesce = codes "coalesce"

abbrev pub literal : Value → Word
literal V.Null = Name (codes "null")
literal (V.Bool true) = Name (codes "true")
literal (V.Bool false) = Name (codes "false")
literal (V.Int z) = Number z
literal (V.Text s) = Text s

abbrev pub variable : Var → Marked
variable v = plain (Variable v.name)

abbrev pub expr_words_step : Expr-F (List Marked) → List Marked
expr_words_step (L.Var v) = variable v ∷ []
expr_words_step (L.Lit v) = plain (literal v) ∷ []
expr_words_step (L.Call f args) = enclosed (plain (Name (func_name f)) ∷ flat_map (λ a. a) args)

unfoldable pub expr_words : Expr → List Marked
expr_words = fold-Expr (List Marked) expr_words_step

-- ---- what operators hold beside their inputs

abbrev pub variables : List Var → List Marked
variables vars = enclosed (map variable vars)

abbrev pub call_words : Bytes → List Expr → List Marked
call_words word es = enclosed (plain (Name word) ∷ flat_map expr_words es)

abbrev pub agg_words : AggCall → List Marked
agg_words C.CountAll = call_words (codes "countall") []
agg_words (C.Count e) = call_words (codes "count") (e ∷ [])
agg_words (C.Sum e) = call_words (codes "sum") (e ∷ [])
agg_words (C.Min e) = call_words (codes "min") (e ∷ [])
agg_words (C.Max e) = call_words (codes "max") (e ∷ [])

abbrev pub generator_words : Generator → List Marked
generator_words (G.Range a b) = call_words (codes "range") (a ∷ b ∷ [])
generator_words (G.Split t s) = call_words (codes "split") (t ∷ s ∷ [])

abbrev pub assigned_words : Var × Expr → List Marked
assigned_words m = enclosed (variable m.0 ∷ expr_words m.1)

abbrev pub aggregated_words : Var × AggCall → List Marked
aggregated_words m = enclosed (variable m.0 ∷ agg_words m.1)

-- the new key, then the old variable
abbrev pub key_words : Var × Var → List Marked
key_words k = enclosed (variable k.0 ∷ variable k.1 ∷ [])

abbrev pub direction : Bool → Bytes
direction false = codes "asc"
direction true = codes "desc"

abbrev pub order_words : OrderKey → List Marked
order_words k = enclosed (variable k.var ∷ plain (Name (direction k.descending)) ∷ [])

abbrev pub count_word : ℕ → Marked
count_word n = plain (Number (pos n))

-- ---- plans

-- an operator: its name, what it holds, and its inputs; a nested plan stands before the input
abbrev pub plan_words_step : Plan-F (List Marked) → List Marked
plan_words_step (P.Scan set vars) = operator (codes "scan") (plain (Name set) ∷ variables vars)
plan_words_step P.Empty = operator (codes "empty") []
plan_words_step P.Nested = operator (codes "nested") []
plan_words_step (P.Assign made p) = operator (codes "assign") (enclosed (flat_map assigned_words made) ++ p)
plan_words_step (P.Select c p) = operator (codes "select") (expr_words c ++ p)
plan_words_step (P.Project vars p) = operator (codes "project") (variables vars ++ p)
plan_words_step (P.Unnest v g p) = operator (codes "unnest") (variable v ∷ (generator_words g ++ p))
plan_words_step (P.Subplan n p) = operator (codes "subplan") (n ++ p)
plan_words_step (P.Join c l r) = operator (codes "join") (expr_words c ++ (l ++ r))
plan_words_step (P.LeftJoin c l r) = operator (codes "leftjoin") (expr_words c ++ (l ++ r))
plan_words_step (P.Group keys n p) = operator (codes "group") (enclosed (flat_map key_words keys) ++ (n ++ p))
plan_words_step (P.Distinct p) = operator (codes "distinct") p
plan_words_step (P.Union made ls rs l r) = operator (codes "union") (variables made ++ (variables ls ++ (variables rs ++ (l ++ r))))
plan_words_step (P.Aggregate made p) = operator (codes "aggregate") (enclosed (flat_map aggregated_words made) ++ p)
plan_words_step (P.Order keys p) = operator (codes "order") (enclosed (flat_map order_words keys) ++ p)
plan_words_step (P.Limit n k p) = operator (codes "limit") (count_word n ∷ count_word k ∷ p)
plan_words_step (P.Check name c p) = operator (codes "check") (plain (Name name) ∷ (expr_words c ++ p))
plan_words_step (P.Result vars p) = operator (codes "result") (variables vars ++ p)

unfoldable pub plan_words : Plan → List Marked
plan_words = fold-Plan (List Marked) plan_words_step

-- ---- datasets and files

abbrev pub kind_name : Kind → Bytes
kind_name K.Int = codes "int"
kind_name K.Text = codes "text"
kind_name K.Bool = codes "bool"

abbrev pub column_words : Column → List Marked
column_words c = enclosed (plain (Name c.name) ∷ plain (Name (kind_name c.kind)) ∷ [])

abbrev pub dataset_words : Decl → List Marked
dataset_words d = headed Dataset (codes "dataset") (plain (Name d.name) ∷ plain (Text d.file) ∷ flat_map column_words d.columns)

abbrev pub file_words : PlanFile → List Marked
file_words f = enclosed (plain (Name (codes "algebricks")) ∷ count_word f.version ∷ (flat_map dataset_words f.datasets ++ plan_words f.root))

-- ---- what can be written

abbrev pub is_filled : {A : Type 0} → List A → Bool
is_filled [] = false
is_filled (x ∷ xs) = true

-- ints of 64 bits
abbrev pub literal_fits : Value → Bool
literal_fits (V.Int z) = is_i64 z
literal_fits _ = true

abbrev pub expr_fits_step : Expr-F Bool → Bool
expr_fits_step (L.Var v) = true
expr_fits_step (L.Lit v) = literal_fits v
expr_fits_step (L.Call f args) = list_all (λ a. a) args

unfoldable pub expr_fits : Expr → Bool
expr_fits = fold-Expr Bool expr_fits_step

abbrev pub count_fits : ℕ → Bool
count_fits n = nat_lt n (2 ^ 63)

-- each number is in its range, what makes variables, groups or orders names one at least, and no result stands here
abbrev pub plan_fits_step : Plan-F Bool → Bool
plan_fits_step (P.Scan set vars) = true
plan_fits_step P.Empty = true
plan_fits_step P.Nested = true
plan_fits_step (P.Assign made p) = is_filled made && list_all (λ m. expr_fits m.1) made && p
plan_fits_step (P.Select c p) = expr_fits c && p
plan_fits_step (P.Project vars p) = p
plan_fits_step (P.Unnest v g p) = list_all expr_fits (item_exprs g) && p
plan_fits_step (P.Subplan n p) = n && p
plan_fits_step (P.Join c l r) = expr_fits c && l && r
plan_fits_step (P.LeftJoin c l r) = expr_fits c && l && r
plan_fits_step (P.Group keys n p) = is_filled keys && n && p
plan_fits_step (P.Distinct p) = p
plan_fits_step (P.Union made ls rs l r) = l && r
plan_fits_step (P.Aggregate made p) = is_filled made && list_all (λ m. list_all expr_fits (agg_exprs m.1)) made && p
plan_fits_step (P.Order keys p) = is_filled keys && p
plan_fits_step (P.Limit n k p) = count_fits n && count_fits k && p
plan_fits_step (P.Check name c p) = expr_fits c && p
plan_fits_step (P.Result vars p) = false

unfoldable pub plan_fits : Plan → Bool
plan_fits = fold-Plan Bool plan_fits_step

-- a result over such a plan; a result lists one variable at least
abbrev pub root_step : (X : Type 0) → (X → Plan) → (X → Type 0) → Plan-F X → Type 0
root_step X plan is_root (P.Result vars p) = (is_filled vars ≡ true) × (plan_fits (plan p) ≡ true)
root_step X plan is_root _ = ⊥

unfoldable pub IsRoot : Plan → Type 0
IsRoot = rec-Plan (Type 0) root_step

-- the version is 1, each dataset has a column, and the root is as it has to be
pub record CanBeWritten (f : PlanFile) : Type 0 where
  pub version : f.version ≡ 1
  pub columns : list_all (λ d. is_filled d.columns) f.datasets ≡ true
  pub root : IsRoot f.root
