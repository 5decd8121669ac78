-- Plan files read from left to right: what each reader gives and where it then stands, or why it stops and where.
-- Code is proved to do as these do, and these to read what is written; no public clause cites them.
use Rattle.std.specs.Prelude.{◌≡◌, ℕ, zero, suc, ◌-◌, ◌<◌, ◌≤◌, ℤ, pos, negsuc, Bool, true, false, ◌==◌, ◌&&◌, nat_le, nat_lt, if◌then◌else◌, List, [], ◌∷◌, ◌++◌, length, take, drop, slice_index, Option, Some, None, Result, Ok, Err, codes, bytes_eq}
use denote.Ref.{Bor}
use Rattle.al_value.specs.declared.value.Value.{Value}
use Rattle.al_value.specs.declared.value.Value.TheVariants as V
use Rattle.al_func.specs.declared.func.Func.{Func}
use Rattle.al_func.specs.declared.func.Func.TheVariants as F
use Rattle.al_csv.specs.Fields.{int_of, is_digits, fits_int, without_sign}
use Rattle.al_csv.specs.declared.decl.Kind.{Kind}
use Rattle.al_csv.specs.declared.decl.Kind.TheVariants as K
use Rattle.al_plan.specs.declared.expr.Var.{Var}
use Rattle.al_plan.specs.declared.expr.Expr.{Expr}
use Rattle.al_plan.specs.declared.expr.Expr.TheVariants as E
use Rattle.al_agg.specs.declared.agg.Agg.{Agg}
use Rattle.al_agg.specs.declared.agg.Agg.TheVariants as A
use Rattle.al_plan.specs.declared.plan.OrderKey.{OrderKey}
use Rattle.al_plan.specs.declared.plan.AggCall.{AggCall}
use Rattle.al_plan.specs.declared.plan.AggCall.TheVariants as C
use Rattle.al_plan.specs.declared.plan.Generator.{Generator}
use Rattle.al_plan.specs.declared.plan.Generator.TheVariants as G
use Rattle.al_plan.specs.declared.plan.Plan.{Plan}
use Rattle.al_plan.specs.declared.plan.Plan.TheVariants as P
use Rattle.al_csv.specs.declared.decl.Column.{Column}
use Rattle.al_csv.specs.declared.decl.Decl.{Decl}
use Rattle.al_read.specs.declared.plan.words.Op.{Op}
use Rattle.al_read.specs.declared.plan.words.Op.TheVariants as op
use Rattle.al_read.specs.declared.plan.words.LeafOp.{LeafOp}
use Rattle.al_read.specs.declared.plan.words.LeafOp.TheVariants as leaf
use Rattle.al_read.specs.declared.plan.words.OneOp.{OneOp}
use Rattle.al_read.specs.declared.plan.words.OneOp.TheVariants as one
use Rattle.al_read.specs.declared.plan.words.TwoOp.{TwoOp}
use Rattle.al_read.specs.declared.plan.words.TwoOp.TheVariants as two
use Rattle.al_read.specs.declared.plan.head.Head.{Head}
use Rattle.al_read.specs.declared.plan.head.Head.TheVariants as H
use Rattle.al_read.specs.declared.plan.head.Leaf.{Leaf}
use Rattle.al_read.specs.declared.plan.head.Leaf.TheVariants as S
use Rattle.al_read.specs.declared.plan.head.One.{One}
use Rattle.al_read.specs.declared.plan.head.One.TheVariants as O
use Rattle.al_read.specs.declared.plan.head.Two.{Two}
use Rattle.al_read.specs.declared.plan.head.Two.TheVariants as T
use Rattle.al_read.specs.declared.plan.operator.Parts.{Parts}
use Rattle.al_plan.specs.declared.file.PlanFile.{PlanFile}
use Rattle.al_plan.specs.declared.file.RefusedKind.{RefusedKind}
use Rattle.al_plan.specs.declared.file.RefusedKind.TheVariants as kinds_of
use Rattle.al_read.specs.declared.plan.ReadRefused.{ReadRefused}
use Rattle.al_read.specs.declared.plan.ReadRefused.TheVariants as refused
use Rattle.al_read.specs.Reads.{refusal}
use Rattle.al_read.specs.declared.token.Token.{Token}
use Rattle.al_read.specs.declared.token.Token.TheVariants as kinds
use Rattle.al_read.specs.declared.token.Placed.{Placed}
use Rattle.al_read.specs.declared.plan.reader.Stopped.{Stopped}
use Rattle.al_read.specs.declared.plan.reader.Stopped.TheVariants as stops
use Rattle.al_read.specs.declared.plan.reader.Reader.{Reader}

-- the tokens that are left, and the places of the datasets and operators so far
pub record State : Type 0 where
  pub tokens : List Placed
  pub datasets : List ℕ
  pub operators : List ℕ

pub data Outcome (A : Type 0) : Type 0 where
  Read : A → State → Outcome A
  Stops : Stopped → State → Outcome A

infixl 10 ◌>>=◌
abbrev pub ◌>>=◌ : {A B : Type 0} → Outcome A → (A → State → Outcome B) → Outcome B
(Read x s) >>= f = f x s
(Stops e s) >>= f = Stops e s

-- what a method gave and where its reader then stands is what reading gives, unless memory ran out
abbrev pub state : Reader → State
state r = record { tokens = r.rest.now; datasets = r.datasets; operators = r.operators }

abbrev pub Fails : {A : Type 0} → Stopped → State → Outcome A → Type 0
Fails stops.Form s read = read ≡ Stops stops.Form s
Fails stops.Number s read = read ≡ Stops stops.Number s
Fails stops.NoMemory s read = Unit {0}

abbrev pub Gives : {A : Type 0} → Result A Stopped → Reader → Outcome A → Type 0
Gives (Ok x) r read = read ≡ Read x (state r)
Gives (Err e) r read = Fails e (state r) read

-- what a function made of a token, unless memory ran out
abbrev pub FailsToMake : {A : Type 0} → Stopped → Result A Stopped → Type 0
FailsToMake stops.Form made = made ≡ Err stops.Form
FailsToMake stops.Number made = made ≡ Err stops.Number
FailsToMake stops.NoMemory made = Unit {0}

abbrev pub Makes : {A : Type 0} → Result A Stopped → Result A Stopped → Type 0
Makes (Ok x) made = made ≡ Ok x
Makes (Err e) made = FailsToMake e made

-- ---- one token

abbrev pub IsFirst : Result (Bor Placed × Bor (List Placed)) Stopped → List Placed → Type 0
IsFirst (Ok x) tokens = tokens ≡ x.0.now ∷ x.1.now
IsFirst (Err e) tokens = (e ≡ stops.Form) × (tokens ≡ [])

abbrev pub behind : State → List Placed → State
behind s ts = record { tokens = ts; datasets = s.datasets; operators = s.operators }

abbrev pub kept : {A : Type 0} → State → List Placed → Result A Stopped → Outcome A
kept s ts (Ok x) = Read x (behind s ts)
kept s ts (Err e) = Stops e s

abbrev pub first_of : {A : Type 0} → (Token → Result A Stopped) → State → List Placed → Outcome A
first_of make s [] = Stops stops.Form s
first_of make s (t ∷ ts) = kept s ts (make t.token)

abbrev pub placed : State → List Placed → Outcome ℕ
placed s [] = Stops stops.Form s
placed s (t ∷ ts) = Read t.place s

abbrev pub is_open : Token → Bool
is_open kinds.Open = true
is_open _ = false

abbrev pub is_close : Token → Bool
is_close kinds.Close = true
is_close _ = false

abbrev pub opens : List Placed → Bool
opens [] = false
opens (t ∷ ts) = is_open t.token

abbrev pub closes : List Placed → Bool
closes [] = false
closes (t ∷ ts) = is_close t.token

-- what is made of the first token
abbrev pub from_token : {A : Type 0} → (Token → Result A Stopped) → State → Outcome A
from_token make s = first_of make s s.tokens

abbrev pub open_of : Token → Result (Unit {0}) Stopped
open_of kinds.Open = Ok tt
open_of _ = Err stops.Form

abbrev pub close_of : Token → Result (Unit {0}) Stopped
close_of kinds.Close = Ok tt
close_of _ = Err stops.Form

abbrev pub name_of : Token → Result (List ℕ) Stopped
name_of (kinds.Name name) = Ok name
name_of _ = Err stops.Form

abbrev pub variable_of : Token → Result Var Stopped
variable_of (kinds.Var name) = Ok (record { name = name })
variable_of _ = Err stops.Form

abbrev pub file_of : Token → Result (List ℕ) Stopped
file_of (kinds.Str content) = Ok content
file_of _ = Err stops.Form

-- the name of a check
abbrev pub text_of : Token → Result (List ℕ) Stopped
text_of (kinds.Name name) = if nat_le (length name) 32000 then Ok name else Err stops.Form
text_of _ = Err stops.Form

abbrev pub is_int : List ℕ → Bool
is_int digits = is_digits (without_sign digits) && fits_int (int_of digits)

abbrev pub int_of_digits : List ℕ → Result ℤ Stopped
int_of_digits digits = if is_int digits then Ok (int_of digits) else Err stops.Number

abbrev pub counted : ℤ → Result ℕ Stopped
counted (pos n) = Ok n
counted (negsuc n) = Err stops.Number

abbrev pub count_of_digits : List ℕ → Result ℕ Stopped
count_of_digits digits = if is_int digits then counted (int_of digits) else Err stops.Number

abbrev pub count_of : Token → Result ℕ Stopped
count_of (kinds.Number digits) = count_of_digits digits
count_of _ = Err stops.Form

abbrev pub versioned : ℕ → Result ℕ Stopped
versioned n = if n == 1 then Ok 1 else Err stops.Number

abbrev pub version_of_count : Result ℕ Stopped → Result ℕ Stopped
version_of_count (Ok n) = versioned n
version_of_count (Err e) = Err e

abbrev pub version_of : Token → Result ℕ Stopped
version_of t = version_of_count (count_of t)

-- ---- words

abbrev pub or_form : {A : Type 0} → Option A → Result A Stopped
or_form (Some x) = Ok x
or_form None = Err stops.Form

unfoldable pub func_named : List ℕ → Option Func
func_named word =
    if bytes_eq word (codes "eq") then Some F.Eq
    else if bytes_eq word (codes "lt") then Some F.Lt
    else if bytes_eq word (codes "le") then Some F.Le
    else if bytes_eq word (codes "and") then Some F.And
    else if bytes_eq word (codes "or") then Some F.Or
    else if bytes_eq word (codes "not") then Some F.Not
    else if bytes_eq word (codes "add") then Some F.Add
    else if bytes_eq word (codes "sub") then Some F.Sub
    else if bytes_eq word (codes "mul") then Some F.Mul
    else if bytes_eq word (codes "div") then Some F.Div
    else if bytes_eq word (codes "mod") then Some F.Mod
    else if bytes_eq word (codes "neg") then Some F.Neg
    else if bytes_eq word (codes "concat") then Some F.Concat
    else if bytes_eq word (codes "length") then Some F.Length
    else if bytes_eq word (codes "substr") then Some F.Substr
    else if bytes_eq word (codes "lower_ascii") then Some F.LowerAscii
    else if bytes_eq word (codes "if") then Some F.If
    else if bytes_eq word (codes "is_null") then Some F.IsNull
    else if bytes_eq word (codes "coalesce") then Some F.Coalesce
    else None

abbrev pub func_of : Token → Result Func Stopped
func_of (kinds.Name name) = or_form (func_named name)
func_of _ = Err stops.Form

abbrev pub literal_named : List ℕ → Result Expr Stopped
literal_named word =
    if bytes_eq word (codes "null") then Ok (E.Lit V.Null)
    else if bytes_eq word (codes "true") then Ok (E.Lit (V.Bool true))
    else if bytes_eq word (codes "false") then Ok (E.Lit (V.Bool false))
    else Err stops.Form

abbrev pub int_literal : Result ℤ Stopped → Result Expr Stopped
int_literal (Ok z) = Ok (E.Lit (V.Int z))
int_literal (Err e) = Err e

-- an expression of one token
abbrev pub leaf_of : Token → Result Expr Stopped
leaf_of (kinds.Var name) = Ok (E.Var (record { name = name }))
leaf_of (kinds.Number digits) = int_literal (int_of_digits digits)
leaf_of (kinds.Str content) = Ok (E.Lit (V.Text content))
leaf_of (kinds.Name name) = literal_named name
leaf_of kinds.Open = Err stops.Form
leaf_of kinds.Close = Err stops.Form

abbrev pub agg_named : List ℕ → Option Agg
agg_named word =
    if bytes_eq word (codes "countall") then Some A.CountAll
    else if bytes_eq word (codes "count") then Some A.Count
    else if bytes_eq word (codes "sum") then Some A.Sum
    else if bytes_eq word (codes "min") then Some A.Min
    else if bytes_eq word (codes "max") then Some A.Max
    else None

abbrev pub agg_of : Token → Result Agg Stopped
agg_of (kinds.Name name) = or_form (agg_named name)
agg_of _ = Err stops.Form

-- whether the word is the second of the two, and not the first
abbrev pub second_of : List ℕ → List ℕ → List ℕ → Option Bool
second_of first second word = if bytes_eq word first then Some false else if bytes_eq word second then Some true else None

abbrev pub either_of : List ℕ → List ℕ → Token → Result Bool Stopped
either_of first second (kinds.Name name) = or_form (second_of first second name)
either_of first second _ = Err stops.Form

abbrev pub split_of : Token → Result Bool Stopped
split_of t = either_of (codes "range") (codes "split") t

abbrev pub direction_of : Token → Result Bool Stopped
direction_of t = either_of (codes "asc") (codes "desc") t

abbrev pub is_root_of : Token → Result Bool Stopped
is_root_of t = either_of (codes "dataset") (codes "result") t

abbrev pub kind_named : List ℕ → Option Kind
kind_named word =
    if bytes_eq word (codes "int") then Some K.Int
    else if bytes_eq word (codes "text") then Some K.Text
    else if bytes_eq word (codes "bool") then Some K.Bool
    else None

abbrev pub kind_of : Token → Result Kind Stopped
kind_of (kinds.Name name) = or_form (kind_named name)
kind_of _ = Err stops.Form

abbrev pub titled : Bool → Result (Unit {0}) Stopped
titled true = Ok tt
titled false = Err stops.Form

-- the word that a file begins with
abbrev pub title_of : Token → Result (Unit {0}) Stopped
title_of (kinds.Name name) = titled (bytes_eq name (codes "algebricks"))
title_of _ = Err stops.Form

unfoldable pub op_named : List ℕ → Option Op
op_named word =
    if bytes_eq word (codes "scan") then Some (op.Leaf leaf.Scan)
    else if bytes_eq word (codes "empty") then Some (op.Leaf leaf.Empty)
    else if bytes_eq word (codes "nested") then Some (op.Leaf leaf.Nested)
    else if bytes_eq word (codes "assign") then Some (op.One one.Assign)
    else if bytes_eq word (codes "select") then Some (op.One one.Select)
    else if bytes_eq word (codes "project") then Some (op.One one.Project)
    else if bytes_eq word (codes "unnest") then Some (op.One one.Unnest)
    else if bytes_eq word (codes "distinct") then Some (op.One one.Distinct)
    else if bytes_eq word (codes "aggregate") then Some (op.One one.Aggregate)
    else if bytes_eq word (codes "order") then Some (op.One one.Order)
    else if bytes_eq word (codes "limit") then Some (op.One one.Limit)
    else if bytes_eq word (codes "check") then Some (op.One one.Check)
    else if bytes_eq word (codes "subplan") then Some (op.Two two.Subplan)
    else if bytes_eq word (codes "join") then Some (op.Two two.Join)
    else if bytes_eq word (codes "leftjoin") then Some (op.Two two.LeftJoin)
    else if bytes_eq word (codes "group") then Some (op.Two two.Group)
    else if bytes_eq word (codes "union") then Some (op.Two two.Union)
    else None

abbrev pub op_of : Token → Result Op Stopped
op_of (kinds.Name name) = or_form (op_named name)
op_of _ = Err stops.Form

unfoldable pub open_at : State → Outcome (Unit {0})
open_at s = from_token open_of s

unfoldable pub close_at : State → Outcome (Unit {0})
close_at s = from_token close_of s

unfoldable pub name_at : State → Outcome (List ℕ)
name_at s = from_token name_of s

unfoldable pub variable_at : State → Outcome Var
variable_at s = from_token variable_of s

unfoldable pub file_name_at : State → Outcome (List ℕ)
file_name_at s = from_token file_of s

unfoldable pub text_at : State → Outcome (List ℕ)
text_at s = from_token text_of s

unfoldable pub count_at : State → Outcome ℕ
count_at s = from_token count_of s

unfoldable pub version_at : State → Outcome ℕ
version_at s = from_token version_of s

unfoldable pub func_at : State → Outcome Func
func_at s = from_token func_of s

unfoldable pub leaf_at : State → Outcome Expr
leaf_at s = from_token leaf_of s

-- ---- lists

-- the items that a step gives until it gives none
abbrev pub more : {A : Type 0} → (State → Outcome (List A)) → Option A → State → Outcome (List A)
more others None s = Read [] s
more others (Some x) s = others s >>= λ xs r. Read (x ∷ xs) r

unfoldable pub listed : {A : Type 0} → ℕ → (State → Outcome (Option A)) → State → Outcome (List A)
listed zero step s = Stops stops.Form s
listed (suc n) step s = step s >>= more (listed n step)

-- as many items as there are tokens, at most
abbrev pub items_at : {A : Type 0} → (State → Outcome (Option A)) → State → Outcome (List A)
items_at step s = listed (length s.tokens) step s

-- an item, or none at the parenthesis that closes
unfoldable pub next_at : {A : Type 0} → (State → Outcome A) → State → Outcome (Option A)
next_at read s =
    if closes s.tokens then (close_at s >>= λ u r. Read None r)
    else (read s >>= λ x r. Read (Some x) r)

-- the items up to the parenthesis that closes, and one at least
unfoldable pub list_at : {A : Type 0} → (State → Outcome A) → State → Outcome (List A)
list_at read s = items_at (next_at read) s

-- these items, and the others
abbrev pub behind_items : {A : Type 0} → List A → Outcome (List A) → Outcome (List A)
behind_items first others = others >>= λ xs r. Read (first ++ xs) r

unfoldable pub filled_at : {A : Type 0} → (State → Outcome A) → State → Outcome (List A)
filled_at read s = read s >>= λ x r. list_at read r >>= λ xs q. Read (x ∷ xs) q

-- ---- expressions

-- a call behind its parenthesis
unfoldable pub call_at : (State → Outcome Expr) → State → Outcome Expr
call_at expr s = func_at s >>= λ f r. list_at expr r >>= λ args q. Read (E.Call f args) q

-- an expression, where so many parentheses may open within one another
unfoldable pub expr_at : ℕ → State → Outcome Expr
expr_at zero s = leaf_at s
expr_at (suc levels) s =
    if opens s.tokens then (open_at s >>= λ u r. call_at (expr_at levels) r)
    else leaf_at s

-- ---- what operators hold beside their inputs

unfoldable pub agg_word_at : State → Outcome Agg
agg_word_at s = from_token agg_of s

unfoldable pub split_word_at : State → Outcome Bool
split_word_at s = from_token split_of s

unfoldable pub direction_at : State → Outcome Bool
direction_at s = from_token direction_of s

unfoldable pub agg_args_at : ℕ → Agg → State → Outcome AggCall
agg_args_at levels A.CountAll s = Read C.CountAll s
agg_args_at levels A.Count s = expr_at levels s >>= λ e r. Read (C.Count e) r
agg_args_at levels A.Sum s = expr_at levels s >>= λ e r. Read (C.Sum e) r
agg_args_at levels A.Min s = expr_at levels s >>= λ e r. Read (C.Min e) r
agg_args_at levels A.Max s = expr_at levels s >>= λ e r. Read (C.Max e) r

unfoldable pub agg_at : ℕ → State → Outcome AggCall
agg_at levels s = open_at s >>= λ u r. agg_word_at r >>= λ a q. agg_args_at levels a q >>= λ c p. close_at p >>= λ v o. Read c o

abbrev pub generated : Bool → Expr → Expr → Generator
generated false a b = G.Range a b
generated true a b = G.Split a b

unfoldable pub generator_at : ℕ → State → Outcome Generator
generator_at levels s =
    open_at s >>= λ u r. split_word_at r >>= λ b q. expr_at levels q >>= λ x p. expr_at levels p >>= λ y o. close_at o >>= λ v z. Read (generated b x y) z

unfoldable pub assigned_at : ℕ → State → Outcome (Var × Expr)
assigned_at levels s = open_at s >>= λ u r. variable_at r >>= λ x q. expr_at levels q >>= λ e p. close_at p >>= λ v o. Read (x, e) o

unfoldable pub aggregated_at : ℕ → State → Outcome (Var × AggCall)
aggregated_at levels s = open_at s >>= λ u r. variable_at r >>= λ x q. agg_at levels q >>= λ c p. close_at p >>= λ v o. Read (x, c) o

unfoldable pub key_at : State → Outcome (Var × Var)
key_at s = open_at s >>= λ u r. variable_at r >>= λ x q. variable_at q >>= λ y p. close_at p >>= λ v o. Read (x, y) o

unfoldable pub order_at : State → Outcome OrderKey
order_at s = open_at s >>= λ u r. variable_at r >>= λ x q. direction_at q >>= λ d p. close_at p >>= λ v o. Read (record { var = x; descending = d }) o

-- variables between two parentheses
unfoldable pub variables_at : State → Outcome (List Var)
variables_at s = open_at s >>= λ u r. list_at variable_at r

-- ---- operators

unfoldable pub op_at : State → Outcome Op
op_at s = from_token op_of s

unfoldable pub scan_args_at : State → Outcome Head
scan_args_at s = name_at s >>= λ set r. variables_at r >>= λ vars q. Read (H.Leaf (S.Scan set vars)) q

unfoldable pub assign_args_at : ℕ → State → Outcome Head
assign_args_at levels s = open_at s >>= λ u r. filled_at (assigned_at levels) r >>= λ made q. Read (H.One (O.Assign made)) q

unfoldable pub unnest_args_at : ℕ → State → Outcome Head
unnest_args_at levels s = variable_at s >>= λ v r. generator_at levels r >>= λ g q. Read (H.One (O.Unnest v g)) q

unfoldable pub aggregate_args_at : ℕ → State → Outcome Head
aggregate_args_at levels s = open_at s >>= λ u r. filled_at (aggregated_at levels) r >>= λ made q. Read (H.One (O.Aggregate made)) q

unfoldable pub order_args_at : State → Outcome Head
order_args_at s = open_at s >>= λ u r. filled_at order_at r >>= λ keys q. Read (H.One (O.Order keys)) q

unfoldable pub limit_args_at : State → Outcome Head
limit_args_at s = count_at s >>= λ n r. count_at r >>= λ k q. Read (H.One (O.Limit n k)) q

unfoldable pub check_args_at : ℕ → State → Outcome Head
check_args_at levels s = text_at s >>= λ name r. expr_at levels r >>= λ c q. Read (H.One (O.Check name c)) q

unfoldable pub group_args_at : State → Outcome Head
group_args_at s = open_at s >>= λ u r. filled_at key_at r >>= λ keys q. Read (H.Two (T.Group keys)) q

unfoldable pub union_args_at : State → Outcome Head
union_args_at s = variables_at s >>= λ made r. variables_at r >>= λ ls q. variables_at q >>= λ rs p. Read (H.Two (T.Union made ls rs)) p

unfoldable pub leaf_args_at : LeafOp → State → Outcome Head
leaf_args_at leaf.Scan s = scan_args_at s
leaf_args_at leaf.Empty s = Read (H.Leaf S.Empty) s
leaf_args_at leaf.Nested s = Read (H.Leaf S.Nested) s

unfoldable pub one_args_at : ℕ → OneOp → State → Outcome Head
one_args_at levels one.Assign s = assign_args_at levels s
one_args_at levels one.Select s = expr_at levels s >>= λ c r. Read (H.One (O.Select c)) r
one_args_at levels one.Project s = variables_at s >>= λ vars r. Read (H.One (O.Project vars)) r
one_args_at levels one.Unnest s = unnest_args_at levels s
one_args_at levels one.Distinct s = Read (H.One O.Distinct) s
one_args_at levels one.Aggregate s = aggregate_args_at levels s
one_args_at levels one.Order s = order_args_at s
one_args_at levels one.Limit s = limit_args_at s
one_args_at levels one.Check s = check_args_at levels s

unfoldable pub two_args_at : ℕ → TwoOp → State → Outcome Head
two_args_at levels two.Subplan s = Read (H.Two T.Subplan) s
two_args_at levels two.Join s = expr_at levels s >>= λ c r. Read (H.Two (T.Join c)) r
two_args_at levels two.LeftJoin s = expr_at levels s >>= λ c r. Read (H.Two (T.LeftJoin c)) r
two_args_at levels two.Group s = group_args_at s
two_args_at levels two.Union s = union_args_at s

unfoldable pub args_at : ℕ → Op → State → Outcome Head
args_at levels (op.Leaf w) s = leaf_args_at w s
args_at levels (op.One w) s = one_args_at levels w s
args_at levels (op.Two w) s = two_args_at levels w s

-- an operator's name, and what it holds beside its inputs
unfoldable pub head_at : ℕ → State → Outcome Head
head_at levels s = op_at s >>= λ o r. args_at levels o r

abbrev pub plan_of : Leaf → Plan
plan_of (S.Scan set vars) = P.Scan set vars
plan_of S.Empty = P.Empty
plan_of S.Nested = P.Nested

-- the operator over its input, or over the two of them in their order
abbrev pub over : One → Plan → Plan
over (O.Assign made) p = P.Assign made p
over (O.Select c) p = P.Select c p
over (O.Project vars) p = P.Project vars p
over (O.Unnest v g) p = P.Unnest v g p
over O.Distinct p = P.Distinct p
over (O.Aggregate made) p = P.Aggregate made p
over (O.Order keys) p = P.Order keys p
over (O.Limit n k) p = P.Limit n k p
over (O.Check name c) p = P.Check name c p

abbrev pub over_both : Two → Plan → Plan → Plan
over_both T.Subplan p q = P.Subplan p q
over_both (T.Join c) p q = P.Join c p q
over_both (T.LeftJoin c) p q = P.LeftJoin c p q
over_both (T.Group keys) p q = P.Group keys p q
over_both (T.Union made ls rs) p q = P.Union made ls rs p q

unfoldable pub place_at : State → Outcome ℕ
place_at s = placed s s.tokens

abbrev pub with_operator : ℕ → State → State
with_operator place s = record { tokens = s.tokens; datasets = s.datasets; operators = s.operators ++ place ∷ [] }

abbrev pub with_dataset : ℕ → State → State
with_dataset place s = record { tokens = s.tokens; datasets = s.datasets ++ place ∷ []; operators = s.operators }

-- the parenthesis of an operator
unfoldable pub begin_at : State → Outcome (Unit {0})
begin_at s = place_at s >>= λ place r. open_at r >>= λ u q. Read tt (with_operator place q)

-- the inputs of an operator
unfoldable pub inputs_at : (State → Outcome Plan) → Head → State → Outcome Plan
inputs_at plan (H.Leaf l) s = Read (plan_of l) s
inputs_at plan (H.One o) s = plan s >>= λ p r. Read (over o p) r
inputs_at plan (H.Two t) s = plan s >>= λ p r. plan r >>= λ q z. Read (over_both t p q) z

-- a plan, where so many parentheses may open within one another
unfoldable pub plan_at : ℕ → State → Outcome Plan
plan_at zero s = Stops stops.Form s
plan_at (suc levels) s = begin_at s >>= λ u r. head_at levels r >>= λ h q. inputs_at (plan_at levels) h q >>= λ p z. close_at z >>= λ v y. Read p y

-- ---- files

unfoldable pub kind_at : State → Outcome Kind
kind_at s = from_token kind_of s

unfoldable pub column_at : State → Outcome Column
column_at s = open_at s >>= λ u r. name_at r >>= λ name q. kind_at q >>= λ kind p. close_at p >>= λ v o. Read (record { name = name; kind = kind }) o

-- a dataset behind its word
unfoldable pub dataset_at : State → Outcome Decl
dataset_at s =
    name_at s >>= λ name r. file_name_at r >>= λ file q. filled_at column_at q >>= λ columns p. Read (record { name = name; file = file; columns = columns }) p

unfoldable pub title_at : State → Outcome (Unit {0})
title_at s = from_token title_of s

unfoldable pub is_root_at : State → Outcome Bool
is_root_at s = from_token is_root_of s

-- a dataset, or none where the root begins
abbrev pub part_behind : ℕ → Bool → State → Outcome (Option Decl)
part_behind place true s = Read None (with_operator place s)
part_behind place false s = dataset_at (with_dataset place s) >>= λ d r. Read (Some d) r

unfoldable pub part_at : State → Outcome (Option Decl)
part_at s = place_at s >>= λ place r. open_at r >>= λ u q. is_root_at q >>= λ root p. part_behind place root p

unfoldable pub parts_at : State → Outcome (List Decl)
parts_at s = items_at part_at s

-- a root behind its word
unfoldable pub root_at : ℕ → State → Outcome Plan
root_at levels s =
    open_at s >>= λ u r. filled_at variable_at r >>= λ vars q. plan_at levels q >>= λ p z. close_at z >>= λ v y. Read (P.Result vars p) y

unfoldable pub file_at : ℕ → State → Outcome Parts
file_at levels s =
    open_at s >>= λ u r. title_at r >>= λ v q. version_at q >>= λ version p. parts_at p >>= λ datasets o. root_at levels o >>= λ root z. close_at z >>= λ w y.
    Read (record { version = version; datasets = datasets; root = root }) y

-- ---- all tokens

-- how many parentheses are open behind the token, unless one opens too deep
abbrev pub depth_behind : ℕ → Token → Option ℕ
depth_behind depth kinds.Open = if nat_lt depth 100 then Some (suc depth) else None
depth_behind depth kinds.Close = Some (depth - 1)
depth_behind depth (kinds.Name name) = Some depth
depth_behind depth (kinds.Var name) = Some depth
depth_behind depth (kinds.Number digits) = Some depth
depth_behind depth (kinds.Str content) = Some depth

abbrev pub count_behind : Option ℕ → (ℕ → ℕ) → ℕ
count_behind None more = 0
count_behind (Some depth) more = suc (more depth)

-- how many tokens stand before the first parenthesis that opens too deep
unfoldable pub shallow_len : ℕ → List Placed → ℕ
shallow_len depth [] = 0
shallow_len depth (t ∷ ts) = count_behind (depth_behind depth t.token) (λ d. shallow_len d ts)

abbrev pub start : List Placed → State
start tokens = record { tokens = tokens; datasets = []; operators = [] }

abbrev pub refused_with : RefusedKind → ℕ → Result PlanFile ReadRefused
refused_with kind place = Err (refused.Refused (refusal kind place))

-- what is wrong where reading stops; behind what is left, the first of `deep` opens too deep
abbrev pub stopped_with : RefusedKind → List Placed → List Placed → ℕ → Result PlanFile ReadRefused
stopped_with kind (t ∷ ts) deep end = refused_with kind t.place
stopped_with kind [] (t ∷ ts) end = refused_with kinds_of.TooDeep t.place
stopped_with kind [] [] end = refused_with kind end

abbrev pub kind_stopped : Stopped → RefusedKind
kind_stopped stops.Number = kinds_of.Number
kind_stopped _ = kinds_of.Form

abbrev pub file_with : Parts → State → PlanFile
file_with parts s = record { version = parts.version; datasets = parts.datasets; dataset_places = s.datasets; root = parts.root; places = s.operators }

abbrev pub whole_of : Parts → State → List Placed → List Placed → ℕ → Result PlanFile ReadRefused
whole_of parts s [] [] end = Ok (file_with parts s)
whole_of parts s (t ∷ ts) deep end = stopped_with kinds_of.Form (t ∷ ts) deep end
whole_of parts s [] (t ∷ ts) end = stopped_with kinds_of.Form [] (t ∷ ts) end

-- the place of the first operator that is too many
abbrev pub large_of : List ℕ → Option ℕ
large_of operators = if nat_lt 256 (length operators) then Some (slice_index operators 256) else None

-- a plan that is too large is so in front of what stops the reader
abbrev pub or_large : Option ℕ → Result PlanFile ReadRefused → Result PlanFile ReadRefused
or_large None other = other
or_large (Some place) other = refused_with kinds_of.TooLarge place

abbrev pub unless_large : List ℕ → Result PlanFile ReadRefused → Result PlanFile ReadRefused
unless_large operators other = or_large (large_of operators) other

unfoldable pub answer_of : Outcome Parts → List Placed → ℕ → Result PlanFile ReadRefused
answer_of (Read parts s) deep end = unless_large s.operators (whole_of parts s s.tokens deep end)
answer_of (Stops e s) deep end = unless_large s.operators (stopped_with (kind_stopped e) s.tokens deep end)

-- the file of all tokens, or the first of them that is refused
unfoldable pub file_of_tokens : List Placed → ℕ → Result PlanFile ReadRefused
file_of_tokens tokens end =
    let n = shallow_len 0 tokens in
    answer_of (file_at (length (take n tokens)) (start (take n tokens))) (drop n tokens) end

-- an answer is this one, unless memory ran out
abbrev pub Answers : Result PlanFile ReadRefused → Result PlanFile ReadRefused → Type 0
Answers (Ok f) answer = answer ≡ Ok f
Answers (Err (refused.Refused r)) answer = answer ≡ Err (refused.Refused r)
Answers (Err refused.NoMemory) answer = Unit {0}

-- the same, of what a method gave and where its reader then stands
abbrev pub IsAnswered : Result Parts Stopped → Reader → List Placed → ℕ → Result PlanFile ReadRefused → Type 0
IsAnswered (Ok parts) r deep end result = result ≡ answer_of (Read parts (state r)) deep end
IsAnswered (Err stops.NoMemory) r deep end result = result ≡ Err refused.NoMemory
IsAnswered (Err stops.Form) r deep end result = result ≡ answer_of (Stops stops.Form (state r)) deep end
IsAnswered (Err stops.Number) r deep end result = result ≡ answer_of (Stops stops.Number (state r)) deep end
