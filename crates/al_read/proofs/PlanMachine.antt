-- What may stand next, behind the words so far: a stack of what is still to come.
use Rattle.std.proofs.Common.{◌≡◌, ℕ, zero, suc, Bool, true, false, ◌==◌, ◌&&◌, List, [], ◌∷◌, ◌++◌, Option, Some, None, Result, Ok, Err, ℤ, pos, negsuc, refl, sym, ap, subst, ◌∙◌, append_assoc, codes}
use Rattle.std.specs.Prelude.{if◌then◌else◌}
use Rattle.std.specs.Str.{bytes_eq}
use Rattle.al_func.specs.Func.{is_i64}
use Rattle.al_agg.specs.declared.agg.Agg.{Agg}
use Rattle.al_agg.specs.declared.agg.Agg.TheVariants as A
use Rattle.al_plan.specs.declared.expr.Expr.{Expr}
use Rattle.al_plan.specs.Grammar.{Word, Open, Close, Name, Variable, Number, Text, Mark, Dataset, Operator, Other, Marked, plain, count_fits}
use Rattle.al_read.specs.declared.token.Placed.{Placed}
use Rattle.al_read.specs.declared.plan.reader.Stopped.{Stopped}
use Rattle.al_read.specs.declared.plan.reader.Stopped.TheVariants as stops
use Rattle.al_read.specs.declared.plan.words.Op.{Op}
use Rattle.al_read.specs.declared.plan.words.Op.TheVariants as op
use Rattle.al_read.specs.declared.plan.words.LeafOp.TheVariants as leaf
use Rattle.al_read.specs.declared.plan.words.OneOp.TheVariants as one
use Rattle.al_read.specs.declared.plan.words.TwoOp.TheVariants as two
use Rattle.al_read.specs.Reads.{said}
use Rattle.al_read.specs.PlanReading.{State, func_named, agg_named, second_of, kind_named, literal_named, op_named}
use Rattle.al_read.proofs.PlanForms.{Taken, taken_append}

pub data Sym : Type 0 where
  AnOpen : Sym
  AClose : Sym
  ATitle : Sym
  AVersion : Sym
  AName : Sym
  AFile : Sym
  AKind : Sym
  AVar : Sym
  AFunc : Sym
  AnAgg : Sym
  AGen : Sym
  ADir : Sym
  ACount : Sym
  AnExpr : Sym
  Args : Sym
  Vars : Sym
  Cols : Sym
  Assigns : Sym
  Aggs : Sym
  Keys : Sym
  Orders : Sym
  APlan : Sym
  AnOp : Sym
  Parts : Sym
  APart : Mark → Sym

-- ---- what comes behind a word

abbrev pub when : Bool → List Sym → Option (List Sym)
when true ys = Some ys
when false ys = None

abbrev pub lead : {A : Type 0} → (A → List Sym) → Option A → Option (List Sym)
lead behind (Some x) = Some (behind x)
lead behind None = None

abbrev pub ok_lead : {A : Type 0} → Result A Stopped → Option (List Sym)
ok_lead (Ok x) = Some []
ok_lead (Err e) = None

abbrev pub then_sym : Sym → Option (List Sym) → Option (List Sym)
then_sym y (Some ys) = Some (ys ++ y ∷ [])
then_sym y None = None

abbrev pub is_count : ℤ → Bool
is_count (pos n) = count_fits n
is_count (negsuc n) = false

abbrev pub is_version : ℤ → Bool
is_version (pos n) = n == 1
is_version (negsuc n) = false

abbrev pub agg_syms : Agg → List Sym
agg_syms A.CountAll = []
agg_syms A.Count = AnExpr ∷ []
agg_syms A.Sum = AnExpr ∷ []
agg_syms A.Min = AnExpr ∷ []
agg_syms A.Max = AnExpr ∷ []

abbrev pub args_syms : Op → List Sym
args_syms (op.Leaf leaf.Scan) = AName ∷ AnOpen ∷ Vars ∷ []
args_syms (op.Leaf leaf.Empty) = []
args_syms (op.Leaf leaf.Nested) = []
args_syms (op.One one.Assign) = AnOpen ∷ AnOpen ∷ AVar ∷ AnExpr ∷ AClose ∷ Assigns ∷ []
args_syms (op.One one.Select) = AnExpr ∷ []
args_syms (op.One one.Project) = AnOpen ∷ Vars ∷ []
args_syms (op.One one.Unnest) = AVar ∷ AnOpen ∷ AGen ∷ AnExpr ∷ AnExpr ∷ AClose ∷ []
args_syms (op.One one.Distinct) = []
args_syms (op.One one.Aggregate) = AnOpen ∷ AnOpen ∷ AVar ∷ AnOpen ∷ AnAgg ∷ AClose ∷ AClose ∷ Aggs ∷ []
args_syms (op.One one.Order) = AnOpen ∷ AnOpen ∷ AVar ∷ ADir ∷ AClose ∷ Orders ∷ []
args_syms (op.One one.Limit) = ACount ∷ ACount ∷ []
args_syms (op.One one.Check) = AName ∷ AnExpr ∷ []
args_syms (op.Two two.Subplan) = []
args_syms (op.Two two.Join) = AnExpr ∷ []
args_syms (op.Two two.LeftJoin) = AnExpr ∷ []
args_syms (op.Two two.Group) = AnOpen ∷ AnOpen ∷ AVar ∷ AVar ∷ AClose ∷ Keys ∷ []
args_syms (op.Two two.Union) = AnOpen ∷ Vars ∷ AnOpen ∷ Vars ∷ AnOpen ∷ Vars ∷ []

abbrev pub inputs_syms : Op → List Sym
inputs_syms (op.Leaf w) = []
inputs_syms (op.One w) = APlan ∷ []
inputs_syms (op.Two w) = APlan ∷ APlan ∷ []

abbrev pub op_syms : Op → List Sym
op_syms o = args_syms o ++ inputs_syms o

abbrev pub dataset_syms : List Sym
dataset_syms = AName ∷ AFile ∷ AnOpen ∷ AName ∷ AKind ∷ AClose ∷ Cols ∷ Parts ∷ []

abbrev pub root_syms : List Sym
root_syms = AnOpen ∷ AVar ∷ Vars ∷ APlan ∷ AClose ∷ AClose ∷ []

abbrev pub part_syms : Bool → List Sym
part_syms false = dataset_syms
part_syms true = root_syms

abbrev pub expr_turn : Word → Option (List Sym)
expr_turn Open = Some (AFunc ∷ Args ∷ [])
expr_turn Close = None
expr_turn (Name w) = ok_lead (literal_named w)
expr_turn (Variable w) = Some []
expr_turn (Number z) = when (is_i64 z) []
expr_turn (Text w) = Some []

-- where the mark is left out
abbrev pub turn : Sym → Word → Option (List Sym)
turn AnOpen Open = Some []
turn AnOpen _ = None
turn AClose Close = Some []
turn AClose _ = None
turn ATitle (Name w) = when (bytes_eq w (codes "algebricks")) []
turn ATitle _ = None
turn AVersion (Number z) = when (is_version z) []
turn AVersion _ = None
turn AName (Name w) = Some []
turn AName _ = None
turn AFile (Text w) = Some []
turn AFile _ = None
turn AKind (Name w) = lead (λ k. []) (kind_named w)
turn AKind _ = None
turn AVar (Variable w) = Some []
turn AVar _ = None
turn AFunc (Name w) = lead (λ f. []) (func_named w)
turn AFunc _ = None
turn AnAgg (Name w) = lead agg_syms (agg_named w)
turn AnAgg _ = None
turn AGen (Name w) = lead (λ b. []) (second_of (codes "range") (codes "split") w)
turn AGen _ = None
turn ADir (Name w) = lead (λ b. []) (second_of (codes "asc") (codes "desc") w)
turn ADir _ = None
turn ACount (Number z) = when (is_count z) []
turn ACount _ = None
turn AnExpr w = expr_turn w
turn Args Close = Some []
turn Args w = then_sym Args (expr_turn w)
turn Vars Close = Some []
turn Vars (Variable w) = Some (Vars ∷ [])
turn Vars _ = None
turn Cols Close = Some []
turn Cols Open = Some (AName ∷ AKind ∷ AClose ∷ Cols ∷ [])
turn Cols _ = None
turn Assigns Close = Some []
turn Assigns Open = Some (AVar ∷ AnExpr ∷ AClose ∷ Assigns ∷ [])
turn Assigns _ = None
turn Aggs Close = Some []
turn Aggs Open = Some (AVar ∷ AnOpen ∷ AnAgg ∷ AClose ∷ AClose ∷ Aggs ∷ [])
turn Aggs _ = None
turn Keys Close = Some []
turn Keys Open = Some (AVar ∷ AVar ∷ AClose ∷ Keys ∷ [])
turn Keys _ = None
turn Orders Close = Some []
turn Orders Open = Some (AVar ∷ ADir ∷ AClose ∷ Orders ∷ [])
turn Orders _ = None
turn APlan Open = Some (AnOp ∷ AClose ∷ [])
turn APlan _ = None
turn AnOp (Name w) = lead op_syms (op_named w)
turn AnOp _ = None
turn Parts Open = Some (APart Dataset ∷ [])
turn Parts _ = None
turn (APart k) (Name w) = lead part_syms (second_of (codes "dataset") (codes "result") w)
turn (APart k) _ = None

-- a word that needs its mark
abbrev pub marked_part : Mark → Bool → Option (List Sym)
marked_part Dataset false = Some dataset_syms
marked_part Dataset true = None
marked_part Operator true = Some root_syms
marked_part Operator false = None
marked_part Other b = None

abbrev pub part_lead : Mark → Option Bool → Option (List Sym)
part_lead k None = None
part_lead k (Some b) = marked_part k b

abbrev pub part_turn : Mark → Word → Option (List Sym)
part_turn k Open = None
part_turn k Close = None
part_turn k (Name w) = part_lead k (second_of (codes "dataset") (codes "result") w)
part_turn k (Variable w) = None
part_turn k (Number z) = None
part_turn k (Text w) = None

abbrev pub parts_turn : Mark → Word → Option (List Sym)
parts_turn Dataset Open = Some (APart Dataset ∷ [])
parts_turn Operator Open = Some (APart Operator ∷ [])
parts_turn Other Open = Some (APart Other ∷ [])
parts_turn k _ = None

abbrev pub marked_turn : Sym → Mark → Word → Option (List Sym)
marked_turn APlan Operator w = turn APlan w
marked_turn APlan Dataset w = None
marked_turn APlan Other w = None
marked_turn Parts k w = parts_turn k w
marked_turn (APart k) Other w = part_turn k w
marked_turn (APart k) Dataset w = None
marked_turn (APart k) Operator w = None
marked_turn y Other w = turn y w
marked_turn y Dataset w = None
marked_turn y Operator w = None

-- ---- words after words

abbrev pub on_top : List Sym → Option (List Sym) → Option (List Sym)
on_top k None = None
on_top k (Some ys) = Some (ys ++ k)

abbrev pub step : List Sym → Marked → Option (List Sym)
step [] m = None
step (y ∷ k) m = on_top k (marked_turn y m.0 m.1)

infixl 10 ◌>>-◌
abbrev pub ◌>>-◌ : Option (List Sym) → (List Sym → Option (List Sym)) → Option (List Sym)
(Some x) >>- f = f x
None >>- f = None

abbrev pub run : List Sym → List Marked → Option (List Sym)
run st [] = Some st
run st (m ∷ ms) = step st m >>- λ next. run next ms

abbrev pub on : List Sym → Option (List Sym)
on st = Some st

bind_to : (o : Option (List Sym)) (f : List Sym → Option (List Sym)) (ms : List Marked) → ((o >>- f) >>- λ next. run next ms) ≡ (o >>- λ st. f st >>- λ next. run next ms)
bind_to (Some x) f ms = refl
bind_to None f ms = refl

bind_with : (o : Option (List Sym)) (f g : List Sym → Option (List Sym)) → ((st : List Sym) → f st ≡ g st) → (o >>- f) ≡ (o >>- g)
bind_with (Some x) f g h = h x
bind_with None f g h = refl

pub run_append : (ms ns : List Marked) (st : List Sym) → run st (ms ++ ns) ≡ (run st ms >>- λ next. run next ns)
run_append [] ns st = refl
run_append (m ∷ ms) ns st = bind_with (step st m) (λ next. run next (ms ++ ns)) (λ next. run next ms >>- λ z. run z ns) (λ next. run_append ms ns next) ∙ sym (bind_to (step st m) (λ next. run next ms) ns)

pub run_on : (ms ns : List Marked) (st mid : List Sym) → run st ms ≡ Some mid → run st (ms ++ ns) ≡ run mid ns
run_on ms ns st mid e = run_append ms ns st ∙ ap (λ (o : Option (List Sym)). o >>- λ next. run next ns) e

some_same : (a b : List Sym) → on a ≡ on b → a ≡ b
some_same a b e = cc

-- what is below stays
step_below : (y : Sym) (st k next : List Sym) (m : Marked) → step (y ∷ st) m ≡ Some next → step (y ∷ (st ++ k)) m ≡ Some (next ++ k)
step_below y st k next m e = go (marked_turn y m.0 m.1) e where
  go : (o : Option (List Sym)) → on_top st o ≡ Some next → on_top (st ++ k) o ≡ Some (next ++ k)
  go None e = absurd cc
  go (Some ys) e = ap on (sym (append_assoc ys st k)) ∙ ap (λ (z : List Sym). on (z ++ k)) (some_same (ys ++ st) next e)

pub run_below : (ms : List Marked) (st k end : List Sym) → run st ms ≡ Some end → run (st ++ k) ms ≡ Some (end ++ k)
run_below [] st k end e = ap (λ (z : List Sym). on (z ++ k)) (some_same st end e)
run_below (m ∷ ms) [] k end e = absurd cc
run_below (m ∷ ms) (y ∷ st) k end e = go (λ next h. run_below ms next k end h) (step (y ∷ st) m) refl e where
  go : ((next : List Sym) → run next ms ≡ Some end → run (next ++ k) ms ≡ Some (end ++ k)) → (o : Option (List Sym)) → step (y ∷ st) m ≡ o → (o >>- λ next. run next ms) ≡ Some end → (step (y ∷ (st ++ k)) m >>- λ next. run next ms) ≡ Some (end ++ k)
  go rec None s e = absurd cc
  go rec (Some next) s e = ap (λ (o : Option (List Sym)). o >>- λ z. run z ms) (step_below y st k next m s) ∙ rec next e

-- ---- where reading stops

abbrev pub is_none : Option (List Sym) → Bool
is_none None = true
is_none (Some ys) = false

abbrev pub refuses : Sym → Word → Bool
refuses y w = is_none (turn y w)

abbrev pub takes_numbers : Sym → Bool
takes_numbers AVersion = true
takes_numbers ACount = true
takes_numbers AnExpr = true
takes_numbers Args = true
takes_numbers _ = false

abbrev pub is_number_word : Word → Bool
is_number_word (Number z) = true
is_number_word _ = false

-- a token that stops reading can't stand there; it is out of range where it is a number and another may stand
abbrev pub Fated : {A : Type 0} → Result A Stopped → Bool → Bool → Type 0
Fated (Ok x) refused numeric = Unit {0}
Fated (Err stops.Form) refused numeric = (refused ≡ true) × (numeric ≡ false)
Fated (Err stops.Number) refused numeric = (refused ≡ true) × (numeric ≡ true)
Fated (Err stops.NoMemory) refused numeric = ⊥

abbrev pub Stuck : Stopped → Sym → List Placed → Type 0
Stuck e y [] = e ≡ stops.Form
Stuck e y (t ∷ ts) = Fated {A = Unit {0}} (Err e) (refuses y (said t.token)) (takes_numbers y && is_number_word (said t.token))

pub record Halted (s r : State) (ys : List Sym) (e : Stopped) : Type 0 where
  pub ms : List Marked
  pub y : Sym
  pub left : List Sym
  pub taken : Taken s ms r
  pub runs : run ys ms ≡ Some (y ∷ left)
  pub stuck : Stuck e y r.tokens

pub halted_below : (s r : State) (ys k : List Sym) (e : Stopped) → Halted s r ys e → Halted s r (ys ++ k) e
halted_below s r ys k e h = record { ms = h.ms; y = h.y; left = h.left ++ k; taken = h.taken; runs = run_below h.ms ys k (h.y ∷ h.left) h.runs; stuck = h.stuck }

pub halted_behind : (s q r : State) (ys st : List Sym) (ms : List Marked) (e : Stopped) → Taken s ms q → run ys ms ≡ Some st → Halted q r st e → Halted s r ys e
halted_behind s q r ys st ms e taken runs h = record { ms = ms ++ h.ms; y = h.y; left = h.left; taken = taken_append ms h.ms s q r taken h.taken; runs = run_on ms h.ms ys st runs ∙ h.runs; stuck = h.stuck }
