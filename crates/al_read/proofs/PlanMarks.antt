-- The marks of words are told by the words, but for that of the last parenthesis where a dataset or the root may begin.
use Rattle.std.proofs.Common.{◌≡◌, suc, ◌+◌, ◌≤◌, Bool, true, false, ◌&&◌, ◌⊎◌, inl, inr, List, [], ◌∷◌, ◌++◌, Option, Some, None, Result, Ok, Err, refl, sym, ap, subst, ◌∙◌, codes, arith}
use Rattle.std.specs.Str.{bytes_eq}
use Rattle.std.proofs.lemmas.Bool.{false≢true, and_from, and_parts}
use Rattle.al_func.specs.Func.{is_i64}
use Rattle.al_agg.specs.declared.agg.Agg.{Agg}
use Rattle.al_agg.specs.declared.agg.Agg.TheVariants as A
use Rattle.al_plan.specs.Grammar.{Word, Open, Close, Name, Variable, Number, Text, Mark, Dataset, Operator, Other, Marked}
use Rattle.al_read.specs.declared.plan.reader.Stopped.{Stopped}
use Rattle.al_read.specs.declared.plan.words.Op.{Op}
use Rattle.al_read.specs.declared.plan.words.Op.TheVariants as op
use Rattle.al_read.specs.declared.plan.words.LeafOp.TheVariants as leaf
use Rattle.al_read.specs.declared.plan.words.OneOp.TheVariants as one
use Rattle.al_read.specs.declared.plan.words.TwoOp.TheVariants as two
use Rattle.al_read.specs.Reads.{unmarked, operators_in}
use Rattle.al_read.specs.PlanReading.{func_named, agg_named, second_of, kind_named, literal_named, op_named}
use Rattle.al_read.proofs.PlanMachine.{Sym, AnOpen, AClose, ATitle, AVersion, AName, AFile, AKind, AVar, AFunc, AnAgg, AGen, ADir, ACount, AnExpr, Args, Vars, Cols, Assigns, Aggs, Keys, Orders, APlan, AnOp, Parts, APart, ◌>>-◌, run, step, on_top, on, expr_turn, marked_turn, part_turn, part_lead, marked_part, lead, when, ok_lead, then_sym, is_count, is_version, agg_syms, op_syms, root_syms, dataset_syms}
use Rattle.al_read.proofs.PlanHalts.{file_syms}

-- ---- behind the root no dataset may come

abbrev body : Sym → Bool
body Parts = false
body (APart k) = false
body _ = true

abbrev late : List Sym → Bool
late [] = true
late (y ∷ k) = body y && late k

late_append : (a b : List Sym) → late a ≡ true → late b ≡ true → late (a ++ b) ≡ true
late_append [] b h k = k
late_append (y ∷ a) b h k = let p = and_parts (body y) (late a) h in and_from (body y) (late (a ++ b)) p.0 (late_append a b p.1 k)

abbrev AllLate : Option (List Sym) → Type 0
AllLate None = Unit {0}
AllLate (Some ys) = late ys ≡ true

all_when : (b : Bool) → AllLate (when b [])
all_when true = refl
all_when false = tt

all_lead : {A : Type 0} (behind : A → List Sym) (o : Option A) → ((x : A) → late (behind x) ≡ true) → AllLate (lead behind o)
all_lead behind None h = tt
all_lead behind (Some x) h = h x

all_ok : {A : Type 0} (o : Result A Stopped) → AllLate (ok_lead o)
all_ok (Ok x) = refl
all_ok (Err e) = tt

all_then : (o : Option (List Sym)) → AllLate o → AllLate (then_sym Args o)
all_then None h = tt
all_then (Some ys) h = late_append ys (Args ∷ []) h refl

all_expr : (w : Word) → AllLate (expr_turn w)
all_expr Open = refl
all_expr Close = tt
all_expr (Name n) = all_ok (literal_named n)
all_expr (Variable n) = refl
all_expr (Number z) = all_when (is_i64 z)
all_expr (Text n) = refl

late_agg : (a : Agg) → late (agg_syms a) ≡ true
late_agg A.CountAll = refl
late_agg A.Count = refl
late_agg A.Sum = refl
late_agg A.Min = refl
late_agg A.Max = refl

late_op : (o : Op) → late (op_syms o) ≡ true
late_op (op.Leaf leaf.Scan) = refl
late_op (op.Leaf leaf.Empty) = refl
late_op (op.Leaf leaf.Nested) = refl
late_op (op.One one.Assign) = refl
late_op (op.One one.Select) = refl
late_op (op.One one.Project) = refl
late_op (op.One one.Unnest) = refl
late_op (op.One one.Distinct) = refl
late_op (op.One one.Aggregate) = refl
late_op (op.One one.Order) = refl
late_op (op.One one.Limit) = refl
late_op (op.One one.Check) = refl
late_op (op.Two two.Subplan) = refl
late_op (op.Two two.Join) = refl
late_op (op.Two two.LeftJoin) = refl
late_op (op.Two two.Group) = refl
late_op (op.Two two.Union) = refl

turns_late : (y : Sym) (k : Mark) (w : Word) → body y ≡ true → AllLate (marked_turn y k w)
turns_late AnOpen Dataset w h = tt
turns_late AnOpen Operator w h = tt
turns_late AnOpen Other Open h = refl
turns_late AnOpen Other Close h = tt
turns_late AnOpen Other (Name n) h = tt
turns_late AnOpen Other (Variable n) h = tt
turns_late AnOpen Other (Number z) h = tt
turns_late AnOpen Other (Text n) h = tt
turns_late AClose Dataset w h = tt
turns_late AClose Operator w h = tt
turns_late AClose Other Open h = tt
turns_late AClose Other Close h = refl
turns_late AClose Other (Name n) h = tt
turns_late AClose Other (Variable n) h = tt
turns_late AClose Other (Number z) h = tt
turns_late AClose Other (Text n) h = tt
turns_late ATitle Dataset w h = tt
turns_late ATitle Operator w h = tt
turns_late ATitle Other Open h = tt
turns_late ATitle Other Close h = tt
turns_late ATitle Other (Name n) h = all_when (bytes_eq n (codes "algebricks"))
turns_late ATitle Other (Variable n) h = tt
turns_late ATitle Other (Number z) h = tt
turns_late ATitle Other (Text n) h = tt
turns_late AVersion Dataset w h = tt
turns_late AVersion Operator w h = tt
turns_late AVersion Other Open h = tt
turns_late AVersion Other Close h = tt
turns_late AVersion Other (Name n) h = tt
turns_late AVersion Other (Variable n) h = tt
turns_late AVersion Other (Number z) h = all_when (is_version z)
turns_late AVersion Other (Text n) h = tt
turns_late AName Dataset w h = tt
turns_late AName Operator w h = tt
turns_late AName Other Open h = tt
turns_late AName Other Close h = tt
turns_late AName Other (Name n) h = refl
turns_late AName Other (Variable n) h = tt
turns_late AName Other (Number z) h = tt
turns_late AName Other (Text n) h = tt
turns_late AFile Dataset w h = tt
turns_late AFile Operator w h = tt
turns_late AFile Other Open h = tt
turns_late AFile Other Close h = tt
turns_late AFile Other (Name n) h = tt
turns_late AFile Other (Variable n) h = tt
turns_late AFile Other (Number z) h = tt
turns_late AFile Other (Text n) h = refl
turns_late AKind Dataset w h = tt
turns_late AKind Operator w h = tt
turns_late AKind Other Open h = tt
turns_late AKind Other Close h = tt
turns_late AKind Other (Name n) h = all_lead (λ k. []) (kind_named n) (λ k. refl)
turns_late AKind Other (Variable n) h = tt
turns_late AKind Other (Number z) h = tt
turns_late AKind Other (Text n) h = tt
turns_late AVar Dataset w h = tt
turns_late AVar Operator w h = tt
turns_late AVar Other Open h = tt
turns_late AVar Other Close h = tt
turns_late AVar Other (Name n) h = tt
turns_late AVar Other (Variable n) h = refl
turns_late AVar Other (Number z) h = tt
turns_late AVar Other (Text n) h = tt
turns_late AFunc Dataset w h = tt
turns_late AFunc Operator w h = tt
turns_late AFunc Other Open h = tt
turns_late AFunc Other Close h = tt
turns_late AFunc Other (Name n) h = all_lead (λ f. []) (func_named n) (λ f. refl)
turns_late AFunc Other (Variable n) h = tt
turns_late AFunc Other (Number z) h = tt
turns_late AFunc Other (Text n) h = tt
turns_late AnAgg Dataset w h = tt
turns_late AnAgg Operator w h = tt
turns_late AnAgg Other Open h = tt
turns_late AnAgg Other Close h = tt
turns_late AnAgg Other (Name n) h = all_lead agg_syms (agg_named n) late_agg
turns_late AnAgg Other (Variable n) h = tt
turns_late AnAgg Other (Number z) h = tt
turns_late AnAgg Other (Text n) h = tt
turns_late AGen Dataset w h = tt
turns_late AGen Operator w h = tt
turns_late AGen Other Open h = tt
turns_late AGen Other Close h = tt
turns_late AGen Other (Name n) h = all_lead (λ b. []) (second_of (codes "range") (codes "split") n) (λ b. refl)
turns_late AGen Other (Variable n) h = tt
turns_late AGen Other (Number z) h = tt
turns_late AGen Other (Text n) h = tt
turns_late ADir Dataset w h = tt
turns_late ADir Operator w h = tt
turns_late ADir Other Open h = tt
turns_late ADir Other Close h = tt
turns_late ADir Other (Name n) h = all_lead (λ b. []) (second_of (codes "asc") (codes "desc") n) (λ b. refl)
turns_late ADir Other (Variable n) h = tt
turns_late ADir Other (Number z) h = tt
turns_late ADir Other (Text n) h = tt
turns_late ACount Dataset w h = tt
turns_late ACount Operator w h = tt
turns_late ACount Other Open h = tt
turns_late ACount Other Close h = tt
turns_late ACount Other (Name n) h = tt
turns_late ACount Other (Variable n) h = tt
turns_late ACount Other (Number z) h = all_when (is_count z)
turns_late ACount Other (Text n) h = tt
turns_late AnExpr Dataset w h = tt
turns_late AnExpr Operator w h = tt
turns_late AnExpr Other w h = all_expr w
turns_late Args Dataset w h = tt
turns_late Args Operator w h = tt
turns_late Args Other Open h = all_then (expr_turn Open) (all_expr Open)
turns_late Args Other Close h = refl
turns_late Args Other (Name n) h = all_then (expr_turn (Name n)) (all_expr (Name n))
turns_late Args Other (Variable n) h = all_then (expr_turn (Variable n)) (all_expr (Variable n))
turns_late Args Other (Number z) h = all_then (expr_turn (Number z)) (all_expr (Number z))
turns_late Args Other (Text n) h = all_then (expr_turn (Text n)) (all_expr (Text n))
turns_late Vars Dataset w h = tt
turns_late Vars Operator w h = tt
turns_late Vars Other Open h = tt
turns_late Vars Other Close h = refl
turns_late Vars Other (Name n) h = tt
turns_late Vars Other (Variable n) h = refl
turns_late Vars Other (Number z) h = tt
turns_late Vars Other (Text n) h = tt
turns_late Cols Dataset w h = tt
turns_late Cols Operator w h = tt
turns_late Cols Other Open h = refl
turns_late Cols Other Close h = refl
turns_late Cols Other (Name n) h = tt
turns_late Cols Other (Variable n) h = tt
turns_late Cols Other (Number z) h = tt
turns_late Cols Other (Text n) h = tt
turns_late Assigns Dataset w h = tt
turns_late Assigns Operator w h = tt
turns_late Assigns Other Open h = refl
turns_late Assigns Other Close h = refl
turns_late Assigns Other (Name n) h = tt
turns_late Assigns Other (Variable n) h = tt
turns_late Assigns Other (Number z) h = tt
turns_late Assigns Other (Text n) h = tt
turns_late Aggs Dataset w h = tt
turns_late Aggs Operator w h = tt
turns_late Aggs Other Open h = refl
turns_late Aggs Other Close h = refl
turns_late Aggs Other (Name n) h = tt
turns_late Aggs Other (Variable n) h = tt
turns_late Aggs Other (Number z) h = tt
turns_late Aggs Other (Text n) h = tt
turns_late Keys Dataset w h = tt
turns_late Keys Operator w h = tt
turns_late Keys Other Open h = refl
turns_late Keys Other Close h = refl
turns_late Keys Other (Name n) h = tt
turns_late Keys Other (Variable n) h = tt
turns_late Keys Other (Number z) h = tt
turns_late Keys Other (Text n) h = tt
turns_late Orders Dataset w h = tt
turns_late Orders Operator w h = tt
turns_late Orders Other Open h = refl
turns_late Orders Other Close h = refl
turns_late Orders Other (Name n) h = tt
turns_late Orders Other (Variable n) h = tt
turns_late Orders Other (Number z) h = tt
turns_late Orders Other (Text n) h = tt
turns_late APlan Dataset w h = tt
turns_late APlan Operator Open h = refl
turns_late APlan Operator Close h = tt
turns_late APlan Operator (Name n) h = tt
turns_late APlan Operator (Variable n) h = tt
turns_late APlan Operator (Number z) h = tt
turns_late APlan Operator (Text n) h = tt
turns_late APlan Other w h = tt
turns_late AnOp Dataset w h = tt
turns_late AnOp Operator w h = tt
turns_late AnOp Other Open h = tt
turns_late AnOp Other Close h = tt
turns_late AnOp Other (Name n) h = all_lead op_syms (op_named n) late_op
turns_late AnOp Other (Variable n) h = tt
turns_late AnOp Other (Number z) h = tt
turns_late AnOp Other (Text n) h = tt
turns_late Parts k w h = absurd (false≢true h)
turns_late (APart j) k w h = absurd (false≢true h)

never_parts : (ms : List Marked) (st k : List Sym) → late st ≡ true → run st ms ≡ Some (Parts ∷ k) → ⊥
never_parts [] st k h e = parts_late (ap late (same_syms st (Parts ∷ k) e)) where
  same_syms : (a b : List Sym) → on a ≡ on b → a ≡ b
  same_syms a b e = cc

  parts_late : late st ≡ false → ⊥
  parts_late e = false≢true (sym e ∙ h)
never_parts (m ∷ ms) [] k h e = absurd cc
never_parts (m ∷ ms) (y ∷ st) k h e = go (λ next b r. never_parts ms next k b r) (marked_turn y m.0 m.1) (turns_late y m.0 m.1 (and_parts (body y) (late st) h).0) e where
  go : ((next : List Sym) → late next ≡ true → run next ms ≡ Some (Parts ∷ k) → ⊥) → (o : Option (List Sym)) → AllLate o → (on_top st o >>- λ next. run next ms) ≡ Some (Parts ∷ k) → ⊥
  go rec None a r = absurd cc
  go rec (Some ys) a r = rec (ys ++ st) (late_append ys st a (and_parts (body y) (late st) h).1) r

-- ---- in front of the root no operator begins

abbrev early : List Sym → Bool
early [] = false
early (Parts ∷ k) = late k
early (APart Dataset ∷ k) = late k
early (APart Operator ∷ k) = false
early (APart Other ∷ k) = false
early (AnOpen ∷ k) = early k
early (AClose ∷ k) = early k
early (ATitle ∷ k) = early k
early (AVersion ∷ k) = early k
early (AName ∷ k) = early k
early (AFile ∷ k) = early k
early (AKind ∷ k) = early k
early (AVar ∷ k) = false
early (AFunc ∷ k) = false
early (AnAgg ∷ k) = false
early (AGen ∷ k) = false
early (ADir ∷ k) = false
early (ACount ∷ k) = false
early (AnExpr ∷ k) = false
early (Args ∷ k) = false
early (Vars ∷ k) = false
early (Cols ∷ k) = early k
early (Assigns ∷ k) = false
early (Aggs ∷ k) = false
early (Keys ∷ k) = false
early (Orders ∷ k) = false
early (APlan ∷ k) = false
early (AnOp ∷ k) = false

-- in front of the root, or behind it
abbrev Quiet : List Marked → List Sym → Type 0
Quiet ms st = (k : List Sym) → run st ms ≡ Some (Parts ∷ k) → operators_in ms ≡ 0

quiet_when : (ms : List Marked) (st : List Sym) → Quiet ms st → (b : Bool) (k : List Sym) → (on_top st (when b []) >>- λ next. run next ms) ≡ Some (Parts ∷ k) → operators_in ms ≡ 0
quiet_when ms st rec true k e = rec k e
quiet_when ms st rec false k e = absurd cc

quiet_lead : {A : Type 0} (ms : List Marked) (st : List Sym) → Quiet ms st → (o : Option A) (k : List Sym) → (on_top st (lead (λ x. []) o) >>- λ next. run next ms) ≡ Some (Parts ∷ k) → operators_in ms ≡ 0
quiet_lead ms st rec (Some x) k e = rec k e
quiet_lead ms st rec None k e = absurd cc

quiet_from : (ms : List Marked) (st : List Sym) → early st ≡ true → Quiet ms st
quiet_from [] st h = λ k e. refl
quiet_from (m ∷ ms) [] h = absurd (false≢true h)
quiet_from ((Other, Open) ∷ ms) (Parts ∷ st) h = λ k e. dead ms k e where
  dead : (ms : List Marked) (k : List Sym) → run (APart Other ∷ st) ms ≡ Some (Parts ∷ k) → operators_in ms ≡ 0
  dead [] k e = absurd cc
  dead ((Dataset, w) ∷ ms) k e = absurd cc
  dead ((Operator, w) ∷ ms) k e = absurd cc
  dead ((Other, Open) ∷ ms) k e = absurd cc
  dead ((Other, Close) ∷ ms) k e = absurd cc
  dead ((Other, Variable n) ∷ ms) k e = absurd cc
  dead ((Other, Number n) ∷ ms) k e = absurd cc
  dead ((Other, Text n) ∷ ms) k e = absurd cc
  dead ((Other, Name n) ∷ ms) k e = go (second_of (codes "dataset") (codes "result") n) e where
    go : (o : Option Bool) → (on_top st (part_lead Other o) >>- λ next. run next ms) ≡ Some (Parts ∷ k) → operators_in ms ≡ 0
    go None e = absurd cc
    go (Some b) e = absurd cc
quiet_from ((Dataset, Open) ∷ ms) (Parts ∷ st) h = quiet_from ms (APart Dataset ∷ st) h
quiet_from ((Operator, Open) ∷ ms) (Parts ∷ st) h = λ k e. absurd (rooted ms k e) where
  rooted : (ms : List Marked) (k : List Sym) → run (APart Operator ∷ st) ms ≡ Some (Parts ∷ k) → ⊥
  rooted [] k e = cc
  rooted ((Dataset, w) ∷ ms) k e = cc
  rooted ((Operator, w) ∷ ms) k e = cc
  rooted ((Other, Open) ∷ ms) k e = cc
  rooted ((Other, Close) ∷ ms) k e = cc
  rooted ((Other, Variable n) ∷ ms) k e = cc
  rooted ((Other, Number n) ∷ ms) k e = cc
  rooted ((Other, Text n) ∷ ms) k e = cc
  rooted ((Other, Name n) ∷ ms) k e = go (second_of (codes "dataset") (codes "result") n) e where
    go : (o : Option Bool) → (on_top st (part_lead Operator o) >>- λ next. run next ms) ≡ Some (Parts ∷ k) → ⊥
    go None e = cc
    go (Some false) e = cc
    go (Some true) e = never_parts ms (root_syms ++ st) k (late_append root_syms st refl h) e
quiet_from ((Dataset, Close) ∷ ms) (Parts ∷ st) h = λ k e. absurd cc
quiet_from ((Dataset, Name n) ∷ ms) (Parts ∷ st) h = λ k e. absurd cc
quiet_from ((Dataset, Variable n) ∷ ms) (Parts ∷ st) h = λ k e. absurd cc
quiet_from ((Dataset, Number n) ∷ ms) (Parts ∷ st) h = λ k e. absurd cc
quiet_from ((Dataset, Text n) ∷ ms) (Parts ∷ st) h = λ k e. absurd cc
quiet_from ((Operator, Close) ∷ ms) (Parts ∷ st) h = λ k e. absurd cc
quiet_from ((Operator, Name n) ∷ ms) (Parts ∷ st) h = λ k e. absurd cc
quiet_from ((Operator, Variable n) ∷ ms) (Parts ∷ st) h = λ k e. absurd cc
quiet_from ((Operator, Number n) ∷ ms) (Parts ∷ st) h = λ k e. absurd cc
quiet_from ((Operator, Text n) ∷ ms) (Parts ∷ st) h = λ k e. absurd cc
quiet_from ((Other, Close) ∷ ms) (Parts ∷ st) h = λ k e. absurd cc
quiet_from ((Other, Name n) ∷ ms) (Parts ∷ st) h = λ k e. absurd cc
quiet_from ((Other, Variable n) ∷ ms) (Parts ∷ st) h = λ k e. absurd cc
quiet_from ((Other, Number n) ∷ ms) (Parts ∷ st) h = λ k e. absurd cc
quiet_from ((Other, Text n) ∷ ms) (Parts ∷ st) h = λ k e. absurd cc
quiet_from ((Dataset, w) ∷ ms) (APart Dataset ∷ st) h = λ k e. absurd cc
quiet_from ((Operator, w) ∷ ms) (APart Dataset ∷ st) h = λ k e. absurd cc
quiet_from ((Other, Open) ∷ ms) (APart Dataset ∷ st) h = λ k e. absurd cc
quiet_from ((Other, Close) ∷ ms) (APart Dataset ∷ st) h = λ k e. absurd cc
quiet_from ((Other, Variable n) ∷ ms) (APart Dataset ∷ st) h = λ k e. absurd cc
quiet_from ((Other, Number n) ∷ ms) (APart Dataset ∷ st) h = λ k e. absurd cc
quiet_from ((Other, Text n) ∷ ms) (APart Dataset ∷ st) h = λ k e. absurd cc
quiet_from ((Other, Name n) ∷ ms) (APart Dataset ∷ st) h = go (quiet_from ms (dataset_syms ++ st) h) (second_of (codes "dataset") (codes "result") n) where
  go : Quiet ms (dataset_syms ++ st) → (o : Option Bool) → (k : List Sym) → (on_top st (part_lead Dataset o) >>- λ next. run next ms) ≡ Some (Parts ∷ k) → operators_in ms ≡ 0
  go rec None k e = absurd cc
  go rec (Some true) k e = absurd cc
  go rec (Some false) k e = rec k e
quiet_from (m ∷ ms) (APart Operator ∷ st) h = absurd (false≢true h)
quiet_from (m ∷ ms) (APart Other ∷ st) h = absurd (false≢true h)
quiet_from ((Dataset, w) ∷ ms) (AnOpen ∷ st) h = λ k e. absurd cc
quiet_from ((Operator, w) ∷ ms) (AnOpen ∷ st) h = λ k e. absurd cc
quiet_from ((Other, Open) ∷ ms) (AnOpen ∷ st) h = quiet_from ms st h
quiet_from ((Other, Close) ∷ ms) (AnOpen ∷ st) h = λ k e. absurd cc
quiet_from ((Other, Name n) ∷ ms) (AnOpen ∷ st) h = λ k e. absurd cc
quiet_from ((Other, Variable n) ∷ ms) (AnOpen ∷ st) h = λ k e. absurd cc
quiet_from ((Other, Number z) ∷ ms) (AnOpen ∷ st) h = λ k e. absurd cc
quiet_from ((Other, Text n) ∷ ms) (AnOpen ∷ st) h = λ k e. absurd cc
quiet_from ((Dataset, w) ∷ ms) (AClose ∷ st) h = λ k e. absurd cc
quiet_from ((Operator, w) ∷ ms) (AClose ∷ st) h = λ k e. absurd cc
quiet_from ((Other, Open) ∷ ms) (AClose ∷ st) h = λ k e. absurd cc
quiet_from ((Other, Close) ∷ ms) (AClose ∷ st) h = quiet_from ms st h
quiet_from ((Other, Name n) ∷ ms) (AClose ∷ st) h = λ k e. absurd cc
quiet_from ((Other, Variable n) ∷ ms) (AClose ∷ st) h = λ k e. absurd cc
quiet_from ((Other, Number z) ∷ ms) (AClose ∷ st) h = λ k e. absurd cc
quiet_from ((Other, Text n) ∷ ms) (AClose ∷ st) h = λ k e. absurd cc
quiet_from ((Dataset, w) ∷ ms) (ATitle ∷ st) h = λ k e. absurd cc
quiet_from ((Operator, w) ∷ ms) (ATitle ∷ st) h = λ k e. absurd cc
quiet_from ((Other, Open) ∷ ms) (ATitle ∷ st) h = λ k e. absurd cc
quiet_from ((Other, Close) ∷ ms) (ATitle ∷ st) h = λ k e. absurd cc
quiet_from ((Other, Name n) ∷ ms) (ATitle ∷ st) h = quiet_when ms st (quiet_from ms st h) (bytes_eq n (codes "algebricks"))
quiet_from ((Other, Variable n) ∷ ms) (ATitle ∷ st) h = λ k e. absurd cc
quiet_from ((Other, Number z) ∷ ms) (ATitle ∷ st) h = λ k e. absurd cc
quiet_from ((Other, Text n) ∷ ms) (ATitle ∷ st) h = λ k e. absurd cc
quiet_from ((Dataset, w) ∷ ms) (AVersion ∷ st) h = λ k e. absurd cc
quiet_from ((Operator, w) ∷ ms) (AVersion ∷ st) h = λ k e. absurd cc
quiet_from ((Other, Open) ∷ ms) (AVersion ∷ st) h = λ k e. absurd cc
quiet_from ((Other, Close) ∷ ms) (AVersion ∷ st) h = λ k e. absurd cc
quiet_from ((Other, Name n) ∷ ms) (AVersion ∷ st) h = λ k e. absurd cc
quiet_from ((Other, Variable n) ∷ ms) (AVersion ∷ st) h = λ k e. absurd cc
quiet_from ((Other, Number z) ∷ ms) (AVersion ∷ st) h = quiet_when ms st (quiet_from ms st h) (is_version z)
quiet_from ((Other, Text n) ∷ ms) (AVersion ∷ st) h = λ k e. absurd cc
quiet_from ((Dataset, w) ∷ ms) (AName ∷ st) h = λ k e. absurd cc
quiet_from ((Operator, w) ∷ ms) (AName ∷ st) h = λ k e. absurd cc
quiet_from ((Other, Open) ∷ ms) (AName ∷ st) h = λ k e. absurd cc
quiet_from ((Other, Close) ∷ ms) (AName ∷ st) h = λ k e. absurd cc
quiet_from ((Other, Name n) ∷ ms) (AName ∷ st) h = quiet_from ms st h
quiet_from ((Other, Variable n) ∷ ms) (AName ∷ st) h = λ k e. absurd cc
quiet_from ((Other, Number z) ∷ ms) (AName ∷ st) h = λ k e. absurd cc
quiet_from ((Other, Text n) ∷ ms) (AName ∷ st) h = λ k e. absurd cc
quiet_from ((Dataset, w) ∷ ms) (AFile ∷ st) h = λ k e. absurd cc
quiet_from ((Operator, w) ∷ ms) (AFile ∷ st) h = λ k e. absurd cc
quiet_from ((Other, Open) ∷ ms) (AFile ∷ st) h = λ k e. absurd cc
quiet_from ((Other, Close) ∷ ms) (AFile ∷ st) h = λ k e. absurd cc
quiet_from ((Other, Name n) ∷ ms) (AFile ∷ st) h = λ k e. absurd cc
quiet_from ((Other, Variable n) ∷ ms) (AFile ∷ st) h = λ k e. absurd cc
quiet_from ((Other, Number z) ∷ ms) (AFile ∷ st) h = λ k e. absurd cc
quiet_from ((Other, Text n) ∷ ms) (AFile ∷ st) h = quiet_from ms st h
quiet_from ((Dataset, w) ∷ ms) (AKind ∷ st) h = λ k e. absurd cc
quiet_from ((Operator, w) ∷ ms) (AKind ∷ st) h = λ k e. absurd cc
quiet_from ((Other, Open) ∷ ms) (AKind ∷ st) h = λ k e. absurd cc
quiet_from ((Other, Close) ∷ ms) (AKind ∷ st) h = λ k e. absurd cc
quiet_from ((Other, Name n) ∷ ms) (AKind ∷ st) h = quiet_lead ms st (quiet_from ms st h) (kind_named n)
quiet_from ((Other, Variable n) ∷ ms) (AKind ∷ st) h = λ k e. absurd cc
quiet_from ((Other, Number z) ∷ ms) (AKind ∷ st) h = λ k e. absurd cc
quiet_from ((Other, Text n) ∷ ms) (AKind ∷ st) h = λ k e. absurd cc
quiet_from (m ∷ ms) (AVar ∷ st) h = absurd (false≢true h)
quiet_from (m ∷ ms) (AFunc ∷ st) h = absurd (false≢true h)
quiet_from (m ∷ ms) (AnAgg ∷ st) h = absurd (false≢true h)
quiet_from (m ∷ ms) (AGen ∷ st) h = absurd (false≢true h)
quiet_from (m ∷ ms) (ADir ∷ st) h = absurd (false≢true h)
quiet_from (m ∷ ms) (ACount ∷ st) h = absurd (false≢true h)
quiet_from (m ∷ ms) (AnExpr ∷ st) h = absurd (false≢true h)
quiet_from (m ∷ ms) (Args ∷ st) h = absurd (false≢true h)
quiet_from (m ∷ ms) (Vars ∷ st) h = absurd (false≢true h)
quiet_from ((Dataset, w) ∷ ms) (Cols ∷ st) h = λ k e. absurd cc
quiet_from ((Operator, w) ∷ ms) (Cols ∷ st) h = λ k e. absurd cc
quiet_from ((Other, Open) ∷ ms) (Cols ∷ st) h = quiet_from ms (AName ∷ AKind ∷ AClose ∷ Cols ∷ st) h
quiet_from ((Other, Close) ∷ ms) (Cols ∷ st) h = quiet_from ms st h
quiet_from ((Other, Name n) ∷ ms) (Cols ∷ st) h = λ k e. absurd cc
quiet_from ((Other, Variable n) ∷ ms) (Cols ∷ st) h = λ k e. absurd cc
quiet_from ((Other, Number z) ∷ ms) (Cols ∷ st) h = λ k e. absurd cc
quiet_from ((Other, Text n) ∷ ms) (Cols ∷ st) h = λ k e. absurd cc
quiet_from (m ∷ ms) (Assigns ∷ st) h = absurd (false≢true h)
quiet_from (m ∷ ms) (Aggs ∷ st) h = absurd (false≢true h)
quiet_from (m ∷ ms) (Keys ∷ st) h = absurd (false≢true h)
quiet_from (m ∷ ms) (Orders ∷ st) h = absurd (false≢true h)
quiet_from (m ∷ ms) (APlan ∷ st) h = absurd (false≢true h)
quiet_from (m ∷ ms) (AnOp ∷ st) h = absurd (false≢true h)

-- where a dataset may begin, no operator has begun
pub none_begun : (ms : List Marked) (k : List Sym) → run file_syms ms ≡ Some (Parts ∷ k) → operators_in ms ≡ 0
none_begun ms k e = quiet_from ms file_syms refl k e

-- ---- the marks of the same words

pub data SameMarks (st : List Sym) (ms ns : List Marked) : Type 0 where
  alike : ms ≡ ns → SameMarks st ms ns
  forked : (p : List Marked) (k : List Sym) (x z : Mark) → ms ≡ p ++ (x, Open) ∷ [] → ns ≡ p ++ (z, Open) ∷ [] → run st p ≡ Some (Parts ∷ k) → SameMarks st ms ns

abbrev Fixed : Sym → Mark → Mark → Word → Type 0
Fixed y x z w = (x ≡ z) ⊎ ((y ≡ Parts) × (w ≡ Open))

marks_fixed : (y : Sym) (x z : Mark) (w : Word) (ys zs : List Sym) → marked_turn y x w ≡ Some ys → marked_turn y z w ≡ Some zs → Fixed y x z w
marks_fixed AnOpen Dataset z w ys zs e f = absurd cc
marks_fixed AnOpen Operator z w ys zs e f = absurd cc
marks_fixed AnOpen Other Dataset w ys zs e f = absurd cc
marks_fixed AnOpen Other Operator w ys zs e f = absurd cc
marks_fixed AnOpen Other Other w ys zs e f = inl refl
marks_fixed AClose Dataset z w ys zs e f = absurd cc
marks_fixed AClose Operator z w ys zs e f = absurd cc
marks_fixed AClose Other Dataset w ys zs e f = absurd cc
marks_fixed AClose Other Operator w ys zs e f = absurd cc
marks_fixed AClose Other Other w ys zs e f = inl refl
marks_fixed ATitle Dataset z w ys zs e f = absurd cc
marks_fixed ATitle Operator z w ys zs e f = absurd cc
marks_fixed ATitle Other Dataset w ys zs e f = absurd cc
marks_fixed ATitle Other Operator w ys zs e f = absurd cc
marks_fixed ATitle Other Other w ys zs e f = inl refl
marks_fixed AVersion Dataset z w ys zs e f = absurd cc
marks_fixed AVersion Operator z w ys zs e f = absurd cc
marks_fixed AVersion Other Dataset w ys zs e f = absurd cc
marks_fixed AVersion Other Operator w ys zs e f = absurd cc
marks_fixed AVersion Other Other w ys zs e f = inl refl
marks_fixed AName Dataset z w ys zs e f = absurd cc
marks_fixed AName Operator z w ys zs e f = absurd cc
marks_fixed AName Other Dataset w ys zs e f = absurd cc
marks_fixed AName Other Operator w ys zs e f = absurd cc
marks_fixed AName Other Other w ys zs e f = inl refl
marks_fixed AFile Dataset z w ys zs e f = absurd cc
marks_fixed AFile Operator z w ys zs e f = absurd cc
marks_fixed AFile Other Dataset w ys zs e f = absurd cc
marks_fixed AFile Other Operator w ys zs e f = absurd cc
marks_fixed AFile Other Other w ys zs e f = inl refl
marks_fixed AKind Dataset z w ys zs e f = absurd cc
marks_fixed AKind Operator z w ys zs e f = absurd cc
marks_fixed AKind Other Dataset w ys zs e f = absurd cc
marks_fixed AKind Other Operator w ys zs e f = absurd cc
marks_fixed AKind Other Other w ys zs e f = inl refl
marks_fixed AVar Dataset z w ys zs e f = absurd cc
marks_fixed AVar Operator z w ys zs e f = absurd cc
marks_fixed AVar Other Dataset w ys zs e f = absurd cc
marks_fixed AVar Other Operator w ys zs e f = absurd cc
marks_fixed AVar Other Other w ys zs e f = inl refl
marks_fixed AFunc Dataset z w ys zs e f = absurd cc
marks_fixed AFunc Operator z w ys zs e f = absurd cc
marks_fixed AFunc Other Dataset w ys zs e f = absurd cc
marks_fixed AFunc Other Operator w ys zs e f = absurd cc
marks_fixed AFunc Other Other w ys zs e f = inl refl
marks_fixed AnAgg Dataset z w ys zs e f = absurd cc
marks_fixed AnAgg Operator z w ys zs e f = absurd cc
marks_fixed AnAgg Other Dataset w ys zs e f = absurd cc
marks_fixed AnAgg Other Operator w ys zs e f = absurd cc
marks_fixed AnAgg Other Other w ys zs e f = inl refl
marks_fixed AGen Dataset z w ys zs e f = absurd cc
marks_fixed AGen Operator z w ys zs e f = absurd cc
marks_fixed AGen Other Dataset w ys zs e f = absurd cc
marks_fixed AGen Other Operator w ys zs e f = absurd cc
marks_fixed AGen Other Other w ys zs e f = inl refl
marks_fixed ADir Dataset z w ys zs e f = absurd cc
marks_fixed ADir Operator z w ys zs e f = absurd cc
marks_fixed ADir Other Dataset w ys zs e f = absurd cc
marks_fixed ADir Other Operator w ys zs e f = absurd cc
marks_fixed ADir Other Other w ys zs e f = inl refl
marks_fixed ACount Dataset z w ys zs e f = absurd cc
marks_fixed ACount Operator z w ys zs e f = absurd cc
marks_fixed ACount Other Dataset w ys zs e f = absurd cc
marks_fixed ACount Other Operator w ys zs e f = absurd cc
marks_fixed ACount Other Other w ys zs e f = inl refl
marks_fixed AnExpr Dataset z w ys zs e f = absurd cc
marks_fixed AnExpr Operator z w ys zs e f = absurd cc
marks_fixed AnExpr Other Dataset w ys zs e f = absurd cc
marks_fixed AnExpr Other Operator w ys zs e f = absurd cc
marks_fixed AnExpr Other Other w ys zs e f = inl refl
marks_fixed Args Dataset z w ys zs e f = absurd cc
marks_fixed Args Operator z w ys zs e f = absurd cc
marks_fixed Args Other Dataset w ys zs e f = absurd cc
marks_fixed Args Other Operator w ys zs e f = absurd cc
marks_fixed Args Other Other w ys zs e f = inl refl
marks_fixed Vars Dataset z w ys zs e f = absurd cc
marks_fixed Vars Operator z w ys zs e f = absurd cc
marks_fixed Vars Other Dataset w ys zs e f = absurd cc
marks_fixed Vars Other Operator w ys zs e f = absurd cc
marks_fixed Vars Other Other w ys zs e f = inl refl
marks_fixed Cols Dataset z w ys zs e f = absurd cc
marks_fixed Cols Operator z w ys zs e f = absurd cc
marks_fixed Cols Other Dataset w ys zs e f = absurd cc
marks_fixed Cols Other Operator w ys zs e f = absurd cc
marks_fixed Cols Other Other w ys zs e f = inl refl
marks_fixed Assigns Dataset z w ys zs e f = absurd cc
marks_fixed Assigns Operator z w ys zs e f = absurd cc
marks_fixed Assigns Other Dataset w ys zs e f = absurd cc
marks_fixed Assigns Other Operator w ys zs e f = absurd cc
marks_fixed Assigns Other Other w ys zs e f = inl refl
marks_fixed Aggs Dataset z w ys zs e f = absurd cc
marks_fixed Aggs Operator z w ys zs e f = absurd cc
marks_fixed Aggs Other Dataset w ys zs e f = absurd cc
marks_fixed Aggs Other Operator w ys zs e f = absurd cc
marks_fixed Aggs Other Other w ys zs e f = inl refl
marks_fixed Keys Dataset z w ys zs e f = absurd cc
marks_fixed Keys Operator z w ys zs e f = absurd cc
marks_fixed Keys Other Dataset w ys zs e f = absurd cc
marks_fixed Keys Other Operator w ys zs e f = absurd cc
marks_fixed Keys Other Other w ys zs e f = inl refl
marks_fixed Orders Dataset z w ys zs e f = absurd cc
marks_fixed Orders Operator z w ys zs e f = absurd cc
marks_fixed Orders Other Dataset w ys zs e f = absurd cc
marks_fixed Orders Other Operator w ys zs e f = absurd cc
marks_fixed Orders Other Other w ys zs e f = inl refl
marks_fixed APlan Dataset z w ys zs e f = absurd cc
marks_fixed APlan Operator Dataset w ys zs e f = absurd cc
marks_fixed APlan Operator Operator w ys zs e f = inl refl
marks_fixed APlan Operator Other w ys zs e f = absurd cc
marks_fixed APlan Other z w ys zs e f = absurd cc
marks_fixed AnOp Dataset z w ys zs e f = absurd cc
marks_fixed AnOp Operator z w ys zs e f = absurd cc
marks_fixed AnOp Other Dataset w ys zs e f = absurd cc
marks_fixed AnOp Other Operator w ys zs e f = absurd cc
marks_fixed AnOp Other Other w ys zs e f = inl refl
marks_fixed Parts Dataset Dataset Open ys zs e f = inr (refl, refl)
marks_fixed Parts Dataset Dataset Close ys zs e f = absurd cc
marks_fixed Parts Dataset Dataset (Name n) ys zs e f = absurd cc
marks_fixed Parts Dataset Dataset (Variable n) ys zs e f = absurd cc
marks_fixed Parts Dataset Dataset (Number z) ys zs e f = absurd cc
marks_fixed Parts Dataset Dataset (Text n) ys zs e f = absurd cc
marks_fixed Parts Dataset Operator Open ys zs e f = inr (refl, refl)
marks_fixed Parts Dataset Operator Close ys zs e f = absurd cc
marks_fixed Parts Dataset Operator (Name n) ys zs e f = absurd cc
marks_fixed Parts Dataset Operator (Variable n) ys zs e f = absurd cc
marks_fixed Parts Dataset Operator (Number z) ys zs e f = absurd cc
marks_fixed Parts Dataset Operator (Text n) ys zs e f = absurd cc
marks_fixed Parts Dataset Other Open ys zs e f = inr (refl, refl)
marks_fixed Parts Dataset Other Close ys zs e f = absurd cc
marks_fixed Parts Dataset Other (Name n) ys zs e f = absurd cc
marks_fixed Parts Dataset Other (Variable n) ys zs e f = absurd cc
marks_fixed Parts Dataset Other (Number z) ys zs e f = absurd cc
marks_fixed Parts Dataset Other (Text n) ys zs e f = absurd cc
marks_fixed Parts Operator Dataset Open ys zs e f = inr (refl, refl)
marks_fixed Parts Operator Dataset Close ys zs e f = absurd cc
marks_fixed Parts Operator Dataset (Name n) ys zs e f = absurd cc
marks_fixed Parts Operator Dataset (Variable n) ys zs e f = absurd cc
marks_fixed Parts Operator Dataset (Number z) ys zs e f = absurd cc
marks_fixed Parts Operator Dataset (Text n) ys zs e f = absurd cc
marks_fixed Parts Operator Operator Open ys zs e f = inr (refl, refl)
marks_fixed Parts Operator Operator Close ys zs e f = absurd cc
marks_fixed Parts Operator Operator (Name n) ys zs e f = absurd cc
marks_fixed Parts Operator Operator (Variable n) ys zs e f = absurd cc
marks_fixed Parts Operator Operator (Number z) ys zs e f = absurd cc
marks_fixed Parts Operator Operator (Text n) ys zs e f = absurd cc
marks_fixed Parts Operator Other Open ys zs e f = inr (refl, refl)
marks_fixed Parts Operator Other Close ys zs e f = absurd cc
marks_fixed Parts Operator Other (Name n) ys zs e f = absurd cc
marks_fixed Parts Operator Other (Variable n) ys zs e f = absurd cc
marks_fixed Parts Operator Other (Number z) ys zs e f = absurd cc
marks_fixed Parts Operator Other (Text n) ys zs e f = absurd cc
marks_fixed Parts Other Dataset Open ys zs e f = inr (refl, refl)
marks_fixed Parts Other Dataset Close ys zs e f = absurd cc
marks_fixed Parts Other Dataset (Name n) ys zs e f = absurd cc
marks_fixed Parts Other Dataset (Variable n) ys zs e f = absurd cc
marks_fixed Parts Other Dataset (Number z) ys zs e f = absurd cc
marks_fixed Parts Other Dataset (Text n) ys zs e f = absurd cc
marks_fixed Parts Other Operator Open ys zs e f = inr (refl, refl)
marks_fixed Parts Other Operator Close ys zs e f = absurd cc
marks_fixed Parts Other Operator (Name n) ys zs e f = absurd cc
marks_fixed Parts Other Operator (Variable n) ys zs e f = absurd cc
marks_fixed Parts Other Operator (Number z) ys zs e f = absurd cc
marks_fixed Parts Other Operator (Text n) ys zs e f = absurd cc
marks_fixed Parts Other Other Open ys zs e f = inr (refl, refl)
marks_fixed Parts Other Other Close ys zs e f = absurd cc
marks_fixed Parts Other Other (Name n) ys zs e f = absurd cc
marks_fixed Parts Other Other (Variable n) ys zs e f = absurd cc
marks_fixed Parts Other Other (Number z) ys zs e f = absurd cc
marks_fixed Parts Other Other (Text n) ys zs e f = absurd cc
marks_fixed (APart j) Dataset z w ys zs e f = absurd cc
marks_fixed (APart j) Operator z w ys zs e f = absurd cc
marks_fixed (APart j) Other Dataset w ys zs e f = absurd cc
marks_fixed (APart j) Other Operator w ys zs e f = absurd cc
marks_fixed (APart j) Other Other w ys zs e f = inl refl

parts_fixed : (x z : Mark) (w : Word) (ys zs : List Sym) → part_turn x w ≡ Some ys → part_turn z w ≡ Some zs → x ≡ z
parts_fixed x z Open ys zs e f = absurd cc
parts_fixed x z Close ys zs e f = absurd cc
parts_fixed x z (Variable n) ys zs e f = absurd cc
parts_fixed x z (Number n) ys zs e f = absurd cc
parts_fixed x z (Text n) ys zs e f = absurd cc
parts_fixed x z (Name n) ys zs e f = go (second_of (codes "dataset") (codes "result") n) e f where
  named : (x z : Mark) (b : Bool) → marked_part x b ≡ Some ys → marked_part z b ≡ Some zs → x ≡ z
  named Dataset Dataset true e f = refl
  named Dataset Dataset false e f = refl
  named Dataset Operator true e f = absurd cc
  named Dataset Operator false e f = absurd cc
  named Dataset Other true e f = absurd cc
  named Dataset Other false e f = absurd cc
  named Operator Dataset true e f = absurd cc
  named Operator Dataset false e f = absurd cc
  named Operator Operator true e f = refl
  named Operator Operator false e f = refl
  named Operator Other true e f = absurd cc
  named Operator Other false e f = absurd cc
  named Other Dataset true e f = absurd cc
  named Other Dataset false e f = absurd cc
  named Other Operator true e f = absurd cc
  named Other Operator false e f = absurd cc
  named Other Other true e f = refl
  named Other Other false e f = refl

  go : (o : Option Bool) → part_lead x o ≡ Some ys → part_lead z o ≡ Some zs → x ≡ z
  go None e f = absurd cc
  go (Some b) e f = named x z b e f

parts_open : (x : Mark) → marked_turn Parts x Open ≡ Some (APart x ∷ [])
parts_open Dataset = refl
parts_open Operator = refl
parts_open Other = refl

-- the word behind the parenthesis tells its mark
fork : (x z : Mark) (ms ns : List Marked) (st a b : List Sym) → run (APart x ∷ st) ms ≡ Some a → run (APart z ∷ st) ns ≡ Some b → unmarked ms ≡ unmarked ns → ((ms ≡ []) × (ns ≡ [])) ⊎ (x ≡ z)
fork x z [] [] st a b e f w = inl (refl, refl)
fork x z [] (n ∷ ns) st a b e f w = absurd cc
fork x z (m ∷ ms) [] st a b e f w = absurd cc
fork x z ((Dataset, v) ∷ ms) (n ∷ ns) st a b e f w = absurd cc
fork x z ((Operator, v) ∷ ms) (n ∷ ns) st a b e f w = absurd cc
fork x z ((Other, v) ∷ ms) ((Dataset, u) ∷ ns) st a b e f w = absurd cc
fork x z ((Other, v) ∷ ms) ((Operator, u) ∷ ns) st a b e f w = absurd cc
fork x z ((Other, v) ∷ ms) ((Other, u) ∷ ns) st a b e f w =
    let same : v ≡ u = cc in
    go (part_turn x v) refl e (part_turn z u) (ap (part_turn z) same) f
  where
    go : (o : Option (List Sym)) → part_turn x v ≡ o → (on_top st o >>- λ next. run next ms) ≡ Some a → (p : Option (List Sym)) → part_turn z v ≡ p → (on_top st p >>- λ next. run next ns) ≡ Some b → ((((Other, v) ∷ ms) ≡ []) × (((Other, u) ∷ ns) ≡ [])) ⊎ (x ≡ z)
    go None so e p sp f = absurd cc
    go (Some ys) so e None sp f = absurd cc
    go (Some ys) so e (Some zs) sp f = inr (parts_fixed x z v ys zs so sp)

lifted : (m : Marked) (ms ns : List Marked) (y : Sym) (st next : List Sym) → step (y ∷ st) m ≡ Some next → SameMarks next ms ns → SameMarks (y ∷ st) (m ∷ ms) (m ∷ ns)
lifted m ms ns y st next e (alike same) = alike (ap (λ (l : List Marked). m ∷ l) same)
lifted m ms ns y st next e (forked p k x z left right runs) =
    forked (m ∷ p) k x z (ap (λ (l : List Marked). m ∷ l) left) (ap (λ (l : List Marked). m ∷ l) right) (ap (λ (o : Option (List Sym)). o >>- λ q. run q p) e ∙ runs)

pub same_marks : (ms ns : List Marked) (st a b : List Sym) → run st ms ≡ Some a → run st ns ≡ Some b → unmarked ms ≡ unmarked ns → SameMarks st ms ns
same_marks [] [] st a b e f w = alike refl
same_marks [] (n ∷ ns) st a b e f w = absurd cc
same_marks (m ∷ ms) [] st a b e f w = absurd cc
same_marks (m ∷ ms) (n ∷ ns) [] a b e f w = absurd cc
same_marks ((x, v) ∷ ms) ((z, u) ∷ ns) (y ∷ st) a b e f w =
    let same : v ≡ u = cc in
    let others : unmarked ms ≡ unmarked ns = cc in
    subst (λ (q : Word). SameMarks (y ∷ st) ((x, v) ∷ ms) ((z, q) ∷ ns)) same
    (go (λ next c d. same_marks ms ns next a b c d others) others (marked_turn y x v) refl e (marked_turn y z v) refl (subst (λ (q : Word). run (y ∷ st) ((z, q) ∷ ns) ≡ Some b) (sym same) f))
  where
    equal : (ys zs : List Sym) → on ys ≡ on zs → ys ≡ zs
    equal ys zs e = cc

    -- the same mark, and so the same symbols
    one_mark : ((next : List Sym) → run next ms ≡ Some a → run next ns ≡ Some b → SameMarks next ms ns) → (ys zs : List Sym) → marked_turn y x v ≡ Some ys → run (ys ++ st) ms ≡ Some a → marked_turn y z v ≡ Some zs → run (zs ++ st) ns ≡ Some b → x ≡ z → SameMarks (y ∷ st) ((x, v) ∷ ms) ((z, v) ∷ ns)
    one_mark rec ys zs so e sp f mark =
        let both : ys ≡ zs = equal ys zs (sym so ∙ ap (λ (k : Mark). marked_turn y k v) mark ∙ sp) in
        let inner = rec (ys ++ st) e (subst (λ (l : List Sym). run (l ++ st) ns ≡ Some b) (sym both) f) in
        subst (λ (k : Mark). SameMarks (y ∷ st) ((x, v) ∷ ms) ((k, v) ∷ ns)) mark (lifted (x, v) ms ns y st (ys ++ st) (ap (on_top st) so) inner)

    two_marks : ((next : List Sym) → run next ms ≡ Some a → run next ns ≡ Some b → SameMarks next ms ns) → unmarked ms ≡ unmarked ns → (ys zs : List Sym) → marked_turn y x v ≡ Some ys → run (ys ++ st) ms ≡ Some a → marked_turn y z v ≡ Some zs → run (zs ++ st) ns ≡ Some b → y ≡ Parts → v ≡ Open → SameMarks (y ∷ st) ((x, v) ∷ ms) ((z, v) ∷ ns)
    two_marks rec others ys zs so e sp f parts opens =
        let left : ys ≡ APart x ∷ [] = equal ys (APart x ∷ []) (sym so ∙ ap (λ (q : Sym). marked_turn q x v) parts ∙ ap (λ (q : Word). marked_turn Parts x q) opens ∙ parts_open x) in
        let right : zs ≡ APart z ∷ [] = equal zs (APart z ∷ []) (sym sp ∙ ap (λ (q : Sym). marked_turn q z v) parts ∙ ap (λ (q : Word). marked_turn Parts z q) opens ∙ parts_open z) in
        elim (fork x z ms ns st a b (subst (λ (l : List Sym). run (l ++ st) ms ≡ Some a) left e) (subst (λ (l : List Sym). run (l ++ st) ns ≡ Some b) right f) others) [
          | inl none ↦ forked [] st x z (ap (λ (q : Word). (x, q) ∷ ms) opens ∙ ap (λ (l : List Marked). (x, Open) ∷ l) none.0) (ap (λ (q : Word). (z, q) ∷ ns) opens ∙ ap (λ (l : List Marked). (z, Open) ∷ l) none.1) (ap (λ (q : Sym). on (q ∷ st)) parts)
          | inr mark ↦ one_mark rec ys zs so e sp f mark
        ]

    go : ((next : List Sym) → run next ms ≡ Some a → run next ns ≡ Some b → SameMarks next ms ns) → unmarked ms ≡ unmarked ns → (o : Option (List Sym)) → marked_turn y x v ≡ o → (on_top st o >>- λ next. run next ms) ≡ Some a → (p : Option (List Sym)) → marked_turn y z v ≡ p → (on_top st p >>- λ next. run next ns) ≡ Some b → SameMarks (y ∷ st) ((x, v) ∷ ms) ((z, v) ∷ ns)
    go rec others None so e p sp f = absurd cc
    go rec others (Some ys) so e None sp f = absurd cc
    go rec others (Some ys) so e (Some zs) sp f =
        elim (marks_fixed y x z v ys zs so sp) [
          | inl mark ↦ one_mark rec ys zs so e sp f mark
          | inr parts ↦ two_marks rec others ys zs so e sp f parts.0 parts.1
        ]

-- an operator begins at a parenthesis
operator_opens : (y : Sym) (w : Word) (ys : List Sym) → marked_turn y Operator w ≡ Some ys → w ≡ Open
operator_opens APlan Open ys e = refl
operator_opens APlan Close ys e = absurd cc
operator_opens APlan (Name n) ys e = absurd cc
operator_opens APlan (Variable n) ys e = absurd cc
operator_opens APlan (Number z) ys e = absurd cc
operator_opens APlan (Text n) ys e = absurd cc
operator_opens Parts Open ys e = refl
operator_opens Parts Close ys e = absurd cc
operator_opens Parts (Name n) ys e = absurd cc
operator_opens Parts (Variable n) ys e = absurd cc
operator_opens Parts (Number z) ys e = absurd cc
operator_opens Parts (Text n) ys e = absurd cc
operator_opens AnOpen w ys e = absurd cc
operator_opens AClose w ys e = absurd cc
operator_opens ATitle w ys e = absurd cc
operator_opens AVersion w ys e = absurd cc
operator_opens AName w ys e = absurd cc
operator_opens AFile w ys e = absurd cc
operator_opens AKind w ys e = absurd cc
operator_opens AVar w ys e = absurd cc
operator_opens AFunc w ys e = absurd cc
operator_opens AnAgg w ys e = absurd cc
operator_opens AGen w ys e = absurd cc
operator_opens ADir w ys e = absurd cc
operator_opens ACount w ys e = absurd cc
operator_opens AnExpr w ys e = absurd cc
operator_opens Args w ys e = absurd cc
operator_opens Vars w ys e = absurd cc
operator_opens Cols w ys e = absurd cc
operator_opens Assigns w ys e = absurd cc
operator_opens Aggs w ys e = absurd cc
operator_opens Keys w ys e = absurd cc
operator_opens Orders w ys e = absurd cc
operator_opens AnOp w ys e = absurd cc
operator_opens (APart j) w ys e = absurd cc

pub at_open : (w : Word) (ms : List Marked) (st a : List Sym) → run st ((Operator, w) ∷ ms) ≡ Some a → w ≡ Open
at_open w ms [] a e = absurd cc
at_open w ms (y ∷ st) a e = go (marked_turn y Operator w) refl e where
  go : (o : Option (List Sym)) → marked_turn y Operator w ≡ o → (on_top st o >>- λ next. run next ms) ≡ Some a → w ≡ Open
  go None s e = absurd cc
  go (Some ys) s e = operator_opens y w ys s

-- at most one operator more
pub one_operator : (p : List Marked) (m : Marked) → operators_in (p ++ m ∷ []) ≤ suc (operators_in p)
one_operator [] (Dataset, w) = omega arith
one_operator [] (Operator, w) = omega arith
one_operator [] (Other, w) = omega arith
one_operator ((Dataset, v) ∷ p) m = one_operator p m
one_operator ((Operator, v) ∷ p) m = let h = one_operator p m in omega arith
one_operator ((Other, v) ∷ p) m = one_operator p m

pub same_fronts : (p q : List Marked) (m n : Marked) → p ++ m ∷ [] ≡ q ++ n ∷ [] → p ≡ q
same_fronts [] [] m n e = refl
same_fronts [] (b ∷ []) m n e = absurd cc
same_fronts [] (b ∷ c ∷ q) m n e = absurd cc
same_fronts (a ∷ []) [] m n e = absurd cc
same_fronts (a ∷ b ∷ p) [] m n e = absurd cc
same_fronts (a ∷ p) (b ∷ q) m n e =
    let first : a ≡ b = cc in
    let others : p ++ m ∷ [] ≡ q ++ n ∷ [] = cc in
    ap (λ (x : Marked). x ∷ p) first ∙ ap (λ (l : List Marked). b ∷ l) (same_fronts p q m n others)
