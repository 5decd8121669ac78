-- Where operators, plans and files stop.
use Rattle.std.proofs.Common.{◌≡◌, ℕ, zero, suc, ◌<◌, ◌≤◌, Bool, true, false, ◌&&◌, List, [], ◌∷◌, ◌++◌, length, map, Option, Some, None, Result, Ok, Err, pos, refl, sym, ap, subst, ◌∙◌, append_assoc, codes, arith}
use Rattle.std.specs.Prelude.{if◌then◌else◌}
use Rattle.std.specs.List.{flat_map, list_all}
use Rattle.std.proofs.lemmas.List.{append-nil, nil_from_length}
use Rattle.std.proofs.lemmas.Bool.{false≢true, and_from, and_parts}
use Rattle.al_csv.specs.declared.decl.Column.{Column}
use Rattle.al_csv.specs.declared.decl.Decl.{Decl}
use Rattle.al_plan.specs.declared.expr.Var.{Var}
use Rattle.al_plan.specs.declared.expr.Expr.{Expr}
use Rattle.al_plan.specs.declared.plan.OrderKey.{OrderKey}
use Rattle.al_plan.specs.declared.plan.AggCall.{AggCall}
use Rattle.al_plan.specs.declared.plan.Generator.{Generator}
use Rattle.al_plan.specs.declared.plan.Plan.{Plan, roll-Plan, map-Plan, ind-Plan}
use Rattle.al_plan.specs.declared.plan.Plan.TheVariants as P
use Rattle.al_plan.specs.declared.plan.Plan.TheOpen as L
use Rattle.al_plan.specs.Names.{item_exprs, agg_exprs}
use Rattle.al_plan.specs.Grammar.{Word, Open, Close, Name, Text, Mark, Dataset, Operator, Other, Marked, plain, variables, variable, expr_words, expr_fits, assigned_words, aggregated_words, key_words, order_words, column_words, count_fits, is_filled, plan_words, plan_fits, dataset_words, count_word}
use Rattle.al_read.specs.declared.token.Token.{Token}
use Rattle.al_read.specs.declared.token.Token.TheVariants as kinds
use Rattle.al_read.specs.declared.token.Placed.{Placed}
use Rattle.al_read.specs.declared.plan.operator.Parts.{Parts as PlanParts}
use Rattle.al_read.specs.declared.plan.reader.Stopped.{Stopped}
use Rattle.al_read.specs.declared.plan.reader.Stopped.TheVariants as stops
use Rattle.al_read.specs.declared.plan.words.Op.{Op}
use Rattle.al_read.specs.declared.plan.words.Op.TheVariants as op
use Rattle.al_read.specs.declared.plan.words.LeafOp.{LeafOp}
use Rattle.al_read.specs.declared.plan.words.LeafOp.TheVariants as leaf
use Rattle.al_read.specs.declared.plan.words.OneOp.{OneOp}
use Rattle.al_read.specs.declared.plan.words.OneOp.TheVariants as one
use Rattle.al_read.specs.declared.plan.words.TwoOp.{TwoOp}
use Rattle.al_read.specs.declared.plan.words.TwoOp.TheVariants as two
use Rattle.al_read.specs.declared.plan.head.Head.{Head}
use Rattle.al_read.specs.declared.plan.head.Head.TheVariants as H
use Rattle.al_read.specs.declared.plan.head.Leaf.{Leaf}
use Rattle.al_read.specs.declared.plan.head.Leaf.TheVariants as S
use Rattle.al_read.specs.declared.plan.head.One.{One}
use Rattle.al_read.specs.declared.plan.head.One.TheVariants as O
use Rattle.al_read.specs.declared.plan.head.Two.{Two}
use Rattle.al_read.specs.declared.plan.head.Two.TheVariants as T
use Rattle.al_read.specs.Reads.{said}
use Rattle.al_read.specs.PlanReading.{State, Outcome, Read, Stops, ◌>>=◌, behind, with_operator, with_dataset, open_of, open_at, close_at, filled_at, variable_at, expr_at, assigned_at, aggregated_at, key_at, order_at, column_at, name_at, scan_args_at, assign_args_at, unnest_args_at, aggregate_args_at, order_args_at, limit_args_at, check_args_at, group_args_at, union_args_at, leaf_args_at, one_args_at, two_args_at, args_at, op_at, head_at, plan_of, over, over_both, placed, begin_at, place_at, inputs_at, plan_at, dataset_at, part_behind, part_at, parts_at, is_root_of, is_root_at, or_form, second_of, root_at, file_at, title_at, version_at, file_name_at}
use Rattle.al_read.proofs.PlanForms.{Forms, Ready, Taken, itself, AllFit, Filled, taken_append, taken_length, ready_after}
use Rattle.al_read.proofs.PlanWords.{closes_form, opens_form, op_form, op_name, root_word_form, root_name}
use Rattle.al_read.proofs.PlanItems.{Fits, all_from, all_to}
use Rattle.al_read.proofs.PlanArgs.{all_always}
use Rattle.al_read.proofs.PlanHeads.{head_words, head_args, head_fits, HeadFits, op_of_head, head_form, Of, one_fits, two_fits, filled_bool, scan_from, empty_from, nested_from, assign_from, select_from, project_from, unnest_from, distinct_from, aggregate_from, order_from, limit_from, check_from, subplan_from, join_from, leftjoin_from, group_from, union_from}
use Rattle.al_read.proofs.PlanWhole.{PFits, DatasetFits, InputsOf, built, inputs_words, InputsFit, shape_words, shape_to, shape_back, shape_from, begins_form, plan_form, dataset_shown, decl, Opened, opened_takes, place_takes, marked_word, named_at, part_steps, root_begins, closed_as, RootShape, root_value, root_shown, RootFits, FileShape, parts_value, file_shown, FileFits, file_shown_is, file_to, file_from, parts_words, PartsFit, fits-result}
use Rattle.al_read.proofs.PlanMachine.{Sym, AnOpen, AClose, ATitle, AVersion, AName, AFile, AKind, AVar, AGen, ADir, ACount, AnAgg, AnExpr, Args, Vars, Cols, Assigns, Aggs, Keys, Orders, APlan, AnOp, Parts, APart, ◌>>-◌, run, run_on, run_below, step, on_top, on, refuses, takes_numbers, is_number_word, args_syms, inputs_syms, op_syms, root_syms, dataset_syms, lead, is_none, part_syms, Fated, Stuck, Halted, halted_below, halted_behind}
use Rattle.al_read.proofs.PlanPaces.{Paces, StepPaces, nothing, StopsAt, here, later, bind_stops, TokenStops, no_token, bad_token, token_stops, halted_here, pdone, pskip, pnest, pkeep, pmapped, pshaped, items_paces, filled_paces}
use Rattle.al_read.proofs.PlanTokenStops.{open_pace, close_pace, name_pace, variable_pace, file_pace, text_pace, count_pace, version_pace, op_pace, title_pace}
use Rattle.al_read.proofs.PlanStops.{expr_pace, variables_pace, some_vars_pace, assigned_pace, aggregated_pace, key_pace, order_pace, column_pace, generator_pace, cols_list, assigns_list, aggs_list, keys_list, orders_list, fate_moved, pclosed, pclosed_as}

-- ---- what operators hold

abbrev Pacing : ℕ → Op → (State → Outcome Head) → Type 0
Pacing n o read = Paces n read itself head_args (Of o) (args_syms o) nothing

scan_head : (n : ℕ) → Pacing n (op.Leaf leaf.Scan) scan_args_at
unfolding scan_args_at
scan_head n = pshaped n head_args (Of (op.Leaf leaf.Scan)) (pkeep n (AnOpen ∷ Vars ∷ []) (name_pace n) (λ set. pmapped n (λ (vars : List Var). H.Leaf (S.Scan set vars)) (variables_pace n))) (λ x fit. (refl, (refl, refl))) scan_from

empty_head : (n : ℕ) → Pacing n (op.Leaf leaf.Empty) (leaf_args_at leaf.Empty)
unfolding leaf_args_at
empty_head n = pshaped n head_args (Of (op.Leaf leaf.Empty)) (pdone n (H.Leaf S.Empty)) (λ x fit. (refl, (refl, refl))) empty_from

nested_head : (n : ℕ) → Pacing n (op.Leaf leaf.Nested) (leaf_args_at leaf.Nested)
unfolding leaf_args_at
nested_head n = pshaped n head_args (Of (op.Leaf leaf.Nested)) (pdone n (H.Leaf S.Nested)) (λ x fit. (refl, (refl, refl))) nested_from

assign_head : (n : ℕ) → Pacing n (op.One one.Assign) (assign_args_at n)
unfolding assign_args_at
assign_head n = pshaped n head_args (Of (op.One one.Assign)) (pskip n (plain Open) (open_pace n) (pmapped n (λ (made : List (Var × Expr)). H.One (O.Assign made)) (filled_paces n (assigned_at n) assigned_words (λ m. expr_fits m.1 ≡ true) Assigns AnOpen (AVar ∷ AnExpr ∷ AClose ∷ []) assigns_list (assigned_pace n) (closes_form n) (λ m fit. refl)))) (λ made fit. (refl, (refl, filled_bool (λ (m : Var × Expr). expr_fits m.1) made fit))) assign_from

select_head : (n : ℕ) → Pacing n (op.One one.Select) (one_args_at n one.Select)
unfolding one_args_at
select_head n = pshaped n head_args (Of (op.One one.Select)) (pmapped n (λ (c : Expr). H.One (O.Select c)) (expr_pace n)) (λ x fit. (refl, (refl, fit))) select_from

project_head : (n : ℕ) → Pacing n (op.One one.Project) (one_args_at n one.Project)
unfolding one_args_at
project_head n = pshaped n head_args (Of (op.One one.Project)) (pmapped n (λ (vars : List Var). H.One (O.Project vars)) (variables_pace n)) (λ x fit. (refl, (refl, refl))) project_from

unnest_head : (n : ℕ) → Pacing n (op.One one.Unnest) (unnest_args_at n)
unfolding unnest_args_at
unnest_head n = pshaped n head_args (Of (op.One one.Unnest)) (pkeep n (AnOpen ∷ AGen ∷ AnExpr ∷ AnExpr ∷ AClose ∷ []) (variable_pace n) (λ v. pmapped n (λ (g : Generator). H.One (O.Unnest v g)) (generator_pace n))) (λ x fit. (refl, (refl, fit.1))) unnest_from

distinct_head : (n : ℕ) → Pacing n (op.One one.Distinct) (one_args_at n one.Distinct)
unfolding one_args_at
distinct_head n = pshaped n head_args (Of (op.One one.Distinct)) (pdone n (H.One O.Distinct)) (λ x fit. (refl, (refl, refl))) distinct_from

aggregate_head : (n : ℕ) → Pacing n (op.One one.Aggregate) (aggregate_args_at n)
unfolding aggregate_args_at
aggregate_head n = pshaped n head_args (Of (op.One one.Aggregate)) (pskip n (plain Open) (open_pace n) (pmapped n (λ (made : List (Var × AggCall)). H.One (O.Aggregate made)) (filled_paces n (aggregated_at n) aggregated_words (λ m. list_all expr_fits (agg_exprs m.1) ≡ true) Aggs AnOpen (AVar ∷ AnOpen ∷ AnAgg ∷ AClose ∷ AClose ∷ []) aggs_list (aggregated_pace n) (closes_form n) (λ m fit. refl)))) (λ made fit. (refl, (refl, filled_bool (λ (m : Var × AggCall). list_all expr_fits (agg_exprs m.1)) made fit))) aggregate_from

order_args_head : (n : ℕ) → Pacing n (op.One one.Order) order_args_at
unfolding order_args_at
order_args_head n = pshaped n head_args (Of (op.One one.Order)) (pskip n (plain Open) (open_pace n) (pmapped n (λ (keys : List OrderKey). H.One (O.Order keys)) (filled_paces n order_at order_words (λ k. Unit {0}) Orders AnOpen (AVar ∷ ADir ∷ AClose ∷ []) orders_list (order_pace n) (closes_form n) (λ k fit. refl)))) (λ keys fit. (refl, (refl, fit.0))) order_from

limit_head : (n : ℕ) → Pacing n (op.One one.Limit) limit_args_at
unfolding limit_args_at
limit_head n = pshaped n head_args (Of (op.One one.Limit)) (pkeep n (ACount ∷ []) (count_pace n) (λ a. pmapped n (λ (k : ℕ). H.One (O.Limit a k)) (count_pace n))) (λ x fit. (refl, (refl, and_from (count_fits x.0) (count_fits x.1) fit.0 fit.1))) limit_from

check_head : (n : ℕ) → Pacing n (op.One one.Check) (check_args_at n)
unfolding check_args_at
check_head n = pshaped n head_args (Of (op.One one.Check)) (pkeep n (AnExpr ∷ []) (text_pace n) (λ name. pmapped n (λ (c : Expr). H.One (O.Check name c)) (expr_pace n))) (λ x fit. (refl, (refl, fit.1))) check_from

subplan_head : (n : ℕ) → Pacing n (op.Two two.Subplan) (two_args_at n two.Subplan)
unfolding two_args_at
subplan_head n = pshaped n head_args (Of (op.Two two.Subplan)) (pdone n (H.Two T.Subplan)) (λ x fit. (refl, (refl, refl))) subplan_from

join_head : (n : ℕ) → Pacing n (op.Two two.Join) (two_args_at n two.Join)
unfolding two_args_at
join_head n = pshaped n head_args (Of (op.Two two.Join)) (pmapped n (λ (c : Expr). H.Two (T.Join c)) (expr_pace n)) (λ x fit. (refl, (refl, fit))) join_from

leftjoin_head : (n : ℕ) → Pacing n (op.Two two.LeftJoin) (two_args_at n two.LeftJoin)
unfolding two_args_at
leftjoin_head n = pshaped n head_args (Of (op.Two two.LeftJoin)) (pmapped n (λ (c : Expr). H.Two (T.LeftJoin c)) (expr_pace n)) (λ x fit. (refl, (refl, fit))) leftjoin_from

group_head : (n : ℕ) → Pacing n (op.Two two.Group) group_args_at
unfolding group_args_at
group_head n = pshaped n head_args (Of (op.Two two.Group)) (pskip n (plain Open) (open_pace n) (pmapped n (λ (keys : List (Var × Var)). H.Two (T.Group keys)) (filled_paces n key_at key_words (λ k. Unit {0}) Keys AnOpen (AVar ∷ AVar ∷ AClose ∷ []) keys_list (key_pace n) (closes_form n) (λ k fit. refl)))) (λ keys fit. (refl, (refl, fit.0))) group_from

union_head : (n : ℕ) → Pacing n (op.Two two.Union) union_args_at
unfolding union_args_at
union_head n = pshaped n head_args (Of (op.Two two.Union)) (pkeep n (AnOpen ∷ Vars ∷ AnOpen ∷ Vars ∷ []) (variables_pace n) (λ made. pkeep n (AnOpen ∷ Vars ∷ []) (variables_pace n) (λ ls. pmapped n (λ (rs : List Var). H.Two (T.Union made ls rs)) (variables_pace n)))) (λ x fit. (refl, (refl, refl))) union_from

leaf_args_head : (n : ℕ) (w : LeafOp) → Pacing n (op.Leaf w) (leaf_args_at w)
unfolding leaf_args_at
leaf_args_head n leaf.Scan = scan_head n
leaf_args_head n leaf.Empty = empty_head n
leaf_args_head n leaf.Nested = nested_head n

one_args_head : (n : ℕ) (w : OneOp) → Pacing n (op.One w) (one_args_at n w)
unfolding one_args_at
one_args_head n one.Assign = assign_head n
one_args_head n one.Select = select_head n
one_args_head n one.Project = project_head n
one_args_head n one.Unnest = unnest_head n
one_args_head n one.Distinct = distinct_head n
one_args_head n one.Aggregate = aggregate_head n
one_args_head n one.Order = order_args_head n
one_args_head n one.Limit = limit_head n
one_args_head n one.Check = check_head n

two_args_head : (n : ℕ) (w : TwoOp) → Pacing n (op.Two w) (two_args_at n w)
unfolding two_args_at
two_args_head n two.Subplan = subplan_head n
two_args_head n two.Join = join_head n
two_args_head n two.LeftJoin = leftjoin_head n
two_args_head n two.Group = group_head n
two_args_head n two.Union = union_head n

args_head : (n : ℕ) (o : Op) → Pacing n o (args_at n o)
unfolding args_at
args_head n (op.Leaf w) = leaf_args_head n w
args_head n (op.One w) = one_args_head n w
args_head n (op.Two w) = two_args_head n w

head_pace : (n : ℕ) → Paces n (head_at n) itself head_words HeadFits (AnOp ∷ []) (λ h. inputs_syms (op_of_head h))
unfolding head_at
head_pace n = record {
  forms = head_form n;
  runs = λ h fit.
      let o = op_of_head h in
      run_on (plain (Name (op_name o)) ∷ []) (head_args h) (AnOp ∷ []) (op_syms o) ((op_pace n).runs o tt) ∙ run_below (head_args h) (args_syms o) (inputs_syms o) [] ((args_head n o).runs h (refl, fit));
  halts = λ s r e ready k. by s r e ready (bind_stops (op_at s) (λ o q. args_at n o q) e r k);
} where
  by : (s r : State) (e : Stopped) → Ready n s → StopsAt (op_at s) (λ o q. args_at n o q) e r → Halted s r (AnOp ∷ []) e
  by s r e ready (here k) = (op_pace n).halts s r e ready k
  by s r e ready (later o q k h) =
      let t = (op_form n).takes s q o k in
      let taken = subst (λ (z : Op). Taken s (plain (Name (op_name z)) ∷ []) q) t.value_is t.taken in
      halted_behind s q r (AnOp ∷ []) (op_syms o) (plain (Name (op_name o)) ∷ []) e taken ((op_pace n).runs o tt)
      (halted_below q r (args_syms o) (inputs_syms o) e ((args_head n o).halts q r e (ready_after n (plain (Name (op_name o)) ∷ []) s q taken ready) h))

leaf_inputs : (l : Leaf) → inputs_syms (op_of_head (H.Leaf l)) ≡ []
leaf_inputs (S.Scan set vars) = refl
leaf_inputs S.Empty = refl
leaf_inputs S.Nested = refl

one_inputs : (o : One) → inputs_syms (op_of_head (H.One o)) ≡ APlan ∷ []
one_inputs (O.Assign made) = refl
one_inputs (O.Select c) = refl
one_inputs (O.Project vars) = refl
one_inputs (O.Unnest v g) = refl
one_inputs O.Distinct = refl
one_inputs (O.Aggregate made) = refl
one_inputs (O.Order keys) = refl
one_inputs (O.Limit n k) = refl
one_inputs (O.Check name c) = refl

two_inputs : (t : Two) → inputs_syms (op_of_head (H.Two t)) ≡ APlan ∷ APlan ∷ []
two_inputs T.Subplan = refl
two_inputs (T.Join c) = refl
two_inputs (T.LeftJoin c) = refl
two_inputs (T.Group keys) = refl
two_inputs (T.Union made ls rs) = refl

-- ---- plans

abbrev Running : Plan → Type 0
Running p = PFits p → run (APlan ∷ []) (plan_words p) ≡ Some []

-- the inputs go along with their symbols
shape_runs : (h : Head) (i : InputsOf h) → HeadFits h × InputsFit h i → run (inputs_syms (op_of_head h)) (inputs_words h i) ≡ Some [] → run (APlan ∷ []) (plan_words (built h i)) ≡ Some []
shape_runs h i fit inner =
    let o = op_of_head h in
    ap (run (APlan ∷ [])) (sym (shape_to h i fit).0)
    ∙ run_on (head_words h) (inputs_words h i ++ plain Close ∷ []) (AnOp ∷ AClose ∷ []) (inputs_syms o ++ AClose ∷ []) (run_below (head_words h) (AnOp ∷ []) (AClose ∷ []) (inputs_syms o) ((head_pace zero).runs h fit.0))
    ∙ run_on (inputs_words h i) (plain Close ∷ []) (inputs_syms o ++ AClose ∷ []) (AClose ∷ []) (run_below (inputs_words h i) (inputs_syms o) (AClose ∷ []) [] inner)

leaf_runs : (l : Leaf) → Running (plan_of l)
leaf_runs l fit = shape_runs (H.Leaf l) tt (shape_back (H.Leaf l) tt fit) (ap (λ (ys : List Sym). run ys []) (leaf_inputs l))

one_runs : (o : One) (p : Plan) → Running p → Running (over o p)
one_runs o p rec fit =
    let f = shape_back (H.One o) p fit in
    shape_runs (H.One o) p f (ap (λ (ys : List Sym). run ys (plan_words p)) (one_inputs o) ∙ rec f.1)

two_runs : (t : Two) (p q : Plan) → Running p → Running q → Running (over_both t p q)
two_runs t p q rec sec fit =
    let f = shape_back (H.Two t) (p, q) fit in
    shape_runs (H.Two t) (p, q) f
    (ap (λ (ys : List Sym). run ys (plan_words p ++ plan_words q)) (two_inputs t) ∙ run_on (plan_words p) (plan_words q) (APlan ∷ APlan ∷ []) (APlan ∷ []) (run_below (plan_words p) (APlan ∷ []) (APlan ∷ []) [] (rec f.1.0)) ∙ sec f.1.1)

layer_runs : {X : Type 0} (up : X → Plan) → ((x : X) → Running (up x)) → (y : L.Plan-F X) → Running (roll-Plan (map-Plan X Plan up y))
layer_runs up h (L.Scan set vars) = subst Running (sym (P.rolls-Scan set vars)) (leaf_runs (S.Scan set vars))
layer_runs up h L.Empty = subst Running (sym P.rolls-Empty) (leaf_runs S.Empty)
layer_runs up h L.Nested = subst Running (sym P.rolls-Nested) (leaf_runs S.Nested)
layer_runs up h (L.Assign made x) = subst Running (sym (P.rolls-Assign made (up x))) (one_runs (O.Assign made) (up x) (h x))
layer_runs up h (L.Select c x) = subst Running (sym (P.rolls-Select c (up x))) (one_runs (O.Select c) (up x) (h x))
layer_runs up h (L.Project vars x) = subst Running (sym (P.rolls-Project vars (up x))) (one_runs (O.Project vars) (up x) (h x))
layer_runs up h (L.Unnest v g x) = subst Running (sym (P.rolls-Unnest v g (up x))) (one_runs (O.Unnest v g) (up x) (h x))
layer_runs up h (L.Distinct x) = subst Running (sym (P.rolls-Distinct (up x))) (one_runs O.Distinct (up x) (h x))
layer_runs up h (L.Aggregate made x) = subst Running (sym (P.rolls-Aggregate made (up x))) (one_runs (O.Aggregate made) (up x) (h x))
layer_runs up h (L.Order keys x) = subst Running (sym (P.rolls-Order keys (up x))) (one_runs (O.Order keys) (up x) (h x))
layer_runs up h (L.Limit n k x) = subst Running (sym (P.rolls-Limit n k (up x))) (one_runs (O.Limit n k) (up x) (h x))
layer_runs up h (L.Check name c x) = subst Running (sym (P.rolls-Check name c (up x))) (one_runs (O.Check name c) (up x) (h x))
layer_runs up h (L.Subplan x z) = subst Running (sym (P.rolls-Subplan (up x) (up z))) (two_runs T.Subplan (up x) (up z) (h x) (h z))
layer_runs up h (L.Join c x z) = subst Running (sym (P.rolls-Join c (up x) (up z))) (two_runs (T.Join c) (up x) (up z) (h x) (h z))
layer_runs up h (L.LeftJoin c x z) = subst Running (sym (P.rolls-LeftJoin c (up x) (up z))) (two_runs (T.LeftJoin c) (up x) (up z) (h x) (h z))
layer_runs up h (L.Group keys x z) = subst Running (sym (P.rolls-Group keys (up x) (up z))) (two_runs (T.Group keys) (up x) (up z) (h x) (h z))
layer_runs up h (L.Union made ls rs x z) = subst Running (sym (P.rolls-Union made ls rs (up x) (up z))) (two_runs (T.Union made ls rs) (up x) (up z) (h x) (h z))
layer_runs up h (L.Result vars x) = λ fit. absurd (false≢true (sym (fits-result vars (up x)) ∙ ap plan_fits (sym (P.rolls-Result vars (up x))) ∙ fit))

plan_runs : (p : Plan) → Running p
plan_runs = ind-Plan Running (λ x y e. subst (λ (z : L.Plan-F Plan). Running (roll-Plan z)) e (layer_runs (λ s. s.0) (λ s. s.1) y))

opening_fate : (t : Token) → Fated (open_of t) (refuses APlan (said t)) (takes_numbers APlan && is_number_word (said t))
opening_fate kinds.Open = tt
opening_fate kinds.Close = (refl, refl)
opening_fate (kinds.Name w) = (refl, refl)
opening_fate (kinds.Var w) = (refl, refl)
opening_fate (kinds.Number w) = (refl, refl)
opening_fate (kinds.Str w) = (refl, refl)

-- no parenthesis opens here
record NotOpened (s r : State) (e : Stopped) : Type 0 where
  pub at_is : s ≡ r
  pub none : TokenStops open_of s e

place_stops : (s : State) (ts : List Placed) → s.tokens ≡ ts → (e : Stopped) (r : State) → placed s ts ≡ Stops e r → NotOpened s r e
place_stops s [] same e r h = let a : e ≡ stops.Form = cc in let b : s ≡ r = cc in record { at_is = b; none = no_token same a }
place_stops s (t ∷ ts) same e r h = absurd cc

not_opened : (s q r : State) (place : ℕ) (e : Stopped) → place_at s ≡ Read place q → open_at q ≡ Stops e r → NotOpened s r e
unfolding place_at open_at
not_opened s q r place e f h =
    let b = place_takes s s.tokens refl q place f in
    let k = token_stops open_of q e r h in
    record { at_is = b.at_is ∙ k.1; none = subst (λ (z : State). TokenStops open_of z e) (sym b.at_is) k.0 }

not_placed : (s r : State) (e : Stopped) → place_at s ≡ Stops e r → NotOpened s r e
unfolding place_at
not_placed s r e h = place_stops s s.tokens refl e r h

stuck_opening : (y : Sym) → ((t : Token) → Fated (open_of t) (refuses y (said t)) (takes_numbers y && is_number_word (said t))) → (s r : State) (e : Stopped) → NotOpened s r e → Halted s r (y ∷ []) e
stuck_opening y fate s r e n = by n.none where
  by : TokenStops open_of s e → Halted s r (y ∷ []) e
  by (no_token same form) = halted_here s r y e n.at_is (subst (λ (ts : List Placed). Stuck e y ts) (sym same) form)
  by (bad_token t ts same bad) = halted_here s r y e n.at_is (subst (λ (us : List Placed). Stuck e y us) (sym same) (fate_moved e (open_of t.token) (refuses y (said t.token)) (takes_numbers y && is_number_word (said t.token)) bad (fate t.token)))

abbrev marked_open : ℕ → Unit {0} → State → Outcome (Unit {0})
marked_open place u z = Read tt (with_operator place z)

abbrev placed_open : ℕ → State → Outcome (Unit {0})
placed_open place p = open_at p >>= marked_open place

begins_pace : (n : ℕ) → Paces n begin_at itself (λ u. (Operator, Open) ∷ []) (λ u. Unit {0}) (APlan ∷ []) (λ u. AnOp ∷ AClose ∷ [])
unfolding begin_at
begins_pace n = record {
  forms = begins_form n;
  runs = λ u fit. refl;
  halts = λ s r e ready h. by s r e (bind_stops (place_at s) (placed_open) e r h);
} where
  opening : (s q r : State) (place : ℕ) (e : Stopped) → place_at s ≡ Read place q → StopsAt (open_at q) (marked_open place) e r → Halted s r (APlan ∷ []) e
  opening s q r place e f (here h) = stuck_opening APlan opening_fate s r e (not_opened s q r place e f h)
  opening s q r place e f (later u z h k) = absurd cc

  by : (s r : State) (e : Stopped) → StopsAt (place_at s) (placed_open) e r → Halted s r (APlan ∷ []) e
  by s r e (here h) = stuck_opening APlan opening_fate s r e (not_placed s r e h)
  by s r e (later place q f h) = opening s q r place e f (bind_stops (open_at q) (marked_open place) e r h)

inputs_pace : (n : ℕ) (read : State → Outcome Plan) → Paces n read itself plan_words PFits (APlan ∷ []) nothing → (h : Head) → Paces n (inputs_at read h) (built h) (inputs_words h) (InputsFit h) (inputs_syms (op_of_head h)) nothing
unfolding inputs_at
inputs_pace n read f (H.Leaf l) = subst (λ (ys : List Sym). Paces n (inputs_at read (H.Leaf l)) (built (H.Leaf l)) (inputs_words (H.Leaf l)) (InputsFit (H.Leaf l)) ys nothing) (sym (leaf_inputs l)) (pdone n (plan_of l))
inputs_pace n read f (H.One o) = subst (λ (ys : List Sym). Paces n (inputs_at read (H.One o)) (built (H.One o)) (inputs_words (H.One o)) (InputsFit (H.One o)) ys nothing) (sym (one_inputs o)) (pmapped n (over o) f)
inputs_pace n read f (H.Two t) = subst (λ (ys : List Sym). Paces n (inputs_at read (H.Two t)) (built (H.Two t)) (inputs_words (H.Two t)) (InputsFit (H.Two t)) ys nothing) (sym (two_inputs t)) (pkeep n (APlan ∷ []) f (λ p. pmapped n (λ (q : Plan). over_both t p q) f))

deeper_pace : (n : ℕ) → Paces n (plan_at n) itself plan_words PFits (APlan ∷ []) nothing → Paces (suc n) (plan_at (suc n)) itself plan_words PFits (APlan ∷ []) nothing
unfolding plan_at
deeper_pace n f =
    pshaped (suc n) plan_words PFits
    (pnest n (Operator, Open) begins_pace (pkeep n {Y = InputsOf} {value = built} {print = λ h i. inputs_words h i ++ plain Close ∷ []} {fits = InputsFit} (AClose ∷ []) (head_pace n) (λ h. pclosed n (inputs_pace n (plan_at n) f h))))
    (λ x fit. shape_to x.0 x.1 fit)
    (λ p fit. shape_from p fit)

flat_halts : (s r : State) (e : Stopped) → Ready zero s → plan_at zero s ≡ Stops e r → Halted s r (APlan ∷ []) e
unfolding plan_at
flat_halts s r e ready h =
    let fuel = ready.fuel in
    let none : s.tokens ≡ [] = nil_from_length s.tokens (omega arith) in
    let form : e ≡ stops.Form = cc in
    let there : s ≡ r = cc in
    halted_here s r APlan e there (subst (λ (ts : List Placed). Stuck e APlan ts) (sym none) form)

pub plan_pace : (n : ℕ) → Paces n (plan_at n) itself plan_words PFits (APlan ∷ []) nothing
plan_pace zero = record { forms = plan_form zero; runs = plan_runs; halts = flat_halts }
plan_pace (suc n) = deeper_pace n (plan_pace n)

-- ---- files

dataset_pace : (n : ℕ) → Paces n dataset_at itself dataset_shown DatasetFits (AName ∷ AFile ∷ AnOpen ∷ AName ∷ AKind ∷ AClose ∷ Cols ∷ []) nothing
unfolding dataset_at
dataset_pace n =
    pshaped n dataset_shown DatasetFits
    (pkeep n (AFile ∷ AnOpen ∷ AName ∷ AKind ∷ AClose ∷ Cols ∷ []) (name_pace n) (λ name. pkeep n (AnOpen ∷ AName ∷ AKind ∷ AClose ∷ Cols ∷ []) (file_pace n) (λ file. pmapped n (decl name file)
    (filled_paces n column_at column_words (λ c. Unit {0}) Cols AnOpen (AName ∷ AKind ∷ AClose ∷ []) cols_list (column_pace n) (closes_form n) (λ c fit. refl)))))
    (λ p fit. (refl, fit.1.1.0))
    (λ d suit. ((d.name, (d.file, d.columns)), refl, (tt, (tt, (suit, all_always d.columns)))))

parts_fate : (t : Token) → Fated (open_of t) (refuses Parts (said t)) (takes_numbers Parts && is_number_word (said t))
parts_fate kinds.Open = tt
parts_fate kinds.Close = (refl, refl)
parts_fate (kinds.Name w) = (refl, refl)
parts_fate (kinds.Var w) = (refl, refl)
parts_fate (kinds.Number w) = (refl, refl)
parts_fate (kinds.Str w) = (refl, refl)

named_fate : {A : Type 0} (o : Option A) (syms : A → List Sym) → Fated (or_form o) (is_none (lead syms o)) false
named_fate (Some x) syms = tt
named_fate None syms = (refl, refl)

word_fate : (t : Token) → Fated (is_root_of t) (refuses (APart Other) (said t)) (takes_numbers (APart Other) && is_number_word (said t))
word_fate kinds.Open = (refl, refl)
word_fate kinds.Close = (refl, refl)
word_fate (kinds.Name w) = named_fate (second_of (codes "dataset") (codes "result") w) part_syms
word_fate (kinds.Var w) = (refl, refl)
word_fate (kinds.Number w) = (refl, refl)
word_fate (kinds.Str w) = (refl, refl)

word_halts : (q r : State) (e : Stopped) → is_root_at q ≡ Stops e r → Halted q r (APart Other ∷ []) e
unfolding is_root_at
word_halts q r e h = by (token_stops is_root_of q e r h).0 (token_stops is_root_of q e r h).1 where
  by : TokenStops is_root_of q e → q ≡ r → Halted q r (APart Other ∷ []) e
  by (no_token same form) there = halted_here q r (APart Other) e there (subst (λ (ts : List Placed). Stuck e (APart Other) ts) (sym same) form)
  by (bad_token t ts same bad) there = halted_here q r (APart Other) e there (subst (λ (us : List Placed). Stuck e (APart Other) us) (sym same) (fate_moved e (is_root_of t.token) (refuses (APart Other) (said t.token)) (takes_numbers (APart Other) && is_number_word (said t.token)) bad (word_fate t.token)))

part_stops : (n : ℕ) (s r : State) (e : Stopped) → Ready n s → part_at s ≡ Stops e r → Halted s r (Parts ∷ []) e
unfolding part_at
part_stops n s r e ready h = first (bind_stops (place_at s) (λ place z. open_at z >>= λ u q. is_root_at q >>= λ root p. part_behind place root p) e r h) where
  fourth : (place : ℕ) (p q z : State) (b : Bool) → Opened s place q → Taken q (plain (Name (root_name b)) ∷ []) p → part_behind place b p ≡ Stops e r → Halted s r (Parts ∷ []) e
  fourth place p q z true o word h = absurd cc
  fourth place p q z false o word h =
      let front = marked_word Dataset (codes "dataset") s q p place o word (with_dataset place p) (ap (λ (w : State). with_dataset o.t.place w) (named_at s q p (codes "dataset") place o word) ∙ ap (λ (k : ℕ). with_dataset k p) o.place_is) in
      dataset_stops place p front (bind_stops (dataset_at (with_dataset place p)) (λ d w. Read (Some d) w) e r h)
    where
      dataset_stops : (place : ℕ) (p : State) → Taken s ((Dataset, Open) ∷ (plain (Name (codes "dataset")) ∷ [])) (with_dataset place p) → StopsAt (dataset_at (with_dataset place p)) (λ d w. Read (Some d) w) e r → Halted s r (Parts ∷ []) e
      dataset_stops place p front (later d w k j) = absurd cc
      dataset_stops place p front (here k) =
          let ms = (Dataset, Open) ∷ (plain (Name (codes "dataset")) ∷ []) in
          halted_behind s (with_dataset place p) r (Parts ∷ []) dataset_syms ms e front refl
          (halted_below (with_dataset place p) r (AName ∷ AFile ∷ AnOpen ∷ AName ∷ AKind ∷ AClose ∷ Cols ∷ []) (Parts ∷ []) e ((dataset_pace n).halts (with_dataset place p) r e (ready_after n ms s (with_dataset place p) front ready) k))

  third : (place : ℕ) (z q : State) (u : Unit {0}) → place_at s ≡ Read place z → open_at z ≡ Read u q → StopsAt (is_root_at q) (λ root p. part_behind place root p) e r → Halted s r (Parts ∷ []) e
  third place z q u f g (here k) =
      let o = opened_takes s z q place u f g in
      halted_behind s q r (Parts ∷ []) (APart Other ∷ []) (plain Open ∷ []) e (o.t, o.ts, o.tokens, o.says, o.at_is) refl (word_halts q r e k)
  third place z q u f g (later b p k j) =
      let t = (root_word_form n).takes q p b k in
      fourth place p q z b (opened_takes s z q place u f g) (subst (λ (x : Bool). Taken q (plain (Name (root_name x)) ∷ []) p) t.value_is t.taken) j

  second : (place : ℕ) (z : State) → place_at s ≡ Read place z → StopsAt (open_at z) (λ u q. is_root_at q >>= λ root p. part_behind place root p) e r → Halted s r (Parts ∷ []) e
  second place z f (here k) = stuck_opening Parts parts_fate s r e (not_opened s z r place e f k)
  second place z f (later u q k j) = third place z q u f k (bind_stops (is_root_at q) (λ root p. part_behind place root p) e r j)

  first : StopsAt (place_at s) (λ place z. open_at z >>= λ u q. is_root_at q >>= λ root p. part_behind place root p) e r → Halted s r (Parts ∷ []) e
  first (here k) = stuck_opening Parts parts_fate s r e (not_placed s r e k)
  first (later place z k j) = second place z k (bind_stops (open_at z) (λ u q. is_root_at q >>= λ root p. part_behind place root p) e r j)

part_paces : (n : ℕ) → StepPaces n part_at dataset_words DatasetFits root_begins Parts root_syms
part_paces n = record {
  steps = part_steps n;
  none_runs = refl;
  some_runs = λ d fit. run_on ((Dataset, Open) ∷ (plain (Name (codes "dataset")) ∷ [])) (dataset_shown d) (Parts ∷ []) dataset_syms refl ∙ run_below (dataset_shown d) (AName ∷ AFile ∷ AnOpen ∷ AName ∷ AKind ∷ AClose ∷ Cols ∷ []) (Parts ∷ []) [] ((dataset_pace n).runs d fit);
  step_halts = λ s r e ready h. part_stops n s r e ready h;
}

parts_pace : (n : ℕ) → Paces n parts_at itself (λ ds. flat_map dataset_words ds ++ root_begins) (AllFit DatasetFits) (Parts ∷ []) (λ ds. root_syms)
unfolding parts_at
parts_pace n = items_paces n part_at dataset_words DatasetFits root_begins Parts root_syms (part_paces n)

root_pace : (n : ℕ) → Paces n (root_at n) root_value root_shown RootFits (AnOpen ∷ AVar ∷ Vars ∷ APlan ∷ AClose ∷ []) nothing
unfolding root_at
root_pace n = pskip n (plain Open) (open_pace n) (pkeep n (APlan ∷ AClose ∷ []) (some_vars_pace n) (λ vars. pclosed_as n (λ (p : Plan). P.Result vars p) (closed_as n (λ (p : Plan). P.Result vars p) (plan_form n)) (plan_pace n)))

abbrev pub file_syms : List Sym
file_syms = AnOpen ∷ ATitle ∷ AVersion ∷ Parts ∷ []

pub whole_pace : (n : ℕ) → Paces n (file_at n) itself parts_words PartsFit file_syms nothing
unfolding file_at
whole_pace n =
    pshaped n parts_words PartsFit
    (pskip n (plain Open) (open_pace n) (pskip n (plain (Name (codes "algebricks"))) (title_pace n) (pkeep n (Parts ∷ []) (version_pace n) (λ version. pkeep n [] (parts_pace n) (λ datasets.
    pclosed_as n (λ (root : Plan). let z : PlanParts = record { version = version; datasets = datasets; root = root } in z) (closed_as n (λ (root : Plan). let z : PlanParts = record { version = version; datasets = datasets; root = root } in z) (root_pace n).forms) (root_pace n))))))
    (λ x fit. (file_shown_is x, file_to x fit))
    (λ p suit. file_from p suit)
