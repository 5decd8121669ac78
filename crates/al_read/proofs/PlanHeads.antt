-- Operators, plans and files.
use Rattle.std.proofs.Common.{◌≡◌, ℕ, Bool, true, ◌&&◌, List, [], ◌∷◌, ◌++◌, refl, sym, ap}
use Rattle.std.specs.List.{flat_map, list_all}
use Rattle.std.proofs.lemmas.Bool.{and_from, and_parts}
use Rattle.al_plan.specs.declared.expr.Var.{Var}
use Rattle.al_plan.specs.declared.expr.Expr.{Expr}
use Rattle.al_plan.specs.declared.plan.OrderKey.{OrderKey}
use Rattle.al_plan.specs.declared.plan.AggCall.{AggCall}
use Rattle.al_plan.specs.declared.plan.Generator.{Generator}
use Rattle.al_plan.specs.Names.{item_exprs, agg_exprs}
use Rattle.al_plan.specs.Grammar.{Open, Name, Marked, plain, enclosed, variable, expr_words, expr_fits, variables, generator_words, assigned_words, aggregated_words, key_words, order_words, count_word, count_fits, is_filled}
use Rattle.al_read.specs.declared.plan.words.Op.{Op}
use Rattle.al_read.specs.declared.plan.words.Op.TheVariants as op
use Rattle.al_read.specs.declared.plan.words.LeafOp.{LeafOp}
use Rattle.al_read.specs.declared.plan.words.LeafOp.TheVariants as leaf
use Rattle.al_read.specs.declared.plan.words.OneOp.{OneOp}
use Rattle.al_read.specs.declared.plan.words.OneOp.TheVariants as one
use Rattle.al_read.specs.declared.plan.words.TwoOp.{TwoOp}
use Rattle.al_read.specs.declared.plan.words.TwoOp.TheVariants as two
use Rattle.al_read.specs.declared.plan.head.Head.{Head}
use Rattle.al_read.specs.declared.plan.head.Head.TheVariants as H
use Rattle.al_read.specs.declared.plan.head.Leaf.{Leaf}
use Rattle.al_read.specs.declared.plan.head.Leaf.TheVariants as S
use Rattle.al_read.specs.declared.plan.head.One.{One}
use Rattle.al_read.specs.declared.plan.head.One.TheVariants as O
use Rattle.al_read.specs.declared.plan.head.Two.{Two}
use Rattle.al_read.specs.declared.plan.head.Two.TheVariants as T
use Rattle.al_read.specs.PlanReading.{State, Outcome, assigned_at, aggregated_at, key_at, order_at, scan_args_at, assign_args_at, unnest_args_at, aggregate_args_at, order_args_at, limit_args_at, check_args_at, group_args_at, union_args_at, leaf_args_at, one_args_at, two_args_at, args_at, head_at}
use Rattle.al_read.proofs.PlanForms.{Forms, itself, done, skip, keep, shaped, mapped, Filled, filled_form}
use Rattle.al_read.proofs.PlanWords.{opens_form, closes_form, variable_form, name_form, text_form, count_form, op_form, op_name}
use Rattle.al_read.proofs.PlanItems.{Fits, expr_form, all_from, all_to}
use Rattle.al_read.proofs.PlanArgs.{variables_form, assigned_form, aggregated_form, key_form, order_form, generator_form, all_always}

-- ---- what an operator is written with, beside its inputs

abbrev pub leaf_words : Leaf → List Marked
leaf_words (S.Scan set vars) = plain (Name set) ∷ variables vars
leaf_words S.Empty = []
leaf_words S.Nested = []

abbrev pub one_words : One → List Marked
one_words (O.Assign made) = enclosed (flat_map assigned_words made)
one_words (O.Select c) = expr_words c
one_words (O.Project vars) = variables vars
one_words (O.Unnest v g) = variable v ∷ generator_words g
one_words O.Distinct = []
one_words (O.Aggregate made) = enclosed (flat_map aggregated_words made)
one_words (O.Order keys) = enclosed (flat_map order_words keys)
one_words (O.Limit n k) = count_word n ∷ count_word k ∷ []
one_words (O.Check name c) = plain (Name name) ∷ expr_words c

abbrev pub one_fits : One → Bool
one_fits (O.Assign made) = is_filled made && list_all (λ m. expr_fits m.1) made
one_fits (O.Select c) = expr_fits c
one_fits (O.Project vars) = true
one_fits (O.Unnest v g) = list_all expr_fits (item_exprs g)
one_fits O.Distinct = true
one_fits (O.Aggregate made) = is_filled made && list_all (λ m. list_all expr_fits (agg_exprs m.1)) made
one_fits (O.Order keys) = is_filled keys
one_fits (O.Limit n k) = count_fits n && count_fits k
one_fits (O.Check name c) = expr_fits c

abbrev pub two_words : Two → List Marked
two_words T.Subplan = []
two_words (T.Join c) = expr_words c
two_words (T.LeftJoin c) = expr_words c
two_words (T.Group keys) = enclosed (flat_map key_words keys)
two_words (T.Union made ls rs) = variables made ++ (variables ls ++ variables rs)

abbrev pub two_fits : Two → Bool
two_fits T.Subplan = true
two_fits (T.Join c) = expr_fits c
two_fits (T.LeftJoin c) = expr_fits c
two_fits (T.Group keys) = is_filled keys
two_fits (T.Union made ls rs) = true

abbrev pub op_of_head : Head → Op
op_of_head (H.Leaf (S.Scan set vars)) = op.Leaf leaf.Scan
op_of_head (H.Leaf S.Empty) = op.Leaf leaf.Empty
op_of_head (H.Leaf S.Nested) = op.Leaf leaf.Nested
op_of_head (H.One (O.Assign made)) = op.One one.Assign
op_of_head (H.One (O.Select c)) = op.One one.Select
op_of_head (H.One (O.Project vars)) = op.One one.Project
op_of_head (H.One (O.Unnest v g)) = op.One one.Unnest
op_of_head (H.One O.Distinct) = op.One one.Distinct
op_of_head (H.One (O.Aggregate made)) = op.One one.Aggregate
op_of_head (H.One (O.Order keys)) = op.One one.Order
op_of_head (H.One (O.Limit n k)) = op.One one.Limit
op_of_head (H.One (O.Check name c)) = op.One one.Check
op_of_head (H.Two T.Subplan) = op.Two two.Subplan
op_of_head (H.Two (T.Join c)) = op.Two two.Join
op_of_head (H.Two (T.LeftJoin c)) = op.Two two.LeftJoin
op_of_head (H.Two (T.Group keys)) = op.Two two.Group
op_of_head (H.Two (T.Union made ls rs)) = op.Two two.Union

abbrev pub head_word : Head → List ℕ
head_word h = op_name (op_of_head h)

abbrev pub head_args : Head → List Marked
head_args (H.Leaf l) = leaf_words l
head_args (H.One o) = one_words o
head_args (H.Two t) = two_words t

abbrev pub head_fits : Head → Bool
head_fits (H.Leaf l) = true
head_fits (H.One o) = one_fits o
head_fits (H.Two t) = two_fits t

abbrev pub HeadFits : Head → Type 0
HeadFits h = head_fits h ≡ true

-- ---- reading it

-- a head of this operator
abbrev pub Of : Op → Head → Type 0
Of o h = (op_of_head h ≡ o) × HeadFits h

-- what a reader of such heads reads
abbrev Reading : ℕ → Op → (State → Outcome Head) → Type 0
Reading n o read = Forms n read itself head_args (Of o)

pub filled_bool : {X : Type 0} (test : X → Bool) (xs : List X) → Filled (λ x. test x ≡ true) xs → is_filled xs && list_all test xs ≡ true
filled_bool test xs h = and_from (is_filled xs) (list_all test xs) h.0 (all_from test xs h.1)

pub filled_back : {X : Type 0} (test : X → Bool) (xs : List X) → is_filled xs && list_all test xs ≡ true → Filled (λ x. test x ≡ true) xs
filled_back test xs h = let p = and_parts (is_filled xs) (list_all test xs) h in (p.0, all_to test xs p.1)

pub scan_from : (h : Head) → Of (op.Leaf leaf.Scan) h → (x : List ℕ × List Var) × (H.Leaf (S.Scan x.0 x.1) ≡ h) × (Unit {0} × Unit {0})
scan_from (H.Leaf (S.Scan set vars)) w = ((set, vars), refl, (tt, tt))
scan_from (H.Leaf S.Empty) w = absurd cc
scan_from (H.Leaf S.Nested) w = absurd cc
scan_from (H.One (O.Assign made)) w = absurd cc
scan_from (H.One (O.Select c)) w = absurd cc
scan_from (H.One (O.Project vars)) w = absurd cc
scan_from (H.One (O.Unnest v g)) w = absurd cc
scan_from (H.One O.Distinct) w = absurd cc
scan_from (H.One (O.Aggregate made)) w = absurd cc
scan_from (H.One (O.Order keys)) w = absurd cc
scan_from (H.One (O.Limit n k)) w = absurd cc
scan_from (H.One (O.Check name c)) w = absurd cc
scan_from (H.Two T.Subplan) w = absurd cc
scan_from (H.Two (T.Join c)) w = absurd cc
scan_from (H.Two (T.LeftJoin c)) w = absurd cc
scan_from (H.Two (T.Group keys)) w = absurd cc
scan_from (H.Two (T.Union made ls rs)) w = absurd cc

scan_form : (n : ℕ) → Reading n (op.Leaf leaf.Scan) scan_args_at
unfolding scan_args_at
scan_form n = shaped n head_args (Of (op.Leaf leaf.Scan)) (keep n (name_form n) (λ set. mapped n (λ (vars : List Var). H.Leaf (S.Scan set vars)) (variables_form n))) (λ x fit. (refl, (refl, refl))) scan_from

pub empty_from : (h : Head) → Of (op.Leaf leaf.Empty) h → (x : Unit {0}) × (H.Leaf S.Empty ≡ h) × Unit {0}
empty_from (H.Leaf (S.Scan set vars)) w = absurd cc
empty_from (H.Leaf S.Empty) w = (tt, refl, tt)
empty_from (H.Leaf S.Nested) w = absurd cc
empty_from (H.One (O.Assign made)) w = absurd cc
empty_from (H.One (O.Select c)) w = absurd cc
empty_from (H.One (O.Project vars)) w = absurd cc
empty_from (H.One (O.Unnest v g)) w = absurd cc
empty_from (H.One O.Distinct) w = absurd cc
empty_from (H.One (O.Aggregate made)) w = absurd cc
empty_from (H.One (O.Order keys)) w = absurd cc
empty_from (H.One (O.Limit n k)) w = absurd cc
empty_from (H.One (O.Check name c)) w = absurd cc
empty_from (H.Two T.Subplan) w = absurd cc
empty_from (H.Two (T.Join c)) w = absurd cc
empty_from (H.Two (T.LeftJoin c)) w = absurd cc
empty_from (H.Two (T.Group keys)) w = absurd cc
empty_from (H.Two (T.Union made ls rs)) w = absurd cc

empty_form : (n : ℕ) → Reading n (op.Leaf leaf.Empty) (leaf_args_at leaf.Empty)
unfolding leaf_args_at
empty_form n = shaped n head_args (Of (op.Leaf leaf.Empty)) (done n (H.Leaf S.Empty)) (λ x fit. (refl, (refl, refl))) empty_from

pub nested_from : (h : Head) → Of (op.Leaf leaf.Nested) h → (x : Unit {0}) × (H.Leaf S.Nested ≡ h) × Unit {0}
nested_from (H.Leaf (S.Scan set vars)) w = absurd cc
nested_from (H.Leaf S.Empty) w = absurd cc
nested_from (H.Leaf S.Nested) w = (tt, refl, tt)
nested_from (H.One (O.Assign made)) w = absurd cc
nested_from (H.One (O.Select c)) w = absurd cc
nested_from (H.One (O.Project vars)) w = absurd cc
nested_from (H.One (O.Unnest v g)) w = absurd cc
nested_from (H.One O.Distinct) w = absurd cc
nested_from (H.One (O.Aggregate made)) w = absurd cc
nested_from (H.One (O.Order keys)) w = absurd cc
nested_from (H.One (O.Limit n k)) w = absurd cc
nested_from (H.One (O.Check name c)) w = absurd cc
nested_from (H.Two T.Subplan) w = absurd cc
nested_from (H.Two (T.Join c)) w = absurd cc
nested_from (H.Two (T.LeftJoin c)) w = absurd cc
nested_from (H.Two (T.Group keys)) w = absurd cc
nested_from (H.Two (T.Union made ls rs)) w = absurd cc

nested_form : (n : ℕ) → Reading n (op.Leaf leaf.Nested) (leaf_args_at leaf.Nested)
unfolding leaf_args_at
nested_form n = shaped n head_args (Of (op.Leaf leaf.Nested)) (done n (H.Leaf S.Nested)) (λ x fit. (refl, (refl, refl))) nested_from

pub assign_from : (h : Head) → Of (op.One one.Assign) h → (x : List (Var × Expr)) × (H.One (O.Assign x) ≡ h) × Filled (λ m. expr_fits m.1 ≡ true) x
assign_from (H.Leaf (S.Scan set vars)) w = absurd cc
assign_from (H.Leaf S.Empty) w = absurd cc
assign_from (H.Leaf S.Nested) w = absurd cc
assign_from (H.One (O.Assign made)) w = (made, refl, filled_back (λ (m : Var × Expr). expr_fits m.1) made w.1)
assign_from (H.One (O.Select c)) w = absurd cc
assign_from (H.One (O.Project vars)) w = absurd cc
assign_from (H.One (O.Unnest v g)) w = absurd cc
assign_from (H.One O.Distinct) w = absurd cc
assign_from (H.One (O.Aggregate made)) w = absurd cc
assign_from (H.One (O.Order keys)) w = absurd cc
assign_from (H.One (O.Limit n k)) w = absurd cc
assign_from (H.One (O.Check name c)) w = absurd cc
assign_from (H.Two T.Subplan) w = absurd cc
assign_from (H.Two (T.Join c)) w = absurd cc
assign_from (H.Two (T.LeftJoin c)) w = absurd cc
assign_from (H.Two (T.Group keys)) w = absurd cc
assign_from (H.Two (T.Union made ls rs)) w = absurd cc

assign_form : (n : ℕ) → Reading n (op.One one.Assign) (assign_args_at n)
unfolding assign_args_at
assign_form n = shaped n head_args (Of (op.One one.Assign)) (skip n (plain Open) (opens_form n) (mapped n (λ (made : List (Var × Expr)). H.One (O.Assign made)) (filled_form n (assigned_at n) assigned_words (λ m. expr_fits m.1 ≡ true) (assigned_form n) (closes_form n) (λ m fit. refl)))) (λ made fit. (refl, (refl, filled_bool (λ (m : Var × Expr). expr_fits m.1) made fit))) assign_from

pub select_from : (h : Head) → Of (op.One one.Select) h → (x : Expr) × (H.One (O.Select x) ≡ h) × Fits x
select_from (H.Leaf (S.Scan set vars)) w = absurd cc
select_from (H.Leaf S.Empty) w = absurd cc
select_from (H.Leaf S.Nested) w = absurd cc
select_from (H.One (O.Assign made)) w = absurd cc
select_from (H.One (O.Select c)) w = (c, refl, w.1)
select_from (H.One (O.Project vars)) w = absurd cc
select_from (H.One (O.Unnest v g)) w = absurd cc
select_from (H.One O.Distinct) w = absurd cc
select_from (H.One (O.Aggregate made)) w = absurd cc
select_from (H.One (O.Order keys)) w = absurd cc
select_from (H.One (O.Limit n k)) w = absurd cc
select_from (H.One (O.Check name c)) w = absurd cc
select_from (H.Two T.Subplan) w = absurd cc
select_from (H.Two (T.Join c)) w = absurd cc
select_from (H.Two (T.LeftJoin c)) w = absurd cc
select_from (H.Two (T.Group keys)) w = absurd cc
select_from (H.Two (T.Union made ls rs)) w = absurd cc

select_form : (n : ℕ) → Reading n (op.One one.Select) (one_args_at n one.Select)
unfolding one_args_at
select_form n = shaped n head_args (Of (op.One one.Select)) (mapped n (λ (c : Expr). H.One (O.Select c)) (expr_form n)) (λ x fit. (refl, (refl, fit))) select_from

pub project_from : (h : Head) → Of (op.One one.Project) h → (x : List Var) × (H.One (O.Project x) ≡ h) × Unit {0}
project_from (H.Leaf (S.Scan set vars)) w = absurd cc
project_from (H.Leaf S.Empty) w = absurd cc
project_from (H.Leaf S.Nested) w = absurd cc
project_from (H.One (O.Assign made)) w = absurd cc
project_from (H.One (O.Select c)) w = absurd cc
project_from (H.One (O.Project vars)) w = (vars, refl, tt)
project_from (H.One (O.Unnest v g)) w = absurd cc
project_from (H.One O.Distinct) w = absurd cc
project_from (H.One (O.Aggregate made)) w = absurd cc
project_from (H.One (O.Order keys)) w = absurd cc
project_from (H.One (O.Limit n k)) w = absurd cc
project_from (H.One (O.Check name c)) w = absurd cc
project_from (H.Two T.Subplan) w = absurd cc
project_from (H.Two (T.Join c)) w = absurd cc
project_from (H.Two (T.LeftJoin c)) w = absurd cc
project_from (H.Two (T.Group keys)) w = absurd cc
project_from (H.Two (T.Union made ls rs)) w = absurd cc

project_form : (n : ℕ) → Reading n (op.One one.Project) (one_args_at n one.Project)
unfolding one_args_at
project_form n = shaped n head_args (Of (op.One one.Project)) (mapped n (λ (vars : List Var). H.One (O.Project vars)) (variables_form n)) (λ x fit. (refl, (refl, refl))) project_from

pub unnest_from : (h : Head) → Of (op.One one.Unnest) h → (x : Var × Generator) × (H.One (O.Unnest x.0 x.1) ≡ h) × (Unit {0} × (list_all expr_fits (item_exprs x.1) ≡ true))
unnest_from (H.Leaf (S.Scan set vars)) w = absurd cc
unnest_from (H.Leaf S.Empty) w = absurd cc
unnest_from (H.Leaf S.Nested) w = absurd cc
unnest_from (H.One (O.Assign made)) w = absurd cc
unnest_from (H.One (O.Select c)) w = absurd cc
unnest_from (H.One (O.Project vars)) w = absurd cc
unnest_from (H.One (O.Unnest v g)) w = ((v, g), refl, (tt, w.1))
unnest_from (H.One O.Distinct) w = absurd cc
unnest_from (H.One (O.Aggregate made)) w = absurd cc
unnest_from (H.One (O.Order keys)) w = absurd cc
unnest_from (H.One (O.Limit n k)) w = absurd cc
unnest_from (H.One (O.Check name c)) w = absurd cc
unnest_from (H.Two T.Subplan) w = absurd cc
unnest_from (H.Two (T.Join c)) w = absurd cc
unnest_from (H.Two (T.LeftJoin c)) w = absurd cc
unnest_from (H.Two (T.Group keys)) w = absurd cc
unnest_from (H.Two (T.Union made ls rs)) w = absurd cc

unnest_form : (n : ℕ) → Reading n (op.One one.Unnest) (unnest_args_at n)
unfolding unnest_args_at
unnest_form n = shaped n head_args (Of (op.One one.Unnest)) (keep n (variable_form n) (λ v. mapped n (λ (g : Generator). H.One (O.Unnest v g)) (generator_form n))) (λ x fit. (refl, (refl, fit.1))) unnest_from

pub distinct_from : (h : Head) → Of (op.One one.Distinct) h → (x : Unit {0}) × (H.One O.Distinct ≡ h) × Unit {0}
distinct_from (H.Leaf (S.Scan set vars)) w = absurd cc
distinct_from (H.Leaf S.Empty) w = absurd cc
distinct_from (H.Leaf S.Nested) w = absurd cc
distinct_from (H.One (O.Assign made)) w = absurd cc
distinct_from (H.One (O.Select c)) w = absurd cc
distinct_from (H.One (O.Project vars)) w = absurd cc
distinct_from (H.One (O.Unnest v g)) w = absurd cc
distinct_from (H.One O.Distinct) w = (tt, refl, tt)
distinct_from (H.One (O.Aggregate made)) w = absurd cc
distinct_from (H.One (O.Order keys)) w = absurd cc
distinct_from (H.One (O.Limit n k)) w = absurd cc
distinct_from (H.One (O.Check name c)) w = absurd cc
distinct_from (H.Two T.Subplan) w = absurd cc
distinct_from (H.Two (T.Join c)) w = absurd cc
distinct_from (H.Two (T.LeftJoin c)) w = absurd cc
distinct_from (H.Two (T.Group keys)) w = absurd cc
distinct_from (H.Two (T.Union made ls rs)) w = absurd cc

distinct_form : (n : ℕ) → Reading n (op.One one.Distinct) (one_args_at n one.Distinct)
unfolding one_args_at
distinct_form n = shaped n head_args (Of (op.One one.Distinct)) (done n (H.One O.Distinct)) (λ x fit. (refl, (refl, refl))) distinct_from

pub aggregate_from : (h : Head) → Of (op.One one.Aggregate) h → (x : List (Var × AggCall)) × (H.One (O.Aggregate x) ≡ h) × Filled (λ m. list_all expr_fits (agg_exprs m.1) ≡ true) x
aggregate_from (H.Leaf (S.Scan set vars)) w = absurd cc
aggregate_from (H.Leaf S.Empty) w = absurd cc
aggregate_from (H.Leaf S.Nested) w = absurd cc
aggregate_from (H.One (O.Assign made)) w = absurd cc
aggregate_from (H.One (O.Select c)) w = absurd cc
aggregate_from (H.One (O.Project vars)) w = absurd cc
aggregate_from (H.One (O.Unnest v g)) w = absurd cc
aggregate_from (H.One O.Distinct) w = absurd cc
aggregate_from (H.One (O.Aggregate made)) w = (made, refl, filled_back (λ (m : Var × AggCall). list_all expr_fits (agg_exprs m.1)) made w.1)
aggregate_from (H.One (O.Order keys)) w = absurd cc
aggregate_from (H.One (O.Limit n k)) w = absurd cc
aggregate_from (H.One (O.Check name c)) w = absurd cc
aggregate_from (H.Two T.Subplan) w = absurd cc
aggregate_from (H.Two (T.Join c)) w = absurd cc
aggregate_from (H.Two (T.LeftJoin c)) w = absurd cc
aggregate_from (H.Two (T.Group keys)) w = absurd cc
aggregate_from (H.Two (T.Union made ls rs)) w = absurd cc

aggregate_form : (n : ℕ) → Reading n (op.One one.Aggregate) (aggregate_args_at n)
unfolding aggregate_args_at
aggregate_form n = shaped n head_args (Of (op.One one.Aggregate)) (skip n (plain Open) (opens_form n) (mapped n (λ (made : List (Var × AggCall)). H.One (O.Aggregate made)) (filled_form n (aggregated_at n) aggregated_words (λ m. list_all expr_fits (agg_exprs m.1) ≡ true) (aggregated_form n) (closes_form n) (λ m fit. refl)))) (λ made fit. (refl, (refl, filled_bool (λ (m : Var × AggCall). list_all expr_fits (agg_exprs m.1)) made fit))) aggregate_from

pub order_from : (h : Head) → Of (op.One one.Order) h → (x : List OrderKey) × (H.One (O.Order x) ≡ h) × Filled (λ (k : OrderKey). Unit {0}) x
order_from (H.Leaf (S.Scan set vars)) w = absurd cc
order_from (H.Leaf S.Empty) w = absurd cc
order_from (H.Leaf S.Nested) w = absurd cc
order_from (H.One (O.Assign made)) w = absurd cc
order_from (H.One (O.Select c)) w = absurd cc
order_from (H.One (O.Project vars)) w = absurd cc
order_from (H.One (O.Unnest v g)) w = absurd cc
order_from (H.One O.Distinct) w = absurd cc
order_from (H.One (O.Aggregate made)) w = absurd cc
order_from (H.One (O.Order keys)) w = (keys, refl, (w.1, all_always keys))
order_from (H.One (O.Limit n k)) w = absurd cc
order_from (H.One (O.Check name c)) w = absurd cc
order_from (H.Two T.Subplan) w = absurd cc
order_from (H.Two (T.Join c)) w = absurd cc
order_from (H.Two (T.LeftJoin c)) w = absurd cc
order_from (H.Two (T.Group keys)) w = absurd cc
order_from (H.Two (T.Union made ls rs)) w = absurd cc

order_args_form : (n : ℕ) → Reading n (op.One one.Order) order_args_at
unfolding order_args_at
order_args_form n = shaped n head_args (Of (op.One one.Order)) (skip n (plain Open) (opens_form n) (mapped n (λ (keys : List OrderKey). H.One (O.Order keys)) (filled_form n order_at order_words (λ k. Unit {0}) (order_form n) (closes_form n) (λ k fit. refl)))) (λ keys fit. (refl, (refl, fit.0))) order_from

pub limit_from : (h : Head) → Of (op.One one.Limit) h → (x : ℕ × ℕ) × (H.One (O.Limit x.0 x.1) ≡ h) × ((count_fits x.0 ≡ true) × (count_fits x.1 ≡ true))
limit_from (H.Leaf (S.Scan set vars)) w = absurd cc
limit_from (H.Leaf S.Empty) w = absurd cc
limit_from (H.Leaf S.Nested) w = absurd cc
limit_from (H.One (O.Assign made)) w = absurd cc
limit_from (H.One (O.Select c)) w = absurd cc
limit_from (H.One (O.Project vars)) w = absurd cc
limit_from (H.One (O.Unnest v g)) w = absurd cc
limit_from (H.One O.Distinct) w = absurd cc
limit_from (H.One (O.Aggregate made)) w = absurd cc
limit_from (H.One (O.Order keys)) w = absurd cc
limit_from (H.One (O.Limit n k)) w = ((n, k), refl, and_parts (count_fits n) (count_fits k) w.1)
limit_from (H.One (O.Check name c)) w = absurd cc
limit_from (H.Two T.Subplan) w = absurd cc
limit_from (H.Two (T.Join c)) w = absurd cc
limit_from (H.Two (T.LeftJoin c)) w = absurd cc
limit_from (H.Two (T.Group keys)) w = absurd cc
limit_from (H.Two (T.Union made ls rs)) w = absurd cc

limit_form : (n : ℕ) → Reading n (op.One one.Limit) limit_args_at
unfolding limit_args_at
limit_form n = shaped n head_args (Of (op.One one.Limit)) (keep n (count_form n) (λ a. mapped n (λ (k : ℕ). H.One (O.Limit a k)) (count_form n))) (λ x fit. (refl, (refl, and_from (count_fits x.0) (count_fits x.1) fit.0 fit.1))) limit_from

pub check_from : (h : Head) → Of (op.One one.Check) h → (x : List ℕ × Expr) × (H.One (O.Check x.0 x.1) ≡ h) × (Unit {0} × Fits x.1)
check_from (H.Leaf (S.Scan set vars)) w = absurd cc
check_from (H.Leaf S.Empty) w = absurd cc
check_from (H.Leaf S.Nested) w = absurd cc
check_from (H.One (O.Assign made)) w = absurd cc
check_from (H.One (O.Select c)) w = absurd cc
check_from (H.One (O.Project vars)) w = absurd cc
check_from (H.One (O.Unnest v g)) w = absurd cc
check_from (H.One O.Distinct) w = absurd cc
check_from (H.One (O.Aggregate made)) w = absurd cc
check_from (H.One (O.Order keys)) w = absurd cc
check_from (H.One (O.Limit n k)) w = absurd cc
check_from (H.One (O.Check name c)) w = ((name, c), refl, (tt, w.1))
check_from (H.Two T.Subplan) w = absurd cc
check_from (H.Two (T.Join c)) w = absurd cc
check_from (H.Two (T.LeftJoin c)) w = absurd cc
check_from (H.Two (T.Group keys)) w = absurd cc
check_from (H.Two (T.Union made ls rs)) w = absurd cc

check_form : (n : ℕ) → Reading n (op.One one.Check) (check_args_at n)
unfolding check_args_at
check_form n = shaped n head_args (Of (op.One one.Check)) (keep n (text_form n) (λ name. mapped n (λ (c : Expr). H.One (O.Check name c)) (expr_form n))) (λ x fit. (refl, (refl, fit.1))) check_from

pub subplan_from : (h : Head) → Of (op.Two two.Subplan) h → (x : Unit {0}) × (H.Two T.Subplan ≡ h) × Unit {0}
subplan_from (H.Leaf (S.Scan set vars)) w = absurd cc
subplan_from (H.Leaf S.Empty) w = absurd cc
subplan_from (H.Leaf S.Nested) w = absurd cc
subplan_from (H.One (O.Assign made)) w = absurd cc
subplan_from (H.One (O.Select c)) w = absurd cc
subplan_from (H.One (O.Project vars)) w = absurd cc
subplan_from (H.One (O.Unnest v g)) w = absurd cc
subplan_from (H.One O.Distinct) w = absurd cc
subplan_from (H.One (O.Aggregate made)) w = absurd cc
subplan_from (H.One (O.Order keys)) w = absurd cc
subplan_from (H.One (O.Limit n k)) w = absurd cc
subplan_from (H.One (O.Check name c)) w = absurd cc
subplan_from (H.Two T.Subplan) w = (tt, refl, tt)
subplan_from (H.Two (T.Join c)) w = absurd cc
subplan_from (H.Two (T.LeftJoin c)) w = absurd cc
subplan_from (H.Two (T.Group keys)) w = absurd cc
subplan_from (H.Two (T.Union made ls rs)) w = absurd cc

subplan_form : (n : ℕ) → Reading n (op.Two two.Subplan) (two_args_at n two.Subplan)
unfolding two_args_at
subplan_form n = shaped n head_args (Of (op.Two two.Subplan)) (done n (H.Two T.Subplan)) (λ x fit. (refl, (refl, refl))) subplan_from

pub join_from : (h : Head) → Of (op.Two two.Join) h → (x : Expr) × (H.Two (T.Join x) ≡ h) × Fits x
join_from (H.Leaf (S.Scan set vars)) w = absurd cc
join_from (H.Leaf S.Empty) w = absurd cc
join_from (H.Leaf S.Nested) w = absurd cc
join_from (H.One (O.Assign made)) w = absurd cc
join_from (H.One (O.Select c)) w = absurd cc
join_from (H.One (O.Project vars)) w = absurd cc
join_from (H.One (O.Unnest v g)) w = absurd cc
join_from (H.One O.Distinct) w = absurd cc
join_from (H.One (O.Aggregate made)) w = absurd cc
join_from (H.One (O.Order keys)) w = absurd cc
join_from (H.One (O.Limit n k)) w = absurd cc
join_from (H.One (O.Check name c)) w = absurd cc
join_from (H.Two T.Subplan) w = absurd cc
join_from (H.Two (T.Join c)) w = (c, refl, w.1)
join_from (H.Two (T.LeftJoin c)) w = absurd cc
join_from (H.Two (T.Group keys)) w = absurd cc
join_from (H.Two (T.Union made ls rs)) w = absurd cc

join_form : (n : ℕ) → Reading n (op.Two two.Join) (two_args_at n two.Join)
unfolding two_args_at
join_form n = shaped n head_args (Of (op.Two two.Join)) (mapped n (λ (c : Expr). H.Two (T.Join c)) (expr_form n)) (λ x fit. (refl, (refl, fit))) join_from

pub leftjoin_from : (h : Head) → Of (op.Two two.LeftJoin) h → (x : Expr) × (H.Two (T.LeftJoin x) ≡ h) × Fits x
leftjoin_from (H.Leaf (S.Scan set vars)) w = absurd cc
leftjoin_from (H.Leaf S.Empty) w = absurd cc
leftjoin_from (H.Leaf S.Nested) w = absurd cc
leftjoin_from (H.One (O.Assign made)) w = absurd cc
leftjoin_from (H.One (O.Select c)) w = absurd cc
leftjoin_from (H.One (O.Project vars)) w = absurd cc
leftjoin_from (H.One (O.Unnest v g)) w = absurd cc
leftjoin_from (H.One O.Distinct) w = absurd cc
leftjoin_from (H.One (O.Aggregate made)) w = absurd cc
leftjoin_from (H.One (O.Order keys)) w = absurd cc
leftjoin_from (H.One (O.Limit n k)) w = absurd cc
leftjoin_from (H.One (O.Check name c)) w = absurd cc
leftjoin_from (H.Two T.Subplan) w = absurd cc
leftjoin_from (H.Two (T.Join c)) w = absurd cc
leftjoin_from (H.Two (T.LeftJoin c)) w = (c, refl, w.1)
leftjoin_from (H.Two (T.Group keys)) w = absurd cc
leftjoin_from (H.Two (T.Union made ls rs)) w = absurd cc

leftjoin_form : (n : ℕ) → Reading n (op.Two two.LeftJoin) (two_args_at n two.LeftJoin)
unfolding two_args_at
leftjoin_form n = shaped n head_args (Of (op.Two two.LeftJoin)) (mapped n (λ (c : Expr). H.Two (T.LeftJoin c)) (expr_form n)) (λ x fit. (refl, (refl, fit))) leftjoin_from

pub group_from : (h : Head) → Of (op.Two two.Group) h → (x : List (Var × Var)) × (H.Two (T.Group x) ≡ h) × Filled (λ (k : Var × Var). Unit {0}) x
group_from (H.Leaf (S.Scan set vars)) w = absurd cc
group_from (H.Leaf S.Empty) w = absurd cc
group_from (H.Leaf S.Nested) w = absurd cc
group_from (H.One (O.Assign made)) w = absurd cc
group_from (H.One (O.Select c)) w = absurd cc
group_from (H.One (O.Project vars)) w = absurd cc
group_from (H.One (O.Unnest v g)) w = absurd cc
group_from (H.One O.Distinct) w = absurd cc
group_from (H.One (O.Aggregate made)) w = absurd cc
group_from (H.One (O.Order keys)) w = absurd cc
group_from (H.One (O.Limit n k)) w = absurd cc
group_from (H.One (O.Check name c)) w = absurd cc
group_from (H.Two T.Subplan) w = absurd cc
group_from (H.Two (T.Join c)) w = absurd cc
group_from (H.Two (T.LeftJoin c)) w = absurd cc
group_from (H.Two (T.Group keys)) w = (keys, refl, (w.1, all_always keys))
group_from (H.Two (T.Union made ls rs)) w = absurd cc

group_form : (n : ℕ) → Reading n (op.Two two.Group) group_args_at
unfolding group_args_at
group_form n = shaped n head_args (Of (op.Two two.Group)) (skip n (plain Open) (opens_form n) (mapped n (λ (keys : List (Var × Var)). H.Two (T.Group keys)) (filled_form n key_at key_words (λ k. Unit {0}) (key_form n) (closes_form n) (λ k fit. refl)))) (λ keys fit. (refl, (refl, fit.0))) group_from

pub union_from : (h : Head) → Of (op.Two two.Union) h → (x : List Var × (List Var × List Var)) × (H.Two (T.Union x.0 x.1.0 x.1.1) ≡ h) × (Unit {0} × (Unit {0} × Unit {0}))
union_from (H.Leaf (S.Scan set vars)) w = absurd cc
union_from (H.Leaf S.Empty) w = absurd cc
union_from (H.Leaf S.Nested) w = absurd cc
union_from (H.One (O.Assign made)) w = absurd cc
union_from (H.One (O.Select c)) w = absurd cc
union_from (H.One (O.Project vars)) w = absurd cc
union_from (H.One (O.Unnest v g)) w = absurd cc
union_from (H.One O.Distinct) w = absurd cc
union_from (H.One (O.Aggregate made)) w = absurd cc
union_from (H.One (O.Order keys)) w = absurd cc
union_from (H.One (O.Limit n k)) w = absurd cc
union_from (H.One (O.Check name c)) w = absurd cc
union_from (H.Two T.Subplan) w = absurd cc
union_from (H.Two (T.Join c)) w = absurd cc
union_from (H.Two (T.LeftJoin c)) w = absurd cc
union_from (H.Two (T.Group keys)) w = absurd cc
union_from (H.Two (T.Union made ls rs)) w = ((made, (ls, rs)), refl, (tt, (tt, tt)))

union_form : (n : ℕ) → Reading n (op.Two two.Union) union_args_at
unfolding union_args_at
union_form n = shaped n head_args (Of (op.Two two.Union)) (keep n (variables_form n) (λ made. keep n (variables_form n) (λ ls. mapped n (λ (rs : List Var). H.Two (T.Union made ls rs)) (variables_form n)))) (λ x fit. (refl, (refl, refl))) union_from

leaf_args_form : (n : ℕ) (w : LeafOp) → Reading n (op.Leaf w) (leaf_args_at w)
unfolding leaf_args_at
leaf_args_form n leaf.Scan = scan_form n
leaf_args_form n leaf.Empty = empty_form n
leaf_args_form n leaf.Nested = nested_form n

one_args_form : (n : ℕ) (w : OneOp) → Reading n (op.One w) (one_args_at n w)
unfolding one_args_at
one_args_form n one.Assign = assign_form n
one_args_form n one.Select = select_form n
one_args_form n one.Project = project_form n
one_args_form n one.Unnest = unnest_form n
one_args_form n one.Distinct = distinct_form n
one_args_form n one.Aggregate = aggregate_form n
one_args_form n one.Order = order_args_form n
one_args_form n one.Limit = limit_form n
one_args_form n one.Check = check_form n

two_args_form : (n : ℕ) (w : TwoOp) → Reading n (op.Two w) (two_args_at n w)
unfolding two_args_at
two_args_form n two.Subplan = subplan_form n
two_args_form n two.Join = join_form n
two_args_form n two.LeftJoin = leftjoin_form n
two_args_form n two.Group = group_form n
two_args_form n two.Union = union_form n

args_form : (n : ℕ) (o : Op) → Reading n o (args_at n o)
unfolding args_at
args_form n (op.Leaf w) = leaf_args_form n w
args_form n (op.One w) = one_args_form n w
args_form n (op.Two w) = two_args_form n w

abbrev pub head_words : Head → List Marked
head_words h = plain (Name (head_word h)) ∷ head_args h

pub head_form : (n : ℕ) → Forms n (head_at n) itself head_words HeadFits
unfolding head_at
head_form n =
    shaped n head_words HeadFits
    (keep n {Y = λ o. Head} {value = λ o h. h} {print = λ o h. head_args h} {fits = Of} (op_form n) (λ o. args_form n o))
    (λ p fit. (ap (λ (o : Op). plain (Name (op_name o)) ∷ head_args p.1) (sym fit.1.0), fit.1.1))
    (λ h suit. ((op_of_head h, h), refl, (tt, (refl, suit))))
