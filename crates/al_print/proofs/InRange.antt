-- The numbers that a file is written with have 64 bits.
use Rattle.std.proofs.Common.{◌≡◌, ℕ, Bool, true, false, pos, List, [], ◌∷◌, ◌++◌, map, refl, sym, ◌∙◌, subst, codes, arith}
use Rattle.std.specs.Prelude.{◌&&◌}
use Rattle.std.specs.List.{flat_map, list_all}
use Rattle.std.proofs.lemmas.Bool.{and_parts, false≢true}
use Rattle.std.proofs.lemmas.Bool.Decides.{nat_tests}
use Rattle.al_value.specs.declared.value.Value.{Value}
use Rattle.al_value.specs.declared.value.Value.TheVariants as V
use Rattle.al_func.specs.Func.{is_i64}
use Rattle.al_csv.specs.declared.decl.Column.{Column}
use Rattle.al_csv.specs.declared.decl.Decl.{Decl}
use Rattle.al_plan.specs.declared.expr.Var.{Var}
use Rattle.al_plan.specs.declared.expr.Expr.{Expr, roll-Expr, map-Expr, ind-Expr, fold-roll-Expr}
use Rattle.al_plan.specs.declared.expr.Expr.TheOpen as L
use Rattle.al_plan.specs.declared.plan.OrderKey.{OrderKey}
use Rattle.al_plan.specs.declared.plan.AggCall.{AggCall}
use Rattle.al_plan.specs.declared.plan.AggCall.TheVariants as C
use Rattle.al_plan.specs.declared.plan.Generator.{Generator}
use Rattle.al_plan.specs.declared.plan.Generator.TheVariants as G
use Rattle.al_plan.specs.declared.plan.Plan.{Plan, roll-Plan, map-Plan, ind-Plan, fold-roll-Plan, rec-roll-Plan}
use Rattle.al_plan.specs.declared.plan.Plan.TheOpen as P
use Rattle.al_plan.specs.declared.file.PlanFile.{PlanFile}
use Rattle.al_plan.specs.Names.{item_exprs, agg_exprs}
use Rattle.al_plan.specs.Grammar.{Close, Name, Marked, plain, enclosed, operator, func_name, literal, variable, expr_words, expr_words_step, variables, call_words, agg_words, generator_words, assigned_words, aggregated_words, key_words, order_words, count_word, plan_words, plan_words_step, column_words, dataset_words, file_words, is_filled, literal_fits, expr_fits, expr_fits_step, count_fits, plan_fits, plan_fits_step, IsRoot, root_step, CanBeWritten}
use Rattle.al_print.proofs.Spelling.{HasFit}

abbrev pub AllFit : List Marked → Type 0
AllFit [] = Unit {0}
AllFit (m ∷ ms) = HasFit m.1 × AllFit ms

fit_append : (ms ns : List Marked) → AllFit ms → AllFit ns → AllFit (ms ++ ns)
fit_append [] ns a b = b
fit_append (m ∷ ms) ns a b = (a.0, fit_append ms ns a.1 b)

fit_closed : (ms : List Marked) → AllFit ms → AllFit (ms ++ plain Close ∷ [])
fit_closed ms a = fit_append ms (plain Close ∷ []) a (tt, tt)

fit_enclosed : (ms : List Marked) → AllFit ms → AllFit (enclosed ms)
fit_enclosed ms a = (tt, fit_closed ms a)

fit_operator : (w : List ℕ) (ms : List Marked) → AllFit ms → AllFit (operator w ms)
fit_operator w ms a = (tt, (tt, fit_closed ms a))

-- items whose words fit where they pass a test
fit_each : {X : Type 0} (f : X → List Marked) (p : X → Bool) → ((x : X) → p x ≡ true → AllFit (f x)) → (xs : List X) → list_all p xs ≡ true → AllFit (flat_map f xs)
fit_each f p h [] all = tt
fit_each f p h (x ∷ xs) all =
    let q = and_parts (p x) (list_all p xs) all in
    fit_append (f x) (flat_map f xs) (h x q.0) (fit_each f p h xs q.1)

fit_flat : {X : Type 0} (f : X → List Marked) → ((x : X) → AllFit (f x)) → (xs : List X) → AllFit (flat_map f xs)
fit_flat f h [] = tt
fit_flat f h (x ∷ xs) = fit_append (f x) (flat_map f xs) (h x) (fit_flat f h xs)

fit_vars : (vars : List Var) → AllFit (map variable vars)
fit_vars [] = tt
fit_vars (v ∷ vars) = (tt, fit_vars vars)

fit_variables : (vars : List Var) → AllFit (variables vars)
fit_variables vars = fit_enclosed (map variable vars) (fit_vars vars)

-- ---- expressions

abbrev ExprFit : Expr → Type 0
ExprFit e = expr_fits e ≡ true → AllFit (expr_words e)

literal_fit : (v : Value) → literal_fits v ≡ true → HasFit (literal v)
literal_fit V.Null h = tt
literal_fit (V.Bool true) h = tt
literal_fit (V.Bool false) h = tt
literal_fit (V.Int z) h = h
literal_fit (V.Text s) h = tt

rolled_expr : (x : L.Expr-F Expr) → (expr_fits_step (map-Expr Expr Bool expr_fits x) ≡ true → AllFit (expr_words_step (map-Expr Expr (List Marked) expr_words x))) → ExprFit (roll-Expr x)
unfolding expr_words expr_fits
rolled_expr x h fit = subst AllFit (sym (fold-roll-Expr (List Marked) expr_words_step x)) (h (sym (fold-roll-Expr Bool expr_fits_step x) ∙ fit))

inner : {S : Type 0} (up : S → Expr) → ((s : S) → ExprFit (up s)) → (ss : List S) → list_all (λ a. a) (map expr_fits (map up ss)) ≡ true → AllFit (flat_map (λ a. a) (map expr_words (map up ss)))
inner up h [] all = tt
inner up h (s ∷ ss) all =
    let q = and_parts (expr_fits (up s)) (list_all (λ a. a) (map expr_fits (map up ss))) all in
    fit_append (expr_words (up s)) (flat_map (λ a. a) (map expr_words (map up ss))) (h s q.0) (inner up h ss q.1)

layer_expr : {S : Type 0} (up : S → Expr) → ((s : S) → ExprFit (up s)) → (y : L.Expr-F S) → ExprFit (roll-Expr (map-Expr S Expr up y))
layer_expr up h (L.Var v) = rolled_expr (L.Var v) (λ fit. (tt, tt))
layer_expr up h (L.Lit v) = rolled_expr (L.Lit v) (λ fit. (literal_fit v fit, tt))
layer_expr up h (L.Call f args) =
    rolled_expr (L.Call f (map up args)) (λ fit. fit_enclosed (plain (Name (func_name f)) ∷ flat_map (λ a. a) (map expr_words (map up args))) (tt, inner up h args fit))

expr_fit : (e : Expr) → ExprFit e
expr_fit = ind-Expr ExprFit (λ x y e. subst (λ (z : L.Expr-F Expr). ExprFit (roll-Expr z)) e (layer_expr (λ s. s.0) (λ s. s.1) y))

fit_call : (w : List ℕ) (es : List Expr) → list_all expr_fits es ≡ true → AllFit (call_words w es)
fit_call w es all = fit_enclosed (plain (Name w) ∷ flat_map expr_words es) (tt, fit_each expr_words expr_fits expr_fit es all)

fit_agg : (c : AggCall) → list_all expr_fits (agg_exprs c) ≡ true → AllFit (agg_words c)
fit_agg C.CountAll all = fit_call (codes "countall") [] refl
fit_agg (C.Count e) all = fit_call (codes "count") (e ∷ []) all
fit_agg (C.Sum e) all = fit_call (codes "sum") (e ∷ []) all
fit_agg (C.Min e) all = fit_call (codes "min") (e ∷ []) all
fit_agg (C.Max e) all = fit_call (codes "max") (e ∷ []) all

fit_generator : (g : Generator) → list_all expr_fits (item_exprs g) ≡ true → AllFit (generator_words g)
fit_generator (G.Range a b) all = fit_call (codes "range") (a ∷ b ∷ []) all
fit_generator (G.Split a b) all = fit_call (codes "split") (a ∷ b ∷ []) all

fit_assigned : (m : Var × Expr) → expr_fits m.1 ≡ true → AllFit (assigned_words m)
fit_assigned m h = fit_enclosed (variable m.0 ∷ expr_words m.1) (tt, expr_fit m.1 h)

fit_aggregated : (m : Var × AggCall) → list_all expr_fits (agg_exprs m.1) ≡ true → AllFit (aggregated_words m)
fit_aggregated m h = fit_enclosed (variable m.0 ∷ agg_words m.1) (tt, fit_agg m.1 h)

fit_key : (k : Var × Var) → AllFit (key_words k)
fit_key k = (tt, (tt, (tt, (tt, tt))))

fit_order : (k : OrderKey) → AllFit (order_words k)
fit_order k = (tt, (tt, (tt, (tt, tt))))

count_fit : (n : ℕ) → count_fits n ≡ true → is_i64 (pos n) ≡ true
count_fit n h = grind (arith, nat_tests)

-- ---- plans

abbrev PlanFit : Plan → Type 0
PlanFit p = plan_fits p ≡ true → AllFit (plan_words p)

rolled_plan : (x : P.Plan-F Plan) → (plan_fits_step (map-Plan Plan Bool plan_fits x) ≡ true → AllFit (plan_words_step (map-Plan Plan (List Marked) plan_words x))) → PlanFit (roll-Plan x)
unfolding plan_words plan_fits
rolled_plan x h fit = subst AllFit (sym (fold-roll-Plan (List Marked) plan_words_step x)) (h (sym (fold-roll-Plan Bool plan_fits_step x) ∙ fit))

-- the parts of three tests
three : (a b c : Bool) → (a && b && c) ≡ true → (a ≡ true) × ((b ≡ true) × (c ≡ true))
three true true c h = (refl, (refl, h))
three true false c h = absurd (false≢true h)
three false b c h = absurd (false≢true h)

two_plans : (p q : Plan) → AllFit (plan_words p) → AllFit (plan_words q) → AllFit (plan_words p ++ plan_words q)
two_plans p q a b = fit_append (plan_words p) (plan_words q) a b

layer_plan : {S : Type 0} (up : S → Plan) → ((s : S) → PlanFit (up s)) → (y : P.Plan-F S) → PlanFit (roll-Plan (map-Plan S Plan up y))
layer_plan up h (P.Scan set vars) = rolled_plan (P.Scan set vars) (λ fit. fit_operator (codes "scan") (plain (Name set) ∷ variables vars) (tt, fit_variables vars))
layer_plan up h P.Empty = rolled_plan P.Empty (λ fit. fit_operator (codes "empty") [] tt)
layer_plan up h P.Nested = rolled_plan P.Nested (λ fit. fit_operator (codes "nested") [] tt)
layer_plan up h (P.Assign made s) = rolled_plan (P.Assign made (up s)) (λ fit.
    let t = three (is_filled made) (list_all (λ m. expr_fits m.1) made) (plan_fits (up s)) fit in
    let made_fit = fit_enclosed (flat_map assigned_words made) (fit_each assigned_words (λ m. expr_fits m.1) fit_assigned made t.1.0) in
    fit_operator (codes "assign") (enclosed (flat_map assigned_words made) ++ plan_words (up s)) (fit_append (enclosed (flat_map assigned_words made)) (plan_words (up s)) made_fit (h s t.1.1)))
layer_plan up h (P.Select c s) = rolled_plan (P.Select c (up s)) (λ fit.
    let t = and_parts (expr_fits c) (plan_fits (up s)) fit in
    fit_operator (codes "select") (expr_words c ++ plan_words (up s)) (fit_append (expr_words c) (plan_words (up s)) (expr_fit c t.0) (h s t.1)))
layer_plan up h (P.Project vars s) = rolled_plan (P.Project vars (up s)) (λ fit.
    fit_operator (codes "project") (variables vars ++ plan_words (up s)) (fit_append (variables vars) (plan_words (up s)) (fit_variables vars) (h s fit)))
layer_plan up h (P.Unnest v g s) = rolled_plan (P.Unnest v g (up s)) (λ fit.
    let t = and_parts (list_all expr_fits (item_exprs g)) (plan_fits (up s)) fit in
    fit_operator (codes "unnest") (variable v ∷ (generator_words g ++ plan_words (up s))) (tt, fit_append (generator_words g) (plan_words (up s)) (fit_generator g t.0) (h s t.1)))
layer_plan up h (P.Distinct s) = rolled_plan (P.Distinct (up s)) (λ fit. fit_operator (codes "distinct") (plan_words (up s)) (h s fit))
layer_plan up h (P.Aggregate made s) = rolled_plan (P.Aggregate made (up s)) (λ fit.
    let t = three (is_filled made) (list_all (λ m. list_all expr_fits (agg_exprs m.1)) made) (plan_fits (up s)) fit in
    let made_fit = fit_enclosed (flat_map aggregated_words made) (fit_each aggregated_words (λ m. list_all expr_fits (agg_exprs m.1)) fit_aggregated made t.1.0) in
    fit_operator (codes "aggregate") (enclosed (flat_map aggregated_words made) ++ plan_words (up s)) (fit_append (enclosed (flat_map aggregated_words made)) (plan_words (up s)) made_fit (h s t.1.1)))
layer_plan up h (P.Order keys s) = rolled_plan (P.Order keys (up s)) (λ fit.
    let t = and_parts (is_filled keys) (plan_fits (up s)) fit in
    fit_operator (codes "order") (enclosed (flat_map order_words keys) ++ plan_words (up s)) (fit_append (enclosed (flat_map order_words keys)) (plan_words (up s)) (fit_enclosed (flat_map order_words keys) (fit_flat order_words fit_order keys)) (h s t.1)))
layer_plan up h (P.Limit n k s) = rolled_plan (P.Limit n k (up s)) (λ fit.
    let t = three (count_fits n) (count_fits k) (plan_fits (up s)) fit in
    fit_operator (codes "limit") (count_word n ∷ count_word k ∷ plan_words (up s)) (count_fit n t.0, (count_fit k t.1.0, h s t.1.1)))
layer_plan up h (P.Check name c s) = rolled_plan (P.Check name c (up s)) (λ fit.
    let t = and_parts (expr_fits c) (plan_fits (up s)) fit in
    fit_operator (codes "check") (plain (Name name) ∷ (expr_words c ++ plan_words (up s))) (tt, fit_append (expr_words c) (plan_words (up s)) (expr_fit c t.0) (h s t.1)))
layer_plan up h (P.Result vars s) = rolled_plan (P.Result vars (up s)) (λ fit. absurd (false≢true fit))
layer_plan up h (P.Subplan s r) = rolled_plan (P.Subplan (up s) (up r)) (λ fit.
    let t = and_parts (plan_fits (up s)) (plan_fits (up r)) fit in
    fit_operator (codes "subplan") (plan_words (up s) ++ plan_words (up r)) (two_plans (up s) (up r) (h s t.0) (h r t.1)))
layer_plan up h (P.Join c s r) = rolled_plan (P.Join c (up s) (up r)) (λ fit.
    let t = three (expr_fits c) (plan_fits (up s)) (plan_fits (up r)) fit in
    fit_operator (codes "join") (expr_words c ++ (plan_words (up s) ++ plan_words (up r))) (fit_append (expr_words c) (plan_words (up s) ++ plan_words (up r)) (expr_fit c t.0) (two_plans (up s) (up r) (h s t.1.0) (h r t.1.1))))
layer_plan up h (P.LeftJoin c s r) = rolled_plan (P.LeftJoin c (up s) (up r)) (λ fit.
    let t = three (expr_fits c) (plan_fits (up s)) (plan_fits (up r)) fit in
    fit_operator (codes "leftjoin") (expr_words c ++ (plan_words (up s) ++ plan_words (up r))) (fit_append (expr_words c) (plan_words (up s) ++ plan_words (up r)) (expr_fit c t.0) (two_plans (up s) (up r) (h s t.1.0) (h r t.1.1))))
layer_plan up h (P.Group keys s r) = rolled_plan (P.Group keys (up s) (up r)) (λ fit.
    let t = three (is_filled keys) (plan_fits (up s)) (plan_fits (up r)) fit in
    let keys_fit = fit_enclosed (flat_map key_words keys) (fit_flat key_words fit_key keys) in
    fit_operator (codes "group") (enclosed (flat_map key_words keys) ++ (plan_words (up s) ++ plan_words (up r))) (fit_append (enclosed (flat_map key_words keys)) (plan_words (up s) ++ plan_words (up r)) keys_fit (two_plans (up s) (up r) (h s t.1.0) (h r t.1.1))))
layer_plan up h (P.Union made ls rs s r) = rolled_plan (P.Union made ls rs (up s) (up r)) (λ fit.
    let t = and_parts (plan_fits (up s)) (plan_fits (up r)) fit in
    let inputs = plan_words (up s) ++ plan_words (up r) in
    let fits = fit_append (variables rs) inputs (fit_variables rs) (two_plans (up s) (up r) (h s t.0) (h r t.1)) in
    let more = fit_append (variables ls) (variables rs ++ inputs) (fit_variables ls) fits in
    fit_operator (codes "union") (variables made ++ (variables ls ++ (variables rs ++ inputs))) (fit_append (variables made) (variables ls ++ (variables rs ++ inputs)) (fit_variables made) more))

plan_fit : (p : Plan) → PlanFit p
plan_fit = ind-Plan PlanFit (λ x y e. subst (λ (z : P.Plan-F Plan). PlanFit (roll-Plan z)) e (layer_plan (λ s. s.0) (λ s. s.1) y))

-- ---- the root

natural_root : (X : Type 0) (up : X → Plan) (fn : Plan → Type 0) (x : P.Plan-F X) → root_step X up (λ p. fn (up p)) x ≡ root_step Plan (λ p. p) fn (map-Plan X Plan up x)
natural_root X up fn (P.Result vars p) = refl
natural_root X up fn _ = refl

root-roll : (x : P.Plan-F Plan) → IsRoot (roll-Plan x) ≡ root_step Plan (λ p. p) IsRoot x
unfolding IsRoot
root-roll x = rec-roll-Plan (Type 0) root_step natural_root x

rolled_root : (vars : List Var) (p : Plan) → plan_fits p ≡ true → AllFit (plan_words (roll-Plan (P.Result vars p)))
unfolding plan_words
rolled_root vars p fit =
    subst AllFit (sym (fold-roll-Plan (List Marked) plan_words_step (P.Result vars p)))
    (fit_operator (codes "result") (variables vars ++ plan_words p) (fit_append (variables vars) (plan_words p) (fit_variables vars) (plan_fit p fit)))

layer_root : (x : P.Plan-F Plan) → root_step Plan (λ p. p) IsRoot x → AllFit (plan_words (roll-Plan x))
layer_root (P.Result vars p) h = rolled_root vars p h.1
layer_root _ h = absurd h

abbrev RootFit : Plan → Type 0
RootFit p = IsRoot p → AllFit (plan_words p)

root_fit : (p : Plan) → RootFit p
root_fit = ind-Plan RootFit (λ x y e h. layer_root x (subst (λ (t : Type 0). t) (root-roll x) h))

-- ---- files

fit_column : (c : Column) → AllFit (column_words c)
fit_column c = (tt, (tt, (tt, (tt, tt))))

fit_dataset : (d : Decl) → AllFit (dataset_words d)
fit_dataset d = (tt, (tt, (tt, (tt, fit_closed (flat_map column_words d.columns) (fit_flat column_words fit_column d.columns)))))

pub file_fit : (f : PlanFile) → CanBeWritten f → AllFit (file_words f)
file_fit f w =
    let sets = flat_map dataset_words f.datasets in
    let version : is_i64 (pos f.version) ≡ true = rw w.version refl in
    fit_enclosed (plain (Name (codes "algebricks")) ∷ count_word f.version ∷ (sets ++ plan_words f.root))
    (tt, (version, fit_append sets (plan_words f.root) (fit_flat dataset_words fit_dataset f.datasets) (root_fit f.root w.root)))
