-- A file has one place for each dataset and each operator.
use Rattle.std.proofs.Common.{◌≡◌, ℕ, zero, suc, ◌+◌, Bool, true, false, List, [], ◌∷◌, ◌++◌, length, map, refl, sym, ap, subst, ◌∙◌, append_assoc, codes, arith}
use Rattle.std.proofs.lemmas.List.{append-nil}
use Rattle.std.specs.Prelude.{if◌then◌else◌}
use Rattle.std.specs.List.{flat_map}
use Rattle.al_csv.specs.declared.decl.Column.{Column}
use Rattle.al_csv.specs.declared.decl.Decl.{Decl}
use Rattle.al_plan.specs.declared.expr.Var.{Var}
use Rattle.al_plan.specs.declared.expr.Expr.{Expr, roll-Expr, map-Expr, ind-Expr, fold-roll-Expr}
use Rattle.al_plan.specs.declared.expr.Expr.TheVariants as E
use Rattle.al_plan.specs.declared.expr.Expr.TheOpen as L
use Rattle.al_plan.specs.declared.plan.OrderKey.{OrderKey}
use Rattle.al_plan.specs.declared.plan.AggCall.{AggCall}
use Rattle.al_plan.specs.declared.plan.AggCall.TheVariants as C
use Rattle.al_plan.specs.declared.plan.Generator.{Generator}
use Rattle.al_plan.specs.declared.plan.Generator.TheVariants as G
use Rattle.al_plan.specs.declared.plan.Plan.{Plan, roll-Plan, map-Plan, ind-Plan, fold-roll-Plan}
use Rattle.al_plan.specs.declared.plan.Plan.TheOpen as P
use Rattle.al_plan.specs.declared.file.PlanFile.{PlanFile}
use Rattle.al_plan.specs.Accept.{size, size_step, HasPlaces}
use Rattle.al_plan.specs.Grammar.{Word, Open, Close, Name, Mark, Dataset, Operator, Other, Marked, plain, enclosed, headed, operator, func_name, variable, expr_words, variables, call_words, agg_words, generator_words, assigned_words, aggregated_words, key_words, order_words, count_word, plan_words, plan_words_step, column_words, dataset_words, file_words}
use Rattle.al_read.specs.declared.token.Placed.{Placed}
use Rattle.al_read.specs.Reads.{words_of, unmarked, is_dataset, is_operator, places_of, Reads}
use Rattle.al_read.proofs.PlanItems.{Simple, OfVar, OfValue, simple_word, words-simple, words-call}

-- how many things begin
abbrev count : (Mark → Bool) → List Marked → ℕ
count begins [] = 0
count begins (m ∷ ms) = if begins m.0 then suc (count begins ms) else count begins ms

count_append : (begins : Mark → Bool) (ms ns : List Marked) → count begins (ms ++ ns) ≡ count begins ms + count begins ns
count_append begins [] ns = omega arith
count_append begins ((k, w) ∷ ms) ns = go (begins k) (count_append begins ms ns) where
  go : (b : Bool) → count begins (ms ++ ns) ≡ count begins ms + count begins ns → (if b then suc (count begins (ms ++ ns)) else count begins (ms ++ ns)) ≡ (if b then suc (count begins ms) else count begins ms) + count begins ns
  go true e = omega arith
  go false e = e

places_count : (begins : Mark → Bool) (ms : List Marked) (ts : List Placed) → words_of ts ≡ unmarked ms → length (places_of begins ms ts) ≡ count begins ms
places_count begins [] ts e = refl
places_count begins (m ∷ ms) [] e = absurd cc
places_count begins ((k, w) ∷ ms) (t ∷ ts) e = let others : words_of ts ≡ unmarked ms = cc in go (begins k) (places_count begins ms ts others) where
  go : (b : Bool) → length (places_of begins ms ts) ≡ count begins ms → length (if b then t.place ∷ places_of begins ms ts else places_of begins ms ts) ≡ (if b then suc (count begins ms) else count begins ms)
  go true e = ap suc e
  go false e = e

-- ---- where nothing begins

record Quiet (ms : List Marked) : Type 0 where
  pub datasets : count is_dataset ms ≡ 0
  pub operators : count is_operator ms ≡ 0

quiet_none : Quiet []
quiet_none = record { datasets = refl; operators = refl }

quiet_word : (w : Word) (ms : List Marked) → Quiet ms → Quiet (plain w ∷ ms)
quiet_word w ms q = record { datasets = q.datasets; operators = q.operators }

quiet_append : (ms ns : List Marked) → Quiet ms → Quiet ns → Quiet (ms ++ ns)
quiet_append ms ns a b =
    let d = a.datasets in
    let e = b.datasets in
    let o = a.operators in
    let p = b.operators in
    record { datasets = omega (arith, count_append is_dataset ms ns); operators = omega (arith, count_append is_operator ms ns) }

quiet_enclosed : (ms : List Marked) → Quiet ms → Quiet (enclosed ms)
quiet_enclosed ms q = quiet_word Open (ms ++ plain Close ∷ []) (quiet_append ms (plain Close ∷ []) q (quiet_word Close [] quiet_none))

quiet_flat : {X : Type 0} (f : X → List Marked) (xs : List X) → ((x : X) → Quiet (f x)) → Quiet (flat_map f xs)
quiet_flat f [] h = quiet_none
quiet_flat f (x ∷ xs) h = quiet_append (f x) (flat_map f xs) (h x) (quiet_flat f xs h)

quiet_vars : (vars : List Var) → Quiet (map variable vars)
quiet_vars [] = quiet_none
quiet_vars (v ∷ vars) = quiet_word (variable v).1 (map variable vars) (quiet_vars vars)

quiet_variables : (vars : List Var) → Quiet (variables vars)
quiet_variables vars = quiet_enclosed (map variable vars) (quiet_vars vars)

quiet_inner : {S : Type 0} (up : S → Expr) → ((s : S) → Quiet (expr_words (up s))) → (ss : List S) → Quiet (flat_map expr_words (map up ss))
quiet_inner up h [] = quiet_none
quiet_inner up h (s ∷ ss) = quiet_append (expr_words (up s)) (flat_map expr_words (map up ss)) (h s) (quiet_inner up h ss)

layer_quiet : {S : Type 0} (up : S → Expr) → ((s : S) → Quiet (expr_words (up s))) → (y : L.Expr-F S) → Quiet (expr_words (roll-Expr (map-Expr S Expr up y)))
layer_quiet up h (L.Var v) = subst Quiet (words-simple (OfVar v) ∙ ap expr_words (sym (E.rolls-Var v))) (quiet_word (variable v).1 [] quiet_none)
layer_quiet up h (L.Lit v) = subst Quiet (words-simple (OfValue v) ∙ ap expr_words (sym (E.rolls-Lit v))) (quiet_word (simple_word (OfValue v)) [] quiet_none)
layer_quiet up h (L.Call f args) =
    subst Quiet (sym (words-call f (map up args)) ∙ ap expr_words (sym (E.rolls-Call f (map up args))))
    (quiet_enclosed (plain (Name (func_name f)) ∷ flat_map expr_words (map up args)) (quiet_word (Name (func_name f)) (flat_map expr_words (map up args)) (quiet_inner up h args)))

quiet_expr : (e : Expr) → Quiet (expr_words e)
quiet_expr = ind-Expr (λ e. Quiet (expr_words e)) (λ x y e. subst (λ (z : L.Expr-F Expr). Quiet (expr_words (roll-Expr z))) e (layer_quiet (λ s. s.0) (λ s. s.1) y))

quiet_call : (w : List ℕ) (es : List Expr) → Quiet (call_words w es)
quiet_call w es = quiet_enclosed (plain (Name w) ∷ flat_map expr_words es) (quiet_word (Name w) (flat_map expr_words es) (quiet_flat expr_words es quiet_expr))

quiet_agg : (c : AggCall) → Quiet (agg_words c)
quiet_agg C.CountAll = quiet_call (codes "countall") []
quiet_agg (C.Count e) = quiet_call (codes "count") (e ∷ [])
quiet_agg (C.Sum e) = quiet_call (codes "sum") (e ∷ [])
quiet_agg (C.Min e) = quiet_call (codes "min") (e ∷ [])
quiet_agg (C.Max e) = quiet_call (codes "max") (e ∷ [])

quiet_generator : (g : Generator) → Quiet (generator_words g)
quiet_generator (G.Range a b) = quiet_call (codes "range") (a ∷ b ∷ [])
quiet_generator (G.Split a b) = quiet_call (codes "split") (a ∷ b ∷ [])

quiet_assigned : (m : Var × Expr) → Quiet (assigned_words m)
quiet_assigned m = quiet_enclosed (variable m.0 ∷ expr_words m.1) (quiet_word (variable m.0).1 (expr_words m.1) (quiet_expr m.1))

quiet_aggregated : (m : Var × AggCall) → Quiet (aggregated_words m)
quiet_aggregated m = quiet_enclosed (variable m.0 ∷ agg_words m.1) (quiet_word (variable m.0).1 (agg_words m.1) (quiet_agg m.1))

quiet_key : (k : Var × Var) → Quiet (key_words k)
quiet_key k = record { datasets = refl; operators = refl }

quiet_order : (k : OrderKey) → Quiet (order_words k)
quiet_order k = record { datasets = refl; operators = refl }

quiet_column : (c : Column) → Quiet (column_words c)
quiet_column c = record { datasets = refl; operators = refl }

-- ---- plans

record Counted (ms : List Marked) (n : ℕ) : Type 0 where
  pub datasets : count is_dataset ms ≡ 0
  pub operators : count is_operator ms ≡ n

counted_both : (ms ns : List Marked) (m n : ℕ) → Counted ms m → Counted ns n → Counted (ms ++ ns) (m + n)
counted_both ms ns m n a b =
    let d = a.datasets in
    let e = b.datasets in
    let o = a.operators in
    let p = b.operators in
    record { datasets = omega (arith, count_append is_dataset ms ns); operators = omega (arith, count_append is_operator ms ns) }

counted_none : Counted [] 0
counted_none = record { datasets = refl; operators = refl }

-- an operator and what is in it
counted_operator : (w : List ℕ) (args inputs : List Marked) (n : ℕ) → Quiet args → Counted inputs n → Counted (operator w (args ++ inputs)) (suc n)
counted_operator w args inputs n q c =
    let d = q.datasets in
    let o = q.operators in
    let e = c.datasets in
    let p = c.operators in
    let datasets : count is_dataset ((args ++ inputs) ++ plain Close ∷ []) ≡ 0 = omega (arith, count_append is_dataset (args ++ inputs) (plain Close ∷ []), count_append is_dataset args inputs) in
    let operators : count is_operator ((args ++ inputs) ++ plain Close ∷ []) ≡ n = omega (arith, count_append is_operator (args ++ inputs) (plain Close ∷ []), count_append is_operator args inputs) in
    record { datasets = datasets; operators = ap suc operators }

abbrev PlanCounted : Plan → Type 0
PlanCounted p = Counted (plan_words p) (size p)

rolled : (x : P.Plan-F Plan) → Counted (plan_words_step (map-Plan Plan (List Marked) plan_words x)) (size_step (map-Plan Plan ℕ size x)) → PlanCounted (roll-Plan x)
unfolding plan_words size
rolled x c =
    subst (λ (ms : List Marked). Counted ms (size (roll-Plan x))) (sym (fold-roll-Plan (List Marked) plan_words_step x))
    (subst (λ (n : ℕ). Counted (plan_words_step (map-Plan Plan (List Marked) plan_words x)) n) (sym (fold-roll-Plan ℕ size_step x)) c)

layer_counted : {S : Type 0} (up : S → Plan) → ((s : S) → PlanCounted (up s)) → (y : P.Plan-F S) → PlanCounted (roll-Plan (map-Plan S Plan up y))
layer_counted up h (P.Scan set vars) = rolled (P.Scan set vars) (subst (λ (ms : List Marked). Counted (operator (codes "scan") ms) 1) (append-nil (plain (Name set) ∷ variables vars)) (counted_operator (codes "scan") (plain (Name set) ∷ variables vars) [] 0 (quiet_word (Name set) (variables vars) (quiet_variables vars)) counted_none))
layer_counted up h P.Empty = rolled (P.Empty) (counted_operator (codes "empty") [] [] 0 quiet_none counted_none)
layer_counted up h P.Nested = rolled (P.Nested) (counted_operator (codes "nested") [] [] 0 quiet_none counted_none)
layer_counted up h (P.Assign made s) = rolled (P.Assign made (up s)) (counted_operator (codes "assign") (enclosed (flat_map assigned_words made)) (plan_words (up s)) (size (up s)) (quiet_enclosed (flat_map assigned_words made) (quiet_flat assigned_words made quiet_assigned)) (h s))
layer_counted up h (P.Select c s) = rolled (P.Select c (up s)) (counted_operator (codes "select") (expr_words c) (plan_words (up s)) (size (up s)) (quiet_expr c) (h s))
layer_counted up h (P.Project vars s) = rolled (P.Project vars (up s)) (counted_operator (codes "project") (variables vars) (plan_words (up s)) (size (up s)) (quiet_variables vars) (h s))
layer_counted up h (P.Unnest v g s) = rolled (P.Unnest v g (up s)) (counted_operator (codes "unnest") (variable v ∷ generator_words g) (plan_words (up s)) (size (up s)) (quiet_word (variable v).1 (generator_words g) (quiet_generator g)) (h s))
layer_counted up h (P.Distinct s) = rolled (P.Distinct (up s)) (counted_operator (codes "distinct") ([]) (plan_words (up s)) (size (up s)) (quiet_none) (h s))
layer_counted up h (P.Aggregate made s) = rolled (P.Aggregate made (up s)) (counted_operator (codes "aggregate") (enclosed (flat_map aggregated_words made)) (plan_words (up s)) (size (up s)) (quiet_enclosed (flat_map aggregated_words made) (quiet_flat aggregated_words made quiet_aggregated)) (h s))
layer_counted up h (P.Order keys s) = rolled (P.Order keys (up s)) (counted_operator (codes "order") (enclosed (flat_map order_words keys)) (plan_words (up s)) (size (up s)) (quiet_enclosed (flat_map order_words keys) (quiet_flat order_words keys quiet_order)) (h s))
layer_counted up h (P.Limit n k s) = rolled (P.Limit n k (up s)) (counted_operator (codes "limit") (count_word n ∷ count_word k ∷ []) (plan_words (up s)) (size (up s)) (record { datasets = refl; operators = refl }) (h s))
layer_counted up h (P.Check name c s) = rolled (P.Check name c (up s)) (counted_operator (codes "check") (plain (Name name) ∷ expr_words c) (plan_words (up s)) (size (up s)) (quiet_word (Name name) (expr_words c) (quiet_expr c)) (h s))
layer_counted up h (P.Result vars s) = rolled (P.Result vars (up s)) (counted_operator (codes "result") (variables vars) (plan_words (up s)) (size (up s)) (quiet_variables vars) (h s))
layer_counted up h (P.Subplan s r) = rolled (P.Subplan (up s) (up r)) (counted_operator (codes "subplan") ([]) (plan_words (up s) ++ plan_words (up r)) (size (up s) + size (up r)) (quiet_none) (counted_both (plan_words (up s)) (plan_words (up r)) (size (up s)) (size (up r)) (h s) (h r)))
layer_counted up h (P.Join c s r) = rolled (P.Join c (up s) (up r)) (counted_operator (codes "join") (expr_words c) (plan_words (up s) ++ plan_words (up r)) (size (up s) + size (up r)) (quiet_expr c) (counted_both (plan_words (up s)) (plan_words (up r)) (size (up s)) (size (up r)) (h s) (h r)))
layer_counted up h (P.LeftJoin c s r) = rolled (P.LeftJoin c (up s) (up r)) (counted_operator (codes "leftjoin") (expr_words c) (plan_words (up s) ++ plan_words (up r)) (size (up s) + size (up r)) (quiet_expr c) (counted_both (plan_words (up s)) (plan_words (up r)) (size (up s)) (size (up r)) (h s) (h r)))
layer_counted up h (P.Group keys s r) = rolled (P.Group keys (up s) (up r)) (counted_operator (codes "group") (enclosed (flat_map key_words keys)) (plan_words (up s) ++ plan_words (up r)) (size (up s) + size (up r)) (quiet_enclosed (flat_map key_words keys) (quiet_flat key_words keys quiet_key)) (counted_both (plan_words (up s)) (plan_words (up r)) (size (up s)) (size (up r)) (h s) (h r)))
layer_counted up h (P.Union made ls rs s r) =
    let inputs = plan_words (up s) ++ plan_words (up r) in
    let lists = variables made ++ (variables ls ++ variables rs) in
    let q = quiet_append (variables made) (variables ls ++ variables rs) (quiet_variables made) (quiet_append (variables ls) (variables rs) (quiet_variables ls) (quiet_variables rs)) in
    let c = counted_operator (codes "union") lists inputs (size (up s) + size (up r)) q (counted_both (plan_words (up s)) (plan_words (up r)) (size (up s)) (size (up r)) (h s) (h r)) in
    let same : lists ++ inputs ≡ variables made ++ (variables ls ++ (variables rs ++ inputs)) = append_assoc (variables made) (variables ls ++ variables rs) inputs ∙ ap (λ (l : List Marked). variables made ++ l) (append_assoc (variables ls) (variables rs) inputs) in
    rolled (P.Union made ls rs (up s) (up r)) (subst (λ (l : List Marked). Counted (operator (codes "union") l) (suc (size (up s) + size (up r)))) same c)

plan_counted : (p : Plan) → PlanCounted p
plan_counted = ind-Plan PlanCounted (λ x y e. subst (λ (z : P.Plan-F Plan). PlanCounted (roll-Plan z)) e (layer_counted (λ s. s.0) (λ s. s.1) y))

-- ---- files

record Datasets (ms : List Marked) (n : ℕ) : Type 0 where
  pub datasets : count is_dataset ms ≡ n
  pub operators : count is_operator ms ≡ 0

dataset_counted : (d : Decl) → Datasets (dataset_words d) 1
dataset_counted d =
    let columns = flat_map column_words d.columns in
    let q = quiet_append columns (plain Close ∷ []) (quiet_flat column_words d.columns quiet_column) (quiet_word Close [] quiet_none) in
    record { datasets = ap suc q.datasets; operators = q.operators }

datasets_counted : (ds : List Decl) → Datasets (flat_map dataset_words ds) (length ds)
datasets_counted [] = record { datasets = refl; operators = refl }
datasets_counted (d ∷ ds) =
    let a = dataset_counted d in
    let b = datasets_counted ds in
    let c = a.datasets in
    let e = b.datasets in
    let o = a.operators in
    let p = b.operators in
    let rest = flat_map dataset_words ds in
    record { datasets = omega (arith, count_append is_dataset (dataset_words d) rest); operators = omega (arith, count_append is_operator (dataset_words d) rest) }

pub has_places : (bytes : List ℕ) (f : PlanFile) → Reads bytes f → HasPlaces f
has_places bytes f r =
    let sets = flat_map dataset_words f.datasets in
    let d = datasets_counted f.datasets in
    let p = plan_counted f.root in
    let a = d.datasets in
    let b = d.operators in
    let c = p.datasets in
    let e = p.operators in
    let words = file_words f in
    let datasets : count is_dataset words ≡ length f.datasets = omega (arith, count_append is_dataset (sets ++ plan_words f.root) (plain Close ∷ []), count_append is_dataset sets (plan_words f.root)) in
    let operators : count is_operator words ≡ size f.root = omega (arith, count_append is_operator (sets ++ plan_words f.root) (plain Close ∷ []), count_append is_operator sets (plan_words f.root)) in
    record {
      datasets = ap length r.dataset_places ∙ places_count is_dataset words r.tokens r.words ∙ datasets;
      operators = ap length r.places ∙ places_count is_operator words r.tokens r.words ∙ operators;
    }
