-- What nested plans read, operator by operator.
use Rattle.std.proofs.Common.{◌≡◌, ℕ, Bool, true, false, List, [], ◌∷◌, ◌++◌, map, flat_map, refl, ap, sym, ◌∙◌}
use Rattle.std.specs.Prelude.{◌||◌, nat_eq}
use Rattle.std.specs.Cmp.Lexicographic.{pointwise}
use Rattle.std.specs.List.{list_any}
use Rattle.std.proofs.lemmas.List.{map-append}
use Rattle.al_plan.specs.declared.expr.Var.{Var}
use Rattle.al_plan.specs.declared.expr.Expr.{Expr}
use Rattle.al_plan.specs.declared.plan.AggCall.{AggCall}
use Rattle.al_plan.specs.declared.plan.Generator.{Generator}
use Rattle.al_plan.specs.declared.plan.Generator.TheVariants as G
use Rattle.al_plan.specs.declared.plan.OrderKey.{OrderKey}
use Rattle.al_plan.specs.declared.plan.Plan.{Plan}
use Rattle.al_plan.specs.declared.plan.Plan.TheVariants as P
use Rattle.al_plan.specs.declared.plan.Plan.TheOpen as L
use Rattle.al_plan.specs.Eval.{Bytes}
use Rattle.al_plan.specs.Names.{names, agg_exprs, item_exprs}
use Rattle.al_plan.specs.Uses.{named}
use Rattle.al_plan.specs.Allows.{is_among}
use Rattle.al_plan.proofs.Within.{is_among-append}
use Rattle.al_rules_prune.specs.Reading.{reads, has_distinct}
use Rattle.al_rules_prune.specs.Prunes.{read_by, read_by_aggregates, reads_items}
use Rattle.al_rules_prune.specs.Forget.{reads-roll, distinct-roll}

named_append : (xs ys : List Bytes) (q : Bytes) → is_among (map named (xs ++ ys)) q ≡ (is_among (map named xs) q || is_among (map named ys) q)
named_append xs ys q = ap (λ vs. is_among vs q) (map-append named xs ys) ∙ is_among-append (map named xs) (map named ys) q

vars_read : (vars : List Var) (q : Bytes) → is_among (map named (map (λ v. v.name) vars)) q ≡ is_among vars q
vars_read [] q = refl
vars_read (v ∷ vars) q = ap (λ b. pointwise nat_eq v.name q || b) (vars_read vars q)

keys_read : (keys : List OrderKey) (q : Bytes) → is_among (map named (map (λ k. k.var.name) keys)) q ≡ is_among (map (λ k. k.var) keys) q
keys_read [] q = refl
keys_read (k ∷ keys) q = ap (λ b. pointwise nat_eq k.var.name q || b) (keys_read keys q)

olds_read : (keys : List (Var × Var)) (q : Bytes) → is_among (map named (map (λ k. k.1.name) keys)) q ≡ is_among (map (λ k. k.1) keys) q
olds_read [] q = refl
olds_read (k ∷ keys) q = ap (λ b. pointwise nat_eq k.1.name q || b) (olds_read keys q)

bindings_read : (made : List (Var × Expr)) (q : Bytes) → is_among (map named (flat_map (λ m. names m.1) made)) q ≡ list_any (λ m. is_among (read_by m.1) q) made
bindings_read [] q = refl
bindings_read (m ∷ made) q = named_append (names m.1) (flat_map (λ m. names m.1) made) q ∙ ap (λ b. is_among (read_by m.1) q || b) (bindings_read made q)

exprs_read : (es : List Expr) (q : Bytes) → is_among (map named (flat_map names es)) q ≡ is_among (flat_map read_by es) q
exprs_read [] q = refl
exprs_read (e ∷ es) q = named_append (names e) (flat_map names es) q ∙ ap (λ b. is_among (read_by e) q || b) (exprs_read es q) ∙ sym (is_among-append (read_by e) (flat_map read_by es) q)

aggregates_read : (made : List (Var × AggCall)) (q : Bytes) → is_among (map named (flat_map (λ m. flat_map names (agg_exprs m.1)) made)) q ≡ is_among (read_by_aggregates made) q
aggregates_read [] q = refl
aggregates_read (m ∷ made) q =
    named_append (flat_map names (agg_exprs m.1)) (flat_map (λ m. flat_map names (agg_exprs m.1)) made) q
    ∙ (λ i. exprs_read (agg_exprs m.1) q i || aggregates_read made q i)
    ∙ sym (is_among-append (flat_map read_by (agg_exprs m.1)) (read_by_aggregates made) q)

or_none : (b : Bool) → (b || false) ≡ b
or_none true = refl
or_none false = refl

items_read : (g : Generator) (q : Bytes) → is_among (map named (flat_map names (item_exprs g))) q ≡ reads_items g q
items_read (G.Range a b) q = named_append (names a) (names b ++ []) q ∙ ap (λ t. is_among (read_by a) q || t) (named_append (names b) [] q ∙ or_none (is_among (read_by b) q))
items_read (G.Split a b) q = named_append (names a) (names b ++ []) q ∙ ap (λ t. is_among (read_by a) q || t) (named_append (names b) [] q ∙ or_none (is_among (read_by b) q))

pub reads-Scan : (set : Bytes) (vars : List Var) (q : Bytes) → is_among (map named (reads (P.Scan set vars))) q ≡ (false)
reads-Scan set vars q = ap (λ ns. is_among (map named ns) q) (ap reads (sym (P.rolls-Scan set vars)) ∙ reads-roll (L.Scan set vars))

pub reads-Empty : (q : Bytes) → is_among (map named (reads P.Empty)) q ≡ (false)
reads-Empty q = ap (λ ns. is_among (map named ns) q) (ap reads (sym (P.rolls-Empty)) ∙ reads-roll (L.Empty))

pub reads-Nested : (q : Bytes) → is_among (map named (reads P.Nested)) q ≡ (false)
reads-Nested q = ap (λ ns. is_among (map named ns) q) (ap reads (sym (P.rolls-Nested)) ∙ reads-roll (L.Nested))

pub reads-Assign : (made : List (Var × Expr)) (p : Plan) (q : Bytes) → is_among (map named (reads (P.Assign made p))) q ≡ (is_among (map named (reads p)) q || list_any (λ m. is_among (read_by m.1) q) made)
reads-Assign made p q = ap (λ ns. is_among (map named ns) q) (ap reads (sym (P.rolls-Assign made p)) ∙ reads-roll (L.Assign made p)) ∙ named_append (reads p) (flat_map (λ m. names m.1) made) q ∙ (λ i. is_among (map named (reads p)) q || (bindings_read made q) i)

pub reads-Select : (c : Expr) (p : Plan) (q : Bytes) → is_among (map named (reads (P.Select c p))) q ≡ (is_among (map named (reads p)) q || is_among (read_by c) q)
reads-Select c p q = ap (λ ns. is_among (map named ns) q) (ap reads (sym (P.rolls-Select c p)) ∙ reads-roll (L.Select c p)) ∙ named_append (reads p) (names c) q

pub reads-Project : (vars : List Var) (p : Plan) (q : Bytes) → is_among (map named (reads (P.Project vars p))) q ≡ (is_among (map named (reads p)) q || is_among vars q)
reads-Project vars p q = ap (λ ns. is_among (map named ns) q) (ap reads (sym (P.rolls-Project vars p)) ∙ reads-roll (L.Project vars p)) ∙ named_append (reads p) (map (λ v. v.name) vars) q ∙ (λ i. is_among (map named (reads p)) q || (vars_read vars q) i)

pub reads-Unnest : (v : Var) (g : Generator) (p : Plan) (q : Bytes) → is_among (map named (reads (P.Unnest v g p))) q ≡ (is_among (map named (reads p)) q || reads_items g q)
reads-Unnest v g p q = ap (λ ns. is_among (map named ns) q) (ap reads (sym (P.rolls-Unnest v g p)) ∙ reads-roll (L.Unnest v g p)) ∙ named_append (reads p) (flat_map names (item_exprs g)) q ∙ (λ i. is_among (map named (reads p)) q || (items_read g q) i)

pub reads-Subplan : (n p : Plan) (q : Bytes) → is_among (map named (reads (P.Subplan n p))) q ≡ (is_among (map named (reads p)) q || is_among (map named (reads n)) q)
reads-Subplan n p q = ap (λ ns. is_among (map named ns) q) (ap reads (sym (P.rolls-Subplan n p)) ∙ reads-roll (L.Subplan n p)) ∙ named_append (reads p) (reads n) q

pub reads-Join : (c : Expr) (l r : Plan) (q : Bytes) → is_among (map named (reads (P.Join c l r))) q ≡ (is_among (map named (reads l)) q || (is_among (map named (reads r)) q || is_among (read_by c) q))
reads-Join c l r q = ap (λ ns. is_among (map named ns) q) (ap reads (sym (P.rolls-Join c l r)) ∙ reads-roll (L.Join c l r)) ∙ named_append (reads l) ((reads r) ++ (names c)) q ∙ ap (λ t. is_among (map named (reads l)) q || t) (named_append (reads r) (names c) q)

pub reads-LeftJoin : (c : Expr) (l r : Plan) (q : Bytes) → is_among (map named (reads (P.LeftJoin c l r))) q ≡ (is_among (map named (reads l)) q || (is_among (map named (reads r)) q || is_among (read_by c) q))
reads-LeftJoin c l r q = ap (λ ns. is_among (map named ns) q) (ap reads (sym (P.rolls-LeftJoin c l r)) ∙ reads-roll (L.LeftJoin c l r)) ∙ named_append (reads l) ((reads r) ++ (names c)) q ∙ ap (λ t. is_among (map named (reads l)) q || t) (named_append (reads r) (names c) q)

pub reads-Group : (keys : List (Var × Var)) (n p : Plan) (q : Bytes) → is_among (map named (reads (P.Group keys n p))) q ≡ (is_among (map named (reads p)) q || (is_among (map named (reads n)) q || is_among (map (λ k. k.1) keys) q))
reads-Group keys n p q = ap (λ ns. is_among (map named ns) q) (ap reads (sym (P.rolls-Group keys n p)) ∙ reads-roll (L.Group keys n p)) ∙ named_append (reads p) ((reads n) ++ (map (λ k. k.1.name) keys)) q ∙ ap (λ t. is_among (map named (reads p)) q || t) (named_append (reads n) (map (λ k. k.1.name) keys) q) ∙ (λ i. is_among (map named (reads p)) q || (is_among (map named (reads n)) q || (olds_read keys q) i))

pub reads-Distinct : (p : Plan) (q : Bytes) → is_among (map named (reads (P.Distinct p))) q ≡ (is_among (map named (reads p)) q)
reads-Distinct p q = ap (λ ns. is_among (map named ns) q) (ap reads (sym (P.rolls-Distinct p)) ∙ reads-roll (L.Distinct p))

pub reads-Union : (made ls rs : List Var) (l r : Plan) (q : Bytes) → is_among (map named (reads (P.Union made ls rs l r))) q ≡ (is_among (map named (reads l)) q || (is_among (map named (reads r)) q || (is_among ls q || is_among rs q)))
reads-Union made ls rs l r q = ap (λ ns. is_among (map named ns) q) (ap reads (sym (P.rolls-Union made ls rs l r)) ∙ reads-roll (L.Union made ls rs l r)) ∙ named_append (reads l) ((reads r) ++ ((map (λ v. v.name) ls) ++ (map (λ v. v.name) rs))) q ∙ ap (λ t. is_among (map named (reads l)) q || t) (named_append (reads r) ((map (λ v. v.name) ls) ++ (map (λ v. v.name) rs)) q ∙ ap (λ t. is_among (map named (reads r)) q || t) (named_append (map (λ v. v.name) ls) (map (λ v. v.name) rs) q)) ∙ (λ i. is_among (map named (reads l)) q || (is_among (map named (reads r)) q || ((vars_read ls q) i || (vars_read rs q) i)))

pub reads-Aggregate : (made : List (Var × AggCall)) (p : Plan) (q : Bytes) → is_among (map named (reads (P.Aggregate made p))) q ≡ (is_among (map named (reads p)) q || is_among (read_by_aggregates made) q)
reads-Aggregate made p q = ap (λ ns. is_among (map named ns) q) (ap reads (sym (P.rolls-Aggregate made p)) ∙ reads-roll (L.Aggregate made p)) ∙ named_append (reads p) (flat_map (λ m. flat_map names (agg_exprs m.1)) made) q ∙ (λ i. is_among (map named (reads p)) q || (aggregates_read made q) i)

pub reads-Order : (keys : List OrderKey) (p : Plan) (q : Bytes) → is_among (map named (reads (P.Order keys p))) q ≡ (is_among (map named (reads p)) q || is_among (map (λ k. k.var) keys) q)
reads-Order keys p q = ap (λ ns. is_among (map named ns) q) (ap reads (sym (P.rolls-Order keys p)) ∙ reads-roll (L.Order keys p)) ∙ named_append (reads p) (map (λ k. k.var.name) keys) q ∙ (λ i. is_among (map named (reads p)) q || (keys_read keys q) i)

pub reads-Limit : (n k : ℕ) (p : Plan) (q : Bytes) → is_among (map named (reads (P.Limit n k p))) q ≡ (is_among (map named (reads p)) q)
reads-Limit n k p q = ap (λ ns. is_among (map named ns) q) (ap reads (sym (P.rolls-Limit n k p)) ∙ reads-roll (L.Limit n k p))

pub reads-Check : (name : Bytes) (c : Expr) (p : Plan) (q : Bytes) → is_among (map named (reads (P.Check name c p))) q ≡ (is_among (map named (reads p)) q || is_among (read_by c) q)
reads-Check name c p q = ap (λ ns. is_among (map named ns) q) (ap reads (sym (P.rolls-Check name c p)) ∙ reads-roll (L.Check name c p)) ∙ named_append (reads p) (names c) q

pub reads-Result : (vars : List Var) (p : Plan) (q : Bytes) → is_among (map named (reads (P.Result vars p))) q ≡ (is_among (map named (reads p)) q || is_among vars q)
reads-Result vars p q = ap (λ ns. is_among (map named ns) q) (ap reads (sym (P.rolls-Result vars p)) ∙ reads-roll (L.Result vars p)) ∙ named_append (reads p) (map (λ v. v.name) vars) q ∙ (λ i. is_among (map named (reads p)) q || (vars_read vars q) i)

pub distinct-Scan : (set : Bytes) (vars : List Var) → has_distinct (P.Scan set vars) ≡ (false)
distinct-Scan set vars = ap has_distinct (sym (P.rolls-Scan set vars)) ∙ distinct-roll (L.Scan set vars)

pub distinct-Empty : has_distinct P.Empty ≡ (false)
distinct-Empty = ap has_distinct (sym (P.rolls-Empty)) ∙ distinct-roll (L.Empty)

pub distinct-Nested : has_distinct P.Nested ≡ (false)
distinct-Nested = ap has_distinct (sym (P.rolls-Nested)) ∙ distinct-roll (L.Nested)

pub distinct-Assign : (made : List (Var × Expr)) (p : Plan) → has_distinct (P.Assign made p) ≡ (has_distinct p)
distinct-Assign made p = ap has_distinct (sym (P.rolls-Assign made p)) ∙ distinct-roll (L.Assign made p)

pub distinct-Select : (c : Expr) (p : Plan) → has_distinct (P.Select c p) ≡ (has_distinct p)
distinct-Select c p = ap has_distinct (sym (P.rolls-Select c p)) ∙ distinct-roll (L.Select c p)

pub distinct-Project : (vars : List Var) (p : Plan) → has_distinct (P.Project vars p) ≡ (has_distinct p)
distinct-Project vars p = ap has_distinct (sym (P.rolls-Project vars p)) ∙ distinct-roll (L.Project vars p)

pub distinct-Unnest : (v : Var) (g : Generator) (p : Plan) → has_distinct (P.Unnest v g p) ≡ (has_distinct p)
distinct-Unnest v g p = ap has_distinct (sym (P.rolls-Unnest v g p)) ∙ distinct-roll (L.Unnest v g p)

pub distinct-Subplan : (n p : Plan) → has_distinct (P.Subplan n p) ≡ (has_distinct n || has_distinct p)
distinct-Subplan n p = ap has_distinct (sym (P.rolls-Subplan n p)) ∙ distinct-roll (L.Subplan n p)

pub distinct-Join : (c : Expr) (l r : Plan) → has_distinct (P.Join c l r) ≡ (has_distinct l || has_distinct r)
distinct-Join c l r = ap has_distinct (sym (P.rolls-Join c l r)) ∙ distinct-roll (L.Join c l r)

pub distinct-LeftJoin : (c : Expr) (l r : Plan) → has_distinct (P.LeftJoin c l r) ≡ (has_distinct l || has_distinct r)
distinct-LeftJoin c l r = ap has_distinct (sym (P.rolls-LeftJoin c l r)) ∙ distinct-roll (L.LeftJoin c l r)

pub distinct-Group : (keys : List (Var × Var)) (n p : Plan) → has_distinct (P.Group keys n p) ≡ (has_distinct n || has_distinct p)
distinct-Group keys n p = ap has_distinct (sym (P.rolls-Group keys n p)) ∙ distinct-roll (L.Group keys n p)

pub distinct-Distinct : (p : Plan) → has_distinct (P.Distinct p) ≡ (true)
distinct-Distinct p = ap has_distinct (sym (P.rolls-Distinct p)) ∙ distinct-roll (L.Distinct p)

pub distinct-Union : (made ls rs : List Var) (l r : Plan) → has_distinct (P.Union made ls rs l r) ≡ (has_distinct l || has_distinct r)
distinct-Union made ls rs l r = ap has_distinct (sym (P.rolls-Union made ls rs l r)) ∙ distinct-roll (L.Union made ls rs l r)

pub distinct-Aggregate : (made : List (Var × AggCall)) (p : Plan) → has_distinct (P.Aggregate made p) ≡ (has_distinct p)
distinct-Aggregate made p = ap has_distinct (sym (P.rolls-Aggregate made p)) ∙ distinct-roll (L.Aggregate made p)

pub distinct-Order : (keys : List OrderKey) (p : Plan) → has_distinct (P.Order keys p) ≡ (has_distinct p)
distinct-Order keys p = ap has_distinct (sym (P.rolls-Order keys p)) ∙ distinct-roll (L.Order keys p)

pub distinct-Limit : (n k : ℕ) (p : Plan) → has_distinct (P.Limit n k p) ≡ (has_distinct p)
distinct-Limit n k p = ap has_distinct (sym (P.rolls-Limit n k p)) ∙ distinct-roll (L.Limit n k p)

pub distinct-Check : (name : Bytes) (c : Expr) (p : Plan) → has_distinct (P.Check name c p) ≡ (has_distinct p)
distinct-Check name c p = ap has_distinct (sym (P.rolls-Check name c p)) ∙ distinct-roll (L.Check name c p)

pub distinct-Result : (vars : List Var) (p : Plan) → has_distinct (P.Result vars p) ≡ (has_distinct p)
distinct-Result vars p = ap has_distinct (sym (P.rolls-Result vars p)) ∙ distinct-roll (L.Result vars p)

pub ruleset reading_laws = (reads-Scan, reads-Empty, reads-Nested, reads-Assign, reads-Select, reads-Project, reads-Unnest, reads-Subplan, reads-Join, reads-LeftJoin, reads-Group, reads-Distinct, reads-Union, reads-Aggregate, reads-Order, reads-Limit, reads-Check, reads-Result)

pub ruleset distinct_laws = (distinct-Scan, distinct-Empty, distinct-Nested, distinct-Assign, distinct-Select, distinct-Project, distinct-Unnest, distinct-Subplan, distinct-Join, distinct-LeftJoin, distinct-Group, distinct-Distinct, distinct-Union, distinct-Aggregate, distinct-Order, distinct-Limit, distinct-Check, distinct-Result)
