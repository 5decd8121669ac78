-- The rules of pruning: what each rewrites, under which condition, and to what.
use Rattle.std.specs.Prelude.{◌≡◌, ◌⊎◌, Bool, true, false, not, ◌||◌, List, [], ◌∷◌, ◌++◌, map, filter, if◌then◌else◌}
use Rattle.std.specs.List.{flat_map, list_all}
use Rattle.al_plan.specs.declared.expr.Var.{Var}
use Rattle.al_plan.specs.declared.expr.Expr.{Expr}
use Rattle.al_plan.specs.declared.plan.AggCall.{AggCall}
use Rattle.al_plan.specs.declared.plan.Generator.{Generator}
use Rattle.al_plan.specs.declared.plan.Generator.TheVariants as G
use Rattle.al_plan.specs.declared.plan.OrderKey.{OrderKey}
use Rattle.al_plan.specs.declared.plan.Plan.{Plan}
use Rattle.al_plan.specs.declared.plan.Plan.TheVariants as P
use Rattle.al_plan.specs.Eval.{Bytes}
use Rattle.al_plan.specs.Names.{names, agg_exprs}
use Rattle.al_plan.specs.Uses.{named}
use Rattle.al_plan.specs.Allows.{live, is_among}
use Rattle.al_rule.specs.Places.{Rewriting}
use Rattle.al_rules_prune.specs.Reading.{reads, has_distinct}

-- the variables that an expression reads
abbrev pub read_by : Expr → List Var
read_by e = map named (names e)

-- those that aggregates read
abbrev pub read_by_aggregates : List (Var × AggCall) → List Var
read_by_aggregates made = flat_map (λ m. flat_map read_by (agg_exprs m.1)) made

-- whether a generator reads a variable of this name
abbrev pub reads_items : Generator → Bytes → Bool
reads_items (G.Range a b) q = is_among (read_by a) q || is_among (read_by b) q
reads_items (G.Split t s) q = is_among (read_by t) q || is_among (read_by s) q

-- those that a nested plan uses of its outer rows: all of them where it has a distinct
abbrev pub used_by : Plan → Plan → List Var
used_by n p = if has_distinct n then live p [] else map named (reads n)

-- the live variables of a plan that are among these
abbrev pub kept : List Var → Plan → List Var
kept vars p = filter (λ v. is_among vars v.name) (live p [])

-- the plan cut to them
abbrev pub narrowed : List Var → Plan → Plan
narrowed vars p = P.Project (kept vars p) p

-- whether each of the second variables is among the first
abbrev pub all_among : List Var → List Var → Bool
all_among vars xs = list_all (λ v. is_among vars v.name) xs

-- whether a plan has a live variable that is not among these
abbrev pub wide : List Var → Plan → Bool
wide vars p = not (all_among vars (live p []))

abbrev pub IsWide : List Var → Plan → Type 0
IsWide vars p = wide vars p ≡ true

abbrev pub HaveSame : List Var → List Var → Type 0
HaveSame xs ys = (q : Bytes) → is_among xs q ≡ is_among ys q

-- the made variables that are among these, and nothing where none is
abbrev pub bindings : List Var → List (Var × Expr) → List (Var × Expr)
bindings vars made = filter (λ m. is_among vars m.0.name) made

abbrev pub assigned_over : List (Var × Expr) → Plan → Plan
assigned_over [] p = p
assigned_over (m ∷ made) p = P.Assign (m ∷ made) p

-- a result's input has only what the result lists
abbrev pub ResultProject : Rewriting
ResultProject p q = (vars : List Var) × (x : Plan) × (p ≡ P.Result vars x) × IsWide vars x × (q ≡ P.Result vars (narrowed vars x))

abbrev pub ProjectOverProject : Rewriting
ProjectOverProject p q = (vars : List Var) × (inner : List Var) × (x : Plan) × (p ≡ P.Project vars (P.Project inner x)) × (q ≡ P.Project vars x)

abbrev pub ProjectAll : Rewriting
ProjectAll p q = (vars : List Var) × (x : Plan) × (p ≡ P.Project vars x) × HaveSame vars (live x []) × (q ≡ x)

-- what is made for nobody is not made
abbrev pub AssignUnderProject : Rewriting
AssignUnderProject p q = (vars : List Var) × (made : List (Var × Expr)) × (x : Plan) × (p ≡ P.Project vars (P.Assign made x)) × (all_among vars (map (λ m. m.0) made) ≡ false) × (q ≡ P.Project vars (assigned_over (bindings vars made) x))

abbrev pub ProjectBelowSelect : Rewriting
ProjectBelowSelect p q = (vars : List Var) × (e : Expr) × (x : Plan) × (p ≡ P.Project vars (P.Select e x)) × IsWide (vars ++ read_by e) x × (q ≡ P.Project vars (P.Select e (narrowed (vars ++ read_by e) x)))

abbrev pub ProjectBelowOrder : Rewriting
ProjectBelowOrder p q = (vars : List Var) × (keys : List OrderKey) × (x : Plan) × (p ≡ P.Project vars (P.Order keys x)) × IsWide (vars ++ map (λ k. k.var) keys) x × (q ≡ P.Project vars (P.Order keys (narrowed (vars ++ map (λ k. k.var) keys) x)))

-- a join or a left join
abbrev pub joined : Bool → Expr → Plan → Plan → Plan
joined left c l r = if left then P.LeftJoin c l r else P.Join c l r

-- the left input is cut where it is wide, else the right one
abbrev pub CutsInput : List Var → Plan → Plan → Plan → Plan → Type 0
CutsInput vars l r x y = (IsWide vars l × (x ≡ narrowed vars l) × (y ≡ r)) ⊎ ((wide vars l ≡ false) × IsWide vars r × (x ≡ l) × (y ≡ narrowed vars r))

abbrev pub ProjectBelowJoin : Rewriting
ProjectBelowJoin p q = (vars : List Var) × (left : Bool) × (c : Expr) × (l : Plan) × (r : Plan) × (x : Plan) × (y : Plan) × (p ≡ P.Project vars (joined left c l r)) × CutsInput (vars ++ read_by c) l r x y × (q ≡ P.Project vars (joined left c x y))

abbrev pub GroupProjectInput : Rewriting
GroupProjectInput p q = (keys : List (Var × Var)) × (n : Plan) × (x : Plan) × (p ≡ P.Group keys n x) × IsWide (map (λ k. k.1) keys ++ used_by n x) x × (q ≡ P.Group keys n (narrowed (map (λ k. k.1) keys ++ used_by n x) x))

abbrev pub AggregateProjectInput : Rewriting
AggregateProjectInput p q = (made : List (Var × AggCall)) × (x : Plan) × (p ≡ P.Aggregate made x) × IsWide (read_by_aggregates made) x × (q ≡ P.Aggregate made (narrowed (read_by_aggregates made) x))
