-- The rules of selects: what each rewrites, under which condition, and to what.
use Rattle.std.specs.Prelude.{◌≡◌, true, List, [], ◌∷◌, map}
use Rattle.al_value.specs.declared.value.Value.TheVariants as V
use Rattle.al_plan.specs.declared.expr.Var.{Var}
use Rattle.al_plan.specs.declared.expr.Expr.{Expr}
use Rattle.al_plan.specs.declared.expr.Expr.TheVariants as E
use Rattle.al_plan.specs.declared.plan.Generator.{Generator}
use Rattle.al_plan.specs.declared.plan.OrderKey.{OrderKey}
use Rattle.al_plan.specs.declared.plan.Plan.{Plan}
use Rattle.al_plan.specs.declared.plan.Plan.TheVariants as P
use Rattle.al_plan.specs.Names.{names}
use Rattle.al_plan.specs.Allows.{live}
use Rattle.al_plan.specs.Refines.{AreAmong}
use Rattle.al_conj.specs.Conj.{both}
use Rattle.al_rule.specs.Places.{Rewriting}
use Rattle.al_rule.specs.Reads.{ReadsNone}

-- a select of two conjuncts becomes two selects
abbrev pub SplitAnd : Rewriting
SplitAnd p q = (a : Expr) × (b : Expr) × (x : Plan) × (p ≡ P.Select (both a b) x) × (q ≡ P.Select a (P.Select b x))

-- a select by `true` goes
abbrev pub SelectTrue : Rewriting
SelectTrue p q = (x : Plan) × (p ≡ P.Select (E.Lit (V.Bool true)) x) × (q ≡ x)

-- a select goes below an operator
abbrev pub SelectBelowAssign : Rewriting
SelectBelowAssign p q = (e : Expr) × (made : List (Var × Expr)) × (x : Plan) × (p ≡ P.Select e (P.Assign made x)) × ReadsNone (map (λ m. m.0) made) e × (q ≡ P.Assign made (P.Select e x))

abbrev pub SelectBelowProject : Rewriting
SelectBelowProject p q = (e : Expr) × (vars : List Var) × (x : Plan) × (p ≡ P.Select e (P.Project vars x)) × (q ≡ P.Project vars (P.Select e x))

abbrev pub SelectBelowUnnest : Rewriting
SelectBelowUnnest p q = (e : Expr) × (v : Var) × (g : Generator) × (x : Plan) × (p ≡ P.Select e (P.Unnest v g x)) × ReadsNone (v ∷ []) e × (q ≡ P.Unnest v g (P.Select e x))

abbrev pub SelectBelowSubplan : Rewriting
SelectBelowSubplan p q = (e : Expr) × (n : Plan) × (x : Plan) × (p ≡ P.Select e (P.Subplan n x)) × ReadsNone (live n []) e × (q ≡ P.Subplan n (P.Select e x))

abbrev pub SelectBelowOrder : Rewriting
SelectBelowOrder p q = (e : Expr) × (keys : List OrderKey) × (x : Plan) × (p ≡ P.Select e (P.Order keys x)) × (q ≡ P.Order keys (P.Select e x))

abbrev pub SelectBelowDistinct : Rewriting
SelectBelowDistinct p q = (e : Expr) × (x : Plan) × (p ≡ P.Select e (P.Distinct x)) × (q ≡ P.Distinct (P.Select e x))

-- a select goes into the input whose variables it reads
abbrev pub SelectBelowJoinLeft : Rewriting
SelectBelowJoinLeft p q = (e : Expr) × (c : Expr) × (l : Plan) × (r : Plan) × (p ≡ P.Select e (P.Join c l r)) × AreAmong (live l []) (names e) × (q ≡ P.Join c (P.Select e l) r)

abbrev pub SelectBelowJoinRight : Rewriting
SelectBelowJoinRight p q = (e : Expr) × (c : Expr) × (l : Plan) × (r : Plan) × (p ≡ P.Select e (P.Join c l r)) × AreAmong (live r []) (names e) × (q ≡ P.Join c l (P.Select e r))

-- a select becomes a conjunct of the join
abbrev pub SelectIntoJoin : Rewriting
SelectIntoJoin p q = (e : Expr) × (c : Expr) × (l : Plan) × (r : Plan) × (p ≡ P.Select e (P.Join c l r)) × (q ≡ P.Join (both c e) l r)

abbrev pub SelectBelowLeftJoin : Rewriting
SelectBelowLeftJoin p q = (e : Expr) × (c : Expr) × (l : Plan) × (r : Plan) × (p ≡ P.Select e (P.LeftJoin c l r)) × AreAmong (live l []) (names e) × (q ≡ P.LeftJoin c (P.Select e l) r)
