-- What is made of a select: where a plan isn't of the shape, nothing is asked.
use Rattle.std.specs.Prelude.{◌≡◌, ℕ, Some}
use Rattle.al_plan.specs.declared.expr.Expr.{Expr}
use Rattle.al_plan.specs.declared.plan.Plan.{Plan}
use Rattle.al_plan.specs.declared.plan.Plan.TheVariants as P
use Rattle.al_conj.specs.Conj.{both}
use Rattle.al_rule.specs.Places.{input, with_input}

abbrev pub IsNoSelect : Plan → Type 0
IsNoSelect p = (e : Expr) (x : Plan) → p ≡ P.Select e x → ⊥

-- of a select over an operator with this input, the operator with the select over that input
abbrev pub Lowers : ℕ → Plan → Plan → Type 0
Lowers i p q = (e : Expr) (x y : Plan) → p ≡ P.Select e x → input x i ≡ Some y → q ≡ with_input x i (P.Select e y)

-- a select of these two conjuncts
abbrev pub IsPair : Expr → Expr → Plan → Type 0
IsPair a b p = (x : Plan) × (p ≡ P.Select (both a b) x)

abbrev pub IsNoPair : Plan → Type 0
IsNoPair p = (a b : Expr) → IsPair a b p → ⊥

-- of a select of two conjuncts, two selects
abbrev pub Splits : Plan → Plan → Type 0
Splits p q = (a b : Expr) (x : Plan) → p ≡ P.Select (both a b) x → q ≡ P.Select a (P.Select b x)

-- of a select, its input
abbrev pub Uncovers : Plan → Plan → Type 0
Uncovers p q = (e : Expr) (x : Plan) → p ≡ P.Select e x → q ≡ x

-- the condition of the join under a select, with the select's condition as a conjunct
abbrev pub IsOverNoJoin : Plan → Type 0
IsOverNoJoin p = (e c : Expr) (l r : Plan) → p ≡ P.Select e (P.Join c l r) → ⊥

abbrev pub IsJoinedCondition : Plan → Expr → Type 0
IsJoinedCondition p d = (e c : Expr) (l r : Plan) → p ≡ P.Select e (P.Join c l r) → d ≡ both c e

-- of a select over a join, the join with the select's condition as a conjunct
abbrev pub Joins : Plan → Plan → Type 0
Joins p q = (e c : Expr) (l r : Plan) → p ≡ P.Select e (P.Join c l r) → q ≡ P.Join (both c e) l r
