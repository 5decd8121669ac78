-- What each rule of the set rewrites: from, condition, to.
use Rattle.std.specs.Prelude.{◌≡◌, ◌≤◌, ◌⊎◌, Bool, true, false, not, ◌&&◌, [], length, Option, Some, None, Result, Ok, Err}
use Rattle.std.specs.List.{list_all, list_any}
use Rattle.al_value.specs.declared.fault.NoMemory.{NoMemory}
use Rattle.al_func.specs.declared.func.Func.{Func}
use Rattle.al_func.specs.declared.func.Func.TheVariants as F
use Rattle.al_plan.specs.declared.expr.Expr.{Expr, out-Expr}
use Rattle.al_plan.specs.declared.expr.Expr.TheOpen.{Expr-F}
use Rattle.al_plan.specs.declared.expr.Expr.TheOpen as L
use Rattle.al_plan.specs.declared.plan.Plan.{Plan}
use Rattle.al_plan.specs.declared.plan.Plan.TheVariants as P
use Rattle.al_plan.specs.Names.{names}
use Rattle.al_plan.specs.Allows.{live, is_among}
use Rattle.al_conj.specs.Conj.{both, conj, is_literal_true, Splits}
use Rattle.al_rule.specs.declared.rule.ApplyFault.{ApplyFault}
use Rattle.al_rule.specs.declared.rule.ApplyFault.TheVariants as A
use Rattle.al_rule.specs.Places.{Rewriting}
use Rattle.al_rule.specs.Rules.{Matches}

-- whether an expression reads live variables of a plan alone
abbrev pub reads_only : Plan → Expr → Bool
reads_only p e = list_all (is_among (live p [])) (names e)

-- whether an expression has a variable
abbrev pub has_variable : Expr → Bool
has_variable e = list_any (λ q. true) (names e)

-- whether an expression is a variable that is live in a plan
abbrev pub variable_step : Plan → Expr-F Expr → Bool
variable_step p (L.Var v) = is_among (live p []) v.name
variable_step p _ = false

unfoldable pub is_variable_of : Plan → Expr → Bool
is_variable_of p e = variable_step p (out-Expr e)

-- whether a function compares its arguments
abbrev pub is_comparison : Func → Bool
is_comparison F.Eq = true
is_comparison F.Lt = true
is_comparison F.Le = true
is_comparison _ = false

-- whether an expression compares a variable that is live in a plan
abbrev pub compares_step : Plan → Expr-F Expr → Bool
compares_step p (L.Call f args) = is_comparison f && list_any (is_variable_of p) args
compares_step p _ = false

unfoldable pub compares : Plan → Expr → Bool
compares p e = compares_step p (out-Expr e)

-- a plan whose root is no join, or no left join
abbrev pub IsNoJoin : Plan → Type 0
IsNoJoin p = (c : Expr) (l r : Plan) → p ≡ P.Join c l r → ⊥

abbrev pub IsNoLeftJoin : Plan → Type 0
IsNoLeftJoin p = (c : Expr) (l r : Plan) → p ≡ P.LeftJoin c l r → ⊥

abbrev pub IsNoSelectOverLeftJoin : Plan → Type 0
IsNoSelectOverLeftJoin p = (e c : Expr) (l r : Plan) → p ≡ P.Select e (P.LeftJoin c l r) → ⊥

-- the plan is none that may be rewritten
abbrev pub IsNot : Rewriting → Plan → Type 0
IsNot R p = Matches R p → ⊥

-- what a plan is rewritten to, or nothing where it is none that may be rewritten
abbrev pub Rewritten : Rewriting → Plan → Option Plan → Type 0
Rewritten R p None = IsNot R p
Rewritten R p (Some q) = R p q

-- what was made of a plan, and the plan itself where nothing was made or memory ran out
abbrev pub outcome : Plan → Result (Option Plan) NoMemory → Result Plan ApplyFault
outcome p (Ok (Some q)) = Ok q
outcome p (Ok None) = Ok p
outcome p (Err e) = Err (A.NoMemory p)

-- a condition over a left join that is not TRUE of rows without a right one makes it a join
abbrev pub left_join_to_join : Rewriting
left_join_to_join p q = (e c : Expr) × (l r : Plan) × (p ≡ P.Select e (P.LeftJoin c l r)) × (compares r e ≡ true) × (q ≡ P.Join (both c e) l r)

-- one of several conjuncts is the literal true
abbrev pub SaysTrue : Expr → Type 0
SaysTrue c = (first : Expr) × (rest : Expr) × (2 ≤ length (conj c)) × Splits is_literal_true c first rest

-- the condition without that conjunct, or nothing where it has none
abbrev pub IsWithoutTrue : Expr → Option Expr → Type 0
IsWithoutTrue c None = SaysTrue c → ⊥
IsWithoutTrue c (Some rest) = (first : Expr) × (2 ≤ length (conj c)) × Splits is_literal_true c first rest

-- it says nothing, so it may go
abbrev pub drop_true : Rewriting
drop_true p q = (c first rest : Expr) × (l r : Plan) × (2 ≤ length (conj c)) × Splits is_literal_true c first rest
    × (((p ≡ P.Join c l r) × (q ≡ P.Join rest l r)) ⊎ ((p ≡ P.LeftJoin c l r) × (q ≡ P.LeftJoin rest l r)))

-- a conjunct other than the literal true that reads one input alone
abbrev pub is_of : Plan → Expr → Bool
is_of p e = not (is_literal_true e) && reads_only p e

-- what a join asks of the left row alone is asked of the left input
abbrev pub join_cond_left : Rewriting
join_cond_left p q = (c first rest : Expr) × (l r : Plan) × (p ≡ P.Join c l r) × Splits (is_of l) c first rest × (q ≡ P.Join rest (P.Select first l) r)

-- and what it asks of the right row alone of the right one
abbrev pub join_cond_right : Rewriting
join_cond_right p q = (c first rest : Expr) × (l r : Plan) × (p ≡ P.Join c l r) × Splits (is_of r) c first rest × (q ≡ P.Join rest l (P.Select first r))

-- a conjunct with a variable that reads one input alone
abbrev pub reads_of : Plan → Expr → Bool
reads_of p e = has_variable e && reads_only p e

-- the same of a left join
abbrev pub left_join_cond_right : Rewriting
left_join_cond_right p q = (c first rest : Expr) × (l r : Plan) × (p ≡ P.LeftJoin c l r) × Splits (reads_of r) c first rest × (q ≡ P.LeftJoin rest l (P.Select first r))
