-- What the functions that find a rule's left side tell.
use Rattle.std.proofs.Common.{◌≡◌, ℕ, Bool, true, false, List, refl, ap, sym, subst, ◌∙◌, Option, Some, None}
use Rattle.std.specs.Prelude.{MatchOption, IfOk, is_some, Result, Ok, Err}
use Rattle.al_value.specs.declared.fault.NoMemory.{NoMemory}
use Rattle.al_plan.specs.declared.expr.Var.{Var}
use Rattle.al_plan.specs.declared.plan.Plan.{Plan, out-Plan}
use Rattle.al_plan.specs.declared.plan.Plan.TheOpen as L
use Rattle.al_plan.specs.declared.plan.Plan.TheVariants as P
use Rattle.al_plan.specs.Refines.{Fit, Replaces}
use Rattle.al_rule.specs.declared.rule.ApplyFault.{ApplyFault}
use Rattle.al_rule.specs.Places.{Rewriting, input, with_input}
use Rattle.al_rule.specs.Rules.{Matches, Decides}
use Rattle.al_rule.proofs.PlaceLaws.{Around, around, number, out_around, input_around, with_around, distinct, aggregate, group}
use Rattle.al_rules_group.specs.GroupRules.{has_distinct, DistinctOverDistinct, DistinctOverGroup, DistinctOverAggregate, AggregateOverProject, GroupOverProject}
use Rattle.al_rules_group.specs.Shapes.{IsDistinct, IsGroup, IsAggregate, IsAggregateOf, IsProjectOf, IsGroupOf}
use Rattle.al_rules_group.specs.Outcomes.{IsOther, Rewritten, outcome}

some_same : {X : Type 0} (x y : X) → Some x ≡ Some y → x ≡ y
some_same x y e = cc

-- what is told of an option is told in other words
pub told : {A : Type 0} (o : Option A) (N M : Type 0) (S T : A → Type 0) → (N → M) → ((x : A) → S x → T x) → MatchOption o N S → MatchOption o M T
told None N M S T none some h = none h
told (Some x) N M S T none some h = some x h

-- where it is told when a rule matches, it is decided whether it does
pub decided : {A : Type 0} (R : Rewriting) (p : Plan) (o : Option A) (S : A → Type 0) → ((x : A) → S x → Matches R p) → MatchOption o (IsOther R p) S → (b : Bool) → b ≡ is_some o → Decides b (Matches R p)
decided R p None S some h b e = subst (λ (t : Bool). Decides t (Matches R p)) (sym e) h
decided R p (Some x) S some h b e = subst (λ (t : Bool). Decides t (Matches R p)) (sym e) (some x h)

-- what a rule makes may stand in the plan's place
pub refined : (R : Rewriting) → ((x y : Plan) → Fit x → R x y → Replaces y x) → (p : Plan) (made : Result (Option Plan) NoMemory) → IfOk made (Rewritten R p) → (answer : Result Plan ApplyFault) → answer ≡ outcome p made → Matches R p → Fit p → IfOk answer (λ q. Replaces q p)
refined R sound p (Ok (Some q)) h answer e m fit = subst (λ (a : Result Plan ApplyFault). IfOk a (λ q. Replaces q p)) (sym e) (sound p q fit h)
refined R sound p (Ok None) h answer e m fit = absurd (h m)
refined R sound p (Err x) h answer e m fit = subst (λ (a : Result Plan ApplyFault). IfOk a (λ q. Replaces q p)) (sym e) tt

-- what is put into a copy is put into the plan
pub put_into : (p copy x made q : Plan) (i : ℕ) → copy ≡ p → made ≡ x → ((y : Plan) → input copy i ≡ Some y → q ≡ with_input copy i made) → (y : Plan) → input p i ≡ Some y → q ≡ with_input p i x
put_into p copy x made q i same is h y e = h y (ap (λ z. input z i) same ∙ e) ∙ (λ j. with_input (same j) i (is j))

-- what an operator is over is one plan
same_input : (a b : Around) (x y : Plan) → around a x ≡ around b y → number a ≡ number b → x ≡ y
same_input a b x y e n = some_same x y (sym (input_around a x) ∙ (λ i. input (e i) (number a)) ∙ ap (input (around b y)) n ∙ input_around b y)

-- ---- below a distinct

pub no_distinct_over_distinct : (p : Plan) → ((x : Plan) → p ≡ P.Distinct x → ⊥) → IsOther DistinctOverDistinct p
no_distinct_over_distinct p none (q, (x, at, to)) = none (P.Distinct x) at

pub distinct_over_no_distinct : (p y : Plan) → p ≡ P.Distinct y → (IsDistinct y → ⊥) → IsOther DistinctOverDistinct p
distinct_over_no_distinct p y at none (q, (x, is, to)) = none (x, same_input distinct distinct y (P.Distinct x) (sym at ∙ is) refl)

pub distinct_over_distinct : (p y : Plan) → p ≡ P.Distinct y → IsDistinct y → DistinctOverDistinct p y
distinct_over_distinct p y at (x, is) = (x, at ∙ ap P.Distinct is, is)

pub no_distinct_over_group : (p : Plan) → ((x : Plan) → p ≡ P.Distinct x → ⊥) → IsOther DistinctOverGroup p
no_distinct_over_group p none (q, (keys, n, x, at, to)) = none (P.Group keys n x) at

pub distinct_over_no_group : (p y : Plan) → p ≡ P.Distinct y → (IsGroup y → ⊥) → IsOther DistinctOverGroup p
distinct_over_no_group p y at none (q, (keys, n, x, is, to)) = none (keys, n, x, same_input distinct distinct y (P.Group keys n x) (sym at ∙ is) refl)

pub distinct_over_group : (p y : Plan) → p ≡ P.Distinct y → IsGroup y → DistinctOverGroup p y
distinct_over_group p y at (keys, n, x, is) = (keys, n, x, at ∙ ap P.Distinct is, is)

pub no_distinct_over_aggregate : (p : Plan) → ((x : Plan) → p ≡ P.Distinct x → ⊥) → IsOther DistinctOverAggregate p
no_distinct_over_aggregate p none (q, (made, x, at, to)) = none (P.Aggregate made x) at

pub distinct_over_no_aggregate : (p y : Plan) → p ≡ P.Distinct y → (IsAggregate y → ⊥) → IsOther DistinctOverAggregate p
distinct_over_no_aggregate p y at none (q, (made, x, is, to)) = none (made, x, same_input distinct distinct y (P.Aggregate made x) (sym at ∙ is) refl)

pub distinct_over_aggregate : (p y : Plan) → p ≡ P.Distinct y → IsAggregate y → DistinctOverAggregate p y
distinct_over_aggregate p y at (made, x, is) = (made, x, at ∙ ap P.Distinct is, is)

-- ---- above a project

pub no_aggregate : (p : Plan) → ((x : Plan) → IsAggregateOf p x → ⊥) → IsOther AggregateOverProject p
no_aggregate p none (q, (made, vars, x, at, to)) = none (P.Project vars x) (made, at)

pub aggregate_over_other : (p y : Plan) → IsAggregateOf p y → ((x : Plan) → IsProjectOf y x → ⊥) → IsOther AggregateOverProject p
aggregate_over_other p y (ms, at) none (q, (made, vars, x, is, to)) = none x (vars, same_input (aggregate ms) (aggregate made) y (P.Project vars x) (sym at ∙ is) refl)

pub aggregate_matches : (p y x : Plan) → IsAggregateOf p y → IsProjectOf y x → Matches AggregateOverProject p
aggregate_matches p y x (made, at) (vars, below) = (P.Aggregate made x, (made, vars, x, at ∙ ap (P.Aggregate made) below, refl))

pub aggregate_put : (p y x q : Plan) → IsAggregateOf p y → IsProjectOf y x → ((z : Plan) → input p 0 ≡ Some z → q ≡ with_input p 0 x) → AggregateOverProject p q
aggregate_put p y x q (made, at) (vars, below) to =
    (made, vars, x, at ∙ ap (P.Aggregate made) below, to y (ap (λ z. input z 0) at ∙ input_around (aggregate made) y) ∙ ap (λ z. with_input z 0 x) at ∙ with_around (aggregate made) y x)

-- a group's nested plan and its input are its own
group_parts : (keys ks : List (Var × Var)) (n m x y : Plan) → P.Group keys n x ≡ P.Group ks m y → (n ≡ m) × (x ≡ y)
group_parts keys ks n m x y e = same_group (sym (out_around (group keys n) x) ∙ ap out-Plan e ∙ out_around (group ks m) y)
  where
    same_group : L.Group keys n x ≡ L.Group ks m y → (n ≡ m) × (x ≡ y)
    same_group e = (cc, cc)

not_both : (b : Bool) → b ≡ true → b ≡ false → ⊥
not_both b t e = cc

pub no_group : (p : Plan) → ((n x : Plan) → IsGroupOf p n x → ⊥) → IsOther GroupOverProject p
no_group p none (q, (keys, n, vars, x, at, plain, to)) = none n (P.Project vars x) (keys, at)

pub group_with_distinct : (p n y : Plan) → IsGroupOf p n y → has_distinct n ≡ true → IsOther GroupOverProject p
group_with_distinct p n y (ks, at) has (q, (keys, m, vars, x, is, plain, to)) = not_both (has_distinct n) has (ap has_distinct (group_parts ks keys n m y (P.Project vars x) (sym at ∙ is)).0 ∙ plain)

pub group_over_other : (p n y : Plan) → IsGroupOf p n y → ((x : Plan) → IsProjectOf y x → ⊥) → IsOther GroupOverProject p
group_over_other p n y (ks, at) none (q, (keys, m, vars, x, is, plain, to)) = none x (vars, (group_parts ks keys n m y (P.Project vars x) (sym at ∙ is)).1)

pub group_matches : (p n y x : Plan) → IsGroupOf p n y → has_distinct n ≡ false → IsProjectOf y x → Matches GroupOverProject p
group_matches p n y x (keys, at) plain (vars, below) = (P.Group keys n x, (keys, n, vars, x, at ∙ ap (P.Group keys n) below, plain, refl))

pub group_put : (p n y x q : Plan) → IsGroupOf p n y → has_distinct n ≡ false → IsProjectOf y x → ((z : Plan) → input p 1 ≡ Some z → q ≡ with_input p 1 x) → GroupOverProject p q
group_put p n y x q (keys, at) plain (vars, below) to =
    (keys, n, vars, x, at ∙ ap (P.Group keys n) below, plain, to y (ap (λ z. input z 1) at ∙ input_around (group keys n) y) ∙ ap (λ z. with_input z 1 x) at ∙ with_around (group keys n) y x)
