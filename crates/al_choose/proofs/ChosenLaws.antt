-- What is chosen for each operator.
use Rattle.std.proofs.Common.{◌≡◌, ℕ, true, false, List, refl, ap, sym, ◌∙◌}
use Rattle.al_plan.specs.declared.expr.Var.{Var}
use Rattle.al_plan.specs.declared.expr.Expr.{Expr}
use Rattle.al_plan.specs.declared.plan.OrderKey.{OrderKey}
use Rattle.al_plan.specs.declared.plan.AggCall.{AggCall}
use Rattle.al_plan.specs.declared.plan.Generator.{Generator}
use Rattle.al_plan.specs.declared.plan.Plan.{Plan, map-Plan, roll-Plan, rec-roll-Plan}
use Rattle.al_plan.specs.declared.plan.Plan.TheVariants as P
use Rattle.al_plan.specs.declared.plan.Plan.TheOpen as L
use Rattle.al_plan.specs.Eval.{Bytes}
use Rattle.al_phys.specs.declared.property.Need.TheVariants as N
use Rattle.al_phys.specs.declared.phys.Phys.{Phys}
use Rattle.al_phys.specs.declared.phys.Phys.TheVariants as Q
use Rattle.al_phys.specs.Operators.{phys_live}
use Rattle.al_phys.specs.Properties.{old_of}
use Rattle.al_choose.specs.Chosen.{Choice, choice_of, choose_by, choose_step, chosen, served, join_over, group_over, merge_over, limit_over}

natural : (n : ℕ) (X : Type 0) (up : X → Plan) (fn : Plan → Choice) (x : L.Plan-F X) → choose_step n X up (λ p. fn (up p)) x ≡ choose_step n Plan (λ p. p) fn (map-Plan X Plan up x)
natural n X up fn (L.Scan set vars) = refl
natural n X up fn L.Empty = refl
natural n X up fn L.Nested = refl
natural n X up fn (L.Assign made p) = refl
natural n X up fn (L.Select c p) = refl
natural n X up fn (L.Project vars p) = refl
natural n X up fn (L.Unnest v its p) = refl
natural n X up fn (L.Subplan inner p) = refl
natural n X up fn (L.Join c l r) = refl
natural n X up fn (L.LeftJoin c l r) = refl
natural n X up fn (L.Group keys inner p) = refl
natural n X up fn (L.Distinct p) = refl
natural n X up fn (L.Union made ls rs l r) = refl
natural n X up fn (L.Aggregate made p) = refl
natural n X up fn (L.Order keys p) = refl
natural n X up fn (L.Limit m k p) = refl
natural n X up fn (L.Check own c p) = refl
natural n X up fn (L.Result vars p) = refl

-- what is chosen for a layer over its inputs
abbrev pub ChosenLayer : ℕ → L.Plan-F Plan → Phys
ChosenLayer n x = choose_by n Plan (λ q. q) (choice_of n) x

pub chosen-roll : (n : ℕ) (x : L.Plan-F Plan) → chosen n (roll-Plan x) ≡ ChosenLayer n x
unfolding choice_of
chosen-roll n x = ap (λ (c : Choice). c.phys) (rec-roll-Plan Choice (choose_step n) (natural n) x)

pub chosen-Scan : (n : ℕ) (set : Bytes) (vars : List Var) → chosen n (P.Scan set vars) ≡ Q.Scan set vars
chosen-Scan n set vars = ap (chosen n) (sym (P.rolls-Scan set vars)) ∙ chosen-roll n (L.Scan set vars)

pub chosen-Empty : (n : ℕ) → chosen n P.Empty ≡ Q.One
chosen-Empty n = ap (chosen n) (sym (P.rolls-Empty)) ∙ chosen-roll n L.Empty

pub chosen-Nested : (n : ℕ) → chosen n P.Nested ≡ Q.One
chosen-Nested n = ap (chosen n) (sym (P.rolls-Nested)) ∙ chosen-roll n L.Nested

pub chosen-Assign : (n : ℕ) (made : List (Var × Expr)) (p : Plan) → chosen n (P.Assign made p) ≡ Q.Assign made (served n N.Any (chosen n p))
chosen-Assign n made p = ap (chosen n) (sym (P.rolls-Assign made p)) ∙ chosen-roll n (L.Assign made p)

pub chosen-Select : (n : ℕ) (c : Expr) (p : Plan) → chosen n (P.Select c p) ≡ Q.Select c (served n N.Any (chosen n p))
chosen-Select n c p = ap (chosen n) (sym (P.rolls-Select c p)) ∙ chosen-roll n (L.Select c p)

pub chosen-Project : (n : ℕ) (vars : List Var) (p : Plan) → chosen n (P.Project vars p) ≡ Q.Project vars (served n N.Any (chosen n p))
chosen-Project n vars p = ap (chosen n) (sym (P.rolls-Project vars p)) ∙ chosen-roll n (L.Project vars p)

pub chosen-Unnest : (n : ℕ) (v : Var) (its : Generator) (p : Plan) → chosen n (P.Unnest v its p) ≡ Q.Unnest v its (served n N.Any (chosen n p))
chosen-Unnest n v its p = ap (chosen n) (sym (P.rolls-Unnest v its p)) ∙ chosen-roll n (L.Unnest v its p)

pub chosen-Subplan : (n : ℕ) (inner p : Plan) → chosen n (P.Subplan inner p) ≡ Q.Subplan inner (served n N.Any (chosen n p))
chosen-Subplan n inner p = ap (chosen n) (sym (P.rolls-Subplan inner p)) ∙ chosen-roll n (L.Subplan inner p)

pub chosen-Join : (n : ℕ) (c : Expr) (l r : Plan) → chosen n (P.Join c l r) ≡ join_over n false c (chosen n l) (chosen n r)
chosen-Join n c l r = ap (chosen n) (sym (P.rolls-Join c l r)) ∙ chosen-roll n (L.Join c l r)

pub chosen-LeftJoin : (n : ℕ) (c : Expr) (l r : Plan) → chosen n (P.LeftJoin c l r) ≡ join_over n true c (chosen n l) (chosen n r)
chosen-LeftJoin n c l r = ap (chosen n) (sym (P.rolls-LeftJoin c l r)) ∙ chosen-roll n (L.LeftJoin c l r)

pub chosen-Group : (n : ℕ) (keys : List (Var × Var)) (inner p : Plan) → chosen n (P.Group keys inner p) ≡ group_over keys inner (served n (N.Keyed (old_of keys)) (chosen n p))
chosen-Group n keys inner p = ap (chosen n) (sym (P.rolls-Group keys inner p)) ∙ chosen-roll n (L.Group keys inner p)

pub chosen-Distinct : (n : ℕ) (p : Plan) → chosen n (P.Distinct p) ≡ Q.HashDistinct (served n (N.Keyed (phys_live (chosen n p))) (chosen n p))
chosen-Distinct n p = ap (chosen n) (sym (P.rolls-Distinct p)) ∙ chosen-roll n (L.Distinct p)

pub chosen-Union : (n : ℕ) (made : List Var) (ls : List Var) (rs : List Var) (l r : Plan) → chosen n (P.Union made ls rs l r) ≡ Q.Union made ls rs (served n N.Any (chosen n l)) (served n N.Any (chosen n r))
chosen-Union n made ls rs l r = ap (chosen n) (sym (P.rolls-Union made ls rs l r)) ∙ chosen-roll n (L.Union made ls rs l r)

pub chosen-Aggregate : (n : ℕ) (made : List (Var × AggCall)) (p : Plan) → chosen n (P.Aggregate made p) ≡ Q.AggFinal made (served n N.One (Q.AggPart made (served n N.Any (chosen n p))))
chosen-Aggregate n made p = ap (chosen n) (sym (P.rolls-Aggregate made p)) ∙ chosen-roll n (L.Aggregate made p)

pub chosen-Order : (n : ℕ) (keys : List OrderKey) (p : Plan) → chosen n (P.Order keys p) ≡ merge_over n keys (Q.Sort keys (served n N.Any (chosen n p)))
chosen-Order n keys p = ap (chosen n) (sym (P.rolls-Order keys p)) ∙ chosen-roll n (L.Order keys p)

pub chosen-Limit : (n : ℕ) (m : ℕ) (k : ℕ) (p : Plan) → chosen n (P.Limit m k p) ≡ limit_over n m k (chosen n p)
chosen-Limit n m k p = ap (chosen n) (sym (P.rolls-Limit m k p)) ∙ chosen-roll n (L.Limit m k p)

pub chosen-Check : (n : ℕ) (own : Bytes) (c : Expr) (p : Plan) → chosen n (P.Check own c p) ≡ Q.Check own c (served n N.Any (chosen n p))
chosen-Check n own c p = ap (chosen n) (sym (P.rolls-Check own c p)) ∙ chosen-roll n (L.Check own c p)

pub chosen-Result : (n : ℕ) (vars : List Var) (p : Plan) → chosen n (P.Result vars p) ≡ Q.Result vars (served n N.One (chosen n p))
chosen-Result n vars p = ap (chosen n) (sym (P.rolls-Result vars p)) ∙ chosen-roll n (L.Result vars p)
