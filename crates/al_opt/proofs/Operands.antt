-- Operators that are the same have the same operands.
use Rattle.std.proofs.Common.{◌≡◌, ℕ, Bool, true, false, List, [], ◌∷◌, refl, ap, sym, ◌∙◌}
use Rattle.al_func.specs.declared.func.Func.TheVariants as F
use Rattle.al_plan.specs.declared.expr.Var.{Var}
use Rattle.al_plan.specs.declared.expr.Expr.{Expr, out-Expr}
use Rattle.al_plan.specs.declared.expr.Expr.TheOpen as E
use Rattle.al_plan.specs.declared.plan.OrderKey.{OrderKey}
use Rattle.al_plan.specs.declared.plan.AggCall.{AggCall}
use Rattle.al_plan.specs.declared.plan.Generator.{Generator}
use Rattle.al_plan.specs.declared.plan.Plan.{Plan, out-Plan}
use Rattle.al_plan.specs.declared.plan.Plan.TheOpen as L
use Rattle.al_plan.specs.declared.plan.Plan.TheVariants as P
use Rattle.al_conj.specs.Conj.{both}
use Rattle.al_conj.proofs.Literals.{out-Call}
use Rattle.al_rule.proofs.Operators.{out-Assign, out-Select, out-Project, out-Unnest, out-Subplan, out-Join, out-LeftJoin, out-Group, out-Distinct, out-Aggregate, out-Order, out-Limit, out-Result}
use Rattle.al_rules_prune.specs.Prunes.{joined}

-- ---- the same operands make the same

pub same2 : {A B : Type 0} (f : A → B → Plan) (a c : A) (b d : B) → a ≡ c → b ≡ d → f a b ≡ f c d
same2 f a c b d e h = ap (λ x. f x b) e ∙ ap (f c) h

pub same3 : {A B C : Type 0} (f : A → B → C → Plan) (a x : A) (b y : B) (c z : C) → a ≡ x → b ≡ y → c ≡ z → f a b c ≡ f x y z
same3 f a x b y c z e h k = ap (λ v. f v b c) e ∙ same2 (f x) b y c z h k

pub same4 : {A B C D : Type 0} (f : A → B → C → D → Plan) (a x : A) (b y : B) (c z : C) (d w : D) → a ≡ x → b ≡ y → c ≡ z → d ≡ w → f a b c d ≡ f x y z w
same4 f a x b y c z d w e h k m = ap (λ v. f v b c d) e ∙ same3 (f x) b y c z d w h k m

-- ---- operands

pub both_parts : (a b c d : Expr) → both a b ≡ both c d → (a ≡ c) × (b ≡ d)
both_parts a b c d e = of_layers (sym (out-Call F.And (a ∷ b ∷ [])) ∙ ap out-Expr e ∙ out-Call F.And (c ∷ d ∷ [])) where
  of_layers : E.Call F.And (a ∷ b ∷ []) ≡ E.Call F.And (c ∷ d ∷ []) → (a ≡ c) × (b ≡ d)
  of_layers f = (cc, cc)

pub assign_parts : (a b : List (Var × Expr)) (x y : Plan) → P.Assign a x ≡ P.Assign b y → (a ≡ b) × (x ≡ y)
assign_parts a b x y e = of_layers (sym (out-Assign a x) ∙ ap out-Plan e ∙ out-Assign b y) where
  of_layers : L.Assign a x ≡ L.Assign b y → (a ≡ b) × (x ≡ y)
  of_layers f = (cc, cc)

pub select_parts : (a b : Expr) (x y : Plan) → P.Select a x ≡ P.Select b y → (a ≡ b) × (x ≡ y)
select_parts a b x y e = of_layers (sym (out-Select a x) ∙ ap out-Plan e ∙ out-Select b y) where
  of_layers : L.Select a x ≡ L.Select b y → (a ≡ b) × (x ≡ y)
  of_layers f = (cc, cc)

pub project_parts : (a b : List Var) (x y : Plan) → P.Project a x ≡ P.Project b y → (a ≡ b) × (x ≡ y)
project_parts a b x y e = of_layers (sym (out-Project a x) ∙ ap out-Plan e ∙ out-Project b y) where
  of_layers : L.Project a x ≡ L.Project b y → (a ≡ b) × (x ≡ y)
  of_layers f = (cc, cc)

pub unnest_parts : (a b : Var) (g h : Generator) (x y : Plan) → P.Unnest a g x ≡ P.Unnest b h y → (a ≡ b) × (g ≡ h) × (x ≡ y)
unnest_parts a b g h x y e = of_layers (sym (out-Unnest a g x) ∙ ap out-Plan e ∙ out-Unnest b h y) where
  of_layers : L.Unnest a g x ≡ L.Unnest b h y → (a ≡ b) × (g ≡ h) × (x ≡ y)
  of_layers f = (cc, cc, cc)

pub subplan_parts : (n m x y : Plan) → P.Subplan n x ≡ P.Subplan m y → (n ≡ m) × (x ≡ y)
subplan_parts n m x y e = of_layers (sym (out-Subplan n x) ∙ ap out-Plan e ∙ out-Subplan m y) where
  of_layers : L.Subplan n x ≡ L.Subplan m y → (n ≡ m) × (x ≡ y)
  of_layers f = (cc, cc)

pub join_parts : (c d : Expr) (l m r s : Plan) → P.Join c l r ≡ P.Join d m s → (c ≡ d) × (l ≡ m) × (r ≡ s)
join_parts c d l m r s e = of_layers (sym (out-Join c l r) ∙ ap out-Plan e ∙ out-Join d m s) where
  of_layers : L.Join c l r ≡ L.Join d m s → (c ≡ d) × (l ≡ m) × (r ≡ s)
  of_layers f = (cc, cc, cc)

pub left_join_parts : (c d : Expr) (l m r s : Plan) → P.LeftJoin c l r ≡ P.LeftJoin d m s → (c ≡ d) × (l ≡ m) × (r ≡ s)
left_join_parts c d l m r s e = of_layers (sym (out-LeftJoin c l r) ∙ ap out-Plan e ∙ out-LeftJoin d m s) where
  of_layers : L.LeftJoin c l r ≡ L.LeftJoin d m s → (c ≡ d) × (l ≡ m) × (r ≡ s)
  of_layers f = (cc, cc, cc)

pub join_or_left : (c d : Expr) (l m r s : Plan) → P.Join c l r ≡ P.LeftJoin d m s → ⊥
join_or_left c d l m r s e = of_layers (sym (out-Join c l r) ∙ ap out-Plan e ∙ out-LeftJoin d m s) where
  of_layers : L.Join c l r ≡ L.LeftJoin d m s → ⊥
  of_layers f = cc

pub joined_parts : (a b : Bool) (c d : Expr) (l m r s : Plan) → joined a c l r ≡ joined b d m s → (a ≡ b) × (c ≡ d) × (l ≡ m) × (r ≡ s)
joined_parts true true c d l m r s e = let parts = left_join_parts c d l m r s e in (refl, parts.0, parts.1, parts.2)
joined_parts true false c d l m r s e = absurd (join_or_left d c m l s r (sym e))
joined_parts false true c d l m r s e = absurd (join_or_left c d l m r s e)
joined_parts false false c d l m r s e = let parts = join_parts c d l m r s e in (refl, parts.0, parts.1, parts.2)

pub group_parts : (a b : List (Var × Var)) (n m x y : Plan) → P.Group a n x ≡ P.Group b m y → (a ≡ b) × (n ≡ m) × (x ≡ y)
group_parts a b n m x y e = of_layers (sym (out-Group a n x) ∙ ap out-Plan e ∙ out-Group b m y) where
  of_layers : L.Group a n x ≡ L.Group b m y → (a ≡ b) × (n ≡ m) × (x ≡ y)
  of_layers f = (cc, cc, cc)

pub distinct_parts : (x y : Plan) → P.Distinct x ≡ P.Distinct y → x ≡ y
distinct_parts x y e = of_layers (sym (out-Distinct x) ∙ ap out-Plan e ∙ out-Distinct y) where
  of_layers : L.Distinct x ≡ L.Distinct y → x ≡ y
  of_layers f = cc

pub aggregate_parts : (a b : List (Var × AggCall)) (x y : Plan) → P.Aggregate a x ≡ P.Aggregate b y → (a ≡ b) × (x ≡ y)
aggregate_parts a b x y e = of_layers (sym (out-Aggregate a x) ∙ ap out-Plan e ∙ out-Aggregate b y) where
  of_layers : L.Aggregate a x ≡ L.Aggregate b y → (a ≡ b) × (x ≡ y)
  of_layers f = (cc, cc)

pub order_parts : (a b : List OrderKey) (x y : Plan) → P.Order a x ≡ P.Order b y → (a ≡ b) × (x ≡ y)
order_parts a b x y e = of_layers (sym (out-Order a x) ∙ ap out-Plan e ∙ out-Order b y) where
  of_layers : L.Order a x ≡ L.Order b y → (a ≡ b) × (x ≡ y)
  of_layers f = (cc, cc)

pub limit_parts : (n m k j : ℕ) (x y : Plan) → P.Limit n k x ≡ P.Limit m j y → (n ≡ m) × (k ≡ j) × (x ≡ y)
limit_parts n m k j x y e = of_layers (sym (out-Limit n k x) ∙ ap out-Plan e ∙ out-Limit m j y) where
  of_layers : L.Limit n k x ≡ L.Limit m j y → (n ≡ m) × (k ≡ j) × (x ≡ y)
  of_layers f = (cc, cc, cc)

pub result_parts : (a b : List Var) (x y : Plan) → P.Result a x ≡ P.Result b y → (a ≡ b) × (x ≡ y)
result_parts a b x y e = of_layers (sym (out-Result a x) ∙ ap out-Plan e ∙ out-Result b y) where
  of_layers : L.Result a x ≡ L.Result b y → (a ≡ b) × (x ≡ y)
  of_layers f = (cc, cc)
