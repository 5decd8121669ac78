-- A select that goes below an operator, or comes up again.
use Rattle.std.proofs.Common.{◌≡◌, Bool, List, [], sym, None}
use Rattle.al_plan.specs.declared.expr.Var.{Var}
use Rattle.al_plan.specs.declared.expr.Expr.{Expr}
use Rattle.al_plan.specs.declared.plan.Generator.{Generator}
use Rattle.al_plan.specs.declared.plan.OrderKey.{OrderKey}
use Rattle.al_plan.specs.declared.plan.Plan.{Plan}
use Rattle.al_plan.specs.declared.plan.Plan.TheVariants as P
use Rattle.al_plan.specs.Eval.{Env}
use Rattle.al_plan.specs.Allows.{Sets, Allows, live}
use Rattle.al_plan.specs.Refines.{makes, Fit, IsOver, Replaces, result_of}
use Rattle.al_plan.proofs.PlanLaws.{live-Select, makes-Select, result-Assign, result-Select, result-Project, result-Unnest, result-Subplan, result-Join, result-LeftJoin, result-Distinct, result-Order}
use Rattle.al_rule.proofs.Alike.{Alike, alike-refl, alike-sym, alike-trans, alike_select, alike_replaces, alike-Assign, alike-Project, alike-Unnest, alike-Subplan, alike-Join, alike-LeftJoin, alike-Distinct, alike-Order}
use Rattle.al_rule.proofs.FitLaws.{in_Select, out_Select, out_Assign, out_Project, out_Unnest, out_Subplan, out_Join, out_LeftJoin, out_Distinct, out_Order, over_Assign, over_Project, over_Unnest, over_Subplan, over_Join_left, over_Join_right, over_LeftJoin_left, over_Distinct, over_Order}

-- an operator that is no result, over one of its inputs
pub record Operator (over : Plan → Plan) : Type 1 where
  pub root : (p : Plan) → result_of (over p) ≡ None
  pub input : (p : Plan) → Fit (over p) → Fit p
  pub input_root : (p : Plan) → Fit (over p) → result_of p ≡ None
  pub kept : (q p : Plan) → Fit (over p) → Fit q → result_of q ≡ None → live q [] ≡ live p [] → makes q ≡ makes p → Fit (over q)
  pub alike : (q p : Plan) → Alike q p → Alike (over q) (over p)

-- the second plan allows what the first one allows
abbrev pub AllowsMore : Plan → Plan → Type 0
AllowsMore q p = (passing : Bool) (sets : Sets) (rows : List Env) → Allows q passing sets [] [] rows → Allows p passing sets [] [] rows

-- the operator with the select below it fits, and is alike
pub lowered_fits : (over : Plan → Plan) → Operator over → (e : Expr) (p : Plan) → Fit (P.Select e (over p)) → IsOver (live p []) e → Fit (over (P.Select e p))
lowered_fits over o e p fit reads =
    let top = out_Select e (over p) fit in
    let selected = in_Select e p (record { input = o.input p top.input; root = o.input_root p top.input; over = reads }) in
    o.kept (P.Select e p) p top.input selected (result-Select e p) (live-Select e p []) (makes-Select e p)

pub lowered_alike : (over : Plan → Plan) → Operator over → (e : Expr) (p : Plan) → Fit (P.Select e (over p)) → Alike (over (P.Select e p)) (P.Select e (over p))
lowered_alike over o e p fit =
    let root = o.input_root p (out_Select e (over p) fit).input in
    alike-trans (over (P.Select e p)) (over p) (P.Select e (over p)) (o.alike (P.Select e p) p (alike_select e p root)) (alike-sym (P.Select e (over p)) (over p) (alike_select e (over p) (o.root p)))

pub select_goes_below : (over : Plan → Plan) → Operator over → (e : Expr) (p : Plan) → Fit (P.Select e (over p)) → IsOver (live p []) e → AllowsMore (over (P.Select e p)) (P.Select e (over p)) → Replaces (over (P.Select e p)) (P.Select e (over p))
select_goes_below over o e p fit reads more =
    alike_replaces (over (P.Select e p)) (P.Select e (over p)) fit (lowered_fits over o e p fit reads) (lowered_alike over o e p fit) (λ b sets rows fills h. more b sets rows h)

pub select_comes_up : (over : Plan → Plan) → Operator over → (e : Expr) (p : Plan) → Fit (over (P.Select e p)) → IsOver (live (over p) []) e → AllowsMore (P.Select e (over p)) (over (P.Select e p)) → Replaces (P.Select e (over p)) (over (P.Select e p))
select_comes_up over o e p fit reads more =
    let inner = out_Select e p (o.input (P.Select e p) fit) in
    let plain = o.kept p (P.Select e p) fit inner.input inner.root (sym (live-Select e p [])) (sym (makes-Select e p)) in
    let whole = in_Select e (over p) (record { input = plain; root = o.root p; over = reads }) in
    let below = alike-sym (over (P.Select e p)) (over p) (o.alike (P.Select e p) p (alike_select e p inner.root)) in
    let above = alike_select e (over p) (o.root p) in
    alike_replaces (P.Select e (over p)) (over (P.Select e p)) fit whole (alike-trans (P.Select e (over p)) (over p) (over (P.Select e p)) above below) (λ b sets rows fills h. more b sets rows h)

pub operator_Assign : (made : List (Var × Expr)) → Operator (P.Assign made)
operator_Assign made = record { root = result-Assign made; input = λ p f. (out_Assign made p f).input; input_root = λ p f. (out_Assign made p f).root; kept = over_Assign made; alike = alike-Assign made }

pub operator_Project : (vars : List Var) → Operator (P.Project vars)
operator_Project vars = record { root = result-Project vars; input = λ p f. (out_Project vars p f).input; input_root = λ p f. (out_Project vars p f).root; kept = over_Project vars; alike = alike-Project vars }

pub operator_Unnest : (v : Var) (g : Generator) → Operator (P.Unnest v g)
operator_Unnest v g = record { root = result-Unnest v g; input = λ p f. (out_Unnest v g p f).input; input_root = λ p f. (out_Unnest v g p f).root; kept = over_Unnest v g; alike = alike-Unnest v g }

pub operator_Subplan : (n : Plan) → Operator (P.Subplan n)
operator_Subplan n = record { root = result-Subplan n; input = λ p f. (out_Subplan n p f).input; input_root = λ p f. (out_Subplan n p f).root; kept = over_Subplan n; alike = alike-Subplan n }

pub operator_Order : (keys : List OrderKey) → Operator (P.Order keys)
operator_Order keys = record { root = result-Order keys; input = λ p f. (out_Order keys p f).input; input_root = λ p f. (out_Order keys p f).root; kept = over_Order keys; alike = alike-Order keys }

pub operator_Distinct : Operator P.Distinct
operator_Distinct = record { root = result-Distinct; input = λ p f. (out_Distinct p f).input; input_root = λ p f. (out_Distinct p f).root; kept = over_Distinct; alike = alike-Distinct }

pub operator_Join_left : (c : Expr) (r : Plan) → Operator (λ l. P.Join c l r)
operator_Join_left c r = record {
  root = λ l. result-Join c l r;
  input = λ l f. (out_Join c l r f).left;
  input_root = λ l f. (out_Join c l r f).left_root;
  kept = λ q l. over_Join_left c q l r;
  alike = λ q l h. alike-Join c c q l r r h (alike-refl r);
}

pub operator_Join_right : (c : Expr) (l : Plan) → Operator (λ r. P.Join c l r)
operator_Join_right c l = record {
  root = λ r. result-Join c l r;
  input = λ r f. (out_Join c l r f).right;
  input_root = λ r f. (out_Join c l r f).right_root;
  kept = λ q r. over_Join_right c q l r;
  alike = λ q r h. alike-Join c c l l q r (alike-refl l) h;
}

pub operator_LeftJoin_left : (c : Expr) (r : Plan) → Operator (λ l. P.LeftJoin c l r)
operator_LeftJoin_left c r = record {
  root = λ l. result-LeftJoin c l r;
  input = λ l f. (out_LeftJoin c l r f).left;
  input_root = λ l f. (out_LeftJoin c l r f).left_root;
  kept = λ q l. over_LeftJoin_left c q l r;
  alike = λ q l h. alike-LeftJoin c c q l r r h (alike-refl r);
}
