-- The rules that drop orders are sound.
use Rattle.std.proofs.Common.{◌≡◌, true, false, List, [], ap, sym, subst, ◌∙◌, Some, None}
use Rattle.al_plan.specs.declared.plan.OrderKey.{OrderKey}
use Rattle.al_plan.specs.declared.plan.Plan.{Plan}
use Rattle.al_plan.specs.declared.plan.Plan.TheVariants as P
use Rattle.al_plan.specs.Refines.{Fit, Replaces, makes, result_of}
use Rattle.al_plan.specs.Allows.{live}
use Rattle.al_plan.proofs.PlanLaws.{live-Order, makes-Order}
use Rattle.al_rule.proofs.Alike.{Alike, alike_replaces}
use Rattle.al_rule.proofs.FitLaws.{out_Order, over_Join_left, over_Join_right, over_LeftJoin_left, over_LeftJoin_right, over_Group, over_Distinct, over_Union_left, over_Union_right, over_Aggregate, over_Order}
use Rattle.al_rule.proofs.PlaceLaws.{Around, around, layer, out_around, split_input, with_split, fit_input, assign, select, project, unnest, subplan, join_left, join_right, left_join_left, left_join_right, group, distinct, union_left, union_right, aggregate, order, limit, check, result}
use Rattle.al_rules_order.specs.OrderRules.{forgets_order, forgets_step, DropOrder, OrderOverOrder}
use Rattle.al_rules_order.specs.NearlyAlike.{below_order, nearly-refl, nearly-Join, nearly-LeftJoin, nearly-Group, nearly-Distinct, nearly-Union, nearly-Aggregate, nearly-Order}
use Rattle.al_rules_order.specs.Dropped.{Less, under_distinct, under_group, under_aggregate, under_join_left, under_join_right, under_left_join_left, under_left_join_right, under_union_left, under_union_right, over_order}

-- ---- an order goes from below an operator that forgets it

-- whether the operator around an input forgets its order
forgets_around : (a : Around) (p : Plan) → forgets_order (around a p) ≡ forgets_step (layer a p)
unfolding forgets_order
forgets_around a p = ap forgets_step (out_around a p)

no : {X : Type 0} → false ≡ true → X
no e = cc

never : {X : Type 1} → false ≡ true → X
never e = cc

-- the operator over the input of the order, where it fits, is like the one over the order, and allows no more
kept : (a : Around) (keys : List OrderKey) (p : Plan) → forgets_step (layer a (P.Order keys p)) ≡ true → Fit (around a (P.Order keys p)) → Fit p → result_of p ≡ None → live p [] ≡ live (P.Order keys p) [] → makes p ≡ makes (P.Order keys p)
    → Fit (around a p) × Less (around a p) (around a (P.Order keys p))
kept (assign made) keys p t f g root vars made_vars = no t
kept (select c) keys p t f g root vars made_vars = no t
kept (project vs) keys p t f g root vars made_vars = no t
kept (unnest v its) keys p t f g root vars made_vars = no t
kept (subplan n) keys p t f g root vars made_vars = no t
kept (join_left c r) keys p t f g root vars made_vars = (over_Join_left c p (P.Order keys p) r f g root vars made_vars, under_join_left c r keys p)
kept (join_right c l) keys p t f g root vars made_vars = (over_Join_right c p l (P.Order keys p) f g root vars made_vars, under_join_right c l keys p)
kept (left_join_left c r) keys p t f g root vars made_vars = (over_LeftJoin_left c p (P.Order keys p) r f g root vars made_vars, under_left_join_left c r keys p)
kept (left_join_right c l) keys p t f g root vars made_vars = (over_LeftJoin_right c p l (P.Order keys p) f g root vars made_vars, under_left_join_right c l keys p)
kept (group ks n) keys p t f g root vars made_vars = (over_Group ks n p (P.Order keys p) f g root vars made_vars, under_group ks n keys p)
kept distinct keys p t f g root vars made_vars = (over_Distinct p (P.Order keys p) f g root vars made_vars, under_distinct keys p)
kept (union_left made ls rs r) keys p t f g root vars made_vars = (over_Union_left made ls rs p (P.Order keys p) r f g root vars made_vars, under_union_left made ls rs r keys p)
kept (union_right made ls rs l) keys p t f g root vars made_vars = (over_Union_right made ls rs p l (P.Order keys p) f g root vars made_vars, under_union_right made ls rs l keys p)
kept (aggregate made) keys p t f g root vars made_vars = (over_Aggregate made p (P.Order keys p) f g root vars made_vars, under_aggregate made keys p)
kept (order ks) keys p t f g root vars made_vars = no t
kept (limit n k) keys p t f g root vars made_vars = no t
kept (check name c) keys p t f g root vars made_vars = no t
kept (result vs) keys p t f g root vars made_vars = no t

alike : (a : Around) (keys : List OrderKey) (p : Plan) → forgets_step (layer a (P.Order keys p)) ≡ true → Alike (around a p) (around a (P.Order keys p))
alike (assign made) keys p t = never t
alike (select c) keys p t = never t
alike (project vs) keys p t = never t
alike (unnest v its) keys p t = never t
alike (subplan n) keys p t = never t
alike (join_left c r) keys p t = nearly-Join c p (P.Order keys p) r r (below_order keys p) (nearly-refl r)
alike (join_right c l) keys p t = nearly-Join c l l p (P.Order keys p) (nearly-refl l) (below_order keys p)
alike (left_join_left c r) keys p t = nearly-LeftJoin c p (P.Order keys p) r r (below_order keys p) (nearly-refl r)
alike (left_join_right c l) keys p t = nearly-LeftJoin c l l p (P.Order keys p) (nearly-refl l) (below_order keys p)
alike (group ks n) keys p t = nearly-Group ks n p (P.Order keys p) (below_order keys p)
alike distinct keys p t = nearly-Distinct p (P.Order keys p) (below_order keys p)
alike (union_left made ls rs r) keys p t = nearly-Union made ls rs p (P.Order keys p) r r (below_order keys p) (nearly-refl r)
alike (union_right made ls rs l) keys p t = nearly-Union made ls rs l l p (P.Order keys p) (nearly-refl l) (below_order keys p)
alike (aggregate made) keys p t = nearly-Aggregate made p (P.Order keys p) (below_order keys p)
alike (order ks) keys p t = never t
alike (limit n k) keys p t = never t
alike (check name c) keys p t = never t
alike (result vs) keys p t = never t

dropped : (a : Around) (keys : List OrderKey) (p : Plan) → forgets_step (layer a (P.Order keys p)) ≡ true → Fit (around a (P.Order keys p)) → Replaces (around a p) (around a (P.Order keys p))
dropped a keys p t fit =
    let inner = out_Order keys p (fit_input a (P.Order keys p) fit) in
    let h = kept a keys p t fit inner.input inner.root (sym (live-Order keys p [])) (sym (makes-Order keys p)) in
    alike_replaces (around a p) (around a (P.Order keys p)) fit h.0 (alike a keys p t) (λ b sets rows fills k. h.1 b sets rows k)

pub drop_order : (p q : Plan) → Fit p → DropOrder p q → Replaces q p
drop_order p q fit (i, x, forgets, ((y, there, (keys, is_order)), first), to) =
    let (a, is, n) = split_input p i (P.Order keys x) (there ∙ ap Some is_order) in
    let t : forgets_step (layer a (P.Order keys x)) ≡ true = sym (forgets_around a (P.Order keys x)) ∙ ap forgets_order (sym is) ∙ forgets in
    let whole : Replaces (around a x) (around a (P.Order keys x)) = dropped a keys x t (subst Fit is fit) in
    subst (λ (z : Plan). Replaces z p) (sym (to ∙ with_split a p (P.Order keys x) x i is n)) (subst (Replaces (around a x)) (sym is) whole)

-- ---- an order goes from below an order

forgotten : (keys inner : List OrderKey) (p : Plan) → Fit (P.Order keys (P.Order inner p)) → Replaces (P.Order keys p) (P.Order keys (P.Order inner p))
forgotten keys inner p fit =
    let below = out_Order inner p (out_Order keys (P.Order inner p) fit).input in
    let whole = over_Order keys p (P.Order inner p) fit below.input below.root (sym (live-Order inner p [])) (sym (makes-Order inner p)) in
    alike_replaces (P.Order keys p) (P.Order keys (P.Order inner p)) fit whole (nearly-Order keys p (P.Order inner p) (below_order inner p)) (λ b sets rows fills k. over_order keys inner p b sets rows k)

pub order_over_order : (p q : Plan) → Fit p → OrderOverOrder p q → Replaces q p
order_over_order p q fit (keys, inner, x, at, to) =
    subst (λ (z : Plan). Replaces z p) (sym to) (subst (Replaces (P.Order keys x)) (sym at) (forgotten keys inner x (subst Fit at fit)))
