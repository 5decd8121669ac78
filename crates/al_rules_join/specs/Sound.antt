-- What each rule makes may stand in the place of what it was made of.
use Rattle.std.proofs.Common.{◌≡◌, inl, inr, Bool, true, false, not, ◌&&◌, List, [], ◌++◌, ap, sym, subst, ◌∙◌, None}
use Rattle.al_plan.proofs.Bools.{no}
use Rattle.al_plan.specs.declared.expr.Var.{Var}
use Rattle.al_plan.specs.declared.expr.Expr.{Expr}
use Rattle.al_plan.specs.declared.plan.Plan.{Plan}
use Rattle.al_plan.specs.declared.plan.Plan.TheVariants as P
use Rattle.al_plan.specs.Eval.{Env, holds}
use Rattle.al_plan.specs.Names.{names}
use Rattle.al_plan.specs.Allows.{live, beside}
use Rattle.al_plan.specs.Refines.{Fit, IsOver, AreAmong, Replaces, result_of}
use Rattle.al_plan.proofs.Lives.{live_apart, turned}
use Rattle.al_plan.proofs.PlanLaws.{live-Select, makes-Select, result-Select, live-Join, ordered-Join, scans-Join, makes-Join, result-Join, faults-Join, live-LeftJoin, ordered-LeftJoin, scans-LeftJoin, makes-LeftJoin, result-LeftJoin, faults-LeftJoin}
use Rattle.al_conj.specs.Conj.{both, is_literal_true, Splits}
use Rattle.al_conj.proofs.ConjLaws.{holds-both, over_both}
use Rattle.al_conj.proofs.Literals.{holds-literal}
use Rattle.al_conj.proofs.OverLaws.{splits_over, splits_holds}
use Rattle.al_rule.specs.Laws.{OfPairs}
use Rattle.al_rule.specs.Pairs.{SplitsLeft, SplitsRight}
use Rattle.al_rule.proofs.Alike.{Alike, alike-refl, alike-sym, alike-trans, alike_select, alike_replaces, alike-Join, alike-LeftJoin}
use Rattle.al_rule.proofs.FitLaws.{in_Select, out_Select, in_Join, out_Join, in_LeftJoin, out_LeftJoin, over_Join_left, over_Join_right, over_LeftJoin_right}
use Rattle.al_rule.proofs.JoinLaws.{pairs_decide}
use Rattle.al_rule.proofs.RuleFit.{holds-beside}
use Rattle.al_rules_join.specs.JoinRules.{reads_only, has_variable, is_of, reads_of, compares, left_join_to_join, join_cond_left, join_cond_right, left_join_cond_right, drop_true}
use Rattle.al_rules_join.specs.NullLaws.{compares_fails}
use Rattle.al_rules_join.specs.PairLaws.{among_all, holds-beside_right, left_join_out}

and_right : (a b : Bool) → (a && b) ≡ true → b ≡ true
and_right true b h = h
and_right false b h = absurd (no (sym h))

reads_by : (p : Plan) (e : Expr) (b : Bool) → (b && reads_only p e) ≡ true → AreAmong (live p []) (names e)
reads_by p e b h = among_all (live p []) (names e) (and_right b (reads_only p e) h)

fit_rest : (c d : Expr) (l r : Plan) → Fit (P.Join c l r) → IsOver (live l [] ++ live r []) d → Fit (P.Join d l r)
fit_rest c d l r fit over =
    let h = out_Join c l r fit in
    in_Join d l r (record { left = h.left; left_root = h.left_root; right = h.right; right_root = h.right_root; over = over; thin = h.thin; once = h.once })

fit_left_rest : (c d : Expr) (l r : Plan) → Fit (P.LeftJoin c l r) → IsOver (live l [] ++ live r []) d → Fit (P.LeftJoin d l r)
fit_left_rest c d l r fit over =
    let h = out_LeftJoin c l r fit in
    in_LeftJoin d l r (record { left = h.left; left_root = h.left_root; right = h.right; right_root = h.right_root; over = over; thin = h.thin; once = h.once })

-- a select of what reads the input alone
fit_selected : (e : Expr) (p : Plan) (vars : List Var) → Fit p → result_of p ≡ None → AreAmong (live p []) (names e) → IsOver vars e → Fit (P.Select e p)
fit_selected e p vars fit root reads over = in_Select e p (record { input = fit; root = root; over = record { reads = reads; arities = over.arities } })

cond_left : (c first rest : Expr) (l r : Plan) → Splits (is_of l) c first rest → Fit (P.Join c l r) → Replaces (P.Join rest (P.Select first l) r) (P.Join c l r)
cond_left c first rest l r splits fit =
    let h = out_Join c l r fit in
    let over = splits_over (live l [] ++ live r []) (is_of l) c first rest splits h.over in
    let reads = reads_by l first (not (is_literal_true first)) splits.2.has_it in
    let selected = fit_selected first l (live l [] ++ live r []) h.left h.left_root reads over.0 in
    let whole = over_Join_left rest (P.Select first l) l r (fit_rest c rest l r fit over.1) selected (result-Select first l) (live-Select first l []) (makes-Select first l) in
    let like = alike-Join rest c (P.Select first l) l r r (alike_select first l h.left_root) (alike-refl r) in
    let parts : OfPairs l r (SplitsLeft (live l []) c first rest) = λ a b w v. splits_holds (is_of l) c first rest splits (beside (live l []) a b) ∙ ap (λ t. t && holds rest (beside (live l []) a b)) (holds-beside first (live l []) a b reads) in
    alike_replaces (P.Join rest (P.Select first l) r) (P.Join c l r) fit whole like (λ b sets rows fills k. (pairs_decide.join_left c first rest l r parts b sets rows).1 k)

cond_right : (c first rest : Expr) (l r : Plan) → Splits (is_of r) c first rest → Fit (P.Join c l r) → Replaces (P.Join rest l (P.Select first r)) (P.Join c l r)
cond_right c first rest l r splits fit =
    let h = out_Join c l r fit in
    let over = splits_over (live l [] ++ live r []) (is_of r) c first rest splits h.over in
    let reads = reads_by r first (not (is_literal_true first)) splits.2.has_it in
    let selected = fit_selected first r (live l [] ++ live r []) h.right h.right_root reads over.0 in
    let whole = over_Join_right rest (P.Select first r) l r (fit_rest c rest l r fit over.1) selected (result-Select first r) (live-Select first r []) (makes-Select first r) in
    let like = alike-Join rest c l l (P.Select first r) r (alike-refl l) (alike_select first r h.right_root) in
    let apart = turned (live l []) (live r []) (live_apart l r h.left h.right h.once) in
    let parts : OfPairs l r (SplitsRight (live l []) c first rest) = λ a b w v. splits_holds (is_of r) c first rest splits (beside (live l []) a b) ∙ ap (λ t. t && holds rest (beside (live l []) a b)) (holds-beside_right first (live l []) (live r []) a b apart reads) in
    alike_replaces (P.Join rest l (P.Select first r)) (P.Join c l r) fit whole like (λ b sets rows fills k. (pairs_decide.join_right c first rest l r parts b sets rows).1 k)

left_cond_right : (c first rest : Expr) (l r : Plan) → Splits (reads_of r) c first rest → Fit (P.LeftJoin c l r) → Replaces (P.LeftJoin rest l (P.Select first r)) (P.LeftJoin c l r)
left_cond_right c first rest l r splits fit =
    let h = out_LeftJoin c l r fit in
    let over = splits_over (live l [] ++ live r []) (reads_of r) c first rest splits h.over in
    let reads = reads_by r first (has_variable first) splits.2.has_it in
    let selected = fit_selected first r (live l [] ++ live r []) h.right h.right_root reads over.0 in
    let whole = over_LeftJoin_right rest (P.Select first r) l r (fit_left_rest c rest l r fit over.1) selected (result-Select first r) (live-Select first r []) (makes-Select first r) in
    let like = alike-LeftJoin rest c l l (P.Select first r) r (alike-refl l) (alike_select first r h.right_root) in
    let apart = turned (live l []) (live r []) (live_apart l r h.left h.right h.once) in
    let parts : OfPairs l r (SplitsRight (live l []) c first rest) = λ a b w v. splits_holds (reads_of r) c first rest splits (beside (live l []) a b) ∙ ap (λ t. t && holds rest (beside (live l []) a b)) (holds-beside_right first (live l []) (live r []) a b apart reads) in
    alike_replaces (P.LeftJoin rest l (P.Select first r)) (P.LeftJoin c l r) fit whole like (λ b sets rows fills k. (pairs_decide.left_join_right c first rest l r parts b sets rows).1 k)

without_true : (c first rest : Expr) → Splits is_literal_true c first rest → (r : Env) → holds c r ≡ holds rest r
without_true c first rest splits r = splits_holds is_literal_true c first rest splits r ∙ ap (λ t. t && holds rest r) (holds-literal first splits.2.has_it r)

true_of_join : (c first rest : Expr) (l r : Plan) → Splits is_literal_true c first rest → Fit (P.Join c l r) → Replaces (P.Join rest l r) (P.Join c l r)
true_of_join c first rest l r splits fit =
    let over = splits_over (live l [] ++ live r []) is_literal_true c first rest splits (out_Join c l r fit).over in
    alike_replaces (P.Join rest l r) (P.Join c l r) fit (fit_rest c rest l r fit over.1) (alike-Join rest c l l r r (alike-refl l) (alike-refl r))
    (λ b sets rows fills k. (pairs_decide.joins c rest l r (λ a z w v. without_true c first rest splits (beside (live l []) a z)) b sets rows).1 k)

true_of_left_join : (c first rest : Expr) (l r : Plan) → Splits is_literal_true c first rest → Fit (P.LeftJoin c l r) → Replaces (P.LeftJoin rest l r) (P.LeftJoin c l r)
true_of_left_join c first rest l r splits fit =
    let over = splits_over (live l [] ++ live r []) is_literal_true c first rest splits (out_LeftJoin c l r fit).over in
    alike_replaces (P.LeftJoin rest l r) (P.LeftJoin c l r) fit (fit_left_rest c rest l r fit over.1) (alike-LeftJoin rest c l l r r (alike-refl l) (alike-refl r))
    (λ b sets rows fills k. (pairs_decide.left_joins c rest l r (λ a z w v. without_true c first rest splits (beside (live l []) a z)) b sets rows).1 k)

-- a join is like the left join over the same inputs
alike_joins : (d c : Expr) (l r : Plan) → Alike (P.Join d l r) (P.LeftJoin c l r)
alike_joins d c l r = record {
  vars = live-Join d l r [] ∙ sym (live-LeftJoin c l r []);
  order = ordered-Join d l r ∙ sym (ordered-LeftJoin c l r);
  scanned = scans-Join d l r ∙ sym (scans-LeftJoin c l r);
  made = makes-Join d l r ∙ sym (makes-LeftJoin c l r);
  root = result-Join d l r ∙ sym (result-LeftJoin c l r);
  faults = λ sets name. faults-Join d l r sets [] [] name ∙ sym (faults-LeftJoin c l r sets [] [] name);
}

inner_join : (e c : Expr) (l r : Plan) → compares r e ≡ true → Fit (P.Select e (P.LeftJoin c l r)) → Replaces (P.Join (both c e) l r) (P.Select e (P.LeftJoin c l r))
inner_join e c l r compared fit =
    let top = out_Select e (P.LeftJoin c l r) fit in
    let h = out_LeftJoin c l r top.input in
    let over : IsOver (live l [] ++ live r []) e = subst (λ (vs : List Var). IsOver vs e) (live-LeftJoin c l r []) top.over in
    let whole = in_Join (both c e) l r (record { left = h.left; left_root = h.left_root; right = h.right; right_root = h.right_root; over = over_both (live l [] ++ live r []) c e h.over over; thin = h.thin; once = h.once }) in
    let like = alike-trans (P.Join (both c e) l r) (P.LeftJoin c l r) (P.Select e (P.LeftJoin c l r)) (alike_joins (both c e) c l r) (alike-sym (P.Select e (P.LeftJoin c l r)) (P.LeftJoin c l r) (alike_select e (P.LeftJoin c l r) (result-LeftJoin c l r))) in
    let apart = turned (live l []) (live r []) (live_apart l r h.left h.right h.once) in
    alike_replaces (P.Join (both c e) l r) (P.Select e (P.LeftJoin c l r)) fit whole like
    (λ b sets rows fills k. left_join_out (both c e) c e (holds-both c e) l r b sets [] [] rows (compares_fails r e (live l []) compared apart) k)

-- ---- the rules

pub left_join_to_join_sound : (p q : Plan) → Fit p → left_join_to_join p q → Replaces q p
left_join_to_join_sound p q fit (e, c, l, r, from, compared, to) =
    subst (λ (x : Plan). Replaces x p) (sym to) (subst (Replaces (P.Join (both c e) l r)) (sym from) (inner_join e c l r compared (subst Fit from fit)))

pub drop_true_sound : (p q : Plan) → Fit p → drop_true p q → Replaces q p
drop_true_sound p q fit (c, first, rest, l, r, many, splits, inl (from, to)) =
    subst (λ (x : Plan). Replaces x p) (sym to) (subst (Replaces (P.Join rest l r)) (sym from) (true_of_join c first rest l r splits (subst Fit from fit)))
drop_true_sound p q fit (c, first, rest, l, r, many, splits, inr (from, to)) =
    subst (λ (x : Plan). Replaces x p) (sym to) (subst (Replaces (P.LeftJoin rest l r)) (sym from) (true_of_left_join c first rest l r splits (subst Fit from fit)))

pub join_cond_left_sound : (p q : Plan) → Fit p → join_cond_left p q → Replaces q p
join_cond_left_sound p q fit (c, first, rest, l, r, from, splits, to) =
    subst (λ (x : Plan). Replaces x p) (sym to) (subst (Replaces (P.Join rest (P.Select first l) r)) (sym from) (cond_left c first rest l r splits (subst Fit from fit)))

pub join_cond_right_sound : (p q : Plan) → Fit p → join_cond_right p q → Replaces q p
join_cond_right_sound p q fit (c, first, rest, l, r, from, splits, to) =
    subst (λ (x : Plan). Replaces x p) (sym to) (subst (Replaces (P.Join rest l (P.Select first r))) (sym from) (cond_right c first rest l r splits (subst Fit from fit)))

pub left_join_cond_right_sound : (p q : Plan) → Fit p → left_join_cond_right p q → Replaces q p
left_join_cond_right_sound p q fit (c, first, rest, l, r, from, splits, to) =
    subst (λ (x : Plan). Replaces x p) (sym to) (subst (Replaces (P.LeftJoin rest l (P.Select first r))) (sym from) (left_cond_right c first rest l r splits (subst Fit from fit)))
