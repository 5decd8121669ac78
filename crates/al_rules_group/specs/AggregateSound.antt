-- A project goes from below an aggregate.
use Rattle.std.proofs.Common.{List, [], ◌∷◌, ◌++◌, map, refl, ap, sym, subst, ◌∙◌}
use Rattle.std.specs.List.{AllByRecursion}
use Rattle.al_plan.specs.declared.expr.Var.{Var}
use Rattle.al_plan.specs.declared.expr.Expr.{Expr}
use Rattle.al_plan.specs.declared.plan.AggCall.{AggCall}
use Rattle.al_plan.specs.declared.plan.Plan.{Plan}
use Rattle.al_plan.specs.declared.plan.Plan.TheVariants as P
use Rattle.al_plan.specs.Eval.{Env}
use Rattle.al_plan.specs.Names.{names, agg_exprs}
use Rattle.al_plan.specs.Allows.{live, cut}
use Rattle.al_plan.specs.Refines.{Fit, Replaces, IsOver, AreOver, AreLive, NoTwice}
use Rattle.al_plan.proofs.PlanLaws.{allows_Aggregate, from_Aggregate, allows_Project, live-Project, scans-Project, makes-Project, faults-Project, live-Aggregate, ordered-Aggregate, scans-Aggregate, makes-Aggregate, result-Aggregate, faults-Aggregate}
use Rattle.al_rule.proofs.Alike.{Alike, alike_replaces}
use Rattle.al_rule.proofs.FitLaws.{out_Aggregate, in_Aggregate, out_Project}
use Rattle.al_rule.proofs.RuleFit.{among_among}
use Rattle.al_rules_group.specs.GroupRules.{AggregateOverProject}
use Rattle.al_rules_group.specs.Seeing.{sees_calls, sees_cut, agg_row-seen}

pub wider : (xs vars : List Var) → AreLive xs vars → (e : Expr) → IsOver vars e → IsOver xs e
wider xs vars live e h = record { reads = among_among xs vars live (names e) h.reads; arities = h.arities }

pub wider_all : (xs vars : List Var) → AreLive xs vars → (es : List Expr) → AreOver vars es → AreOver xs es
wider_all xs vars live [] h = tt
wider_all xs vars live (e ∷ es) h = (wider xs vars live e h.0, wider_all xs vars live es h.1)

wider_calls : (xs vars : List Var) → AreLive xs vars → (made : List (Var × AggCall)) → AllByRecursion (λ m. AreOver vars (agg_exprs m.1)) made → AllByRecursion (λ m. AreOver xs (agg_exprs m.1)) made
wider_calls xs vars live [] h = tt
wider_calls xs vars live (m ∷ made) h = (wider_all xs vars live (agg_exprs m.1) h.0, wider_calls xs vars live made h.1)

without_project : (made : List (Var × AggCall)) (vars : List Var) (p : Plan) → Fit (P.Aggregate made (P.Project vars p)) → Replaces (P.Aggregate made p) (P.Aggregate made (P.Project vars p))
without_project made vars p fit =
    let top = out_Aggregate made (P.Project vars p) fit in
    let below = out_Project vars p top.input in
    let over : AllByRecursion (λ m. AreOver vars (agg_exprs m.1)) made = subst (λ (vs : List Var). AllByRecursion (λ (m : Var × AggCall). AreOver vs (agg_exprs m.1)) made) (live-Project vars p []) top.over in
    let whole = in_Aggregate made p (record { input = below.input; root = below.root; over = wider_calls (live p []) vars below.listed made over; thin = top.thin; once = subst (λ (vs : List Var). NoTwice (vs ++ map (λ m. m.0) made)) (makes-Project vars p) top.once }) in
    let like : Alike (P.Aggregate made p) (P.Aggregate made (P.Project vars p)) = record {
      vars = live-Aggregate made p [] ∙ sym (live-Aggregate made (P.Project vars p) []);
      order = ordered-Aggregate made p ∙ sym (ordered-Aggregate made (P.Project vars p));
      scanned = scans-Aggregate made p ∙ sym (scans-Project vars p) ∙ sym (scans-Aggregate made (P.Project vars p));
      made = makes-Aggregate made p ∙ ap (λ (vs : List Var). vs ++ map (λ m. m.0) made) (sym (makes-Project vars p)) ∙ sym (makes-Aggregate made (P.Project vars p));
      root = result-Aggregate made p ∙ sym (result-Aggregate made (P.Project vars p));
      faults = λ sets name. faults-Aggregate made p sets [] [] name ∙ sym (faults-Project vars p sets [] [] name) ∙ sym (faults-Aggregate made (P.Project vars p) sets [] [] name);
    } in
    alike_replaces (P.Aggregate made p) (P.Aggregate made (P.Project vars p)) fit whole like (λ b sets rows fills k.
    let o = from_Aggregate made p b sets [] [] rows k in
    allows_Aggregate made (P.Project vars p) b sets [] [] rows (
      map (cut vars) o.0,
      allows_Project vars p b sets [] [] _ (o.0, o.1, refl),
      o.2 ∙ ap (λ (r : Env). r ∷ []) (sym (agg_row-seen (cut vars) made o.0 (sees_calls (cut vars) vars (sees_cut vars) made over))),
    ))

pub aggregate_over_project : (p q : Plan) → Fit p → AggregateOverProject p q → Replaces q p
aggregate_over_project p q fit (made, vars, x, at, to) =
    subst (λ (z : Plan). Replaces z p) (sym to) (subst (Replaces (P.Aggregate made x)) (sym at) (without_project made vars x (subst Fit at fit)))
