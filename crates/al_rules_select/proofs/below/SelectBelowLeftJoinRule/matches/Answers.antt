use Rattle.std.proofs.Common.{subst}
use Rattle.al_plan.specs.declared.plan.Plan.{Plan}
use Rattle.al_plan.specs.Names.{names}
use Rattle.al_plan.specs.Allows.{live}
use Rattle.al_plan.specs.Refines.{AreAmong}
use Rattle.std.proofs.Common.{[]}
use Rattle.al_rule.specs.Rules.{Decides}
use Rattle.al_rules_select.proofs.SelectLaws.{other_left_join, yes_left_join}
use Rattle.al_rules_select.proofs.below.SelectBelowLeftJoinRule.matches.Goals as goal

pub returns-in_default-over : goal.returns-in_default-over
returns-in_default-over c = other_left_join c.args.p.now _ c.in-Some.over.now c.in-Some.ensures (λ cond l r h. c.in_default-over.not-LeftJoin cond l r h)

pub returns-in-LeftJoin : goal.returns-in-LeftJoin
returns-in-LeftJoin c = yes_left_join c.args.p.now c.in-Some.e.now c.in-Some.over.now c.in-LeftJoin.cond c.in-LeftJoin.left c.in-LeftJoin.right c.reads_live.result c.in-Some.ensures c.in-LeftJoin.is (subst (λ (z : Plan). Decides c.reads_live.result (AreAmong (live z []) (names c.in-Some.e.now))) c.get.ensures c.reads_live.ensures.decides)
