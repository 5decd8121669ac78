use Rattle.al_rule.proofs.WalkLaws.{none_of, root_applied, part_applied, part_handed_back}
use Rattle.al_rule.proofs.place.+apply_at.Goals as goal

pub returns-in-None-clause-applied : goal.returns-in-None-clause-applied
returns-in-None-clause-applied g t c m =
    root_applied ((g.S.RuleSet.rules_of c.args.set.now).rewrites c.args.k) c.args.place.now c.args.p c.apply.result (none_of c.args.place.now c.in-None.ensures.cases) c.apply.ensures.applied m

pub returns-in-Some-clause-applied : goal.returns-in-Some-clause-applied
returns-in-Some-clause-applied g t c m =
    part_applied ((g.S.RuleSet.rules_of c.args.set.now).rewrites c.args.k) c.in-Some.i.now c.in-Some.below.now c.args.place.now c.args.p c.args.spare c.take_input-rest.result.0 c.take_input-rest.result.1 c.apply_at-outcome.result.0 c.put_outcome.result.0
    c.in-Some.ensures.cases.0 c.take_input-rest.ensures c.apply_at-outcome.ensures.applied c.put_outcome.ensures m

pub returns-in-Some-clause-handed_back : goal.returns-in-Some-clause-handed_back
returns-in-Some-clause-handed_back g t c m =
    part_handed_back ((g.S.RuleSet.rules_of c.args.set.now).rewrites c.args.k) c.in-Some.i.now c.in-Some.below.now c.args.place.now c.args.p c.args.spare c.take_input-rest.result.0 c.take_input-rest.result.1 c.apply_at-outcome.result.0 c.put_outcome.result.0
    c.in-Some.ensures.cases.0 c.take_input-rest.ensures c.apply_at-outcome.ensures.handed_back c.put_outcome.ensures m
