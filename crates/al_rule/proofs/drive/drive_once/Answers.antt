use Rattle.al_rule.proofs.DriveLaws.{drove_replaces}
use Rattle.al_rule.proofs.drive.drive_once.Goals as goal

pub returns-in-Ok-clause-replaces : goal.returns-in-Ok-clause-replaces
returns-in-Ok-clause-replaces g c =
    let set = c.args.set.now in
    drove_replaces (g.S.RuleSet.rules_of set) (g.S.RuleSet.measure set) (g.S.RuleSet.weight set) (g.met.S.RuleSet.lawful set) c.args.p c.walk.new.plan c.args.t.now c.walk.new.t c.requires c.walk.ensures.driven

pub returns-in-Err-clause-replaces : goal.returns-in-Err-clause-replaces
returns-in-Err-clause-replaces g c =
    let set = c.args.set.now in
    drove_replaces (g.S.RuleSet.rules_of set) (g.S.RuleSet.measure set) (g.S.RuleSet.weight set) (g.met.S.RuleSet.lawful set) c.args.p c.walk.new.plan c.args.t.now c.walk.new.t c.requires c.walk.ensures.driven
