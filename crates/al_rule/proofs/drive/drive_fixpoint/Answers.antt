use Rattle.std.proofs.Common.{refl}
use Rattle.al_rule.proofs.DriveLaws.{drove_nothing, drove_on, drove_replaces, no_walk_so_far, one_walk_more, walked_out}
use Rattle.al_rule.proofs.drive.drive_fixpoint.Goals as goal

pub loop-plan-init : goal.loop-plan-init
loop-plan-init g c = (drove_nothing (g.S.RuleSet.rules_of c.args.set.now) c.args.p c.args.t.now c.args.t.now refl, c.requires, no_walk_so_far (g.S.RuleSet.rules_of c.args.set.now) c.args.p c.args.t.now)

pub loop-plan-preserved : goal.loop-plan-preserved
loop-plan-preserved g c = (
  drove_on (g.S.RuleSet.rules_of c.args.set.now) c.args.p c.loop-plan.plan c.walk.new.plan c.args.t.now c.loop-plan.t c.walk.new.t c.loop-plan.invariant.0 c.walk.ensures.driven,
  c.walk.ensures.fit,
  one_walk_more (g.S.RuleSet.rules_of c.args.set.now) (g.S.RuleSet.weight c.args.set.now) c.args.p c.loop-plan.plan c.walk.new.plan c.args.t.now c.loop-plan.t c.walk.new.t c.loop-plan.invariant.2 c.in-Ok-true.ensures.walked (c.in-Ok-true.ensures.lighter c.in-Ok-true.field-0-test),
)

pub returns-in-Ok-false-clause-driven : goal.returns-in-Ok-false-clause-driven
returns-in-Ok-false-clause-driven g c =
    drove_on (g.S.RuleSet.rules_of c.args.set.now) c.args.p c.loop-plan.plan c.walk.new.plan c.args.t.now c.loop-plan.t c.walk.new.t c.loop-plan.invariant.0 c.walk.ensures.driven

pub returns-in-Ok-false-clause-walked : goal.returns-in-Ok-false-clause-walked
returns-in-Ok-false-clause-walked g c =
    walked_out (g.S.RuleSet.rules_of c.args.set.now) c.args.p c.loop-plan.plan c.walk.new.plan c.args.t.now c.loop-plan.t c.walk.new.t c.loop-plan.invariant.2 c.in-Ok-false.ensures.walked (c.in-Ok-false.ensures.untraced c.in-Ok-false.field-0-test)

pub returns-in-Ok-false-clause-replaces : goal.returns-in-Ok-false-clause-replaces
returns-in-Ok-false-clause-replaces g c =
    let set = c.args.set.now in
    let rules = g.S.RuleSet.rules_of set in
    drove_replaces rules (g.S.RuleSet.measure set) (g.S.RuleSet.weight set) (g.met.S.RuleSet.lawful set) c.args.p c.walk.new.plan c.args.t.now c.walk.new.t c.requires
    (drove_on rules c.args.p c.loop-plan.plan c.walk.new.plan c.args.t.now c.loop-plan.t c.walk.new.t c.loop-plan.invariant.0 c.walk.ensures.driven)

pub returns-in-Ok-false-clause-stuck : goal.returns-in-Ok-false-clause-stuck
returns-in-Ok-false-clause-stuck g c = c.in-Ok-false.ensures.unapplied c.in-Ok-false.field-0-test

pub returns-in-Err-clause-driven : goal.returns-in-Err-clause-driven
returns-in-Err-clause-driven g c =
    drove_on (g.S.RuleSet.rules_of c.args.set.now) c.args.p c.loop-plan.plan c.walk.new.plan c.args.t.now c.loop-plan.t c.walk.new.t c.loop-plan.invariant.0 c.walk.ensures.driven

pub returns-in-Err-clause-replaces : goal.returns-in-Err-clause-replaces
returns-in-Err-clause-replaces g c =
    let set = c.args.set.now in
    let rules = g.S.RuleSet.rules_of set in
    drove_replaces rules (g.S.RuleSet.measure set) (g.S.RuleSet.weight set) (g.met.S.RuleSet.lawful set) c.args.p c.walk.new.plan c.args.t.now c.walk.new.t c.requires
    (drove_on rules c.args.p c.loop-plan.plan c.walk.new.plan c.args.t.now c.loop-plan.t c.walk.new.t c.loop-plan.invariant.0 c.walk.ensures.driven)
