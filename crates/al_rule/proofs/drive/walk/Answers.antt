use Rattle.std.proofs.Common.{ℕ, List, subst}
use Rattle.al_rule.specs.Walks.{Finds, IsNext, NoneFrom}
use Rattle.al_rule.proofs.WalkLaws.{none_at_all}
use Rattle.al_rule.proofs.DriveLaws.{walk_begins, walk_ends, walk_goes_on}
use Rattle.al_rule.proofs.drive.walk.Goals as goal

pub loop-from-init : goal.loop-from-init
loop-from-init g c = walk_begins (g.S.RuleSet.rules_of c.args.set.now) (g.S.RuleSet.weight c.args.set.now) c.args.plan.now c.args.t.now c.new-from.result c.new-from.ensures c.requires

pub loop-from-preserved : goal.loop-from-preserved
loop-from-preserved g c =
    let set = c.args.set.now in
    let rules = g.S.RuleSet.rules_of set in
    let found = subst (Finds rules c.as_slice.result.now c.loop-from.plan) c.in-Some.is c.in_ok-found.ensures in
    let here = subst (λ (l : List ℕ). IsNext rules l c.loop-from.plan c.in-Some.found.rule c.in-Some.found.place.children) c.as_slice.ensures found in
    walk_goes_on rules (g.S.RuleSet.measure set) (g.S.RuleSet.weight set) (g.met.S.RuleSet.lawful set) c.args.plan.now c.loop-from.plan c.step.new.plan c.args.t.now c.loop-from.t c.step.new.t
    c.loop-from.from c.in-Some.found.place.children c.loop-from.applied c.in-Some.found.rule c.loop-from.invariant here c.in_ok-step.ensures.ok

pub returns-clause-walked : goal.returns-clause-walked
returns-clause-walked g c =
    let rules = g.S.RuleSet.rules_of c.args.set.now in
    let end = subst (Finds rules c.as_slice.result.now c.loop-from.plan) c.in_default.is c.in_ok-found.ensures in
    let here = subst (λ (l : List ℕ). NoneFrom rules l c.loop-from.plan) c.as_slice.ensures end in
    walk_ends rules c.args.plan.now c.loop-from.plan c.args.t.now c.loop-from.t c.loop-from.from c.loop-from.invariant.walked here

pub returns-clause-stuck : goal.returns-clause-stuck
returns-clause-stuck g c local =
    let rules = g.S.RuleSet.rules_of c.args.set.now in
    let end = subst (Finds rules c.as_slice.result.now c.loop-from.plan) c.in_default.is c.in_ok-found.ensures in
    let here = subst (λ (l : List ℕ). NoneFrom rules l c.loop-from.plan) c.as_slice.ensures end in
    none_at_all rules c.loop-from.from c.loop-from.plan here (c.loop-from.invariant.by_local local)

pub returns-clause-unapplied : goal.returns-clause-unapplied
returns-clause-unapplied g c none =
    let rules = g.S.RuleSet.rules_of c.args.set.now in
    let end = subst (Finds rules c.as_slice.result.now c.loop-from.plan) c.in_default.is c.in_ok-found.ensures in
    let here = subst (λ (l : List ℕ). NoneFrom rules l c.loop-from.plan) c.as_slice.ensures end in
    none_at_all rules c.loop-from.from c.loop-from.plan here (c.loop-from.invariant.unapplied none)
