use Rattle.al_rule.proofs.DriveLaws.{Walking}
use Rattle.al_rule.proofs.drive.walk.Given as goal

abbrev pub invariant-loop-from : goal.invariant-loop-from
invariant-loop-from g l = Walking (g.S.RuleSet.rules_of l.set) (g.S.RuleSet.weight l.set) l.fn.plan l.fn.t l.from l.plan l.t l.applied

abbrev pub decreases-loop-from : goal.decreases-loop-from
decreases-loop-from g l = g.S.RuleSet.weight l.set l.plan
