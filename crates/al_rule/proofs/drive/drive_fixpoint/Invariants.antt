use Rattle.al_plan.specs.Refines.{Fit}
use Rattle.al_rule.specs.Driven.{Drove}
use Rattle.al_rule.proofs.DriveLaws.{WalkedSoFar}
use Rattle.al_rule.proofs.drive.drive_fixpoint.Given as goal

abbrev pub invariant-loop-plan : goal.invariant-loop-plan
invariant-loop-plan g l = Drove (g.S.RuleSet.rules_of l.set) l.fn.p l.fn.t l.t l.plan × Fit l.plan × WalkedSoFar (g.S.RuleSet.rules_of l.set) l.fn.p l.fn.t l.plan l.t

abbrev pub decreases-loop-plan : goal.decreases-loop-plan
decreases-loop-plan g l = g.S.RuleSet.weight l.set l.plan
