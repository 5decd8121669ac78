use Rattle.std.proofs.Common.{ℕ, ◌<◌}
use Rattle.al_rule.specs.Rules.{Matches}
use Rattle.al_rule.proofs.find.first_rule.Given as goal

-- no rule before this one matches
abbrev pub invariant-loop-k : goal.invariant-loop-k
invariant-loop-k g l = (j : ℕ) → j < l.k → Matches ((g.S.RuleSet.rules_of l.set).rewrites j) l.p → ⊥
