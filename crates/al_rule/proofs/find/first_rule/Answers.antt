use Rattle.std.proofs.Common.{ℕ, arith, below_more}
use Rattle.al_rule.specs.Rules.{Matches}
use Rattle.al_rule.proofs.find.first_rule.Goals as goal

pub loop-k-preserved : goal.loop-k-preserved
loop-k-preserved g c = below_more (λ (j : ℕ). Matches ((g.S.RuleSet.rules_of c.args.set.now).rewrites j) c.args.p.now → ⊥) c.loop-k.k c.loop-k.invariant c.if-matches.ensures

pub returns : goal.returns
returns g c k low m = c.loop-k.invariant k (omega (arith, c.rules-k-end.ensures)) m
