use Rattle.std.proofs.Common.{ℕ, sym, subst, get_or, IfOk}
use Rattle.al_plan.specs.Refines.{Fit, Replaces}
use Rattle.al_rule.specs.Entries.{no_entry}
use Rattle.al_rule.specs.Rules.{Matches}
use Rattle.al_rules_prune.specs.PruneSet.{prune_entries}
use Rattle.al_rules_prune.proofs.set.PruneSetRuleSet.apply.Goals as goal

pub returns-in-1-clause-applied : goal.returns-in-1-clause-applied
returns-in-1-clause-applied c = subst (λ (k : ℕ). Matches (get_or prune_entries k no_entry).1 c.args.p → IfOk c.apply-in-1.result (λ q. (get_or prune_entries k no_entry).1 c.args.p q)) (sym c.in-1.is) c.apply-in-1.ensures.applied

pub returns-in-1-clause-refines : goal.returns-in-1-clause-refines
returns-in-1-clause-refines c = subst (λ (k : ℕ). Matches (get_or prune_entries k no_entry).1 c.args.p → Fit c.args.p → IfOk c.apply-in-1.result (λ q. Replaces q c.args.p)) (sym c.in-1.is) c.apply-in-1.ensures.refines
