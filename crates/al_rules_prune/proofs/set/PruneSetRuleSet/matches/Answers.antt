use Rattle.std.proofs.Common.{ℕ, sym, subst, get_or}
use Rattle.al_rule.specs.Entries.{no_entry}
use Rattle.al_rule.specs.Rules.{Decides, Matches}
use Rattle.al_rules_prune.specs.PruneSet.{prune_entries}
use Rattle.al_rules_prune.proofs.set.PruneSetRuleSet.matches.Goals as goal

pub returns-in-1 : goal.returns-in-1
returns-in-1 c = subst (λ (k : ℕ). Decides c.matches-in-1.result (Matches (get_or prune_entries k no_entry).1 c.args.p.now)) (sym c.in-1.is) c.matches-in-1.ensures
