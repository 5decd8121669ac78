use Rattle.al_rule.proofs.SelectLaws.{select_passes_order, select_passes_distinct}
use Rattle.al_rule.proofs.laws.select_laws.Goals as goal

pub returns-clause-order : goal.returns-clause-order
returns-clause-order c = select_passes_order

pub returns-clause-distinct : goal.returns-clause-distinct
returns-clause-distinct c = select_passes_distinct
