use Rattle.al_rules_select.proofs.WholeLaws.{splits_none}
use Rattle.al_rules_select.proofs.whole.split.Goals as goal

pub returns-in-Ok-None-clause-splits : goal.returns-in-Ok-None-clause-splits
returns-in-Ok-None-clause-splits c = splits_none c.args.p (rw c.in-Ok-None.field-0-is at c.in-Ok-None.ensures)
