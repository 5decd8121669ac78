use Rattle.al_rules_select.proofs.LocalLaws.{split_local}
use Rattle.al_rules_select.proofs.sets.split_laws.Goals as goal

pub returns : goal.returns
returns c = split_local
