use Rattle.al_rule.proofs.JoinLaws.{pairs_decide}
use Rattle.al_rule.proofs.laws.join_laws.Goals as goal

pub returns : goal.returns
returns c = pairs_decide
