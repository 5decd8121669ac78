use Rattle.al_rule.proofs.Chains.{chains_refine}
use Rattle.al_rule.proofs.laws.chain_laws.Goals as goal

pub returns : goal.returns
returns c = chains_refine
