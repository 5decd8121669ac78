use Rattle.hy_job.proofs.Chains.{chain_by_row, chain_allowed}
use Rattle.hy_job.proofs.chain.chain_laws.Goals as goal

pub returns-clause-by_row : goal.returns-clause-by_row
returns-clause-by_row c = λ p outer chain. chain_by_row p outer

pub returns-clause-allowed : goal.returns-clause-allowed
returns-clause-allowed c = chain_allowed
