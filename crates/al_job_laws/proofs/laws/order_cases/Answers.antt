use Rattle.al_job_laws.proofs.OrderCases.{stand, turned, inputs, blocks}
use Rattle.al_job_laws.proofs.laws.order_cases.Goals as goal

pub returns-clause-stand : goal.returns-clause-stand
returns-clause-stand c = stand

pub returns-clause-turned : goal.returns-clause-turned
returns-clause-turned c = turned

pub returns-clause-inputs : goal.returns-clause-inputs
returns-clause-inputs c = inputs

pub returns-clause-blocks : goal.returns-clause-blocks
returns-clause-blocks c = blocks
