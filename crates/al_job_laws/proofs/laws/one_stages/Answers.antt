use Rattle.al_job_laws.proofs.OneStages.{stages_are_one}
use Rattle.al_job_laws.proofs.laws.one_stages.Goals as goal

pub returns : goal.returns
returns c = stages_are_one
