use Rattle.hy_job.proofs.FreeLaws.{free_outputs}
use Rattle.hy_job.proofs.Probes.{probes_move}
use Rattle.hy_job.proofs.RunFits.{runs_fit}
use Rattle.hy_job.proofs.RunValues.{runs_have_values}
use Rattle.hy_job.proofs.laws.output_laws.Goals as goal

pub returns-clause-free : goal.returns-clause-free
returns-clause-free c = free_outputs

pub returns-clause-probes : goal.returns-clause-probes
returns-clause-probes c = probes_move

pub returns-clause-fit : goal.returns-clause-fit
returns-clause-fit c = runs_fit

pub returns-clause-values : goal.returns-clause-values
returns-clause-values c = runs_have_values
