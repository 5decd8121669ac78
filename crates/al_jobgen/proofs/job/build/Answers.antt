use Rattle.al_jobgen.proofs.PieceAdded.{job_is}
use Rattle.al_jobgen.proofs.Literals.{no_activities}
use Rattle.al_jobgen.proofs.job.build.Goals as goal

pub returns-clause-is : goal.returns-clause-is
returns-clause-is c = job_is c.args.p.now c.args.partitions _ _ _ c.new.ensures c.new-2.ensures c.new-3.ensures c.in_ok-_tail.ensures.is

pub returns-clause-values : goal.returns-clause-values
returns-clause-values c = c.in_ok-_tail.ensures.values (no_activities _ c.new.ensures)
