use Rattle.hy_job.proofs.Stopped.{fails_at_last, passes_at_last, stops_by_faults}
use Rattle.hy_job.proofs.SettledWires.{settled_is_sent}
use Rattle.hy_job.proofs.laws.record_laws.Goals as goal

pub returns-clause-fails : goal.returns-clause-fails
returns-clause-fails c = fails_at_last

pub returns-clause-passes : goal.returns-clause-passes
returns-clause-passes c = passes_at_last

pub returns-clause-stops : goal.returns-clause-stops
returns-clause-stops c = stops_by_faults

pub returns-clause-sent : goal.returns-clause-sent
returns-clause-sent c = settled_is_sent
