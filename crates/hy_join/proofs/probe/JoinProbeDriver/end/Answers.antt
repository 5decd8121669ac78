use Rattle.hy_join.proofs.ProbeLaws.{probe_ended}
use Rattle.hy_join.proofs.probe.JoinProbeDriver.end.Goals as goal

pub returns-clause-told : goal.returns-clause-told
returns-clause-told g c = let d = c.args.self.now in probe_ended d.side _ d.left d.ended d.phase
