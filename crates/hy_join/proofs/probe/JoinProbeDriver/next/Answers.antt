use Rattle.std.proofs.Common.{[]}
use Rattle.hy_join.proofs.ProbeLaws.{probe_asks, probe_ends, probe_looked}
use Rattle.hy_join.proofs.probe.JoinProbeDriver.next.Goals as goal

pub returns-in-Ok-clause-told : goal.returns-in-Ok-clause-told
returns-in-Ok-clause-told g c =
    let d = c.args.self.now in
    probe_looked d.side _ d.left c.look.new.self c.look.new.out c.in-Ok.next d.ended d.phase c.in-Ok.ensures.looked c.in-Ok.ensures.turned (d.works c.if-self.true)

pub returns-then-self-2-clause-told : goal.returns-then-self-2-clause-told
returns-then-self-2-clause-told g c = let d = c.args.self.now in probe_ends d.side _ d.left [] d.ended d.phase c.if-self.false c.if-self-2.true c.requires.going

pub returns-clause-told : goal.returns-clause-told
returns-clause-told g c = let d = c.args.self.now in probe_asks d.side _ d.left [] d.ended d.phase c.if-self.false c.if-self-2.false c.requires.going d.over
