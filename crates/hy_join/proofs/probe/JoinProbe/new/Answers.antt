use Rattle.hy_join.proofs.ProbeLaws.{probe_new}
use Rattle.hy_join.proofs.probe.JoinProbe.new.Goals as goal

pub returns-in-Ok-clause-new : goal.returns-in-Ok-clause-new
returns-in-Ok-clause-new g c n scanned =
    let made = c.in-Ok.ensures.made in
    probe_new c.in-Ok.side c.none.result _ c.args.arg c.args.sides c.args.handed.rows c.none.ensures made.2 made.1 made.3
