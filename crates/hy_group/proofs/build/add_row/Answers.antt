use Rattle.hy_group.proofs.BuildLaws.{wide_values}
use Rattle.hy_group.proofs.build.add_row.Goals as goal

pub add-requires-clause-fits : goal.add-requires-clause-fits
add-requires-clause-fits c = wide_values c.args.arg.now c.args.row.now c.in_ok-values.values c.in_ok-values.ensures c.requires.reads
