use Rattle.hy_job.proofs.StateLaws.{states_length}
use Rattle.std.proofs.Common.{[]}
use Rattle.hy_job.proofs.states.agg_row.Goals as goal

pub add_rows-requires-clause-each : goal.add_rows-requires-clause-each
add_rows-requires-clause-each c = states_length c.args.made.now [] c.in_ok-states.states.items c.in_ok-states.ensures
