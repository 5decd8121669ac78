use Rattle.std.proofs.Common.{rules}
use Rattle.hy_subplan.proofs.SubplanLaws.{row_fits}
use Rattle.hy_subplan.proofs.subplan.longer.Goals as goal

pub run_nested-requires : goal.run_nested-requires
run_nested-requires c = row_fits c.args.nested.now c.args.row.now _ c.from_ref.result.now c.requires (search rules) c.from_ref.ensures.value
