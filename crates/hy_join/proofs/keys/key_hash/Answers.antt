use Rattle.std.proofs.Common.{rules}
use Rattle.hy_driver.specs.Rows.{values_of}
use Rattle.hy_join.proofs.KeyLaws.{no_hash}
use Rattle.hy_join.proofs.keys.key_hash.Goals as goal

pub returns-in_default : goal.returns-in_default
returns-in_default c = no_hash c.args.columns.now (values_of c.args.row.now) c.loop-j.j-index _ c.in_default.ensures.null c.loop-j-test.true (search rules)
