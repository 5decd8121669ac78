use Rattle.hy_driver.specs.Rows.{values_of}
use Rattle.hy_join.proofs.KeyLaws.{HashedTo}
use Rattle.hy_join.proofs.keys.key_hash.Given as goal

abbrev pub invariant-loop-j : goal.invariant-loop-j
invariant-loop-j l = HashedTo l.columns (values_of l.row) l.j-index l.hash
