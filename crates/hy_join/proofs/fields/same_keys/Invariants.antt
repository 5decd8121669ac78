use Rattle.std.proofs.Common.{◌≡◌}
use Rattle.hy_driver.specs.Rows.{values_of}
use Rattle.hy_job.specs.Columns.{are_keys_equal}
use Rattle.hy_join.proofs.FieldLaws.{from}
use Rattle.hy_join.proofs.fields.same_keys.Given as goal

abbrev pub invariant-loop-i : goal.invariant-loop-i
invariant-loop-i l = from l.i l.lefts l.rights (values_of l.left) (values_of l.right) ≡ are_keys_equal l.lefts l.rights (values_of l.left) (values_of l.right)
