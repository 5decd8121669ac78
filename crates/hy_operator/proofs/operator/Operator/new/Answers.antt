use Rattle.std.proofs.Common.{ap}
use Rattle.hy_job.specs.declared.job.Kind.TheVariants as K
use Rattle.hy_operator.proofs.Making.{begins_as, not_there}
use Rattle.hy_operator.proofs.operator.Operator.new.Goals as goal

pub returns-in-Scan-clause-begins : goal.returns-in-Scan-clause-begins
returns-in-Scan-clause-begins g c = rw (c.in-Scan.is, not_there c.args.input.store _ (rw c.in-Scan.is at c.requires.store)) (c.scan_of.ensures _ _)

pub returns-in-GroupBuild-clause-begins : goal.returns-in-GroupBuild-clause-begins
returns-in-GroupBuild-clause-begins g c = rw c.in-GroupBuild.is (c.group_build_of.ensures _ _)

pub returns-in-GroupEmit-clause-begins : goal.returns-in-GroupEmit-clause-begins
returns-in-GroupEmit-clause-begins g c = rw c.in-GroupEmit.is (c.group_emit_of.ensures _)

pub returns-in-JoinBuild-clause-begins : goal.returns-in-JoinBuild-clause-begins
returns-in-JoinBuild-clause-begins g c = rw c.in-JoinBuild.is (c.join_build_of.ensures _ _)

pub returns-in-Ok-clause-begins : goal.returns-in-Ok-clause-begins
returns-in-Ok-clause-begins g c = rw (c.in-SortEmit.is, not_there c.args.input.store _ (rw c.in-SortEmit.is at c.requires.store)) (begins_as _ _ _ _ _ _ _ _ _ (ap (λ ks. K.SortEmit ks) c.as_slice.ensures) (c.in-Ok.ensures.begins _))

pub returns-in-Ok-join_probe_of-clause-begins : goal.returns-in-Ok-join_probe_of-clause-begins
returns-in-Ok-join_probe_of-clause-begins g c = rw c.in-JoinProbe.is (c.in-Ok-join_probe_of.ensures.begins _)

pub returns-in-Ok-alone-clause-begins : goal.returns-in-Ok-alone-clause-begins
returns-in-Ok-alone-clause-begins g c = rw (not_there c.args.input.store _ (rw c.in-Ok-alone.ensures.kind at c.requires.store)) (c.in-Ok-alone.ensures.begins _ _)
