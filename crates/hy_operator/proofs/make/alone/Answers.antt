use Rattle.std.proofs.Common.{ap}
use Rattle.hy_job.specs.declared.job.Kind.TheVariants as K
use Rattle.hy_operator.proofs.Making.{begins_as}
use Rattle.hy_operator.proofs.make.alone.Goals as goal

pub returns-in-One-clause-begins : goal.returns-in-One-clause-begins
returns-in-One-clause-begins g c scanned handed = rw c.in-One.is (c.one_of.ensures scanned handed)

pub returns-in-SortBuild-clause-begins : goal.returns-in-SortBuild-clause-begins
returns-in-SortBuild-clause-begins g c scanned handed = rw c.in-SortBuild.is (begins_as _ _ _ _ _ _ _ _ _ (ap (λ ks. K.SortBuild ks) c.as_slice-in-SortBuild.ensures) (c.sort_build_of.ensures scanned handed))

pub returns-in_ok-unnest_of-in-Unnest-clause-begins : goal.returns-in_ok-unnest_of-in-Unnest-clause-begins
returns-in_ok-unnest_of-in-Unnest-clause-begins g c scanned handed = rw c.in-Unnest.is (c.in_ok-unnest_of-in-Unnest.ensures scanned handed)

pub returns-in_ok-subplan_of-in-Subplan-clause-begins : goal.returns-in_ok-subplan_of-in-Subplan-clause-begins
returns-in_ok-subplan_of-in-Subplan-clause-begins g c scanned handed = rw c.in-Subplan.is (c.in_ok-subplan_of-in-Subplan.ensures scanned handed)

pub returns-in_ok-pre_group_of-in-PreGroup-clause-begins : goal.returns-in_ok-pre_group_of-in-PreGroup-clause-begins
returns-in_ok-pre_group_of-in-PreGroup-clause-begins g c scanned handed = rw c.in-PreGroup.is (begins_as _ _ _ _ _ _ _ _ _ (ap (λ ks. K.PreGroup ks c.in-PreGroup.nested) c.as_slice.ensures) (c.in_ok-pre_group_of-in-PreGroup.ensures scanned handed))

pub returns-in_ok-agg_part_of-in-AggPart-clause-begins : goal.returns-in_ok-agg_part_of-in-AggPart-clause-begins
returns-in_ok-agg_part_of-in-AggPart-clause-begins g c scanned handed = rw c.in-AggPart.is (begins_as _ _ _ _ _ _ _ _ _ (ap (λ made. K.AggPart made) c.as_slice-in-AggPart.ensures) (c.in_ok-agg_part_of-in-AggPart.ensures scanned handed))

pub returns-in_ok-agg_final_of-in-AggFinal-clause-begins : goal.returns-in_ok-agg_final_of-in-AggFinal-clause-begins
returns-in_ok-agg_final_of-in-AggFinal-clause-begins g c scanned handed = rw c.in-AggFinal.is (begins_as _ _ _ _ _ _ _ _ _ (ap (λ made. K.AggFinal made) c.as_slice-in-AggFinal.ensures) (c.in_ok-agg_final_of-in-AggFinal.ensures scanned handed))
