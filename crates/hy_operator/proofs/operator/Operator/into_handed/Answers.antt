use Rattle.hy_operator.proofs.Leaving.{beside_of, nothing_beside, nothing_handed}
use Rattle.std.proofs.Common.{refl}
use Rattle.hy_operator.proofs.operator.Operator.into_handed.Goals as goal

pub returns-in-SortBuild-clause-beside : goal.returns-in-SortBuild-clause-beside
returns-in-SortBuild-clause-beside g c = rw c.in-SortBuild.is (beside_of _ _ c.hand_on.ensures.handed (rw c.in-SortBuild.is at c.requires.done) refl refl)

pub returns-in-GroupBuild-clause-beside : goal.returns-in-GroupBuild-clause-beside
returns-in-GroupBuild-clause-beside g c = rw c.in-GroupBuild.is (beside_of _ _ c.hand_on-in-GroupBuild.ensures.handed (rw c.in-GroupBuild.is at c.requires.done) refl c.no_runs.ensures)

pub returns-in-GroupEmit-clause-beside : goal.returns-in-GroupEmit-clause-beside
returns-in-GroupEmit-clause-beside g c = rw c.in-GroupEmit.is (beside_of _ _ c.hand_on-in-GroupEmit.ensures.handed (rw c.in-GroupEmit.is at c.requires.done) refl c.no_runs-in-GroupEmit.ensures)

pub returns-in-JoinBuild-clause-beside : goal.returns-in-JoinBuild-clause-beside
returns-in-JoinBuild-clause-beside g c = rw c.in-JoinBuild.is (beside_of _ _ c.hand_on-in-JoinBuild.ensures.handed (rw c.in-JoinBuild.is at c.requires.done) refl c.no_runs-in-JoinBuild.ensures)

pub returns-in-JoinProbe-clause-beside : goal.returns-in-JoinProbe-clause-beside
returns-in-JoinProbe-clause-beside g c = rw c.in-JoinProbe.is (beside_of _ _ c.hand_on-in-JoinProbe.ensures.handed (rw c.in-JoinProbe.is at c.requires.done) refl c.no_runs-in-JoinProbe.ensures)

pub returns-in-Scan-clause-handed : goal.returns-in-Scan-clause-handed
returns-in-Scan-clause-handed g c = rw c.in-Scan.is (nothing_handed _ _ c.none.ensures refl refl refl)

pub returns-in-Scan-clause-beside : goal.returns-in-Scan-clause-beside
returns-in-Scan-clause-beside g c = nothing_beside _ _ c.none.ensures

pub returns-in-One-clause-handed : goal.returns-in-One-clause-handed
returns-in-One-clause-handed g c = rw c.in-One.is (nothing_handed _ _ c.none-in-One.ensures refl refl refl)

pub returns-in-One-clause-beside : goal.returns-in-One-clause-beside
returns-in-One-clause-beside g c = nothing_beside _ _ c.none-in-One.ensures

pub returns-in-Stream-clause-handed : goal.returns-in-Stream-clause-handed
returns-in-Stream-clause-handed g c = rw c.in-Stream.is (nothing_handed _ _ c.none-in-Stream.ensures refl refl refl)

pub returns-in-Stream-clause-beside : goal.returns-in-Stream-clause-beside
returns-in-Stream-clause-beside g c = nothing_beside _ _ c.none-in-Stream.ensures

pub returns-in-Unnest-clause-handed : goal.returns-in-Unnest-clause-handed
returns-in-Unnest-clause-handed g c = rw c.in-Unnest.is (nothing_handed _ _ c.none-in-Unnest.ensures refl refl refl)

pub returns-in-Unnest-clause-beside : goal.returns-in-Unnest-clause-beside
returns-in-Unnest-clause-beside g c = nothing_beside _ _ c.none-in-Unnest.ensures

pub returns-in-Subplan-clause-handed : goal.returns-in-Subplan-clause-handed
returns-in-Subplan-clause-handed g c = rw c.in-Subplan.is (nothing_handed _ _ c.none-in-Subplan.ensures refl refl refl)

pub returns-in-Subplan-clause-beside : goal.returns-in-Subplan-clause-beside
returns-in-Subplan-clause-beside g c = nothing_beside _ _ c.none-in-Subplan.ensures

pub returns-in-PreGroup-clause-handed : goal.returns-in-PreGroup-clause-handed
returns-in-PreGroup-clause-handed g c = rw c.in-PreGroup.is (nothing_handed _ _ c.none-in-PreGroup.ensures refl refl refl)

pub returns-in-PreGroup-clause-beside : goal.returns-in-PreGroup-clause-beside
returns-in-PreGroup-clause-beside g c = nothing_beside _ _ c.none-in-PreGroup.ensures

pub returns-in-SortEmit-clause-handed : goal.returns-in-SortEmit-clause-handed
returns-in-SortEmit-clause-handed g c = rw c.in-SortEmit.is (nothing_handed _ _ c.none-in-SortEmit.ensures refl refl refl)

pub returns-in-SortEmit-clause-beside : goal.returns-in-SortEmit-clause-beside
returns-in-SortEmit-clause-beside g c = nothing_beside _ _ c.none-in-SortEmit.ensures

pub returns-clause-handed : goal.returns-clause-handed
returns-clause-handed g c = rw c.in-Aggregate.is (nothing_handed _ _ c.none-in-Aggregate.ensures refl refl refl)

pub returns-clause-beside : goal.returns-clause-beside
returns-clause-beside g c = nothing_beside _ _ c.none-in-Aggregate.ensures
