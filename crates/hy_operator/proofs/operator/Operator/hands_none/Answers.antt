use Rattle.std.proofs.Common.{refl, true≢false}
use Rattle.hy_operator.proofs.operator.Operator.hands_none.Goals as goal

pub returns-in-Scan : goal.returns-in-Scan
returns-in-Scan g c = rw c.in-Scan.is (λ e. refl)

pub returns-in-One : goal.returns-in-One
returns-in-One g c = rw c.in-One.is (λ e. refl)

pub returns-in-Stream : goal.returns-in-Stream
returns-in-Stream g c = rw c.in-Stream.is (λ e. refl)

pub returns-in-Unnest : goal.returns-in-Unnest
returns-in-Unnest g c = rw c.in-Unnest.is (λ e. refl)

pub returns-in-Subplan : goal.returns-in-Subplan
returns-in-Subplan g c = rw c.in-Subplan.is (λ e. refl)

pub returns-in-PreGroup : goal.returns-in-PreGroup
returns-in-PreGroup g c = rw c.in-PreGroup.is (λ e. refl)

pub returns-in-SortBuild : goal.returns-in-SortBuild
returns-in-SortBuild g c = rw c.in-SortBuild.is (λ e. absurd (true≢false e))

pub returns-in-SortEmit : goal.returns-in-SortEmit
returns-in-SortEmit g c = rw c.in-SortEmit.is (λ e. refl)

pub returns-in-GroupBuild : goal.returns-in-GroupBuild
returns-in-GroupBuild g c = rw c.in-GroupBuild.is (λ e. absurd (true≢false e))

pub returns-in-GroupEmit : goal.returns-in-GroupEmit
returns-in-GroupEmit g c = rw c.in-GroupEmit.is (λ e. refl)

pub returns-in-JoinBuild : goal.returns-in-JoinBuild
returns-in-JoinBuild g c = rw c.in-JoinBuild.is (λ e. absurd (true≢false e))

pub returns-in-JoinProbe : goal.returns-in-JoinProbe
returns-in-JoinProbe g c = rw c.in-JoinProbe.is (λ e. refl)

pub returns-in-Aggregate : goal.returns-in-Aggregate
returns-in-Aggregate g c = rw c.in-Aggregate.is (λ e. refl)
