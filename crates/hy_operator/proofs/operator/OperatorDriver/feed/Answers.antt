use Rattle.hy_operator.proofs.operator.OperatorDriver.feed.Goals as goal

pub returns-in-Stream-clause-told : goal.returns-in-Stream-clause-told
returns-in-Stream-clause-told g c values are is = rw c.in-Stream.is (c.feed-in-Stream.ensures.told values are is)

pub returns-in-JoinBuild-clause-told : goal.returns-in-JoinBuild-clause-told
returns-in-JoinBuild-clause-told g c values are is = rw c.in-JoinBuild.is (c.feed-in-JoinBuild.ensures.told values are is)

pub returns-in-Aggregate-clause-told : goal.returns-in-Aggregate-clause-told
returns-in-Aggregate-clause-told g c values are is = rw c.in-Aggregate.is (c.feed-in-Aggregate.ensures.told values are is)

pub returns-in-Stream-clause-fixed : goal.returns-in-Stream-clause-fixed
returns-in-Stream-clause-fixed g c = rw c.in-Stream.is c.feed-in-Stream.ensures.fixed
