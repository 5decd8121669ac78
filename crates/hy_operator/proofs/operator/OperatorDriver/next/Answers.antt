use Rattle.hy_operator.proofs.operator.OperatorDriver.next.Goals as goal

pub returns-in-Stream-clause-told : goal.returns-in-Stream-clause-told
returns-in-Stream-clause-told g c = rw c.in-Stream.is c.next-in-Stream.ensures.told

pub returns-in-JoinBuild-clause-told : goal.returns-in-JoinBuild-clause-told
returns-in-JoinBuild-clause-told g c = rw c.in-JoinBuild.is c.next-in-JoinBuild.ensures.told

pub returns-in-Aggregate-clause-told : goal.returns-in-Aggregate-clause-told
returns-in-Aggregate-clause-told g c = rw c.in-Aggregate.is c.next-in-Aggregate.ensures.told

pub returns-in-Stream-clause-fixed : goal.returns-in-Stream-clause-fixed
returns-in-Stream-clause-fixed g c = rw c.in-Stream.is c.next-in-Stream.ensures.fixed
