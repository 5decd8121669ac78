use Rattle.hy_operator.proofs.operator.OperatorDriver.give_up.Goals as goal

pub returns-in-Stream-clause-fixed : goal.returns-in-Stream-clause-fixed
returns-in-Stream-clause-fixed g c = rw c.in-Stream.is c.give_up-in-Stream.ensures.fixed
