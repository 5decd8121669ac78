use Rattle.hy_rest.proofs.Rest.{through_continues, through_alive, through_finished}
use Rattle.hy_rest.proofs.laws.passage_laws.Goals as goal

pub returns-clause-continues : goal.returns-clause-continues
returns-clause-continues g c old new = through_continues _ _ _ _ _ _

pub returns-clause-alive : goal.returns-clause-alive
returns-clause-alive g c new = through_alive _ _ _ _ _

pub returns-clause-finished : goal.returns-clause-finished
returns-clause-finished g c new = through_finished _ _ _
