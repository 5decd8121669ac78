use Rattle.al_query.proofs.Steps.{told_large}
use Rattle.al_query.proofs.plan.read_accepted.Goals as goal

pub returns-in-Ok-TooLarge-clause-tells : goal.returns-in-Ok-TooLarge-clause-tells
returns-in-Ok-TooLarge-clause-tells g c = rw c.plan_refused.ensures (told_large _ c.args.name.now (rw c.in-Ok-TooLarge.field-0-is at c.in-Ok-TooLarge.ensures.tells))
