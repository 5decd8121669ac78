use Rattle.std.proofs.Common.{sym}
use Rattle.al_query.proofs.Steps.{told_explanation}
use Rattle.al_query.proofs.explain.explained.Goals as goal

pub returns-in-Ok-explanation_of-clause-tells : goal.returns-in-Ok-explanation_of-clause-tells
returns-in-Ok-explanation_of-clause-tells g c =
    told_explanation _ c.args.name.now c.in-Ok-explanation_of.text c.args.partitions c.in-Ok.file c.get.result.now (sym c.get.ensures) c.in-Ok.ensures.tells c.in-Ok-explanation_of.ensures
