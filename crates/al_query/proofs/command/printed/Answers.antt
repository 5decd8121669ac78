use Rattle.std.proofs.Common.{sym}
use Rattle.al_query.proofs.Steps.{told_printed}
use Rattle.al_query.proofs.command.printed.Goals as goal

pub returns-in-Ok-print_plan-clause-tells : goal.returns-in-Ok-print_plan-clause-tells
returns-in-Ok-print_plan-clause-tells g c = told_printed _ c.args.name.now c.in-Ok-print_plan.text c.in-Ok.file c.get.result.now (sym c.get.ensures) c.in-Ok.ensures.tells c.in-Ok-print_plan.ensures
