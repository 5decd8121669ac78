use Rattle.al_query.proofs.Dues.{AreSingle, told_complete, told_due, some_line}
use Rattle.al_query.proofs.command.plain_command.Goals as goal

pub returns-clause-exact : goal.returns-clause-exact
returns-clause-exact g c =
    told_due (record { command = c.one_command.ensures; texts = record { reading = c.one_plan_reading.ensures.one; accepting = c.acceptance_laws.ensures.exact } }) _ _ c.serve-status.result c.serve-status.ensures.cause

pub returns-clause-line_part : goal.returns-clause-line_part
returns-clause-line_part g c = some_line c.write_line.result _ _ _ c.write_line.ensures.ok c.write_line.ensures.part

pub returns-clause-complete : goal.returns-clause-complete
returns-clause-complete g c =
    told_complete (record { command = c.one_command.ensures; texts = record { reading = c.one_plan_reading.ensures.one; accepting = c.acceptance_laws.ensures.exact } }) _ _ c.serve-status.result _ _
    c.serve-status.ensures.cause c.serve-status.ensures.source_fault c.serve-status.ensures.sink_fault
