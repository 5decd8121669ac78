use Rattle.hy_wire_runs.proofs.DeskRuns.{no_sender_twice}
use Rattle.hy_wire_runs.proofs.desk.new_desk.Goals as goal

pub new-requires : goal.new-requires
new-requires c = no_sender_twice c.in_ok-plan_of.field-0 c.in_ok-plan_of-2.field-0 c.in_ok-plan_of-3.field-0 c.in_ok-plan_of-4.field-0 c.in_ok-plan_of.ensures c.in_ok-plan_of-2.ensures c.in_ok-plan_of-3.ensures c.in_ok-plan_of-4.ensures
