use Rattle.hy_rest.proofs.Rest.{in_order_continues, free_continues, held_continues, continues_then, idle_continues, in_order_alive, free_alive, held_alive, in_order_finished, free_finished, held_finished, none_open, finishes_with_none, runs_to_end}
use Rattle.hy_rest.proofs.laws.rest_laws.Goals as goal

pub returns-clause-in_order : goal.returns-clause-in_order
returns-clause-in_order g c old new = in_order_continues _ _ _ _

pub returns-clause-free : goal.returns-clause-free
returns-clause-free g c old new = free_continues _ _ _ _

pub returns-clause-for_each : goal.returns-clause-for_each
returns-clause-for_each g c old new = held_continues _ _ _ _ _ _

pub returns-clause-then_on : goal.returns-clause-then_on
returns-clause-then_on g c old new last = continues_then _ _ _

pub returns-clause-idle : goal.returns-clause-idle
returns-clause-idle g c old = idle_continues _

pub returns-clause-in_order_alive : goal.returns-clause-in_order_alive
returns-clause-in_order_alive g c old = in_order_alive _ _

pub returns-clause-free_alive : goal.returns-clause-free_alive
returns-clause-free_alive g c old = free_alive _ _

pub returns-clause-for_each_alive : goal.returns-clause-for_each_alive
returns-clause-for_each_alive g c old = held_alive _ _ _

pub returns-clause-finished : goal.returns-clause-finished
returns-clause-finished g c old = in_order_finished _ _

pub returns-clause-free_finished : goal.returns-clause-free_finished
returns-clause-free_finished g c old = free_finished _ _

pub returns-clause-for_each_finished : goal.returns-clause-for_each_finished
returns-clause-for_each_finished g c old = held_finished _ _ _

pub returns-clause-none_open : goal.returns-clause-none_open
returns-clause-none_open g c = none_open

pub returns-clause-with_none : goal.returns-clause-with_none
returns-clause-with_none g c last = finishes_with_none _

pub returns-clause-to_end : goal.returns-clause-to_end
returns-clause-to_end g c old last = runs_to_end _ _
