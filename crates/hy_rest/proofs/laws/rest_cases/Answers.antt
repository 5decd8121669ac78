use Rattle.hy_rest.proofs.Cases.{in_order_stands, free_moves, free_stands, send_is_owed, feed_is_held, ended_stays_away, alive_has_some, finished_owes_none, passes_through, words_begin, words_go_on}
use Rattle.hy_rest.proofs.laws.rest_cases.Goals as goal

pub returns-clause-in_order : goal.returns-clause-in_order
returns-clause-in_order c = in_order_stands

pub returns-clause-free_moves : goal.returns-clause-free_moves
returns-clause-free_moves c = free_moves

pub returns-clause-free_stands : goal.returns-clause-free_stands
returns-clause-free_stands c = free_stands

pub returns-clause-sends : goal.returns-clause-sends
returns-clause-sends c = send_is_owed

pub returns-clause-feeds : goal.returns-clause-feeds
returns-clause-feeds c = feed_is_held

pub returns-clause-ended : goal.returns-clause-ended
returns-clause-ended c = ended_stays_away

pub returns-clause-alive : goal.returns-clause-alive
returns-clause-alive c = alive_has_some

pub returns-clause-finished : goal.returns-clause-finished
returns-clause-finished c = finished_owes_none

pub returns-clause-words_begin : goal.returns-clause-words_begin
returns-clause-words_begin c = words_begin

pub returns-clause-words_go_on : goal.returns-clause-words_go_on
returns-clause-words_go_on c = words_go_on

pub returns-clause-through : goal.returns-clause-through
returns-clause-through c = passes_through
