use Rattle.al_rule.proofs.WalkCases.{goes_down, goes_back, stops, follow, idle, first_input, second_input, second_rule}
use Rattle.al_rule.proofs.laws.walk_cases.Goals as goal

pub returns-clause-goes_down : goal.returns-clause-goes_down
returns-clause-goes_down c = goes_down

pub returns-clause-goes_back : goal.returns-clause-goes_back
returns-clause-goes_back c = goes_back

pub returns-clause-stops : goal.returns-clause-stops
returns-clause-stops c = stops

pub returns-clause-follow : goal.returns-clause-follow
returns-clause-follow c = follow

pub returns-clause-idle : goal.returns-clause-idle
returns-clause-idle c = idle

pub returns-clause-first_input : goal.returns-clause-first_input
returns-clause-first_input c = first_input

pub returns-clause-second_input : goal.returns-clause-second_input
returns-clause-second_input c = second_input

pub returns-clause-second_rule : goal.returns-clause-second_rule
returns-clause-second_rule c = second_rule
