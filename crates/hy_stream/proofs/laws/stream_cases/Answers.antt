use Rattle.hy_stream.proofs.Cases.{checks_fault, items_are_behind, limit_goes_on, one_is_empty, rows_are_shared, second_is_open, union_cuts_each, unions_are_even, windows_move}
use Rattle.hy_stream.proofs.laws.stream_cases.Goals as goal

pub returns-clause-limits : goal.returns-clause-limits
returns-clause-limits c = limit_goes_on

pub returns-clause-windows : goal.returns-clause-windows
returns-clause-windows c = windows_move

pub returns-clause-unions : goal.returns-clause-unions
returns-clause-unions c = union_cuts_each

pub returns-clause-inputs : goal.returns-clause-inputs
returns-clause-inputs c = second_is_open

pub returns-clause-even : goal.returns-clause-even
returns-clause-even c = unions_are_even

pub returns-clause-checks : goal.returns-clause-checks
returns-clause-checks c = checks_fault

pub returns-clause-shares : goal.returns-clause-shares
returns-clause-shares c = rows_are_shared

pub returns-clause-one : goal.returns-clause-one
returns-clause-one c = one_is_empty

pub returns-clause-items : goal.returns-clause-items
returns-clause-items c = items_are_behind
