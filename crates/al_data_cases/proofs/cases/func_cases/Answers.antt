use Rattle.al_data_cases.proofs.Funcs.{int_functions, logic_of_three, text_functions, choices, items}
use Rattle.al_data_cases.proofs.cases.func_cases.Goals as goal

pub returns-clause-ints : goal.returns-clause-ints
returns-clause-ints c = int_functions

pub returns-clause-logic : goal.returns-clause-logic
returns-clause-logic c = logic_of_three

pub returns-clause-texts : goal.returns-clause-texts
returns-clause-texts c = text_functions

pub returns-clause-choices : goal.returns-clause-choices
returns-clause-choices c = choices

pub returns-clause-items : goal.returns-clause-items
returns-clause-items c = items
