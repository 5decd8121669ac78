use Rattle.al_conj.proofs.ConjLaws.{holds-conj, holds-all_of, names-conj, names-all_of, arities-conj, arities-all_of, conj-leaves, conj-all_of}
use Rattle.al_conj.proofs.laws.conjunct_laws.Goals as goal

pub returns-clause-decide : goal.returns-clause-decide
returns-clause-decide c = holds-conj

pub returns-clause-all_of_decides : goal.returns-clause-all_of_decides
returns-clause-all_of_decides c = holds-all_of

pub returns-clause-name : goal.returns-clause-name
returns-clause-name c = names-conj

pub returns-clause-all_of_names : goal.returns-clause-all_of_names
returns-clause-all_of_names c = names-all_of

pub returns-clause-call : goal.returns-clause-call
returns-clause-call c = arities-conj

pub returns-clause-all_of_calls : goal.returns-clause-all_of_calls
returns-clause-all_of_calls c = arities-all_of

pub returns-clause-are_leaves : goal.returns-clause-are_leaves
returns-clause-are_leaves c = conj-leaves

pub returns-clause-leaves_stay : goal.returns-clause-leaves_stay
returns-clause-leaves_stay c = conj-all_of
