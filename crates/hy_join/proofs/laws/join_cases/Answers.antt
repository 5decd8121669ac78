use Rattle.hy_join.proofs.CaseProofs.{fields_of_null, free_until_the_end, null_has_no_hash, null_owes_itself, owes_itself_alone, owes_pairs, pairs_bring_turns, partners_have_hashes, places_are_counted, rest_decides}
use Rattle.hy_join.proofs.laws.join_cases.Goals as goal

pub returns-clause-order : goal.returns-clause-order
returns-clause-order c = free_until_the_end

pub returns-clause-fields : goal.returns-clause-fields
returns-clause-fields c = fields_of_null

pub returns-clause-pairs : goal.returns-clause-pairs
returns-clause-pairs c = owes_pairs

pub returns-clause-alone : goal.returns-clause-alone
returns-clause-alone c = owes_itself_alone

pub returns-clause-null : goal.returns-clause-null
returns-clause-null c = null_owes_itself

pub returns-clause-rest : goal.returns-clause-rest
returns-clause-rest c = rest_decides

pub returns-clause-turns : goal.returns-clause-turns
returns-clause-turns c = pairs_bring_turns

pub returns-clause-hashes : goal.returns-clause-hashes
returns-clause-hashes c = null_has_no_hash

pub returns-clause-places : goal.returns-clause-places
returns-clause-places c = places_are_counted

pub returns-clause-partners : goal.returns-clause-partners
returns-clause-partners c = partners_have_hashes
