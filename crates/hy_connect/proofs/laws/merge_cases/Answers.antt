use Rattle.hy_connect.proofs.MergeCaseProofs.{first_bare_is_wanted, hand_comes_first, lesser_is_first, open_ones_send}
use Rattle.hy_connect.proofs.laws.merge_cases.Goals as goal

pub returns-clause-first_bare_is_wanted : goal.returns-clause-first_bare_is_wanted
returns-clause-first_bare_is_wanted c = first_bare_is_wanted

pub returns-clause-lesser_is_first : goal.returns-clause-lesser_is_first
returns-clause-lesser_is_first c = lesser_is_first

pub returns-clause-open_ones_send : goal.returns-clause-open_ones_send
returns-clause-open_ones_send c = open_ones_send

pub returns-clause-hand_comes_first : goal.returns-clause-hand_comes_first
returns-clause-hand_comes_first c = hand_comes_first
