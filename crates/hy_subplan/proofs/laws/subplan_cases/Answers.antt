use Rattle.hy_subplan.proofs.CaseProofs.{equal_keys_are_stretch, other_key_breaks, stretch_has_two_turns}
use Rattle.hy_subplan.proofs.laws.subplan_cases.Goals as goal

pub returns-clause-stretch : goal.returns-clause-stretch
returns-clause-stretch c = equal_keys_are_stretch

pub returns-clause-breaks : goal.returns-clause-breaks
returns-clause-breaks c = other_key_breaks

pub returns-clause-turns : goal.returns-clause-turns
returns-clause-turns c = stretch_has_two_turns
