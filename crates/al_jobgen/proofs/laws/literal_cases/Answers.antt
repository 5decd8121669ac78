use Rattle.al_jobgen.proofs.LiteralCases.{values_in_both, too_large_in_second, too_large_in_nested}
use Rattle.al_jobgen.proofs.laws.literal_cases.Goals as goal

pub returns-clause-values_in_both : goal.returns-clause-values_in_both
returns-clause-values_in_both c = values_in_both

pub returns-clause-too_large_in_second : goal.returns-clause-too_large_in_second
returns-clause-too_large_in_second c = too_large_in_second

pub returns-clause-too_large_in_nested : goal.returns-clause-too_large_in_nested
returns-clause-too_large_in_nested c = too_large_in_nested
