use Rattle.al_phys.proofs.PlacedCases.{gather_placed, gather_needed, gather_needless}
use Rattle.al_phys.proofs.laws.placed_cases.Goals as goal

pub returns-clause-placed : goal.returns-clause-placed
returns-clause-placed c = gather_placed

pub returns-clause-needed : goal.returns-clause-needed
returns-clause-needed c = gather_needed

pub returns-clause-needless : goal.returns-clause-needless
returns-clause-needless c = gather_needless
