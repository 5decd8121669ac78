use Rattle.hy_rows.proofs.Cases.{ends_owing_none, gives_the_first}
use Rattle.hy_rows.proofs.laws.row_cases.Goals as goal

pub returns-clause-first : goal.returns-clause-first
returns-clause-first c = gives_the_first

pub returns-clause-ends : goal.returns-clause-ends
returns-clause-ends c = ends_owing_none
