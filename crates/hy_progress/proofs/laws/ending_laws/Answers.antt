use Rattle.hy_progress.proofs.CaseLaws.{records_settle}
use Rattle.hy_progress.proofs.laws.ending_laws.Goals as goal

pub returns : goal.returns
returns c = records_settle
