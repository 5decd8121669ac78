use Rattle.al_infer.proofs.AcceptLaws.{exact}
use Rattle.al_infer.proofs.FitLaws.{accepted_fits}
use Rattle.al_infer.proofs.ScanLaws.{accepted_scans}
use Rattle.al_infer.proofs.laws.acceptance_laws.Goals as goal

pub returns-clause-exact : goal.returns-clause-exact
returns-clause-exact c = exact

pub returns-clause-fits : goal.returns-clause-fits
returns-clause-fits c = accepted_fits

pub returns-clause-scans : goal.returns-clause-scans
returns-clause-scans c = accepted_scans
