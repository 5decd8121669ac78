use Rattle.al_phys.proofs.MeetsLaws.{met_serves}
use Rattle.al_phys.proofs.CountLaws.{many}
use Rattle.al_phys.proofs.DeliveredLaws.{delivered_holds}
use Rattle.al_phys.proofs.laws.phys_laws.Goals as goal

pub returns-clause-met : goal.returns-clause-met
returns-clause-met c = met_serves

pub returns-clause-many : goal.returns-clause-many
returns-clause-many c = many

pub returns-clause-delivered : goal.returns-clause-delivered
returns-clause-delivered c = delivered_holds
