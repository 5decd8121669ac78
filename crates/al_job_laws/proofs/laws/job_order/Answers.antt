use Rattle.al_job_laws.proofs.PieceOrder.{in_order}
use Rattle.al_job_laws.proofs.laws.job_order.Goals as goal

pub returns : goal.returns
returns c = in_order
