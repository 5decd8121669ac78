use Rattle.hy_job.proofs.WireLaws.{wires_exchange}
use Rattle.hy_job.proofs.laws.wire_laws.Goals as goal

pub returns : goal.returns
returns c = wires_exchange
