use Rattle.al_read.proofs.Readings.{one}
use Rattle.al_read.proofs.token.one_reading.Goals as goal

pub returns : goal.returns
returns c = one
