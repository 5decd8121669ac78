use Rattle.hy_operator.proofs.SoundLaws.{activities_fit}
use Rattle.hy_operator.proofs.laws.operator_laws.Goals as goal

pub returns : goal.returns
returns c = activities_fit
