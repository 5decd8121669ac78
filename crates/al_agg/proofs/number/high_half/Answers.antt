use Rattle.std.proofs.Common.{arith}
use Rattle.std.proofs.lemmas.Int.{to_z-of_z}
use Rattle.al_agg.specs.Part.{high_half}
use Rattle.al_agg.proofs.number.high_half.Goals as goal

pub returns : goal.returns
unfolding high_half
returns c = grind (arith, to_z-of_z)
