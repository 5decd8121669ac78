use Rattle.std.proofs.Common.{arith}
use Rattle.std.proofs.lemmas.Int.{to_z-of_z}
use Rattle.al_agg.specs.Part.{low_half}
use Rattle.al_agg.proofs.number.low_half.Goals as goal

pub returns : goal.returns
unfolding low_half
returns c = grind (arith, to_z-of_z)
