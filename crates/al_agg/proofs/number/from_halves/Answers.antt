use Rattle.std.proofs.Common.{arith}
use Rattle.std.proofs.lemmas.Int.{to_z-of_z}
use Rattle.al_agg.proofs.HalfLaws.{high_half-from, low_half-from}
use Rattle.al_agg.proofs.number.from_halves.Goals as goal

pub returns-clause-high : goal.returns-clause-high
returns-clause-high c =
    let law = high_half-from c.args.high c.args.low c.ranges.high c.ranges.low in
    grind (arith, to_z-of_z, law)

pub returns-clause-low : goal.returns-clause-low
returns-clause-low c =
    let law = low_half-from c.args.high c.args.low c.ranges.high c.ranges.low in
    grind (arith, to_z-of_z, law)
