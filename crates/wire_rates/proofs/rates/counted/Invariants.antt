use Rattle.hy_connect.specs.Routes.{HasColumns}
use Rattle.hy_connect.specs.Takers.{ComesAsPut}
use Rattle.wire_rates.proofs.rates.counted.Given as goal

abbrev pub invariant-loop : goal.invariant-loop
invariant-loop l = HasColumns 2 l.wire × ComesAsPut l.wire
