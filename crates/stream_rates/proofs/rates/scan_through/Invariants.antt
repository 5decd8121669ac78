use Rattle.hy_stream.specs.Source.{scan_seen}
use Rattle.stream_rates.specs.Ready.{IsOpen, IsReady}
use Rattle.stream_rates.proofs.rates.scan_through.Given as goal

abbrev pub invariant-loop : goal.invariant-loop
invariant-loop g l = IsReady (scan_seen l.scan) l.bank × IsOpen (g.D.Driver.seen l.first) l.first_bank × IsOpen (g.D.Driver.seen l.second) l.second_bank
