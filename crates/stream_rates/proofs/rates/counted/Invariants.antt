use Rattle.hy_stream.specs.Stream.{stream_seen}
use Rattle.stream_rates.specs.Ready.{IsOpen}
use Rattle.stream_rates.proofs.rates.counted.Given as goal

abbrev pub invariant-loop : goal.invariant-loop
invariant-loop l = IsOpen (stream_seen l.select) l.select_bank × IsOpen (stream_seen l.last) l.last_bank
