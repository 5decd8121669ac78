use Rattle.std.proofs.Common.{[], ap, refl}
use Rattle.hy_stream.specs.Source.{scan_seen}
use Rattle.stream_rates.proofs.ReadyLaws.{new_ready}
use Rattle.stream_rates.proofs.rates.scan_through.Goals as goal

pub loop-init : goal.loop-init
loop-init g c =
    let e = c.new-scan.ensures in (
      new_ready (scan_seen c.new-scan.result) c.new-bank.result (e.new [] []).phase refl (ap (λ f. f.unit) e.made) (ap (λ f. f.memory) e.made) c.new-bank.ensures,
      c.requires.first,
      c.requires.second,
    )
