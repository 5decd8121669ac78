use Rattle.std.proofs.Common.{[], ap, refl}
use Rattle.hy_stream.specs.Stream.{stream_seen}
use Rattle.stream_rates.proofs.ReadyLaws.{new_ready}
use Rattle.stream_rates.proofs.rates.driver.Goals as goal

pub returns : goal.returns
returns c =
    let e = c.new-driver.ensures in
    record {
      ready = new_ready (stream_seen c.new-driver.result) c.new.result (e.new 0 [] []).phase refl (ap (λ f. f.unit) e.made) (ap (λ f. f.memory) e.made) c.new.ensures;
      open_ = (e.input 0).0 c.requires.one;
      width = ap (λ f. f.width 0) e.made;
    }
