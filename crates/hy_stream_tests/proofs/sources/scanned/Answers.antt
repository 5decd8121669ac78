use Rattle.std.proofs.Common.{[], true≢false, ap, refl, sym, ◌∙◌}
use Rattle.hy_stream.specs.Source.{scan_seen}
use Rattle.hy_stream_tests.proofs.ReadyLaws.{new_ready}
use Rattle.hy_stream_tests.proofs.sources.scanned.Goals as goal

pub run-requires : goal.run-requires
run-requires c =
    let e = c.new-driver.ensures in
    new_ready 0 c.none.result.goes_on c.none-2.result.goes_on (scan_seen c.new-driver.result) c.new-bank.result (e.new [] []).phase refl (ap (λ f. f.unit) e.made) (ap (λ f. f.memory) e.made)
    (λ input. ap (λ f. f.width input) e.made) (λ h. absurd (true≢false (sym h ∙ c.none.ensures))) (λ h. absurd (true≢false (sym h ∙ c.none-2.ensures))) c.new-bank.ensures
