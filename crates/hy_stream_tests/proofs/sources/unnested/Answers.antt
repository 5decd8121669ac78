use Rattle.std.proofs.Common.{[], true≢false, ap, refl, sym, ◌∙◌}
use Rattle.hy_stream.specs.Unnest.{unnest_seen}
use Rattle.hy_stream_tests.proofs.ReadyLaws.{new_ready}
use Rattle.hy_stream_tests.proofs.sources.unnested.Goals as goal

pub run-requires : goal.run-requires
run-requires c =
    let e = c.new-driver.ensures in
    new_ready 1 c.of.result.goes_on c.none.result.goes_on (unnest_seen c.new-driver.result) c.new-bank.result (e.new 0 0 [] []).phase refl (ap (λ f. f.unit) e.made) (ap (λ f. f.memory) e.made)
    (λ input. ap (λ f. f.width input) e.made) (λ h. e.input 0) (λ h. absurd (true≢false (sym h ∙ c.none.ensures))) c.new-bank.ensures
