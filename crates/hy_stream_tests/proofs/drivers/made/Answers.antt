use Rattle.std.proofs.Common.{[], ap, refl, ◌∙◌}
use Rattle.hy_stream.specs.Stream.{stream_seen}
use Rattle.hy_stream_tests.proofs.ReadyLaws.{new_ready, pairs_wide}
use Rattle.hy_stream_tests.proofs.drivers.made.Goals as goal

pub run-requires : goal.run-requires
run-requires c =
    let e = c.new-driver.ensures in
    new_ready 2 c.args.left.goes_on c.args.right.goes_on (stream_seen c.new-driver.result) c.new-bank.result (e.new 0 [] []).phase refl (ap (λ f. f.unit) e.made) (ap (λ f. f.memory) e.made)
    (λ input. ap (λ f. f.width input) e.made ∙ pairs_wide c.args.arity input) (λ h. (e.input 0).0 c.requires.left) (λ h. (e.input 1).0 (c.requires.right h)) c.new-bank.ensures
