use Rattle.std.proofs.Common.{[], false, true≢false, ap, refl, sym}
use Rattle.hy_test_runs.proofs.ReadyLaws.{new_ready}
use Rattle.hy_test_runs.proofs.groups.emit.Goals as goal

pub returns : goal.returns
returns c =
    let e = c.new-driver.ensures in
    new_ready c.args.built false _ c.new_bank.result (e.new 0 []).phase refl (ap (λ f. f.unit) e.made) (ap (λ f. f.memory) e.made) (ap (λ f. f.width 0) e.made) (λ h. absurd (true≢false (sym h))) c.new_bank.ensures
