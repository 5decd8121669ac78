use Rattle.std.proofs.Common.{[], true, ap, refl}
use Rattle.hy_test_runs.proofs.ReadyLaws.{new_ready}
use Rattle.hy_test_runs.proofs.joins.probe.Goals as goal

pub returns-in-Ok : goal.returns-in-Ok
returns-in-Ok c =
    let e = c.in-Ok.ensures in
    new_ready 2 true _ c.new_bank.result (e.new 0 []).phase refl (ap (λ f. f.unit) e.made) (ap (λ f. f.memory) e.made) (ap (λ f. f.width 0) e.made) (λ h. e.input 0) c.new_bank.ensures
