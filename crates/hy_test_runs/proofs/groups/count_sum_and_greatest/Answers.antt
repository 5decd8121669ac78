use Rattle.hy_test_runs.proofs.ArgumentLaws.{sums_made}
use Rattle.hy_test_runs.proofs.groups.count_sum_and_greatest.Goals as goal

pub returns : goal.returns
returns c = sums_made _ _ _ c.in_ok-keys.ensures c.in_ok-made.ensures c.in_ok-input.ensures
