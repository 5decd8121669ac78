use Rattle.std.proofs.Common.{rules, is_lt}
use Rattle.std.proofs.lemmas.List.Sorted.{ranks_by}
use Rattle.std.proofs.lemmas.Fn.{always_returns_same}
use Rattle.hy_job.specs.Columns.{Row, keys_cmp}
use Rattle.hy_job.proofs.KeyOrder.{keys_cmp_total}
use Rattle.hy_job.proofs.sort.sort_rows.Goals as goal

pub returns-clause-sorted : goal.returns-clause-sorted
returns-clause-sorted c =
    let sorted = c.in_ok-sort_by.ensures.sorted (λ a b. is_lt (keys_cmp c.args.keys.now a b)) (ranks_by (keys_cmp_total c.args.keys.now) (λ (row : Row). row)) (always_returns_same _ _ _ (λ a r f k. search rules)) in
    rw c.from_vec.ensures sorted
