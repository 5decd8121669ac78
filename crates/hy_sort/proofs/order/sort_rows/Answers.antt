use Rattle.std.proofs.Common.{rules, [], is_lt}
use Rattle.std.proofs.lemmas.List.Sorted.{ranks_by}
use Rattle.std.proofs.lemmas.Fn.{always_returns_same}
use Rattle.hy_driver.specs.Rows.{values_of}
use Rattle.hy_job.specs.Columns.{keys_cmp}
use Rattle.hy_job.proofs.KeyOrder.{keys_cmp_total}
use Rattle.hy_rows.proofs.Sorting.{sorted_keys}
use Rattle.hy_sort.proofs.order.sort_rows.Goals as goal

pub returns-clause-sorted : goal.returns-clause-sorted
returns-clause-sorted c =
    let sorted = c.in_ok-sort_by.ensures.sorted (λ a b. is_lt (keys_cmp c.args.keys.now (values_of a) (values_of b))) (ranks_by (keys_cmp_total c.args.keys.now) values_of) (always_returns_same _ _ _ (λ a r f k. search rules)) in
    sorted_keys values_of (keys_cmp c.args.keys.now) _ [] sorted
