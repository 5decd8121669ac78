use Rattle.std.proofs.Common.{rules, is_lt, List, subst, ◌∙◌}
use Rattle.std.specs.List.Sorted.{IsPermutation}
use Rattle.std.specs.Ordering.{eq_by_cmp}
use Rattle.std.proofs.lemmas.List.Sorted.{ranks_by}
use Rattle.std.proofs.lemmas.Fn.{always_returns_same, dedup_same}
use Rattle.hy_job.specs.Columns.{Row}
use Rattle.hy_nested.proofs.Distincts.{row_cmp, row_cmp_total, distinct_sorted}
use Rattle.hy_nested.proofs.distinct.distinct_rows.Goals as goal

pub returns : goal.returns
returns c =
    let sorted = c.in_ok-sort_by.ensures.sorted (λ a b. is_lt (row_cmp a b)) (ranks_by row_cmp_total (λ (row : Row). row)) (always_returns_same _ _ _ (λ a r f k. search rules)) in
    let kept = dedup_same _ (eq_by_cmp row_cmp) _ (λ x y b f' x' y' k. search rules) _ _ c.dedup_by.ensures.filtered in
    distinct_sorted c.args.rows c.sort_by.new.self.items c.from_vec.result
    (subst (λ (rows : List Row). IsPermutation rows c.sort_by.new.self.items) c.into_vec-items.ensures c.sort_by.ensures.permutation)
    sorted (c.from_vec.ensures ∙ kept)
