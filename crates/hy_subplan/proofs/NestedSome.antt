-- A nested plan allows some rows over any rows.
use Rattle.std.proofs.Common.{◌≡◌, ℕ, Bool, true, false, true≢false, List, [], ◌∷◌, map, filter, take, drop, refl, sym}
use Rattle.std.specs.List.{dedup, flat_map}
use Rattle.std.specs.Ordering.{eq_by_cmp}
use Rattle.std.proofs.lemmas.List.Sorted.{IsPermutation-refl}
use Rattle.hy_job.specs.declared.nested.NestedPlan.{NestedPlan, more_of-NestedPlan as Is, end_of-NestedPlan as At}
use Rattle.hy_job.specs.declared.nested.NestedPlan.TheVariants.{Nested, Assign', Select', Project', Unnest', Order', Distinct', Limit', Aggregate'}
use Rattle.hy_job.specs.Columns.{Row, holds, cut, assigned, expanded, keys_cmp, agg_row}
use Rattle.hy_job.specs.Nested.{IsOrderOf, NAllows, n_ordered}
use Rattle.hy_job.proofs.KeyOrder.{keys_cmp_total}
use Rattle.hy_nested.proofs.Distincts.{distinct_sorted, row_cmp, row_cmp_total}
use Rattle.hy_rows.proofs.Sorting.{some_order}
use Rattle.hy_subplan.specs.Nesting.{NestedPlansGive}

as_it_is : (ordered : Bool) (rows : List Row) → IsOrderOf ordered rows rows
as_it_is true rows = refl
as_it_is false rows = IsPermutation-refl rows

some : (n : NestedPlan) (outer : List Row) → (rows : List Row) × NAllows n outer rows
some Nested outer = (outer, IsPermutation-refl outer)
some (Assign' made _ (Is p At)) outer = let h = some p outer in (map (assigned made) h.0, (h.0, h.1, refl))
some (Select' c _ (Is p At)) outer = let h = some p outer in (filter (holds c) h.0, (h.0, h.1, refl))
some (Project' columns _ (Is p At)) outer = let h = some p outer in (map (cut columns) h.0, (h.0, h.1, refl))
some (Unnest' g _ (Is p At)) outer = let h = some p outer in (flat_map (expanded g) h.0, (h.0, h.1, as_it_is (n_ordered p) (flat_map (expanded g) h.0)))
some (Order' keys _ (Is p At)) outer = let h = some p outer in let s = some_order (keys_cmp keys) (keys_cmp_total keys) h.0 in (s.0, (h.0, h.1, (s.1, s.2)))
some (Distinct' _ (Is p At)) outer =
    let h = some p outer in
    let s = some_order row_cmp row_cmp_total h.0 in
    (dedup (eq_by_cmp row_cmp) s.0, (h.0, h.1, distinct_sorted h.0 s.0 (dedup (eq_by_cmp row_cmp) s.0) s.1 s.2 refl))
some (Limit' n k _ (Is p At)) outer = let h = some p outer in (take n (drop k h.0), (h.0, h.1, refl))
some (Aggregate' made _ (Is p At)) outer = let h = some p outer in (agg_row made h.0 ∷ [], (h.0, h.1, refl))

pub nested_plans_give : NestedPlansGive
nested_plans_give Nested outer is = absurd (true≢false (sym is))
nested_plans_give (Assign' made _ (Is p At)) outer is = absurd (true≢false (sym is))
nested_plans_give (Select' c _ (Is p At)) outer is = absurd (true≢false (sym is))
nested_plans_give (Project' columns _ (Is p At)) outer is = absurd (true≢false (sym is))
nested_plans_give (Unnest' g _ (Is p At)) outer is = absurd (true≢false (sym is))
nested_plans_give (Order' keys _ (Is p At)) outer is = absurd (true≢false (sym is))
nested_plans_give (Distinct' _ (Is p At)) outer is = absurd (true≢false (sym is))
nested_plans_give (Limit' n k _ (Is p At)) outer is = absurd (true≢false (sym is))
nested_plans_give (Aggregate' made _ (Is p At)) outer is = let h = some p outer in (agg_row made h.0, (h.0, h.1, refl))
