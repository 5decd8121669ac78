-- Nested plans that are sound, and that they give a row over any rows.
use Rattle.std.specs.Prelude.{◌≡◌, ◌<◌, ℕ, true, List, [], ◌∷◌}
use Rattle.std.specs.Coded.{Coded-set, coded_bool, le_prop, ×_prop, Unit-prop}
use Rattle.std.specs.List.{AllByRecursion-prop}
use Rattle.al_func.specs.declared.rex.Rex.{Rex}
use Rattle.al_func.specs.Rex.{IsSound, is_sound}
use Rattle.hy_driver.specs.Rows.{Row}
use Rattle.hy_job.specs.declared.nested.AggRex.{AggRex}
use Rattle.hy_job.specs.declared.nested.NestedPlan.{NestedPlan, more_of-NestedPlan as Is, end_of-NestedPlan as At}
use Rattle.hy_job.specs.declared.nested.NestedPlan.TheVariants.{Nested, Assign', Select', Project', Unnest', Order', Distinct', Limit', Aggregate'}
use Rattle.hy_job.specs.Nested.{NAllows, n_width}
use Rattle.hy_job.specs.Sound.{NSound, AreSound, AreSoundAggs, agg_exprs, is_aggregate, item_exprs}

AreSound-prop : (width : ℕ) (made : List Rex) → IsProp (AreSound width made)
AreSound-prop width made = AllByRecursion-prop (IsSound width) (λ e. Coded-set coded_bool (is_sound width e) true) made

AreSoundAggs-prop : (width : ℕ) (made : List AggRex) → IsProp (AreSoundAggs width made)
AreSoundAggs-prop width made = AllByRecursion-prop (λ a. AreSound width (agg_exprs a)) (λ a. AreSound-prop width (agg_exprs a)) made

pub NSound-prop : (n : NestedPlan) (width : ℕ) → IsProp (NSound n width)
NSound-prop Nested width = Unit-prop
NSound-prop (Assign' made _ (Is p At)) width = ×_prop (NSound-prop p width) (AreSound-prop (n_width p width) made)
NSound-prop (Select' c _ (Is p At)) width = ×_prop (NSound-prop p width) (Coded-set coded_bool (is_sound (n_width p width) c) true)
NSound-prop (Project' columns _ (Is p At)) width = ×_prop (NSound-prop p width) (AllByRecursion-prop (λ j. j < n_width p width) (λ j. le_prop) columns)
NSound-prop (Unnest' g _ (Is p At)) width = ×_prop (NSound-prop p width) (AreSound-prop (n_width p width) (item_exprs g))
NSound-prop (Order' keys _ (Is p At)) width = ×_prop (NSound-prop p width) (AllByRecursion-prop (λ k. k.column < n_width p width) (λ k. le_prop) keys)
NSound-prop (Distinct' _ (Is p At)) width = NSound-prop p width
NSound-prop (Limit' n k _ (Is p At)) width = NSound-prop p width
NSound-prop (Aggregate' made _ (Is p At)) width = ×_prop (NSound-prop p width) (AreSoundAggs-prop (n_width p width) made)

-- where its root is an aggregate, it gives a row over any rows
abbrev pub NestedPlansGive : Type 0
NestedPlansGive = (n : NestedPlan) (outer : List Row) → is_aggregate n ≡ true → (inner : Row) × NAllows n outer (inner ∷ [])
