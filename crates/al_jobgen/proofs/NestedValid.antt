-- What row-wise nested plans take their aggregates over are values, where the rows and the literals are.
use Rattle.std.proofs.Common.{List, [], ◌∷◌, flat_map}
use Rattle.std.specs.List.{AllByRecursion}
use Rattle.std.proofs.lemmas.List.Elements.{All-from_recursion}
use Rattle.al_value.specs.Value.{IsValue}
use Rattle.hy_job.specs.declared.nested.AggRex.{AggRex}
use Rattle.hy_job.specs.declared.nested.NestedPlan.{NestedPlan, more_of-NestedPlan as Is, end_of-NestedPlan as At}
use Rattle.hy_job.specs.declared.nested.NestedPlan.TheVariants.{Nested, Assign', Select', Project', Unnest', Order', Distinct', Limit', Aggregate'}
use Rattle.al_jobgen.specs.Opens.{nested_shape, nested_hidden, row_hidden}
use Rattle.hy_job.specs.Columns.{Row, agg_values}
use Rattle.hy_job.specs.Nested.{chain_rows}
use Rattle.hy_job.specs.Literals.{agg_literals, n_literals}
use Rattle.hy_job.specs.Columns.{AreValues}
use Rattle.al_jobgen.specs.Agree.{AreTaken, HaveValues}
use Rattle.al_jobgen.proofs.ColumnLists.{all_halves}
use Rattle.hy_job.proofs.RowValues.{keeps_values, taken_valid}

-- ---- aggregates

pub are_taken : (made : List AggRex) → AllByRecursion IsValue (flat_map agg_literals made) → (rows : List Row) → AllByRecursion AreValues rows → AreTaken made rows
are_taken [] h rows r = tt
are_taken (a ∷ made) h rows r =
    let both = all_halves IsValue (agg_literals a) (flat_map agg_literals made) h in
    (All-from_recursion IsValue (agg_values a rows) (taken_valid a both.0 rows r), are_taken made both.1 rows r)

pub have_values : (n : NestedPlan) → AllByRecursion IsValue (n_literals n) → (rows : List Row) → AllByRecursion AreValues rows → HaveValues n rows
unfolding nested_shape nested_hidden row_hidden
have_values Nested h rows r = tt
have_values (Assign' made _ (Is p At)) h rows r = tt
have_values (Select' c _ (Is p At)) h rows r = tt
have_values (Project' columns _ (Is p At)) h rows r = tt
have_values (Unnest' g _ (Is p At)) h rows r = tt
have_values (Order' keys _ (Is p At)) h rows r = tt
have_values (Distinct' _ (Is p At)) h rows r = tt
have_values (Limit' n k _ (Is p At)) h rows r = tt
have_values (Aggregate' made _ (Is p At)) h rows r =
    let both = all_halves IsValue (flat_map agg_literals made) (n_literals p) h in are_taken made both.0 (chain_rows p rows) (keeps_values p both.1 rows r)
