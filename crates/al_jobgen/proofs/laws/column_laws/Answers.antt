use Rattle.al_jobgen.proofs.ColumnLaws.{expression, condition}
use Rattle.al_jobgen.proofs.ColumnRows.{values, cuts, renames, keys_same, hashes, assigns, unnests, orders, sorts, aggregates, aggregate_rows, kinds}
use Rattle.al_jobgen.proofs.ColumnJoins.{joins}
use Rattle.al_jobgen.proofs.ColumnGroups.{returned, groupings, stretches, distincts}
use Rattle.al_jobgen.proofs.NestedGives.{nested_plans, subplans, group_rows, stretch_rows}
use Rattle.al_jobgen.proofs.NestedChains.{row_wise_same}
use Rattle.al_jobgen.proofs.NestedRows.{states_join}
use Rattle.al_jobgen.proofs.NestedPieces.{pieces_grouped}
use Rattle.al_jobgen.proofs.NestedStates.{joined_row}
use Rattle.al_jobgen.proofs.NestedDistinct.{pieces_distinct}
use Rattle.al_jobgen.proofs.ColumnParts.{hashed_rows, interleaves}
use Rattle.al_jobgen.proofs.ColumnMaps.{assigned_rows, selected_rows, cut_rows, expanded_rows, renamed_rows, checks, joined_wide}
use Rattle.hy_job.proofs.ExprValues.{eval_valid, items_valid}
use Rattle.al_jobgen.proofs.NestedValid.{are_taken, have_values}
use Rattle.hy_job.proofs.RowValues.{agg_valid}
use Rattle.al_jobgen.proofs.laws.column_laws.Goals as goal

pub returns-clause-expressions : goal.returns-clause-expressions
returns-clause-expressions c = expression

pub returns-clause-conditions : goal.returns-clause-conditions
returns-clause-conditions c = condition

pub returns-clause-values : goal.returns-clause-values
returns-clause-values c = values

pub returns-clause-cuts : goal.returns-clause-cuts
returns-clause-cuts c = cuts

pub returns-clause-renames : goal.returns-clause-renames
returns-clause-renames c = renames

pub returns-clause-keys : goal.returns-clause-keys
returns-clause-keys c = keys_same

pub returns-clause-hashes : goal.returns-clause-hashes
returns-clause-hashes c = hashes

pub returns-clause-assigns : goal.returns-clause-assigns
returns-clause-assigns c = assigns

pub returns-clause-unnests : goal.returns-clause-unnests
returns-clause-unnests c = unnests

pub returns-clause-orders : goal.returns-clause-orders
returns-clause-orders c = orders

pub returns-clause-sorts : goal.returns-clause-sorts
returns-clause-sorts c = sorts

pub returns-clause-aggregates : goal.returns-clause-aggregates
returns-clause-aggregates c = aggregates

pub returns-clause-aggregate_rows : goal.returns-clause-aggregate_rows
returns-clause-aggregate_rows c = aggregate_rows

pub returns-clause-kinds : goal.returns-clause-kinds
returns-clause-kinds c = kinds

pub returns-clause-returns : goal.returns-clause-returns
returns-clause-returns c = returned

pub returns-clause-joins : goal.returns-clause-joins
returns-clause-joins c = joins

pub returns-clause-groupings : goal.returns-clause-groupings
returns-clause-groupings c vars rows w keys = groupings vars keys rows w

pub returns-clause-stretches : goal.returns-clause-stretches
returns-clause-stretches c vars rows w keys = stretches vars keys rows w

pub returns-clause-distincts : goal.returns-clause-distincts
returns-clause-distincts c = distincts

pub returns-clause-nested : goal.returns-clause-nested
returns-clause-nested c = nested_plans

pub returns-clause-subplans : goal.returns-clause-subplans
returns-clause-subplans c = subplans

pub returns-clause-group_rows : goal.returns-clause-group_rows
returns-clause-group_rows c = group_rows

pub returns-clause-stretch_rows : goal.returns-clause-stretch_rows
returns-clause-stretch_rows c = stretch_rows

pub returns-clause-row_wise : goal.returns-clause-row_wise
returns-clause-row_wise c = row_wise_same

pub returns-clause-states_join : goal.returns-clause-states_join
returns-clause-states_join c = states_join

pub returns-clause-pieces : goal.returns-clause-pieces
returns-clause-pieces c = pieces_grouped

pub returns-clause-distinct_pieces : goal.returns-clause-distinct_pieces
returns-clause-distinct_pieces c = pieces_distinct

pub returns-clause-parts : goal.returns-clause-parts
returns-clause-parts c made parts taken values = joined_row made parts values taken

pub returns-clause-hashed_rows : goal.returns-clause-hashed_rows
returns-clause-hashed_rows c = hashed_rows

pub returns-clause-interleaves : goal.returns-clause-interleaves
returns-clause-interleaves c = interleaves

pub returns-clause-assigned_rows : goal.returns-clause-assigned_rows
returns-clause-assigned_rows c = assigned_rows

pub returns-clause-selected_rows : goal.returns-clause-selected_rows
returns-clause-selected_rows c = selected_rows

pub returns-clause-cut_rows : goal.returns-clause-cut_rows
returns-clause-cut_rows c = cut_rows

pub returns-clause-expanded_rows : goal.returns-clause-expanded_rows
returns-clause-expanded_rows c = expanded_rows

pub returns-clause-renamed_rows : goal.returns-clause-renamed_rows
returns-clause-renamed_rows c = renamed_rows

pub returns-clause-checks : goal.returns-clause-checks
returns-clause-checks c = checks

pub returns-clause-joined_wide : goal.returns-clause-joined_wide
returns-clause-joined_wide c = joined_wide

pub returns-clause-values_stay : goal.returns-clause-values_stay
returns-clause-values_stay c = eval_valid

pub returns-clause-items : goal.returns-clause-items
returns-clause-items c = items_valid

pub returns-clause-taken : goal.returns-clause-taken
returns-clause-taken c = are_taken

pub returns-clause-nested_values : goal.returns-clause-nested_values
returns-clause-nested_values c = have_values

pub returns-clause-aggregate_values : goal.returns-clause-aggregate_values
returns-clause-aggregate_values c = agg_valid
