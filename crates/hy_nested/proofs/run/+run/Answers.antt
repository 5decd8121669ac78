use Rattle.std.proofs.Common.{sym, subst, ◌∙◌}
use Rattle.hy_job.specs.declared.nested.NestedPlan.TheVariants as P
use Rattle.hy_job.specs.Nested.{NAllows}
use Rattle.hy_nested.proofs.RunArms.{assign_reads, select_reads, unnest_reads, aggregate_reads}
use Rattle.hy_nested.proofs.run.+run.Goals as goal

pub assign_rows-requires : goal.assign_rows-requires
assign_rows-requires t c =
    assign_reads c.args.plan.now c.get.result.now c.args.outer.now c.in_ok-rows-in-Assign.rows c.requires c.in_ok-rows-in-Assign.ensures
    c.as_slice.result.now (c.in-Assign.is ∙ (λ i. P.Assign (sym c.as_slice.ensures i) (sym c.get.ensures i)))

pub select_rows-requires : goal.select_rows-requires
select_rows-requires t c =
    select_reads c.args.plan.now c.get-in-Select.result.now c.args.outer.now c.in_ok-rows-in-Select.rows c.requires c.in_ok-rows-in-Select.ensures
    c.in-Select.cond (c.in-Select.is ∙ (λ i. P.Select c.in-Select.cond (sym c.get-in-Select.ensures i)))

pub expand_rows-requires : goal.expand_rows-requires
expand_rows-requires t c =
    unnest_reads c.args.plan.now c.get-in-Unnest.result.now c.args.outer.now c.as_slice-in-Unnest.result.now c.requires (subst (NAllows c.get-in-Unnest.result.now c.args.outer.now) (sym c.as_slice-in-Unnest.ensures) c.in_ok-rows-in-Unnest.ensures)
    c.in-Unnest.items (c.in-Unnest.is ∙ (λ i. P.Unnest c.in-Unnest.items (sym c.get-in-Unnest.ensures i)))

pub agg_row-requires : goal.agg_row-requires
agg_row-requires t c =
    aggregate_reads c.args.plan.now c.get-in-Aggregate.result.now c.args.outer.now c.as_slice-in-Aggregate-2.result.now c.requires (subst (NAllows c.get-in-Aggregate.result.now c.args.outer.now) (sym c.as_slice-in-Aggregate-2.ensures) c.in_ok-rows-in-Aggregate.ensures)
    c.as_slice-in-Aggregate.result.now (c.in-Aggregate.is ∙ (λ i. P.Aggregate (sym c.as_slice-in-Aggregate.ensures i) (sym c.get-in-Aggregate.ensures i)))
