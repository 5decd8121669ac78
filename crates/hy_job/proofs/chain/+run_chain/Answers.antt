use Rattle.std.proofs.Common.{sym, ◌∙◌}
use Rattle.hy_job.specs.declared.nested.NestedPlan.TheVariants as P
use Rattle.hy_job.proofs.Chains.{assign_fits, select_fits, unnest_fits}
use Rattle.hy_job.proofs.chain.+run_chain.Goals as goal

pub assign_rows-requires : goal.assign_rows-requires
assign_rows-requires t c =
    assign_fits c.args.plan.now c.get.result.now c.args.row.now c.in_ok-rows-in-Assign.rows c.requires.chain c.requires.sound c.in_ok-rows-in-Assign.ensures
    c.as_slice.result.now (c.in-Assign.is ∙ (λ i. P.Assign (sym c.as_slice.ensures i) (sym c.get.ensures i)))

pub select_rows-requires : goal.select_rows-requires
select_rows-requires t c =
    select_fits c.args.plan.now c.get-in-Select.result.now c.args.row.now c.in_ok-rows-in-Select.rows c.requires.chain c.requires.sound c.in_ok-rows-in-Select.ensures
    c.in-Select.cond (c.in-Select.is ∙ (λ i. P.Select c.in-Select.cond (sym c.get-in-Select.ensures i)))

pub expand_rows-requires : goal.expand_rows-requires
expand_rows-requires t c =
    unnest_fits c.args.plan.now c.get-in-Unnest.result.now c.args.row.now c.as_slice-in-Unnest.result.now c.requires.chain c.requires.sound (c.as_slice-in-Unnest.ensures ∙ c.in_ok-rows-in-Unnest.ensures)
    c.in-Unnest.items (c.in-Unnest.is ∙ (λ i. P.Unnest c.in-Unnest.items (sym c.get-in-Unnest.ensures i)))
