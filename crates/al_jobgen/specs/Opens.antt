-- By these names a proof opens how plans and nested plans store their inputs.
unfoldable pub use Rattle.al_plan.specs.declared.plan.Plan.TheBlock.{shape-the_row-Plan-0 as plan_shape, hidden-the_row-Plan-0 as plan_hidden}
unfoldable pub use Rattle.hy_job.specs.declared.nested.NestedPlan.TheBlock.{shape-the_row-NestedPlan-0 as nested_shape, hidden-the_row-NestedPlan-0 as nested_hidden}
unfoldable pub use denote.Hole.Carrier.{hidden as row_hidden}
