-- By these names a proof opens how a nested plan stores its inputs.
unfoldable pub use Rattle.hy_job.specs.declared.nested.NestedPlan.TheBlock.{shape-the_row-NestedPlan-0 as nested_shape, hidden-the_row-NestedPlan-0 as nested_hidden}
unfoldable pub use denote.Hole.Carrier.{hidden as row_hidden}
