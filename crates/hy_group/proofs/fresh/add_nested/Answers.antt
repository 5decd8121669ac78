use Rattle.std.proofs.Common.{sym, ◌∙◌}
use Rattle.indexmap.proofs.MapLemmas.{OnOk-map}
use Rattle.hy_job.specs.declared.nested.NestedPlan.TheVariants as P
use Rattle.hy_group.proofs.FreshLaws.{nested_seen}
use Rattle.hy_group.proofs.fresh.add_nested.Goals as goal

pub returns : goal.returns
returns c =
    OnOk-map c.add_over.result _ _
    (λ more. nested_seen c.args.plan.now c.get.result.now c.as_slice.result.now c.args.row.now c.args.states.now.items c.add_over.new.states.items (c.in-Aggregate.is ∙ (λ i. P.Aggregate (sym c.as_slice.ensures i) (sym c.get.ensures i))) more)
    c.add_over.ensures
