use Rattle.std.proofs.Common.{sym, ◌∙◌}
use Rattle.std.specs.List.{list_all}
use Rattle.al_plan.specs.Names.{agg_exprs}
use Rattle.al_infer.specs.Asked.{asks}
use Rattle.al_infer.proofs.ListLaws.{list_all_flat, stops, ends}
use Rattle.al_infer.proofs.exprs.aggregated_keep.Goals as goal

pub returns-then-not-agg_keeps : goal.returns-then-not-agg_keeps
returns-then-not-agg_keeps c =
    stops (λ m. list_all (asks c.args.asked) (agg_exprs m.1)) _ c.args.made.now c.loop-call.call-index (list_all_flat (asks c.args.asked) (λ m. agg_exprs m.1) c.args.made.now) c.loop-call-item.result c.loop-call-test.true c.loop-call-item.is
    (sym c.agg_keeps.ensures ∙ c.if-not-agg_keeps.true)

pub returns : goal.returns
returns c =
    ends (λ m. list_all (asks c.args.asked) (agg_exprs m.1)) _ c.args.made.now c.loop-call.call-index (list_all_flat (asks c.args.asked) (λ m. agg_exprs m.1) c.args.made.now) c.loop-call-test.false c.loop-call.invariant
