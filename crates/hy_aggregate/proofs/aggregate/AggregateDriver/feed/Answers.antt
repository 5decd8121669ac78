use Rattle.std.proofs.Common.{◌≡◌, rules, true, false, ◌∷◌, [], ◌++◌, refl, subst, ◌∙◌}
use Rattle.hy_driver.specs.Rows.{Row}
use Rattle.hy_driver.specs.declared.phase.Phase.TheVariants.{Working}
use Rattle.hy_aggregate.specs.Aggregate.{agg_fixed}
use Rattle.hy_aggregate.specs.Work.{HaveTaken}
use Rattle.hy_aggregate.proofs.Aggregating.{agg_fed, agg_passed}
use Rattle.hy_aggregate.proofs.Lasting.{reads_values}
use Rattle.hy_aggregate.proofs.aggregate.AggregateDriver.feed.Goals as goal

pub returns-then-not-self-clause-told : goal.returns-then-not-self-clause-told
returns-then-not-self-clause-told c values are is =
    let d = c.args.self.now in
    let over : d.last ≡ false = search rules in
    agg_passed (agg_fixed d) refl d.work d.states.items d.last d.ended d.phase Working c.args.row c.args._input values over c.requires.to_come c.requires.width are is

pub take_row-requires-clause-reads : goal.take_row-requires-clause-reads
take_row-requires-clause-reads c =
    let d = c.args.self.now in
    reads_values d.work d.width c.args.row c.in_ok-values.values c.as_slice.result.now d.reads c.requires.width c.in_ok-values.ensures c.as_slice.ensures

pub returns-clause-told : goal.returns-clause-told
returns-clause-told c values are is =
    let d = c.args.self.now in
    let still : d.last ≡ true = search rules in
    agg_fed (agg_fixed d) refl d.work d.states.items c.take_row.new.states.items d.last d.ended d.phase Working c.args.row c.args._input values still c.requires.to_come c.requires.width are is
    (λ rows h. subst (λ (row : Row). HaveTaken d.work (rows ++ row ∷ []) c.take_row.new.states.items) (c.as_slice.ensures ∙ c.in_ok-values.ensures) (c.in_ok-take_row.ensures rows h))
