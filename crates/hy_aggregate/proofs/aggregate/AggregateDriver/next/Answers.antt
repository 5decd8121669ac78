use Rattle.std.proofs.Common.{◌≡◌, rules, true, false, List, [], refl, sym, subst, ◌∙◌}
use Rattle.al_agg.specs.declared.part.Part.{Part}
use Rattle.hy_store.specs.Fields.{fields_of}
use Rattle.hy_driver.specs.Rows.{AreValues, Row}
use Rattle.hy_aggregate.specs.Aggregate.{agg_fixed}
use Rattle.hy_aggregate.specs.Work.{HaveTaken}
use Rattle.hy_aggregate.proofs.Aggregating.{agg_asks, agg_ends, agg_gives}
use Rattle.hy_aggregate.proofs.aggregate.AggregateDriver.next.Goals as goal

pub returns-then-not-self-clause-told : goal.returns-then-not-self-clause-told
returns-then-not-self-clause-told c =
    let d = c.args.self.now in
    let going : d.ended ≡ false = search rules in
    agg_asks (agg_fixed d) refl d.work d.states.items [] d.last d.ended d.phase going c.requires.going d.over

pub returns-then-not-self-2-clause-told : goal.returns-then-not-self-2-clause-told
returns-then-not-self-2-clause-told c =
    let d = c.args.self.now in
    let over : d.ended ≡ true = search rules in
    let given : d.last ≡ false = search rules in
    agg_ends (agg_fixed d) refl d.work d.states.items [] d.last d.ended d.phase given over c.requires.going

pub returns-clause-told : goal.returns-clause-told
returns-clause-told c =
    let d = c.args.self.now in
    let over : d.ended ≡ true = search rules in
    let still : d.last ≡ true = search rules in
    let same : d.states.items ≡ c.replace-states.result.items = search rules in
    let are : AreValues c.in_ok-row.row = subst AreValues c.as_slice.ensures c.in_ok-give_row.ensures.values in
    let is : fields_of c.in_ok-row.row ≡ c.give_row.new.out = subst (λ (row : Row). fields_of row ≡ c.give_row.new.out) c.as_slice.ensures c.in_ok-give_row.ensures.fields in
    agg_gives (agg_fixed d) refl d.work d.states.items c.replace-states.new.dest.items c.in_ok-row.row c.give_row.new.out d.last d.ended d.phase still over c.requires.going d.given are (c.in_ok-row.ensures.wide ∙ sym d.wide) is
    (λ rows h. c.in_ok-row.ensures.last rows (subst (λ (states : List Part). HaveTaken d.work rows states) same h))
