use Rattle.std.proofs.Common.{rules, refl}
use Rattle.hy_driver.specs.Rows.{values_of}
use Rattle.hy_stream.specs.Unnest.{unnest_fixed}
use Rattle.hy_stream.proofs.UnnestLaws.{none_held, unnest_fed}
use Rattle.hy_stream.proofs.unnest.UnnestDriver.feed.Goals as goal

pub returns-clause-told : goal.returns-clause-told
returns-clause-told c values are is =
    let d = c.args.self.now in
    unnest_fed (unnest_fixed d) d.generator d.ended (values_of d.row) _ _ d.items _ d.at d.phase c.args._input values refl (none_held d.items d.at d.phase c.requires.hungry d.works) c.requires.to_come
    c.requires.width are is (search rules) (search rules)
