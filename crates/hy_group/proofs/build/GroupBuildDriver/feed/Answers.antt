use Rattle.std.proofs.Common.{◌≡◌, refl, length}
use Rattle.hy_group.specs.Fresh.{aggs_of, row_sees}
use Rattle.hy_group.proofs.BuildLaws.{build_fed, fed_turns}
use Rattle.hy_group.proofs.GroupLaws.{right_added}
use Rattle.hy_group.proofs.build.GroupBuildDriver.feed.Goals as goal

pub invariant_of-self-clause-each : goal.invariant_of-self-clause-each
invariant_of-self-clause-each g c =
    let d = c.args.self.now in
    right_added (row_sees d.arg.now.nested) (λ states. length states ≡ length (aggs_of d.arg.now.nested)) d.arg.now.keys _ _ d.groups c.add_row.new.groups c.in-Ok.ensures.added d.each

pub returns-in-Ok-clause-told : goal.returns-in-Ok-clause-told
returns-in-Ok-clause-told g c values are is =
    let d = c.args.self.now in
    build_fed _ refl d.arg.now _ d.groups c.add_row.new.groups d.rows d.ended d.phase _ c.args._input values c.args.row _ c.requires.to_come c.requires.width are is c.in-Ok.ensures.added

pub returns-in-Ok-clause-turns : goal.returns-in-Ok-clause-turns
returns-in-Ok-clause-turns g c =
    let d = c.args.self.now in
    fed_turns _ _ _ _ d.groups c.add_row.new.groups d.phase c.requires.hungry c.in-Ok.ensures.added
