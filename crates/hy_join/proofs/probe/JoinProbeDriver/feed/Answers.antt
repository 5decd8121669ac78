use Rattle.std.proofs.Common.{length, ap, sym, ◌∙◌}
use Rattle.hy_frame.specs.Row.{Fields}
use Rattle.hy_driver.specs.Rows.{values_of}
use Rattle.hy_join.specs.Keys.{hash_of}
use Rattle.hy_join.proofs.ProbeLaws.{fed_turns, probe_fed}
use Rattle.hy_join.proofs.probe.JoinProbeDriver.feed.Goals as goal

pub returns-clause-told : goal.returns-clause-told
returns-clause-told g c values are is =
    let d = c.args.self.now in
    let kept = c.in_ok-copy_from.ensures.ok in
    let hashed = c.key_hash-self.ensures ∙ (λ i. hash_of (c.as_slice.ensures i) (values_of (sym kept i))) in
    probe_fed d.side _ d.left c.copy_from.new.self _ d.ended d.phase c.args._input values c.requires.hungry d.works c.requires.to_come (ap (λ (row : Fields). length row) kept ∙ c.requires.width) hashed are (is ∙ sym kept)

pub returns-clause-turns : goal.returns-clause-turns
returns-clause-turns g c = let d = c.args.self.now in fed_turns d.side d.left c.key_hash-self.result d.phase c.requires.hungry
