use Rattle.std.proofs.Common.{◌≡◌, true, length, is_ok, ap, rules}
use Rattle.hy_frame.specs.Cuts.{frame_rows}
use Rattle.hy_frame.specs.Frame.{FrameOf, sized}
use Rattle.hy_frame.proofs.ParseLaws.{load_room, load_holds}
use Rattle.hy_frame.proofs.frame.Frame.load.Goals as goal

pub start_of-used-requires : goal.start_of-used-requires
start_of-used-requires c = load_room _ _ _ _ c.in-Ok.ensures.ok

pub invariant_of-self-2 : goal.invariant_of-self-2
invariant_of-self-2 c =
    let good : is_ok c.extend_from_slice.result ≡ true = search rules in
    let items = rw (good, c.clear.ensures.items) at c.extend_from_slice.ensures.items in
    let holds = load_holds _ _ _ _ _ c.self.invariant.least_unit c.self.invariant.most_unit c.in-Ok.ensures.ok c.start_of-used.ensures.first c.start_of-used.ensures.later in
    rw items holds.0

pub returns-clause-ok : goal.returns-clause-ok
returns-clause-ok c =
    let good : is_ok c.extend_from_slice.result ≡ true = search rules in
    let items = rw (good, c.clear.ensures.items) at c.extend_from_slice.ensures.items in
    let holds = load_holds _ _ _ _ _ c.self.invariant.least_unit c.self.invariant.most_unit c.in-Ok.ensures.ok c.start_of-used.ensures.first c.start_of-used.ensures.later in
    let view = ap (λ (f : FrameOf). sized f (length c.args.bytes.now) (frame_rows c.self.inside.arity c.in-Ok.count c.args.bytes.now)) c.self.view_is in
    rw items (view, holds.1)
