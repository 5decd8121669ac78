use Rattle.std.proofs.Common.{length}
use Rattle.al_read.specs.PlanReading.{state, next_at, list_at, behind_items}
use Rattle.al_read.proofs.PlanLists.{kept_on, kept_ends, kept_stops, kept_out}
use Rattle.al_read.proofs.plan.items.others.Goals as goal

pub returns-in-Err : goal.returns-in-Err
returns-in-Err g c =
    let step = next_at (g.T.Item.at c.args.levels) in
    let total = behind_items c.args.first (list_at (g.T.Item.at c.args.levels) (state c.args.reader.now)) in
    kept_stops step total (length c.args.reader.now.rest.now) c.loop-i._i c.loop-i.items (state c.loop-i.reader) (state c.next.new.reader) c.in-Err.stopped c.loop-i-test.true c.loop-i.invariant c.in-Err.ensures

pub returns-in-Ok-None : goal.returns-in-Ok-None
returns-in-Ok-None g c =
    let step = next_at (g.T.Item.at c.args.levels) in
    let total = behind_items c.args.first (list_at (g.T.Item.at c.args.levels) (state c.args.reader.now)) in
    let read = rw c.in-Ok-None.field-0-is at c.in-Ok-None.ensures in
    kept_ends step total (length c.args.reader.now.rest.now) c.loop-i._i c.loop-i.items (state c.loop-i.reader) (state c.next.new.reader) c.loop-i-test.true c.loop-i.invariant read

pub loop-i-preserved : goal.loop-i-preserved
loop-i-preserved g c =
    let step = next_at (g.T.Item.at c.args.levels) in
    let total = behind_items c.args.first (list_at (g.T.Item.at c.args.levels) (state c.args.reader.now)) in
    let read = rw c.in-Ok-Some.field-0-is at c.in-Ok-Some.ensures in
    kept_on step total (length c.args.reader.now.rest.now) c.loop-i._i c.loop-i.items c.push.new.self (state c.loop-i.reader) (state c.next.new.reader) c.in-Ok-Some.item c.loop-i-test.true c.in_ok-push-in-Ok-Some.ensures.ok c.loop-i.invariant read

pub returns : goal.returns
returns g c =
    let step = next_at (g.T.Item.at c.args.levels) in
    let total = behind_items c.args.first (list_at (g.T.Item.at c.args.levels) (state c.args.reader.now)) in
    kept_out step total (length c.args.reader.now.rest.now) c.loop-i._i c.loop-i.items (state c.loop-i.reader) c.loop-i-test.false c.loop-i.invariant
