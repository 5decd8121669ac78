use Rattle.std.proofs.Common.{length}
use Rattle.al_read.specs.PlanReading.{state, part_at, parts_at}
use Rattle.al_read.proofs.PlanLists.{kept_on, kept_ends, kept_stops, kept_out}
use Rattle.al_read.proofs.plan.reader.Reader.parts.Goals as goal

pub returns-in-Err : goal.returns-in-Err
returns-in-Err c =
    let step = part_at in
    let total = parts_at (state c.args.self.now) in
    kept_stops step total (length c.args.self.now.rest.now) c.loop-i._i c.loop-i.datasets (state c.loop-i.self) (state c.part.new.self) c.in-Err.stopped c.loop-i-test.true c.loop-i.invariant c.in-Err.ensures

pub returns-in-Ok-None : goal.returns-in-Ok-None
returns-in-Ok-None c =
    let step = part_at in
    let total = parts_at (state c.args.self.now) in
    let read = rw c.in-Ok-None.field-0-is at c.in-Ok-None.ensures in
    kept_ends step total (length c.args.self.now.rest.now) c.loop-i._i c.loop-i.datasets (state c.loop-i.self) (state c.part.new.self) c.loop-i-test.true c.loop-i.invariant read

pub loop-i-preserved : goal.loop-i-preserved
loop-i-preserved c =
    let step = part_at in
    let total = parts_at (state c.args.self.now) in
    let read = rw c.in-Ok-Some.field-0-is at c.in-Ok-Some.ensures in
    kept_on step total (length c.args.self.now.rest.now) c.loop-i._i c.loop-i.datasets c.push.new.self (state c.loop-i.self) (state c.part.new.self) c.in-Ok-Some.dataset c.loop-i-test.true c.in_ok-push-in-Ok-Some.ensures.ok c.loop-i.invariant read

pub returns : goal.returns
returns c =
    let step = part_at in
    let total = parts_at (state c.args.self.now) in
    kept_out step total (length c.args.self.now.rest.now) c.loop-i._i c.loop-i.datasets (state c.loop-i.self) c.loop-i-test.false c.loop-i.invariant
