use Rattle.std.proofs.Common.{length}
use Rattle.al_read.specs.PlanReading.{state, next_at, list_at, expr_at}
use Rattle.al_read.proofs.PlanLists.{kept_on, kept_ends, kept_stops, kept_out}
use Rattle.al_read.proofs.plan.reader.Reader.+expr.Goals as goal

pub args-returns-in-Err : goal.args-returns-in-Err
args-returns-in-Err t c =
    let step = next_at (expr_at c.args.levels) in
    let total = list_at (expr_at c.args.levels) (state c.args.self.now) in
    kept_stops step total (length c.args.self.now.rest.now) c.loop-i._i c.loop-i.args (state c.loop-i.self) (state c.next_arg.new.self) c.in-Err.stopped c.loop-i-test.true c.loop-i.invariant c.in-Err.ensures

pub args-returns-in-Ok-None : goal.args-returns-in-Ok-None
args-returns-in-Ok-None t c =
    let step = next_at (expr_at c.args.levels) in
    let total = list_at (expr_at c.args.levels) (state c.args.self.now) in
    let read = rw c.in-Ok-None.field-0-is at c.in-Ok-None.ensures in
    kept_ends step total (length c.args.self.now.rest.now) c.loop-i._i c.loop-i.args (state c.loop-i.self) (state c.next_arg.new.self) c.loop-i-test.true c.loop-i.invariant read

pub args-loop-i-preserved : goal.args-loop-i-preserved
args-loop-i-preserved t c =
    let step = next_at (expr_at c.args.levels) in
    let total = list_at (expr_at c.args.levels) (state c.args.self.now) in
    let read = rw c.in-Ok-Some.field-0-is at c.in-Ok-Some.ensures in
    kept_on step total (length c.args.self.now.rest.now) c.loop-i._i c.loop-i.args c.push.new.self (state c.loop-i.self) (state c.next_arg.new.self) c.in-Ok-Some.arg c.loop-i-test.true c.in_ok-push-in-Ok-Some.ensures.ok c.loop-i.invariant read

pub args-returns : goal.args-returns
args-returns t c =
    let step = next_at (expr_at c.args.levels) in
    let total = list_at (expr_at c.args.levels) (state c.args.self.now) in
    kept_out step total (length c.args.self.now.rest.now) c.loop-i._i c.loop-i.args (state c.loop-i.self) c.loop-i-test.false c.loop-i.invariant
