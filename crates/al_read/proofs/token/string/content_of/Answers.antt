use Rattle.std.proofs.Common.{false}
use Rattle.al_read.specs.TokenReading.{content_at}
use Rattle.al_read.proofs.StringLaws.{step_more, step_ends, step_fails, step_shorter}
use Rattle.al_read.proofs.token.string.content_of.Goals as goal

pub loop-byte-smaller : goal.loop-byte-smaller
loop-byte-smaller c = step_shorter c.loop-byte.rest.now c.in-Some-Some-default.next.now c.in-Some-Some-default.field-0-0 c.in-Some-Some-default.ensures

pub loop-byte-preserved : goal.loop-byte-preserved
loop-byte-preserved c =
    let step = rw c.in-Some-Some-default.field-0-0-is at c.in-Some-Some-default.ensures in
    rw c.in_ok-push-in-Some-Some-default.ensures.ok
    (step_more c.loop-byte.content c.loop-byte.rest.now c.in-Some-Some-default.next.now c.in-Some-Some-default.byte (content_at false c.args.bytes.now) c.loop-byte.invariant step)

pub returns-in-Some-None-default : goal.returns-in-Some-None-default
returns-in-Some-None-default c =
    let step = rw c.in-Some-None-default.field-0-0-is at c.in-Some-None-default.ensures in
    step_ends c.loop-byte.content c.loop-byte.rest.now c.in-Some-None-default.after.now (content_at false c.args.bytes.now) c.loop-byte.invariant step

pub returns-in-None : goal.returns-in-None
returns-in-None c = step_fails c.loop-byte.content c.loop-byte.rest.now (content_at false c.args.bytes.now) c.loop-byte.invariant c.in-None.ensures
