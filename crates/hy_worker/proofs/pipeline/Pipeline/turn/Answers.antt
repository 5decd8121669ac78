use Rattle.std.proofs.Common.{subst}
use Rattle.hy_driver.specs.Steps.{TellsTurn}
use Rattle.hy_driver.specs.declared.phase.Phase.TheVariants.{Working}
use Rattle.hy_worker.specs.Worker.{WorkerOf, worker_of}
use Rattle.hy_worker.proofs.Keeping.{operator_room, whole_operator}
use Rattle.hy_worker.proofs.Working.{room_to_pack, row_unpacked, turned_row}
use Rattle.hy_worker.proofs.pipeline.Pipeline.turn.Goals as goal

pub next-requires-clause-room : goal.next-requires-clause-room
next-requires-clause-room g c =
    let p = c.args.self.now in
    operator_room (worker_of p.inputs.items (g.D.Driver.seen p.operator) p.output p.ended.items p.phase (g.D.Driver.stored p.operator) (g.D.Driver.hands p.operator)) c.args.bank.now c.requires.whole

pub push-requires-clause-room : goal.push-requires-clause-room
push-requires-clause-room g c =
    let p = c.args.self.now in
    let d = c.next.new.self in
    let w : WorkerOf = worker_of p.inputs.items (g.D.Driver.seen p.operator) p.output p.ended.items p.phase (g.D.Driver.stored p.operator) (g.D.Driver.hands p.operator) in
    room_to_pack (worker_of p.inputs.items (g.D.Driver.seen d) p.output p.ended.items p.phase (g.D.Driver.stored d) (g.D.Driver.hands d)) c.next.new.bank
    (whole_operator w c.args.bank.now c.requires.whole (g.D.Driver.seen d) p.phase (g.D.Driver.stored d) (g.D.Driver.hands d) c.next.new.bank
    (record { lent = c.next.ensures.bank; frames = c.next.ensures.frames; fixed = c.next.ensures.fixed; faults = c.next.ensures.faults }))

pub returns-in-Ok-clause-told : goal.returns-in-Ok-clause-told
returns-in-Ok-clause-told g c =
    let p = c.args.self.now in
    let d = c.next.new.self in
    let w : WorkerOf = worker_of p.inputs.items (g.D.Driver.seen p.operator) p.output p.ended.items p.phase (g.D.Driver.stored p.operator) (g.D.Driver.hands p.operator) in
    turned_row w (g.D.Driver.seen d) Working (g.D.Driver.stored d) (g.D.Driver.hands d) c.next.new.out c.in-Ok-Row.ensures.inputs c.push.new.self
    (subst (TellsTurn (g.D.Driver.seen p.operator) c.next.new.out (g.D.Driver.seen d)) c.in-Ok-Row.field-0-is c.in-Ok-Row.ensures.told) c.in-Ok.ensures.ok

pub returns-in-Err-push-clause-told : goal.returns-in-Err-push-clause-told
returns-in-Err-push-clause-told g c =
    let p = c.args.self.now in
    let d = c.next.new.self in
    let w : WorkerOf = worker_of p.inputs.items (g.D.Driver.seen p.operator) p.output p.ended.items p.phase (g.D.Driver.stored p.operator) (g.D.Driver.hands p.operator) in
    row_unpacked w (g.D.Driver.seen d) Working (g.D.Driver.stored d) (g.D.Driver.hands d) c.next.new.out c.in-Ok-Row.ensures.inputs c.push.new.self
    (subst (TellsTurn (g.D.Driver.seen p.operator) c.next.new.out (g.D.Driver.seen d)) c.in-Ok-Row.field-0-is c.in-Ok-Row.ensures.told) c.in-Err-push.ensures.err
