use Rattle.hy_worker.specs.Worker.{WorkerOf, worker_of}
use Rattle.hy_worker.proofs.Keeping.{room_to_take}
use Rattle.hy_worker.proofs.Taking.{call_step, call_took, call_whole}
use Rattle.hy_worker.proofs.Working.{index_held}
use Rattle.hy_worker.proofs.pipeline.Pipeline.take.Goals as goal

pub take-requires-clause-held : goal.take-requires-clause-held
take-requires-clause-held g c =
    let p = c.args.self.now in
    let w : WorkerOf = worker_of p.inputs.items (g.D.Driver.seen p.operator) p.output p.ended.items p.phase (g.D.Driver.stored p.operator) (g.D.Driver.hands p.operator) in
    index_held w c.args.bank.now c.args.input c.index_mut.result.now c.requires.whole c.requires.there c.index_mut.ensures.value

pub take-requires-clause-room : goal.take-requires-clause-room
take-requires-clause-room g c =
    let p = c.args.self.now in
    let w : WorkerOf = worker_of p.inputs.items (g.D.Driver.seen p.operator) p.output p.ended.items p.phase (g.D.Driver.stored p.operator) (g.D.Driver.hands p.operator) in
    room_to_take w c.args.bank.now c.requires.whole

pub returns-clause-told : goal.returns-clause-told
returns-clause-told g c =
    let p = c.args.self.now in
    let w : WorkerOf = worker_of p.inputs.items (g.D.Driver.seen p.operator) p.output p.ended.items p.phase (g.D.Driver.stored p.operator) (g.D.Driver.hands p.operator) in
    call_took g.P.Port.happens (g.P.Port.arity c.args.port.now) c.args.port.now c.take.new.port w c.args.bank.now c.take.new.bank c.args.input c.index_mut.result.now c.take.new.self c.take.result c.requires.there c.index_mut.ensures.value c.take.ensures.told

pub returns-clause-whole : goal.returns-clause-whole
returns-clause-whole g c =
    let p = c.args.self.now in
    let w : WorkerOf = worker_of p.inputs.items (g.D.Driver.seen p.operator) p.output p.ended.items p.phase (g.D.Driver.stored p.operator) (g.D.Driver.hands p.operator) in
    call_whole g.P.Port.happens (g.P.Port.arity c.args.port.now) c.args.port.now c.take.new.port w c.args.bank.now c.take.new.bank c.args.input c.index_mut.result.now c.take.new.self c.take.result c.requires.there c.index_mut.ensures.value c.take.ensures.told
    c.requires.whole c.requires.wants c.requires.comes c.take.ensures.still c.take.ensures.rows c.take.ensures.none c.take.ensures.bank

pub returns-clause-step : goal.returns-clause-step
returns-clause-step g c =
    let p = c.args.self.now in
    let w : WorkerOf = worker_of p.inputs.items (g.D.Driver.seen p.operator) p.output p.ended.items p.phase (g.D.Driver.stored p.operator) (g.D.Driver.hands p.operator) in
    call_step g.P.Port.happens (g.P.Port.arity c.args.port.now) c.args.port.now c.take.new.port w c.args.bank.now c.take.new.bank c.args.input c.index_mut.result.now c.take.new.self c.take.result c.requires.there c.index_mut.ensures.value c.take.ensures.told
