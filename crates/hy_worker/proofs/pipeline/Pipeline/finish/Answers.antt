use Rattle.hy_worker.specs.Worker.{WorkerOf, worker_of}
use Rattle.hy_worker.proofs.Keeping.{room_to_finish}
use Rattle.hy_worker.proofs.pipeline.Pipeline.finish.Goals as goal

pub finish-requires-clause-room : goal.finish-requires-clause-room
finish-requires-clause-room g c =
    let p = c.args.self.now in
    let w : WorkerOf = worker_of p.inputs.items (g.D.Driver.seen p.operator) p.output p.ended.items p.phase (g.D.Driver.stored p.operator) (g.D.Driver.hands p.operator) in
    room_to_finish w c.args.bank.now c.requires.whole
