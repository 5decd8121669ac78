use Rattle.hy_worker.specs.Worker.{WorkerOf, worker_of}
use Rattle.hy_worker.proofs.Keeping.{whole_offer}
use Rattle.hy_worker.proofs.pipeline.Pipeline.offer.Goals as goal

pub returns-clause-whole : goal.returns-clause-whole
returns-clause-whole g c = λ bank whole.
    let p = c.args.self.now in
    let w : WorkerOf = worker_of p.inputs.items (g.D.Driver.seen p.operator) p.output p.ended.items p.phase (g.D.Driver.stored p.operator) (g.D.Driver.hands p.operator) in
    whole_offer g.P.Port.happens c.args.port.now c.offer.new.port w bank whole c.offer.new.self c.offer.result c.offer.ensures.told c.offer.ensures.rest c.offer.ensures.held
