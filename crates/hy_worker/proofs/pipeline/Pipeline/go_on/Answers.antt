use Rattle.std.proofs.Common.{◌≡◌, true, false, refl, sym, ap, ◌∙◌}
use Rattle.hy_driver.specs.declared.phase.Phase.TheVariants.{Working}
use Rattle.hy_input.specs.Inputs.{InputOf, given}
use Rattle.hy_worker.specs.Worker.{WorkerOf, worker_of}
use Rattle.hy_worker.proofs.Inputs.{read_set}
use Rattle.hy_worker.proofs.Working.{ended_whole, fed_whole, feed_fails, index_held, went_bank, went_fed, went_room, went_row, went_told}
use Rattle.hy_worker.proofs.pipeline.Pipeline.go_on.Goals as goal

pub advance-requires-clause-held : goal.advance-requires-clause-held
advance-requires-clause-held g c =
    let p = c.args.self.now in
    let w : WorkerOf = worker_of p.inputs.items (g.D.Driver.seen p.operator) p.output p.ended.items p.phase (g.D.Driver.stored p.operator) (g.D.Driver.hands p.operator) in
    index_held w c.args.bank.now c.args.input c.index_mut.result.now c.requires.whole c.requires.ready.0 c.index_mut.ensures.value

pub feed-requires-clause-bank : goal.feed-requires-clause-bank
feed-requires-clause-bank g c =
    let p = c.args.self.now in
    let w : WorkerOf = worker_of p.inputs.items (g.D.Driver.seen p.operator) p.output p.ended.items p.phase (g.D.Driver.stored p.operator) (g.D.Driver.hands p.operator) in
    went_bank w c.args.bank.now c.advance.new.bank c.args.input c.index_mut.result.now c.advance.new.self true c.requires.ready c.requires.whole c.requires.step c.index_mut.ensures.value c.if-advance.ensures.told c.if-advance.ensures.still c.if-advance.ensures.rows c.if-advance.ensures.bank

pub feed-requires-clause-room : goal.feed-requires-clause-room
feed-requires-clause-room g c =
    let p = c.args.self.now in
    let w : WorkerOf = worker_of p.inputs.items (g.D.Driver.seen p.operator) p.output p.ended.items p.phase (g.D.Driver.stored p.operator) (g.D.Driver.hands p.operator) in
    went_room w c.args.bank.now c.advance.new.bank c.args.input c.index_mut.result.now c.advance.new.self true c.requires.ready c.requires.whole c.requires.step c.index_mut.ensures.value c.if-advance.ensures.told c.if-advance.ensures.still c.if-advance.ensures.rows c.if-advance.ensures.bank

pub returns-in-Ok-clause-told : goal.returns-in-Ok-clause-told
returns-in-Ok-clause-told g c =
    let p = c.args.self.now in
    let w : WorkerOf = worker_of p.inputs.items (g.D.Driver.seen p.operator) p.output p.ended.items p.phase (g.D.Driver.stored p.operator) (g.D.Driver.hands p.operator) in
    let row_is : c.row-row.result ≡ given c.advance.new.self = c.row-row.ensures.row ∙ ap (λ (x : InputOf). given x) (read_set p.inputs.items c.args.input c.advance.new.self c.index.result.now c.requires.ready.0 c.index.ensures) in
    went_fed w c.args.input c.advance.new.self c.requires.ready.0 (g.D.Driver.seen c.feed.new.self) (g.D.Driver.stored c.feed.new.self) (g.D.Driver.hands c.feed.new.self) Working (went_told w c.args.bank.now c.advance.new.bank c.args.input c.index_mut.result.now c.advance.new.self true c.requires.ready c.requires.whole c.requires.step c.index_mut.ensures.value c.if-advance.ensures.told c.if-advance.ensures.still c.if-advance.ensures.rows c.if-advance.ensures.bank) (went_row w c.args.bank.now c.advance.new.bank c.args.input c.index_mut.result.now c.advance.new.self true c.requires.ready c.requires.whole c.requires.step c.index_mut.ensures.value c.if-advance.ensures.told c.if-advance.ensures.still c.if-advance.ensures.rows c.if-advance.ensures.bank refl)
    (λ values are same. c.in-Ok.ensures.told values are (same ∙ sym row_is)) c.in-Ok.ensures.inputs c.in-Ok.ensures.phase

pub returns-in-Ok-clause-whole : goal.returns-in-Ok-clause-whole
returns-in-Ok-clause-whole g c =
    let p = c.args.self.now in
    let w : WorkerOf = worker_of p.inputs.items (g.D.Driver.seen p.operator) p.output p.ended.items p.phase (g.D.Driver.stored p.operator) (g.D.Driver.hands p.operator) in
    fed_whole w c.args.bank.now c.advance.new.bank c.args.input c.index_mut.result.now c.advance.new.self true c.requires.ready c.requires.whole c.requires.step c.index_mut.ensures.value c.if-advance.ensures.told c.if-advance.ensures.still c.if-advance.ensures.rows c.if-advance.ensures.bank
    (g.D.Driver.seen c.feed.new.self) Working (g.D.Driver.stored c.feed.new.self) (g.D.Driver.hands c.feed.new.self) c.feed.new.bank (record { lent = c.feed.ensures.bank; frames = c.feed.ensures.frames; fixed = c.feed.ensures.fixed; faults = c.feed.ensures.faults })

pub returns-in-Err-clause-told : goal.returns-in-Err-clause-told
returns-in-Err-clause-told g c =
    let p = c.args.self.now in
    let w : WorkerOf = worker_of p.inputs.items (g.D.Driver.seen p.operator) p.output p.ended.items p.phase (g.D.Driver.stored p.operator) (g.D.Driver.hands p.operator) in
    let row_is : c.row-row.result ≡ given c.advance.new.self = c.row-row.ensures.row ∙ ap (λ (x : InputOf). given x) (read_set p.inputs.items c.args.input c.advance.new.self c.index.result.now c.requires.ready.0 c.index.ensures) in
    feed_fails w c.args.input c.advance.new.self c.requires.ready.0 (g.D.Driver.seen c.feed.new.self) (g.D.Driver.stored c.feed.new.self) (g.D.Driver.hands c.feed.new.self) p.phase c.in-Err.fault (went_told w c.args.bank.now c.advance.new.bank c.args.input c.index_mut.result.now c.advance.new.self true c.requires.ready c.requires.whole c.requires.step c.index_mut.ensures.value c.if-advance.ensures.told c.if-advance.ensures.still c.if-advance.ensures.rows c.if-advance.ensures.bank) (went_row w c.args.bank.now c.advance.new.bank c.args.input c.index_mut.result.now c.advance.new.self true c.requires.ready c.requires.whole c.requires.step c.index_mut.ensures.value c.if-advance.ensures.told c.if-advance.ensures.still c.if-advance.ensures.rows c.if-advance.ensures.bank refl)
    (λ values are same. c.in-Err.ensures.told values are (same ∙ sym row_is))

pub returns-in-Err-clause-whole : goal.returns-in-Err-clause-whole
returns-in-Err-clause-whole g c =
    let p = c.args.self.now in
    let w : WorkerOf = worker_of p.inputs.items (g.D.Driver.seen p.operator) p.output p.ended.items p.phase (g.D.Driver.stored p.operator) (g.D.Driver.hands p.operator) in
    fed_whole w c.args.bank.now c.advance.new.bank c.args.input c.index_mut.result.now c.advance.new.self true c.requires.ready c.requires.whole c.requires.step c.index_mut.ensures.value c.if-advance.ensures.told c.if-advance.ensures.still c.if-advance.ensures.rows c.if-advance.ensures.bank
    (g.D.Driver.seen c.feed.new.self) p.phase (g.D.Driver.stored c.feed.new.self) (g.D.Driver.hands c.feed.new.self) c.feed.new.bank (record { lent = c.feed.ensures.bank; frames = c.feed.ensures.frames; fixed = c.feed.ensures.fixed; faults = c.feed.ensures.faults })

pub end-requires-clause-bank : goal.end-requires-clause-bank
end-requires-clause-bank g c =
    let p = c.args.self.now in
    let w : WorkerOf = worker_of p.inputs.items (g.D.Driver.seen p.operator) p.output p.ended.items p.phase (g.D.Driver.stored p.operator) (g.D.Driver.hands p.operator) in
    went_bank w c.args.bank.now c.advance.new.bank c.args.input c.index_mut.result.now c.advance.new.self false c.requires.ready c.requires.whole c.requires.step c.index_mut.ensures.value c.if-advance.ensures.told c.if-advance.ensures.still c.if-advance.ensures.rows c.if-advance.ensures.bank

pub end-requires-clause-room : goal.end-requires-clause-room
end-requires-clause-room g c =
    let p = c.args.self.now in
    let w : WorkerOf = worker_of p.inputs.items (g.D.Driver.seen p.operator) p.output p.ended.items p.phase (g.D.Driver.stored p.operator) (g.D.Driver.hands p.operator) in
    went_room w c.args.bank.now c.advance.new.bank c.args.input c.index_mut.result.now c.advance.new.self false c.requires.ready c.requires.whole c.requires.step c.index_mut.ensures.value c.if-advance.ensures.told c.if-advance.ensures.still c.if-advance.ensures.rows c.if-advance.ensures.bank

pub returns-in-Ok-end-clause-whole : goal.returns-in-Ok-end-clause-whole
returns-in-Ok-end-clause-whole g c =
    let p = c.args.self.now in
    let w : WorkerOf = worker_of p.inputs.items (g.D.Driver.seen p.operator) p.output p.ended.items p.phase (g.D.Driver.stored p.operator) (g.D.Driver.hands p.operator) in
    ended_whole w c.args.bank.now c.advance.new.bank c.args.input c.index_mut.result.now c.advance.new.self false c.requires.ready c.requires.whole c.requires.step c.index_mut.ensures.value c.if-advance.ensures.told c.if-advance.ensures.still c.if-advance.ensures.rows c.if-advance.ensures.bank
    (g.D.Driver.seen c.end.new.self) p.phase (g.D.Driver.stored c.end.new.self) (g.D.Driver.hands c.end.new.self) c.end.new.bank (record { lent = c.end.ensures.bank; frames = c.end.ensures.frames; fixed = c.end.ensures.fixed; faults = c.end.ensures.faults }) (went_told w c.args.bank.now c.advance.new.bank c.args.input c.index_mut.result.now c.advance.new.self false c.requires.ready c.requires.whole c.requires.step c.index_mut.ensures.value c.if-advance.ensures.told c.if-advance.ensures.still c.if-advance.ensures.rows c.if-advance.ensures.bank) refl

pub returns-in-Err-end-clause-whole : goal.returns-in-Err-end-clause-whole
returns-in-Err-end-clause-whole g c =
    let p = c.args.self.now in
    let w : WorkerOf = worker_of p.inputs.items (g.D.Driver.seen p.operator) p.output p.ended.items p.phase (g.D.Driver.stored p.operator) (g.D.Driver.hands p.operator) in
    fed_whole w c.args.bank.now c.advance.new.bank c.args.input c.index_mut.result.now c.advance.new.self false c.requires.ready c.requires.whole c.requires.step c.index_mut.ensures.value c.if-advance.ensures.told c.if-advance.ensures.still c.if-advance.ensures.rows c.if-advance.ensures.bank
    (g.D.Driver.seen c.end.new.self) p.phase (g.D.Driver.stored c.end.new.self) (g.D.Driver.hands c.end.new.self) c.end.new.bank (record { lent = c.end.ensures.bank; frames = c.end.ensures.frames; fixed = c.end.ensures.fixed; faults = c.end.ensures.faults })
