use Rattle.hy_connect.proofs.Merger.{call_held, call_less, call_rows, call_took}
use Rattle.hy_connect.proofs.merge.MergeTaker.take.Goals as goal

pub take-requires-clause-held : goal.take-requires-clause-held
take-requires-clause-held g c =
    let i = c.self.inside in
    call_held c.args.self.now i.keys i.sources.items i.current i.given_up c.self.view_is c.in-Some.s c.args.bank.now.out c.deref.result.now c.index_mut.result.now c.deref.ensures.value c.in-Some.ensures.some c.index_mut.ensures.value c.requires.held

pub returns-clause-told : goal.returns-clause-told
returns-clause-told g c =
    let i = c.self.inside in
    call_took c.args.self.now i.keys i.sources.items i.current i.given_up c.self.view_is g.P.Port.happens c.args.port.now c.take.new.port c.args.bank.now c.take.new.bank c.in-Some.s c.deref.result.now c.index_mut.result.now c.take.new.self c.take.result
    c.deref.ensures.value c.in-Some.ensures.some c.index_mut.ensures.value c.take.ensures.told

pub returns-clause-rows : goal.returns-clause-rows
returns-clause-rows g c =
    let i = c.self.inside in
    call_rows c.args.self.now i.keys i.sources.items i.current i.given_up c.self.view_is (g.P.Port.arity c.args.port.now) c.in-Some.s c.deref.result.now c.index_mut.result.now c.take.new.self
    c.deref.ensures.value c.in-Some.ensures.some c.index_mut.ensures.value c.take.ensures.rows

pub returns-clause-frames : goal.returns-clause-frames
returns-clause-frames g c =
    let i = c.self.inside in
    call_less c.args.self.now i.keys i.sources.items i.current i.given_up c.self.view_is g.P.Port.happens c.args.port.now c.take.new.port c.args.bank.now c.take.new.bank c.in-Some.s c.deref.result.now c.index_mut.result.now c.take.new.self c.take.result
    c.deref.ensures.value c.in-Some.ensures.some c.take.ensures.told
