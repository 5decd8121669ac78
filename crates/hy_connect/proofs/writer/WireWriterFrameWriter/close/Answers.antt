use Rattle.hy_frame.specs.declared.writer.WriterState.TheVariants.{Closed}
use Rattle.hy_connect.specs.Outlets.{closed}
use Rattle.hy_connect.proofs.Closing.{Parts, adds_parcels, all_exports, close_empty, close_ends, close_out, close_room, close_told, closed_parcels}
use Rattle.hy_connect.proofs.writer.WireWriterFrameWriter.close.Goals as goal

pub close_all-requires-clause-room : goal.close_all-requires-clause-room
close_all-requires-clause-room c =
    let i = c.self.inside in
    let p : Parts c.args.self.now i.route i.arity i.unit i.outlets.len c.deref_mut.result.now i.outlets.items i.state = record { view = c.self.view_is; is = c.self.invariant; value = c.deref_mut.ensures.value; len = i.outlets.ok.0 } in
    close_room c.args.self.now i.route i.arity i.unit i.outlets.len c.deref_mut.result.now i.outlets.items i.state p c.requires.ready

pub returns-clause-empty : goal.returns-clause-empty
returns-clause-empty c =
    let i = c.self.inside in
    let p : Parts c.args.self.now i.route i.arity i.unit i.outlets.len c.deref_mut.result.now i.outlets.items i.state = record { view = c.self.view_is; is = c.self.invariant; value = c.deref_mut.ensures.value; len = i.outlets.ok.0 } in
    close_empty c.args.self.now i.route i.arity i.unit i.outlets.len c.deref_mut.result.now i.outlets.items i.state p c.close_all.new.outlets c.close_all.ensures.outlets

pub returns-clause-out : goal.returns-clause-out
returns-clause-out c =
    let i = c.self.inside in
    let p : Parts c.args.self.now i.route i.arity i.unit i.outlets.len c.deref_mut.result.now i.outlets.items i.state = record { view = c.self.view_is; is = c.self.invariant; value = c.deref_mut.ensures.value; len = i.outlets.ok.0 } in
    close_out c.args.self.now i.route i.arity i.unit i.outlets.len c.deref_mut.result.now i.outlets.items i.state p c.close_all.new.outlets c.args.bank.now c.close_all.new.bank c.close_all.ensures.outlets c.close_all.ensures.bank

pub returns-clause-told : goal.returns-clause-told
returns-clause-told c =
    let i = c.self.inside in
    let p : Parts c.args.self.now i.route i.arity i.unit i.outlets.len c.deref_mut.result.now i.outlets.items i.state = record { view = c.self.view_is; is = c.self.invariant; value = c.deref_mut.ensures.value; len = i.outlets.ok.0 } in
    close_told c.args.self.now i.route i.arity i.unit i.outlets.len c.deref_mut.result.now i.outlets.items i.state p c.requires.ready c.close_all.new.outlets c.close_all.ensures.outlets

pub returns-clause-parcels : goal.returns-clause-parcels
returns-clause-parcels c =
    let i = c.self.inside in
    let p : Parts c.args.self.now i.route i.arity i.unit i.outlets.len c.deref_mut.result.now i.outlets.items i.state = record { view = c.self.view_is; is = c.self.invariant; value = c.deref_mut.ensures.value; len = i.outlets.ok.0 } in
    adds_parcels c.args.self.now i.route i.arity i.unit i.outlets.len c.deref_mut.result.now i.outlets.items i.state p closed 2 Closed c.close_all.new.outlets closed_parcels c.close_all.ensures.outlets

pub returns-clause-ends : goal.returns-clause-ends
returns-clause-ends c =
    let i = c.self.inside in
    let p : Parts c.args.self.now i.route i.arity i.unit i.outlets.len c.deref_mut.result.now i.outlets.items i.state = record { view = c.self.view_is; is = c.self.invariant; value = c.deref_mut.ensures.value; len = i.outlets.ok.0 } in
    λ failed. close_ends c.args.self.now i.route i.arity i.unit i.outlets.len c.deref_mut.result.now i.outlets.items i.state p failed c.close_all.new.outlets c.close_all.ensures.outlets

pub returns-clause-exports : goal.returns-clause-exports
returns-clause-exports c =
    let i = c.self.inside in
    let p : Parts c.args.self.now i.route i.arity i.unit i.outlets.len c.deref_mut.result.now i.outlets.items i.state = record { view = c.self.view_is; is = c.self.invariant; value = c.deref_mut.ensures.value; len = i.outlets.ok.0 } in
    all_exports c.args.self.now i.route i.arity i.unit i.outlets.len c.deref_mut.result.now i.outlets.items i.state p c.close_all.new.outlets c.args.bank.now c.close_all.new.bank c.close_all.ensures.outlets.count c.close_all.ensures.exports
