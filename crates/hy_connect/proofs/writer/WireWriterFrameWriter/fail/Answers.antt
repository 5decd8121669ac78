use Rattle.hy_frame.specs.declared.writer.WriterState.TheVariants.{Failed}
use Rattle.hy_mail.specs.declared.parcel.Parcel.TheVariants as P
use Rattle.hy_connect.specs.Outlets.{emptied, failed}
use Rattle.hy_connect.proofs.Closing.{Parts, adds_parcels, all_exports, fail_empty, fail_is, fail_out, fail_room, fail_told, posted_parcels}
use Rattle.hy_connect.proofs.writer.WireWriterFrameWriter.fail.Goals as goal

pub fail_all-requires-clause-room : goal.fail_all-requires-clause-room
fail_all-requires-clause-room c =
    let i = c.self.inside in
    let p : Parts c.args.self.now i.route i.arity i.unit i.outlets.len c.deref_mut.result.now i.outlets.items i.state = record { view = c.self.view_is; is = c.self.invariant; value = c.deref_mut.ensures.value; len = i.outlets.ok.0 } in
    fail_room c.args.self.now i.route i.arity i.unit i.outlets.len c.deref_mut.result.now i.outlets.items i.state p c.requires.opened

pub invariant_of-self : goal.invariant_of-self
invariant_of-self c =
    let i = c.self.inside in
    let p : Parts c.args.self.now i.route i.arity i.unit i.outlets.len c.deref_mut.result.now i.outlets.items i.state = record { view = c.self.view_is; is = c.self.invariant; value = c.deref_mut.ensures.value; len = i.outlets.ok.0 } in
    fail_is c.args.self.now i.route i.arity i.unit i.outlets.len c.deref_mut.result.now i.outlets.items i.state p c.requires.opened c.fail_all.new.outlets c.fail_all.ensures.outlets

pub returns-clause-empty : goal.returns-clause-empty
returns-clause-empty c =
    let i = c.self.inside in
    let p : Parts c.args.self.now i.route i.arity i.unit i.outlets.len c.deref_mut.result.now i.outlets.items i.state = record { view = c.self.view_is; is = c.self.invariant; value = c.deref_mut.ensures.value; len = i.outlets.ok.0 } in
    fail_empty c.args.self.now i.route i.arity i.unit i.outlets.len c.deref_mut.result.now i.outlets.items i.state p c.fail_all.new.outlets c.fail_all.ensures.outlets

pub returns-clause-out : goal.returns-clause-out
returns-clause-out c =
    let i = c.self.inside in
    let p : Parts c.args.self.now i.route i.arity i.unit i.outlets.len c.deref_mut.result.now i.outlets.items i.state = record { view = c.self.view_is; is = c.self.invariant; value = c.deref_mut.ensures.value; len = i.outlets.ok.0 } in
    fail_out c.args.self.now i.route i.arity i.unit i.outlets.len c.deref_mut.result.now i.outlets.items i.state p c.fail_all.new.outlets c.args.bank.now c.fail_all.new.bank c.fail_all.ensures.outlets c.fail_all.ensures.bank

pub returns-clause-told : goal.returns-clause-told
returns-clause-told c =
    let i = c.self.inside in
    let p : Parts c.args.self.now i.route i.arity i.unit i.outlets.len c.deref_mut.result.now i.outlets.items i.state = record { view = c.self.view_is; is = c.self.invariant; value = c.deref_mut.ensures.value; len = i.outlets.ok.0 } in
    fail_told c.args.self.now i.route i.arity i.unit i.outlets.len c.deref_mut.result.now i.outlets.items i.state p c.requires.opened c.fail_all.new.outlets c.fail_all.ensures.outlets

pub returns-clause-parcels : goal.returns-clause-parcels
returns-clause-parcels c =
    let i = c.self.inside in
    let p : Parts c.args.self.now i.route i.arity i.unit i.outlets.len c.deref_mut.result.now i.outlets.items i.state = record { view = c.self.view_is; is = c.self.invariant; value = c.deref_mut.ensures.value; len = i.outlets.ok.0 } in
    adds_parcels c.args.self.now i.route i.arity i.unit i.outlets.len c.deref_mut.result.now i.outlets.items i.state p failed 1 Failed c.fail_all.new.outlets (λ o. posted_parcels P.Fail (emptied o)) c.fail_all.ensures.outlets

pub returns-clause-exports : goal.returns-clause-exports
returns-clause-exports c =
    let i = c.self.inside in
    let p : Parts c.args.self.now i.route i.arity i.unit i.outlets.len c.deref_mut.result.now i.outlets.items i.state = record { view = c.self.view_is; is = c.self.invariant; value = c.deref_mut.ensures.value; len = i.outlets.ok.0 } in
    all_exports c.args.self.now i.route i.arity i.unit i.outlets.len c.deref_mut.result.now i.outlets.items i.state p c.fail_all.new.outlets c.args.bank.now c.fail_all.new.bank c.fail_all.ensures.outlets.count c.fail_all.ensures.exports
