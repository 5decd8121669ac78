use Rattle.hy_frame.specs.declared.writer.WriterState.TheVariants.{Opened}
use Rattle.hy_mail.specs.declared.parcel.Parcel.TheVariants as P
use Rattle.hy_connect.specs.Outlets.{posted}
use Rattle.hy_connect.proofs.Closing.{Parts, adds_parcels, open_held, open_is, open_room, open_told, open_waiting, posted_parcels}
use Rattle.hy_connect.proofs.writer.WireWriterFrameWriter.open.Goals as goal

pub post_all-requires : goal.post_all-requires
post_all-requires c =
    let i = c.self.inside in
    let p : Parts c.args.self.now i.route i.arity i.unit i.outlets.len c.deref_mut.result.now i.outlets.items i.state = record { view = c.self.view_is; is = c.self.invariant; value = c.deref_mut.ensures.value; len = i.outlets.ok.0 } in
    open_room c.args.self.now i.route i.arity i.unit i.outlets.len c.deref_mut.result.now i.outlets.items i.state p c.requires

pub invariant_of-self : goal.invariant_of-self
invariant_of-self c =
    let i = c.self.inside in
    let p : Parts c.args.self.now i.route i.arity i.unit i.outlets.len c.deref_mut.result.now i.outlets.items i.state = record { view = c.self.view_is; is = c.self.invariant; value = c.deref_mut.ensures.value; len = i.outlets.ok.0 } in
    open_is c.args.self.now i.route i.arity i.unit i.outlets.len c.deref_mut.result.now i.outlets.items i.state p c.requires c.post_all.new.outlets c.post_all.ensures

pub returns-clause-held : goal.returns-clause-held
returns-clause-held c =
    let i = c.self.inside in
    let p : Parts c.args.self.now i.route i.arity i.unit i.outlets.len c.deref_mut.result.now i.outlets.items i.state = record { view = c.self.view_is; is = c.self.invariant; value = c.deref_mut.ensures.value; len = i.outlets.ok.0 } in
    open_held c.args.self.now i.route i.arity i.unit i.outlets.len c.deref_mut.result.now i.outlets.items i.state p c.post_all.new.outlets c.post_all.ensures

pub returns-clause-told : goal.returns-clause-told
returns-clause-told c =
    let i = c.self.inside in
    let p : Parts c.args.self.now i.route i.arity i.unit i.outlets.len c.deref_mut.result.now i.outlets.items i.state = record { view = c.self.view_is; is = c.self.invariant; value = c.deref_mut.ensures.value; len = i.outlets.ok.0 } in
    open_told c.args.self.now i.route i.arity i.unit i.outlets.len c.deref_mut.result.now i.outlets.items i.state p c.requires c.post_all.new.outlets c.post_all.ensures

pub returns-clause-parcels : goal.returns-clause-parcels
returns-clause-parcels c =
    let i = c.self.inside in
    let p : Parts c.args.self.now i.route i.arity i.unit i.outlets.len c.deref_mut.result.now i.outlets.items i.state = record { view = c.self.view_is; is = c.self.invariant; value = c.deref_mut.ensures.value; len = i.outlets.ok.0 } in
    adds_parcels c.args.self.now i.route i.arity i.unit i.outlets.len c.deref_mut.result.now i.outlets.items i.state p (posted P.Open) 1 Opened c.post_all.new.outlets (posted_parcels P.Open) c.post_all.ensures

pub returns-clause-waiting : goal.returns-clause-waiting
returns-clause-waiting c =
    let i = c.self.inside in
    let p : Parts c.args.self.now i.route i.arity i.unit i.outlets.len c.deref_mut.result.now i.outlets.items i.state = record { view = c.self.view_is; is = c.self.invariant; value = c.deref_mut.ensures.value; len = i.outlets.ok.0 } in
    open_waiting c.args.self.now i.route i.arity i.unit i.outlets.len c.deref_mut.result.now i.outlets.items i.state p c.post_all.new.outlets c.post_all.ensures
