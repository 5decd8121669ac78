use Rattle.std.proofs.Common.{map, ap, refl, sym, ◌∙◌}
use Rattle.hy_frame.specs.Bank.{BankOf}
use Rattle.hy_driver.specs.Rows.{values_of}
use Rattle.hy_connect.specs.declared.route.Route.TheVariants.{ByHash, Whole}
use Rattle.hy_connect.proofs.Exporting.{exports_same, exports_then}
use Rattle.hy_connect.proofs.Closing.{Parts, all_exports, rows_parcels, rows_told, whole_out}
use Rattle.hy_connect.proofs.writer.WireWriterFrameWriter.next_frame.Goals as goal

pub returns-in-Whole-clause-out : goal.returns-in-Whole-clause-out
returns-in-Whole-clause-out c =
    let i = c.self.inside in
    let p : Parts c.args.self.now i.route i.arity i.unit i.outlets.len c.deref_mut.result.now i.outlets.items i.state = record { view = c.self.view_is; is = c.self.invariant; value = c.deref_mut.ensures.value; len = i.outlets.ok.0 } in
    whole_out c.args.self.now i.route i.arity i.unit i.outlets.len c.deref_mut.result.now i.outlets.items i.state p c.spread_whole.new.outlets c.args.bank.now c.spread_whole.new.bank c.requires.opened c.in-Whole.is c.spread_whole.auto.outlets c.spread_whole.ensures.none c.spread_whole.ensures.bank

pub returns-in-Whole-clause-told : goal.returns-in-Whole-clause-told
returns-in-Whole-clause-told c =
    let i = c.self.inside in
    let p : Parts c.args.self.now i.route i.arity i.unit i.outlets.len c.deref_mut.result.now i.outlets.items i.state = record { view = c.self.view_is; is = c.self.invariant; value = c.deref_mut.ensures.value; len = i.outlets.ok.0 } in
    rows_told c.args.self.now i.route i.arity i.unit i.outlets.len c.deref_mut.result.now i.outlets.items i.state p c.spread_whole.result Whole c.args.frame.arity c.spread_whole.new.outlets (map values_of c.args.frame.rows) c.requires.opened c.in-Whole.is c.requires.arity c.spread_whole.ensures.ok c.spread_whole.ensures.err

pub returns-in-ByHash-clause-told : goal.returns-in-ByHash-clause-told
returns-in-ByHash-clause-told c =
    let i = c.self.inside in
    let p : Parts c.args.self.now i.route i.arity i.unit i.outlets.len c.deref_mut-in-ByHash.result.now i.outlets.items i.state = record { view = c.self.view_is; is = c.self.invariant; value = c.deref_mut-in-ByHash.ensures.value; len = i.outlets.ok.0 } in
    rows_told c.args.self.now i.route i.arity i.unit i.outlets.len c.deref_mut-in-ByHash.result.now i.outlets.items i.state p c.spread_by_hash-spread.result (ByHash c.as_slice-columns.result.now) c.args.frame.arity c.spread_by_hash-spread.new.outlets (map values_of c.args.frame.rows) c.requires.opened (c.in-ByHash.is ∙ ap ByHash (sym c.as_slice-columns.ensures)) c.requires.arity c.spread_by_hash-spread.ensures.ok c.spread_by_hash-spread.ensures.err

pub returns-in-Whole-clause-parcels : goal.returns-in-Whole-clause-parcels
returns-in-Whole-clause-parcels c =
    let i = c.self.inside in
    let p : Parts c.args.self.now i.route i.arity i.unit i.outlets.len c.deref_mut.result.now i.outlets.items i.state = record { view = c.self.view_is; is = c.self.invariant; value = c.deref_mut.ensures.value; len = i.outlets.ok.0 } in
    rows_parcels c.args.self.now i.route i.arity i.unit i.outlets.len c.deref_mut.result.now i.outlets.items i.state p c.spread_whole.new.outlets c.spread_whole.auto.outlets c.spread_whole.ensures.parcels

pub returns-in-ByHash-clause-parcels : goal.returns-in-ByHash-clause-parcels
returns-in-ByHash-clause-parcels c =
    let i = c.self.inside in
    let p : Parts c.args.self.now i.route i.arity i.unit i.outlets.len c.deref_mut-in-ByHash.result.now i.outlets.items i.state = record { view = c.self.view_is; is = c.self.invariant; value = c.deref_mut-in-ByHash.ensures.value; len = i.outlets.ok.0 } in
    rows_parcels c.args.self.now i.route i.arity i.unit i.outlets.len c.deref_mut-in-ByHash.result.now i.outlets.items i.state p c.spread_by_hash-spread.new.outlets c.spread_by_hash-spread.auto.outlets c.spread_by_hash-spread.ensures.parcels

pub returns-in-Whole-clause-exports : goal.returns-in-Whole-clause-exports
returns-in-Whole-clause-exports c =
    let i = c.self.inside in
    let p : Parts c.args.self.now i.route i.arity i.unit i.outlets.len c.deref_mut.result.now i.outlets.items i.state = record { view = c.self.view_is; is = c.self.invariant; value = c.deref_mut.ensures.value; len = i.outlets.ok.0 } in
    all_exports c.args.self.now i.route i.arity i.unit i.outlets.len c.deref_mut.result.now i.outlets.items i.state p c.spread_whole.new.outlets c.args.bank.now c.spread_whole.new.bank c.spread_whole.auto.outlets c.spread_whole.ensures.exports

pub returns-in-ByHash-clause-exports : goal.returns-in-ByHash-clause-exports
returns-in-ByHash-clause-exports c =
    let i = c.self.inside in
    let p : Parts c.args.self.now i.route i.arity i.unit i.outlets.len c.deref_mut-in-ByHash.result.now i.outlets.items i.state = record { view = c.self.view_is; is = c.self.invariant; value = c.deref_mut-in-ByHash.ensures.value; len = i.outlets.ok.0 } in
    all_exports c.args.self.now i.route i.arity i.unit i.outlets.len c.deref_mut-in-ByHash.result.now i.outlets.items i.state p c.spread_by_hash-spread.new.outlets c.args.bank.now c.give.new.self c.spread_by_hash-spread.auto.outlets
    (exports_then _ _ _ c.args.bank.now c.spread_by_hash-spread.new.bank c.give.new.self c.spread_by_hash-spread.ensures.exports
    (exports_same _ _ c.spread_by_hash-spread.new.bank c.give.new.self refl (ap (λ (b : BankOf). b.exported) c.give.ensures) (ap (λ (b : BankOf). b.imported) c.give.ensures)))
