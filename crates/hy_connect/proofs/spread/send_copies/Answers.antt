use Rattle.std.proofs.Common.{◌<◌, map, length, get_or, subst, refl, arith}
use Rattle.hy_driver.specs.Rows.{values_of}
use Rattle.hy_connect.specs.Outlets.{OutletOf, Grows, HasRows, Sends}
use Rattle.hy_connect.proofs.Adding.{err_given}
use Rattle.hy_connect.proofs.Exporting.{exports_at, exports_then}
use Rattle.hy_connect.proofs.Fronts.{read_at}
use Rattle.hy_connect.proofs.Held.{lent_then}
use Rattle.hy_connect.proofs.Spreading.{front_rips, front_sends}
use Rattle.hy_connect.proofs.Waiting.{sent_waits, waits_at}
use Rattle.hy_connect.proofs.spread.send_copies.Goals as goal

pub returns-in_err-send_copy-clause-err : goal.returns-in_err-send_copy-clause-err
returns-in_err-send_copy-clause-err c =
    let low : c.loop-k.k < length c.loop-k.outlets = omega arith in
    let grows = subst (λ (o : OutletOf). Grows o c.send_copy.new.outlet) (read_at c.loop-k.outlets c.loop-k.k c.index-outlets-k.result low) c.in_err-send_copy.ensures.err in
    err_given c.from_residual.result
    (front_rips c.args.frame.now.arity c.loop-k.k c.args.outlets.now c.loop-k.outlets (map values_of c.args.frame.now.rows) c.send_copy.new.outlet low c.requires.outlets c.loop-k.invariant.0 grows)

pub loop-k-preserved : goal.loop-k-preserved
loop-k-preserved c =
    let low : c.loop-k.k < length c.loop-k.outlets = omega arith in
    let first : c.loop-k.k < length c.args.outlets.now = omega arith in
    let rows : HasRows c.args.frame.now.arity c.args.frame.now = record { wide = refl; some = c.requires.rows } in
    let sends = subst (λ (o : OutletOf). Sends o c.args.frame.now c.send_copy.new.outlet) (read_at c.loop-k.outlets c.loop-k.k c.index-outlets-k.result low) c.in_ok-send_copy.ensures.ok in (
      front_sends c.args.frame.now.arity c.loop-k.k c.args.outlets.now c.loop-k.outlets c.args.frame.now c.send_copy.new.outlet first c.requires.outlets rows c.loop-k.invariant.0 sends,
      lent_then 0 0 0 c.args.bank.now c.loop-k.bank c.send_copy.new.bank c.loop-k.invariant.1 c.send_copy.ensures.bank,
      exports_then _ _ _ c.args.bank.now c.loop-k.bank c.send_copy.new.bank c.loop-k.invariant.2 (exports_at c.loop-k.outlets c.loop-k.k c.index-outlets-k.result c.send_copy.new.outlet c.loop-k.bank c.send_copy.new.bank low c.send_copy.ensures.exports),
      waits_at 1 c.args.outlets.now c.loop-k.outlets c.loop-k.k c.index-outlets-k.result c.send_copy.new.outlet (let h = c.loop-k.invariant.0 in h.count) low (let h = c.loop-k.invariant.0 in h.left c.loop-k.k (omega arith))
          (sent_waits c.send_copy.result (get_or c.loop-k.outlets c.loop-k.k c.index-outlets-k.result) c.send_copy.new.outlet c.args.frame.now c.send_copy.ensures.ok c.send_copy.ensures.err) c.loop-k.invariant.3,
    )

pub returns-in_err-send_copy-clause-parcels : goal.returns-in_err-send_copy-clause-parcels
returns-in_err-send_copy-clause-parcels c =
    let low : c.loop-k.k < length c.loop-k.outlets = omega arith in
    waits_at 1 c.args.outlets.now c.loop-k.outlets c.loop-k.k c.index-outlets-k.result c.send_copy.new.outlet (let h = c.loop-k.invariant.0 in h.count) low (let h = c.loop-k.invariant.0 in h.left c.loop-k.k (omega arith))
    (sent_waits c.send_copy.result (get_or c.loop-k.outlets c.loop-k.k c.index-outlets-k.result) c.send_copy.new.outlet c.args.frame.now c.send_copy.ensures.ok c.send_copy.ensures.err) c.loop-k.invariant.3

pub returns-in_err-send_copy-clause-exports : goal.returns-in_err-send_copy-clause-exports
returns-in_err-send_copy-clause-exports c =
    let low : c.loop-k.k < length c.loop-k.outlets = omega arith in
    exports_then _ _ _ c.args.bank.now c.loop-k.bank c.send_copy.new.bank c.loop-k.invariant.2 (exports_at c.loop-k.outlets c.loop-k.k c.index-outlets-k.result c.send_copy.new.outlet c.loop-k.bank c.send_copy.new.bank low c.send_copy.ensures.exports)
