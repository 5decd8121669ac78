use Rattle.std.proofs.Common.{◌<◌, ◌+◌, ◌-◌, map, length, get_or, ap, subst, refl, arith}
use Rattle.std.proofs.lemmas.Result.{on_err_weaker, on_ok_weaker}
use Rattle.hy_frame.specs.Row.{Fields}
use Rattle.std.proofs.Common.{List}
use Rattle.hy_driver.specs.Rows.{values_of}
use Rattle.hy_connect.specs.Outlets.{OutletOf, Grows, HasRows, Sends}
use Rattle.hy_connect.proofs.Exporting.{exports_at, exports_then}
use Rattle.hy_connect.proofs.Fronts.{read_at}
use Rattle.hy_connect.proofs.Spreading.{front_adds_all, front_rips, front_sends}
use Rattle.hy_connect.proofs.Waiting.{sent_waits, waits_at}
use Rattle.hy_connect.proofs.spread.spread_whole.Goals as goal

pub returns-in-Ok-clause-ok : goal.returns-in-Ok-clause-ok
returns-in-Ok-clause-ok c =
    let f = c.args.frame in
    let xs = c.args.outlets.now in
    let ys = c.send_copies.new.outlets in
    let n = length xs - 1 in
    let some = c.requires.some in
    let count = c.in-Ok.ensures.ok.count in
    let first : n < length xs = omega arith in
    let low : n < length ys = omega arith in
    let rows : HasRows f.arity f = record { wide = refl; some = λ e. let z = ap (λ (r : List Fields). length r) e in let l = c.rows.ensures.rows in absurd (omega arith) } in
    on_ok_weaker c.send.result
    (λ sends. front_adds_all f.arity (n + 1) xs _ (map values_of f.rows) (omega arith)
    (front_sends f.arity n xs ys f c.send.new.self first c.requires.outlets rows c.in-Ok.ensures.ok (subst (λ (o : OutletOf). Sends o f c.send.new.self) (read_at ys n c.index-outlets-last.result low) sends)))
    c.send.ensures.ok

pub returns-in-Ok-clause-err : goal.returns-in-Ok-clause-err
returns-in-Ok-clause-err c =
    let f = c.args.frame in
    let xs = c.args.outlets.now in
    let ys = c.send_copies.new.outlets in
    let n = length xs - 1 in
    let some = c.requires.some in
    let count = c.in-Ok.ensures.ok.count in
    let low : n < length ys = omega arith in
    on_err_weaker c.send.result
    (λ grows. front_rips f.arity n xs ys (map values_of f.rows) c.send.new.self low c.requires.outlets c.in-Ok.ensures.ok (subst (λ (o : OutletOf). Grows o c.send.new.self) (read_at ys n c.index-outlets-last.result low) grows))
    c.send.ensures.err

pub returns-in-Ok-clause-parcels : goal.returns-in-Ok-clause-parcels
returns-in-Ok-clause-parcels c =
    let xs = c.args.outlets.now in
    let ys = c.send_copies.new.outlets in
    let n = length xs - 1 in
    let some = c.requires.some in
    let count = c.in-Ok.ensures.ok.count in
    let low : n < length ys = omega arith in
    waits_at 1 xs ys n c.index-outlets-last.result c.send.new.self count low (let h = c.in-Ok.ensures.ok in h.left n (omega arith))
    (sent_waits c.send.result (get_or ys n c.index-outlets-last.result) c.send.new.self c.args.frame c.send.ensures.ok c.send.ensures.err) c.send_copies.ensures.parcels

pub returns-in-Ok-clause-exports : goal.returns-in-Ok-clause-exports
returns-in-Ok-clause-exports c =
    let xs = c.args.outlets.now in
    let ys = c.send_copies.new.outlets in
    let n = length xs - 1 in
    let some = c.requires.some in
    let count = c.in-Ok.ensures.ok.count in
    let low : n < length ys = omega arith in
    exports_then _ _ _ c.args.bank.now c.send_copies.new.bank c.send.new.bank c.send_copies.ensures.exports
    (exports_at ys n c.index-outlets-last.result c.send.new.self c.send_copies.new.bank c.send.new.bank low c.send.ensures.exports)
