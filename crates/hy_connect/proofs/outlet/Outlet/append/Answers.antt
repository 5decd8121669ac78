use Rattle.std.proofs.Common.{◌≤◌, ◌+◌, ℕ, List, [], ◌∷◌, length, ap, subst, sym, arith}
use Rattle.std.proofs.lemmas.Result.{on_err_weaker, on_ok_weaker}
use Rattle.hy_mail.specs.declared.parcel.Parcel.{Parcel}
use Rattle.hy_driver.specs.Rows.{values_of}
use Rattle.hy_connect.specs.Outlets.{OutletOf, IsOutlet}
use Rattle.hy_frame.specs.Row.{row_size}
use Rattle.hy_connect.specs.Filling.{IsFilledTo}
use Rattle.hy_connect.proofs.Filling.{begun_stays, begun_stops, extends_within, stops_within}
use Rattle.hy_connect.proofs.Adding.{append_begins, append_loses, append_none, append_stops, err_given, lent_gone}
use Rattle.hy_connect.proofs.outlet.Outlet.append.Goals as goal

pub returns-in_err-send_filling-clause-err : goal.returns-in_err-send_filling-clause-err
returns-in_err-send_filling-clause-err c = err_given c.from_residual.result
    (append_loses (length c.args.row.now) c.args.self.now c.extend.new.self c.send_filling.new.self (values_of c.args.row.now ∷ []) (c.extend.ensures.no c.if-extend.false) c.requires.outlet c.in_err-send_filling.ensures.err)

pub returns-in_err-send_filling-clause-bank : goal.returns-in_err-send_filling-clause-bank
returns-in_err-send_filling-clause-bank c =
    lent_gone c.args.self.now c.extend.new.self c.send_filling.new.self c.args.bank.now c.send_filling.new.bank (c.extend.ensures.no c.if-extend.false)
    (c.in_err-send_filling.ensures.err (length c.args.row.now) (subst (IsOutlet (length c.args.row.now) 2) (sym (c.extend.ensures.no c.if-extend.false)) c.requires.outlet)).filling
    c.send_filling.ensures.bank

pub begin-requires-clause-filling : goal.begin-requires-clause-filling
begin-requires-clause-filling c =
    append_none (length c.args.row.now) c.args.self.now c.extend.new.self c.send_filling.new.self (c.extend.ensures.no c.if-extend.false) c.requires.outlet c.in_ok-send_filling.ensures.ok

pub returns-clause-ok : goal.returns-clause-ok
returns-clause-ok c = on_ok_weaker c.begin.result
    (append_begins (length c.args.row.now) c.args.self.now c.extend.new.self c.send_filling.new.self c.begin.new.self (values_of c.args.row.now ∷ []) (c.extend.ensures.no c.if-extend.false) c.requires.outlet c.in_ok-send_filling.ensures.ok)
    c.begin.ensures.ok

pub returns-clause-err : goal.returns-clause-err
returns-clause-err c = on_err_weaker c.begin.result
    (append_stops (length c.args.row.now) c.args.self.now c.extend.new.self c.send_filling.new.self c.begin.new.self (values_of c.args.row.now ∷ []) (c.extend.ensures.no c.if-extend.false) c.requires.outlet c.in_ok-send_filling.ensures.ok)
    c.begin.ensures.err

pub returns-in_err-send_filling-clause-parcels : goal.returns-in_err-send_filling-clause-parcels
returns-in_err-send_filling-clause-parcels c =
    let h = c.send_filling.ensures.parcels in
    let e = ap (λ (o : OutletOf). length o.waits) (c.extend.ensures.no c.if-extend.false) in
    omega arith

pub returns-clause-parcels : goal.returns-clause-parcels
returns-clause-parcels c =
    let h = c.send_filling.ensures.parcels in
    let e = ap (λ (o : OutletOf). length o.waits) (c.extend.ensures.no c.if-extend.false) in
    let w = ap (λ (ws : List Parcel). length ws) c.begin.ensures.waits in
    omega arith

pub returns-in_err-send_filling-clause-stops : goal.returns-in_err-send_filling-clause-stops
returns-in_err-send_filling-clause-stops c = err_given c.from_residual.result
    (stops_within c.args.bank.now.unit (row_size c.args.row.now) c.args.self.now c.extend.new.self c.send_filling.new.self (c.extend.ensures.no c.if-extend.false) (c.extend.ensures.full c.if-extend.false) c.send_filling.ensures.none c.send_filling.ensures.parcels)

pub returns-clause-stays : goal.returns-clause-stays
returns-clause-stays c = on_ok_weaker c.begin.result
    (λ fill. begun_stays c.args.bank.now.unit (row_size c.args.row.now) c.args.self.now c.send_filling.new.self c.begin.new.self
    (stops_within c.args.bank.now.unit (row_size c.args.row.now) c.args.self.now c.extend.new.self c.send_filling.new.self (c.extend.ensures.no c.if-extend.false) (c.extend.ensures.full c.if-extend.false) c.send_filling.ensures.none c.send_filling.ensures.parcels)
    c.begin.ensures.waits
    (subst (λ (u : ℕ). row_size c.args.row.now + 8 ≤ u → IsFilledTo u (row_size c.args.row.now + 4) c.begin.new.self.filling) c.send_filling.ensures.bank.unit fill))
    c.begin.ensures.filled

pub returns-clause-stops : goal.returns-clause-stops
returns-clause-stops c = on_err_weaker c.begin.result
    (λ same. begun_stops c.args.bank.now.unit (row_size c.args.row.now) c.args.self.now c.send_filling.new.self c.begin.new.self
    (stops_within c.args.bank.now.unit (row_size c.args.row.now) c.args.self.now c.extend.new.self c.send_filling.new.self (c.extend.ensures.no c.if-extend.false) (c.extend.ensures.full c.if-extend.false) c.send_filling.ensures.none c.send_filling.ensures.parcels)
    c.begin.ensures.waits)
    c.begin.ensures.err

pub returns-then-extend-clause-stays : goal.returns-then-extend-clause-stays
returns-then-extend-clause-stays c = extends_within c.args.bank.now.unit c.args.self.now c.extend.new.self c.args.row.now (c.extend.ensures.yes c.if-extend.true)
