use Rattle.std.proofs.Common.{map, subst, sym, OnOk, OnErr}
use Rattle.hy_driver.specs.Rows.{values_of}
use Rattle.hy_output.specs.declared.way.Way.{Way}
use Rattle.hy_output.specs.declared.way.Way.TheVariants as W
use Rattle.hy_output.specs.Ways.{Sends, Tears}
use Rattle.hy_output.proofs.WayLaws.{wire_err, wire_ok}
use Rattle.hy_output.proofs.way.Way.send.Goals as goal

pub returns-in-Wire-clause-ok : goal.returns-in-Wire-clause-ok
returns-in-Wire-clause-ok c =
    subst (λ (w : Way). OnOk c.next_frame.result (Sends w (map values_of c.args.frame.rows) (W.Wire c.next_frame.new.self))) (sym c.in-Wire.is)
    (wire_ok c.in-Wire.writer c.next_frame.new.self (map values_of c.args.frame.rows) c.next_frame.result c.next_frame.ensures.told)

pub returns-in-Wire-clause-err : goal.returns-in-Wire-clause-err
returns-in-Wire-clause-err c =
    subst (λ (w : Way). OnErr c.next_frame.result (Tears w (map values_of c.args.frame.rows) (W.Wire c.next_frame.new.self))) (sym c.in-Wire.is)
    (wire_err c.in-Wire.writer c.next_frame.new.self (map values_of c.args.frame.rows) c.next_frame.result c.next_frame.ensures.told)
