use Rattle.std.proofs.Common.{[], ◌∷◌}
use Rattle.std.proofs.lemmas.Result.{on_err_weaker}
use Rattle.hy_driver.specs.Rows.{values_of}
use Rattle.hy_output.proofs.PackLaws.{begin_spoils, err_given, flush_spoils, room_left}
use Rattle.hy_output.proofs.output.Output.push.Goals as goal

pub returns-in_err-flush-clause-err : goal.returns-in_err-flush-clause-err
returns-in_err-flush-clause-err c = err_given c.from_residual.result
    (flush_spoils c.args.self.now c.extend.new.self c.flush.new.self (values_of c.args.row.now ∷ []) (c.extend.ensures.no c.if-extend.false) c.in_err-flush.ensures.err)

pub begin-requires-clause-room : goal.begin-requires-clause-room
begin-requires-clause-room c =
    room_left c.args.self.now c.extend.new.self c.flush.new.self c.args.bank.now c.flush.new.bank (c.extend.ensures.no c.if-extend.false) c.in_ok-flush.ensures.ok c.requires.room c.flush.ensures.bank

pub returns-clause-err : goal.returns-clause-err
returns-clause-err c = on_err_weaker c.begin.result
    (begin_spoils c.args.self.now c.extend.new.self c.flush.new.self c.begin.new.self (values_of c.args.row.now ∷ []) (c.extend.ensures.no c.if-extend.false) c.in_ok-flush.ensures.ok)
    c.begin.ensures.err
