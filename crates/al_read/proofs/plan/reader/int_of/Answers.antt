use Rattle.al_csv.proofs.FieldLaws.{int_parsed, int_refused}
use Rattle.al_read.proofs.NumberLaws.{int_is, int_is_not}
use Rattle.al_read.proofs.plan.reader.int_of.Goals as goal

pub returns-in-Ok : goal.returns-in-Ok
returns-in-Ok c = int_is c.args.digits.now _ (int_parsed c.args.digits.now c.as_str.result.now c.in-Ok.number c.as_str.ensures.bytes c.in-Ok.ensures.value.0)

pub returns-in-Err : goal.returns-in-Err
returns-in-Err c = int_is_not c.args.digits.now (int_refused c.args.digits.now c.as_str.result.now c.as_str.ensures.bytes c.in-Err.ensures.value.0)
