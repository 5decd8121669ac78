use Rattle.std.proofs.Common.{sym}
use Rattle.al_csv.proofs.FieldLaws.{int_not_text, int_parsed, int_refused}
use Rattle.al_csv.proofs.field.read_int.Goals as goal

pub returns-in_default : goal.returns-in_default
returns-in_default c = sym (int_not_text c.args.field.now c.in_default.ensures.cases.0)

pub returns-in-Ok-parse : goal.returns-in-Ok-parse
returns-in-Ok-parse c = sym (int_parsed c.args.field.now c.in-Ok.text.now c.in-Ok-parse.number c.in-Ok.ensures.cases.0 c.in-Ok-parse.ensures.value.0)

pub returns-in-Err : goal.returns-in-Err
returns-in-Err c = sym (int_refused c.args.field.now c.in-Ok.text.now c.in-Ok.ensures.cases.0 c.in-Err.ensures.value.0)
