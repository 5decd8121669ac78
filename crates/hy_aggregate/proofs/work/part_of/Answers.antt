use Rattle.std.proofs.Common.{rules}
use Rattle.hy_aggregate.proofs.Fields.{of_state, stands_if_none}
use Rattle.hy_aggregate.proofs.work.part_of.Goals as goal

pub returns-in-Ok-clause-some : goal.returns-in-Ok-clause-some
returns-in-Ok-clause-some c = of_state c.args.a c.args.fields.now c.in-Ok.ensures.state

pub returns-in-Err-NotPart-clause-each : goal.returns-in-Err-NotPart-clause-each
returns-in-Err-NotPart-clause-each c vs stand =
    let none = rw c.in-Err-NotPart.field-0-is at c.in-Err-NotPart.ensures.not_part in
    stands_if_none c.args.a c.args.fields.now c.start.result c.requires.values (none.0 (search rules)) c.start.ensures.none vs stand
