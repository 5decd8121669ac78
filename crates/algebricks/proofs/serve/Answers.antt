use Rattle.std.proofs.Common.{sym, ◌∙◌}
use Rattle.al_query.specs.declared.status.Status.TheVariants as St
use Rattle.algebricks.proofs.Codes.{done_alone, is_not}
use Rattle.algebricks.proofs.serve.Goals as goal

pub returns-clause-ended : goal.returns-clause-ended
returns-clause-ended g c = (c.plain_command-served.result, c.ending.ensures, c.plain_command-served.ensures.cause)

pub returns-clause-done : goal.returns-clause-done
returns-clause-done g c = λ zero. c.plain_command-served.ensures.done (done_alone c.plain_command-served.result (sym c.ending.ensures ∙ zero))

pub returns-clause-untouched : goal.returns-clause-untouched
returns-clause-untouched g c = λ some more. c.plain_command-served.ensures.untouched (is_not c.plain_command-served.result St.Done _ c.ending.ensures some) (is_not c.plain_command-served.result St.SinkFault _ c.ending.ensures more)
