use Rattle.al_print.proofs.LineLaws.{call_of_one}
use Rattle.al_print.proofs.operator.put_call.Goals as goal

pub returns : goal.returns
returns c = call_of_one c.close.result c.args.line.now c.head.new.self c.put_expr.new.line c.close.new.self c.args.name.now c.args.e.now c.in_ok-head.ensures c.in_ok-put_expr.ensures c.close.ensures
