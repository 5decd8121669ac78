use Rattle.al_print.proofs.LineLaws.{call_of_two}
use Rattle.al_print.proofs.operator.put_pair.Goals as goal

pub returns : goal.returns
returns c = call_of_two c.close.result c.args.line.now c.head.new.self c.put_expr.new.line c.put_expr-2.new.line c.close.new.self c.args.name.now c.args.a.now c.args.b.now c.in_ok-head.ensures c.in_ok-put_expr.ensures c.in_ok-put_expr-2.ensures c.close.ensures
