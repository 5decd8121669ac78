use Rattle.al_print.proofs.LineLaws.{call_of_none}
use Rattle.al_print.proofs.operator.put_count_all.Goals as goal

pub returns : goal.returns
returns c = call_of_none c.close.result c.args.line.now c.head.new.self c.close.new.self _ c.in_ok-head.ensures c.close.ensures
