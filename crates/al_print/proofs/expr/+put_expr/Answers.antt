use Rattle.std.proofs.Common.{sym}
use Rattle.al_plan.specs.Grammar.{expr_words}
use Rattle.al_print.proofs.LineLaws.{after_nil, after_next}
use Rattle.al_print.proofs.expr.+put_expr.Goals as goal

pub put_args-loop-e-init : goal.put_args-loop-e-init
put_args-loop-e-init t c = sym (after_nil c.args.line.now)

pub put_args-loop-e-preserved : goal.put_args-loop-e-preserved
put_args-loop-e-preserved t c =
    after_next expr_words c.args.args.now c.loop-e.e-index c.e-item.result c.args.line.now c.loop-e.line c.put_expr.new.line c.loop-e-test.true c.e-item.is c.loop-e.invariant c.in_ok-put_expr.ensures
