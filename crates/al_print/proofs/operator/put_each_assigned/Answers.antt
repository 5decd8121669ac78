use Rattle.std.proofs.Common.{sym}
use Rattle.al_plan.specs.Grammar as grammar
use Rattle.al_print.proofs.LineLaws.{after_nil, after_next}
use Rattle.al_print.proofs.operator.put_each_assigned.Goals as goal

pub loop-m-init : goal.loop-m-init
loop-m-init c = sym (after_nil c.args.line.now)

pub loop-m-preserved : goal.loop-m-preserved
loop-m-preserved c =
    after_next grammar.assigned_words c.args.made.now c.loop-m.m-index c.m-item.result c.args.line.now c.loop-m.line c.put_assigned.new.line c.loop-m-test.true c.m-item.is c.loop-m.invariant c.in_ok-put_assigned.ensures
