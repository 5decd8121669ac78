use Rattle.std.proofs.Common.{sym}
use Rattle.al_plan.specs.Grammar as grammar
use Rattle.al_print.proofs.LineLaws.{after_nil, after_next_word}
use Rattle.al_print.proofs.operator.put_each_var.Goals as goal

pub loop-v-init : goal.loop-v-init
loop-v-init c = sym (after_nil c.args.line.now)

pub loop-v-preserved : goal.loop-v-preserved
loop-v-preserved c =
    after_next_word grammar.variable c.args.vars.now c.loop-v.v-index c.v-item.result c.args.line.now c.loop-v.line c.put_var.new.line c.loop-v-test.true c.v-item.is c.loop-v.invariant c.in_ok-put_var.ensures
