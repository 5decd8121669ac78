use Rattle.std.proofs.Common.{sym}
use Rattle.al_plan.specs.Grammar as grammar
use Rattle.al_print.proofs.LineLaws.{after_nil, after_next}
use Rattle.al_print.proofs.operator.put_each_key.Goals as goal

pub loop-key-init : goal.loop-key-init
loop-key-init c = sym (after_nil c.args.line.now)

pub loop-key-preserved : goal.loop-key-preserved
loop-key-preserved c =
    after_next grammar.key_words c.args.keys.now c.loop-key.key-index c.key-item.result c.args.line.now c.loop-key.line c.put_key.new.line c.loop-key-test.true c.key-item.is c.loop-key.invariant c.in_ok-put_key.ensures
