use Rattle.std.proofs.Common.{sym}
use Rattle.al_plan.specs.Grammar as grammar
use Rattle.al_print.proofs.LineLaws.{after_nil, after_next}
use Rattle.al_print.proofs.file.put_columns.Goals as goal

pub loop-column-init : goal.loop-column-init
loop-column-init c = sym (after_nil c.args.line.now)

pub loop-column-preserved : goal.loop-column-preserved
loop-column-preserved c =
    after_next grammar.column_words c.args.columns.now c.loop-column.column-index c.column-item.result c.args.line.now c.loop-column.line c.put_column.new.line c.loop-column-test.true c.column-item.is c.loop-column.invariant c.in_ok-put_column.ensures
