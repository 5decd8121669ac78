use Rattle.std.proofs.Common.{sym}
use Rattle.al_plan.specs.Grammar as grammar
use Rattle.al_print.proofs.LineLaws.{after_nil, after_next}
use Rattle.al_print.proofs.file.put_datasets.Goals as goal

pub loop-decl-init : goal.loop-decl-init
loop-decl-init c = sym (after_nil c.args.line.now)

pub loop-decl-preserved : goal.loop-decl-preserved
loop-decl-preserved c =
    after_next grammar.dataset_words c.args.decls.now c.loop-decl.decl-index c.decl-item.result c.args.line.now c.loop-decl.line c.put_dataset.new.line c.loop-decl-test.true c.decl-item.is c.loop-decl.invariant c.in_ok-put_dataset.ensures
