use Rattle.std.proofs.Common.{rules, arith}
use Rattle.al_query.proofs.Loads.{sets_more, told_end, told_more, told_stopped_data}
use Rattle.al_query.proofs.data.load_all.Goals as goal

pub returns-in-Err-clause-tells : goal.returns-in-Err-clause-tells
returns-in-Err-clause-tells g c =
    told_stopped_data _ _ c.args.decls.now c.loop-decl.decl-index c.loop-decl.before c.loop-decl.sets c.decl-item.result c.in-Err.status
    c.loop-decl-test.true c.decl-item.is c.loop-decl.invariant.files c.loop-decl.invariant.so_far c.in-Err.ensures.tells

pub loop-decl-preserved : goal.loop-decl-preserved
loop-decl-preserved g c = record {
  files = search rules;
  faults = search rules;
  room = search rules;
  sets =
      rw c.in-Ok-push.ensures.ok
      (sets_more c.args.decls.now c.loop-decl.decl-index c.loop-decl.sets c.decl-item.result c.in-Ok.loaded.data c.loop-decl-test.true c.decl-item.is c.loop-decl.invariant.sets c.in-Ok.ensures.named c.in-Ok.ensures.wide);
  so_far =
      rw c.in-Ok-push.ensures.ok
      (told_more _ _ c.args.decls.now c.loop-decl.decl-index c.loop-decl.before c.loop-decl.sets c.decl-item.result c.in-Ok.loaded c.loop-decl-test.true c.decl-item.is c.loop-decl.invariant.files c.loop-decl.invariant.so_far c.in-Ok.ensures.tells);
}

pub returns-clause-tells : goal.returns-clause-tells
returns-clause-tells g c = told_end _ c.args.decls.now c.loop-decl.decl-index c.loop-decl.before c.loop-decl.sets (omega arith) c.loop-decl.invariant.so_far
