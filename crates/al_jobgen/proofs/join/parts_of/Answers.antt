use Rattle.al_jobgen.proofs.PieceJoin.{more_left, more_right, more_rest}
use Rattle.al_jobgen.proofs.join.parts_of.Goals as goal

pub loop-e-preserved : goal.loop-e-preserved
loop-e-preserved c =
    let ls = c.args.ls.now in
    let rs = c.args.rs.now in
    let all = c.args.all.now in
    let i = c.loop-e.e-index in
    let e = c.e-item.result in
    record {
      left = more_left ls rs all i e c.loop-e-test.true c.e-item.is _ c.equi_key-key.ensures _ _ c.loop-e.invariant.left c.in_ok-push_left.ensures;
      right = more_right ls rs all i e c.loop-e-test.true c.e-item.is _ c.equi_key-key.ensures _ _ c.loop-e.invariant.right c.in_ok-push_right.ensures;
      rest = more_rest ls rs all i e c.loop-e-test.true c.e-item.is _ c.equi_key-key.ensures _ _ c.loop-e.invariant.rest c.in_ok-push_rest.ensures;
    }
