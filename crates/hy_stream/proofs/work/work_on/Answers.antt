use Rattle.hy_stream.proofs.WorkLaws.{union_made}
use Rattle.hy_stream.proofs.work.work_on.Goals as goal

pub returns-in_ok-put_side-in-Union : goal.returns-in_ok-put_side-in-Union
returns-in_ok-put_side-in-Union c = record {
  told = union_made c.args.work.now c.in-Union.left c.in-Union.right c.as_slice-in-Union.result.now c.as_slice-in-Union-2.result.now c.args.window.now c.args.input c.args.row.now c.put_side.new.out
      c.in-Union.is c.as_slice-in-Union.ensures c.as_slice-in-Union-2.ensures c.requires.known c.requires.reads
      c.in_ok-put_side-in-Union.ensures.left c.in_ok-put_side-in-Union.ensures.left_wide c.in_ok-put_side-in-Union.ensures.right c.in_ok-put_side-in-Union.ensures.right_wide;
}
