use Rattle.std.proofs.Common.{length-set}
use Rattle.hy_job.proofs.StateLaws.{mixed_next, mixed_end}
use Rattle.hy_job.proofs.states.add_row.Goals as goal

pub loop-j-preserved : goal.loop-j-preserved
loop-j-preserved c = (
  simp length-set c.loop-j.invariant.0,
  λ rows h.
      mixed_next c.loop-j.j c.args.made.now rows c.args.row.now c.loop-j.states.items c.index-made-j.result c.index_mut.result.now c.add.new.p c.in_ok-v.v c.loop-j-test.true c.index-made-j.is c.index_mut.ensures.value c.in_ok-v.ensures
      c.in_ok-add.ensures.aggregate c.in_ok-add.ensures.ok (c.loop-j.invariant.1 rows h),
)

pub returns-clause-added : goal.returns-clause-added
returns-clause-added c = λ rows h. mixed_end c.loop-j.j c.args.made.now rows c.args.row.now c.loop-j.states.items c.loop-j-test.false (c.loop-j.invariant.1 rows h)
