use Rattle.std.proofs.Common.{refl}
use Rattle.hy_aggregate.proofs.Joining.{kinds_set, mixed_end, mixed_next, one_joined, piece, sum_next}
use Rattle.hy_aggregate.proofs.work.join_row.Goals as goal

pub loop-j-preserved : goal.loop-j-preserved
loop-j-preserved c = record {
  kinds = kinds_set c.args.made.now c.loop-j.states.items c.loop-j.j c.index_mut.result.now _ c.join.new.p c.loop-j.invariant.kinds c.index_mut.ensures.value c.join.ensures.aggregate;
  at = sum_next c.args.made.now c.loop-j.j c.loop-j.at c.width.result _ c.loop-j-test.true c.loop-j.invariant.at c.width.ensures.table;
  joined = λ rows h.
      mixed_next c.loop-j.j c.args.made.now rows c.args.row.now c.loop-j.states.items _ _ c.index_mut.result.now _ c.join.new.p _ c.loop-j-test.true refl c.index_mut.ensures.value
      (piece c.args.row.now c.loop-j.at c.width.result _ _ c.loop-j.invariant.at c.width.ensures.table)
      (λ states had. one_joined _ states _ c.index_mut.result.now c.in_ok-part.part c.join.new.p c.join.ensures.aggregate c.in_ok-part.ensures.some c.in_ok-part.ensures.each c.join.ensures.both had)
      (c.loop-j.invariant.joined rows h);
}

pub returns : goal.returns
returns c = λ rows h. mixed_end c.loop-j.j c.args.made.now rows c.args.row.now c.loop-j.states.items c.loop-j-test.false (c.loop-j.invariant.joined rows h)
