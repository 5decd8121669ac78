use Rattle.std.proofs.Common.{rules}
use Rattle.al_io.proofs.Gains.{read_more, read_all, read_past}
use Rattle.al_io.proofs.source.read_whole.Goals as goal

pub returns-then-n-eq0-clause-whole : goal.returns-then-n-eq0-clause-whole
returns-then-n-eq0-clause-whole g c = read_all _ _ _ _ _ c.in_ok-n.n c.if-n-eq0.true c.loop-bytes.invariant.read c.in_ok-n.ensures.moves

pub returns-then-len-limit-clause-whole : goal.returns-then-len-limit-clause-whole
returns-then-len-limit-clause-whole g c =
    let more = read_more _ _ _ c.loop-bytes.bytes c.read.new.buf c.in_ok-n.n c.loop-bytes.invariant.read c.in_ok-n.ensures.moves in
    rw c.in_ok-extend.ensures.ok (read_past _ _ _ more)

pub loop-bytes-preserved : goal.loop-bytes-preserved
loop-bytes-preserved g c = record {
  opened = search rules;
  files = search rules;
  faults = search rules;
  room = search rules;
  short = search rules;
  read = rw c.in_ok-extend.ensures.ok (read_more _ _ _ c.loop-bytes.bytes c.read.new.buf c.in_ok-n.n c.loop-bytes.invariant.read c.in_ok-n.ensures.moves);
}
