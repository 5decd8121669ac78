use Rattle.std.proofs.Common.{◌≡◌, ◌↔◌, ◌+◌, ◌*◌, ◌-◌, length}
use Rattle.hy_frame.specs.Parse.{AreTuples}
use Rattle.hy_frame.proofs.ByteLists.{AreBytes}
use Rattle.hy_frame.proofs.parse.are_tuples.Given as goal

abbrev pub invariant-loop-i : goal.invariant-loop-i
invariant-loop-i l = record {
  same : AreTuples l.arity l.count 0 l.slots l.body ↔ AreTuples l.arity (l.count - l.i) l.start l.left l.rest;
  long : length l.left ≡ 4 * (l.count - l.i);
  short : l.start + length l.rest ≡ length l.body;
  small : AreBytes l.left;
}
