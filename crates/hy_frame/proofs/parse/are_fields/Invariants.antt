use Rattle.std.proofs.Common.{◌≡◌, ◌↔◌, ◌+◌, ◌*◌, ◌-◌, length}
use Rattle.hy_frame.specs.Parse.{AreFields}
use Rattle.hy_frame.proofs.ByteLists.{AreBytes}
use Rattle.hy_frame.proofs.parse.are_fields.Given as goal

abbrev pub invariant-loop-j : goal.invariant-loop-j
invariant-loop-j l = record {
  same : AreFields l.count 0 l.ends l.fields ↔ AreFields (l.count - l.j) l.start l.left l.rest;
  long : length l.left ≡ 4 * (l.count - l.j);
  short : l.start + length l.rest ≡ length l.fields;
  small : AreBytes l.left;
}
