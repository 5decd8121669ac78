use Rattle.std.proofs.Common.{◌≡◌, ◌+◌}
use Rattle.std.specs.List.{range_with_len}
use Rattle.hy_connect.proofs.stage_boxes.push_box.Given as goal

abbrev pub invariant-loop-n : goal.invariant-loop-n
invariant-loop-n l = l.senders ≡ range_with_len (l.ends.from + l.first) l.n
