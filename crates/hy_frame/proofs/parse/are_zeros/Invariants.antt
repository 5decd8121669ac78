use Rattle.std.proofs.Common.{◌≡◌, replicate, take}
use Rattle.hy_frame.proofs.parse.are_zeros.Given as goal

abbrev pub invariant-loop-byte : goal.invariant-loop-byte
invariant-loop-byte l = take l.byte-index l.bytes ≡ replicate l.byte-index 0
