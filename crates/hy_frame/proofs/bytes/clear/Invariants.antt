use Rattle.std.proofs.Common.{◌≡◌, ◌++◌, replicate, drop}
use Rattle.hy_frame.proofs.bytes.clear.Given as goal

abbrev pub invariant-loop-byte : goal.invariant-loop-byte
invariant-loop-byte l = l.bytes ≡ replicate l.byte-index 0 ++ drop l.byte-index l.initial.bytes
