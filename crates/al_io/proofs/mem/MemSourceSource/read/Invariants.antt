use Rattle.std.proofs.Common.{◌≡◌, take, drop}
use Rattle.al_io.proofs.mem.MemSourceSource.read.Given as goal

abbrev pub invariant-loop-i : goal.invariant-loop-i
invariant-loop-i l = take l.i l.buf ≡ take l.i (drop l.fn.self.at l.content)
