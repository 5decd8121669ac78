use Rattle.std.proofs.Common.{◌≡◌, take}
use Rattle.hy_wire_runs.proofs.frames.frame_of.Given as goal

abbrev pub invariant-loop-row : goal.invariant-loop-row
invariant-loop-row l = (l.frame.arity ≡ 2) × (l.frame.size ≡ l.frame.unit) × (l.frame.unit ≡ l.fn.bank.unit) × (l.frame.rows ≡ take l.row-index l.rows)
