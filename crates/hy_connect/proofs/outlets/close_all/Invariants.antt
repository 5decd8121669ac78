use Rattle.hy_connect.specs.Outlets.{Exports, Lent, closed, frames_waiting, held_of}
use Rattle.hy_connect.specs.Many.{Front}
use Rattle.hy_connect.proofs.outlets.close_all.Given as goal

abbrev pub invariant-loop-k : goal.invariant-loop-k
invariant-loop-k l = Front closed l.k l.initial.outlets l.outlets × Lent (held_of l.initial.outlets) (held_of l.outlets) l.initial.bank l.bank × Exports (frames_waiting l.initial.outlets) (frames_waiting l.outlets) l.initial.bank l.bank
