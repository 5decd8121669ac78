use Rattle.std.specs.Prelude.{map}
use Rattle.hy_driver.specs.Rows.{values_of}
use Rattle.hy_connect.specs.Outlets.{Exports, Lent, frames_waiting}
use Rattle.hy_connect.specs.Many.{FrontAdds, MoreWait}
use Rattle.hy_connect.proofs.spread.send_copies.Given as goal

abbrev pub invariant-loop-k : goal.invariant-loop-k
invariant-loop-k l = FrontAdds l.frame.arity l.k l.initial.outlets (map values_of l.frame.rows) l.outlets × Lent 0 0 l.initial.bank l.bank × Exports (frames_waiting l.initial.outlets) (frames_waiting l.outlets) l.initial.bank l.bank × MoreWait 1 l.initial.outlets l.outlets
