use Rattle.std.proofs.Common.{◌≤◌, ◌+◌, map, take}
use Rattle.hy_driver.specs.Rows.{values_of}
use Rattle.hy_connect.specs.declared.route.Route.TheVariants.{ByHash}
use Rattle.hy_connect.specs.Outlets.{Exports, Lent, frames_waiting, held_of}
use Rattle.hy_frame.specs.FrameText.{taken}
use Rattle.hy_connect.specs.Filling.{AllWithin}
use Rattle.hy_connect.specs.Many.{MoreWait, Spreads}
use Rattle.hy_connect.proofs.spread.spread_by_hash.Given as goal

abbrev pub invariant-loop-i : goal.invariant-loop-i
invariant-loop-i l = Spreads (ByHash l.columns) l.frame.arity l.initial.outlets (map values_of (take l.i l.frame.rows)) l.outlets × Lent (held_of l.initial.outlets) (held_of l.outlets) l.initial.bank l.bank × Exports (frames_waiting l.initial.outlets) (frames_waiting l.outlets) l.initial.bank l.bank × MoreWait l.i l.initial.outlets l.outlets × (taken l.frame.rows + 4 ≤ l.initial.bank.unit → AllWithin l.initial.bank.unit (taken (take l.i l.frame.rows)) l.initial.outlets l.outlets)
