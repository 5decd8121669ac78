use Rattle.std.proofs.Common.{◌≡◌, length}
use Rattle.hy_frame.specs.Row.{row_size}
use Rattle.hy_frame.specs.FrameText.{IsLeast}
use Rattle.frame_rates.proofs.rates.fill.Given as goal

abbrev pub invariant-loop : goal.invariant-loop
invariant-loop l =
    (length l.row ≡ l.frame.arity) × IsLeast l.frame.unit (row_size l.row) l.frame.size × (l.frame.arity ≡ l.initial.frame.arity) × (l.frame.unit ≡ l.initial.frame.unit) × (l.frame.size ≡ l.initial.frame.size)
