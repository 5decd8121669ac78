use Rattle.std.proofs.Common.{ℕ, ◌-◌, length}
use Rattle.al_read.specs.PlanReading.{state, part_at, parts_at}
use Rattle.al_read.proofs.PlanLists.{Kept}
use Rattle.al_read.proofs.plan.reader.Reader.parts.Given as goal

abbrev pub invariant-loop-i : goal.invariant-loop-i
invariant-loop-i l = Kept part_at (parts_at (state l.initial.self)) (l._i-end - l._i) l.datasets (state l.self)
