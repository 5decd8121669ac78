use Rattle.std.proofs.Common.{ℕ, ◌-◌, length}
use Rattle.al_read.specs.PlanReading.{state, next_at, behind_items, list_at}
use Rattle.al_read.proofs.PlanLists.{Kept}
use Rattle.al_read.proofs.plan.items.others.Given as goal

abbrev pub invariant-loop-i : goal.invariant-loop-i
invariant-loop-i g l = Kept (next_at (g.T.Item.at l.levels)) (behind_items l.fn.first (list_at (g.T.Item.at l.levels) (state l.initial.reader))) (l._i-end - l._i) l.items (state l.reader)
