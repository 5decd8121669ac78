use Rattle.std.proofs.Common.{ℕ, ◌+◌, ◌-◌, ◌*◌, length}
use Rattle.al_read.specs.PlanReading.{state, next_at, list_at, expr_at}
use Rattle.al_read.proofs.PlanLists.{Kept}
use Rattle.al_read.proofs.plan.reader.Reader.+expr.Given as goal

abbrev pub decreases-args : goal.decreases-args
decreases-args l = 4 * l.levels + 2

abbrev pub decreases-call : goal.decreases-call
decreases-call l = 4 * l.levels + 3

abbrev pub decreases-expr : goal.decreases-expr
decreases-expr l = 4 * l.levels

abbrev pub decreases-next_arg : goal.decreases-next_arg
decreases-next_arg l = 4 * l.levels + 1

abbrev pub invariant-args-loop-i : goal.invariant-args-loop-i
invariant-args-loop-i l = Kept (next_at (expr_at l.levels)) (list_at (expr_at l.levels) (state l.initial.self)) (l._i-end - l._i) l.args (state l.self)
