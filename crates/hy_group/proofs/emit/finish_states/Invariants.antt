use Rattle.hy_group.specs.Emit.{Finishes}
use Rattle.hy_group.proofs.emit.finish_states.Given as goal

abbrev pub invariant-loop-part : goal.invariant-loop-part
invariant-loop-part l = Finishes l.yielded l.initial.row l.row
