use Rattle.std.proofs.Common.{◌≡◌, drop}
use Rattle.al_plan.specs.Eval as spec
use Rattle.al_plain.proofs.expr.find.Given as goal

abbrev pub invariant-loop-i : goal.invariant-loop-i
invariant-loop-i l = spec.bind (drop l.i l.vars) (drop l.i l.row) l.v.name ≡ spec.bind l.vars l.row l.v.name
