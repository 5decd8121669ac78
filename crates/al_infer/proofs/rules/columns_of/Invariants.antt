use Rattle.std.proofs.Common.{◌≡◌, drop}
use Rattle.al_plan.specs.Accept as spec
use Rattle.al_infer.proofs.rules.columns_of.Given as goal

abbrev pub invariant-loop-d : goal.invariant-loop-d
invariant-loop-d l = spec.declared l.decls l.set ≡ spec.declared (drop l.d-index l.decls) l.set
