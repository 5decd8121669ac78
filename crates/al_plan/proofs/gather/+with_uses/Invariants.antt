use Rattle.std.proofs.Common.{◌≡◌, take}
use Rattle.std.specs.List.{flat_map}
use Rattle.al_plan.specs.Names.{names}
use Rattle.al_plan.specs.Uses.{with_names}
use Rattle.al_plan.proofs.gather.+with_uses.Given as goal

abbrev pub invariant-with_args-loop-e : goal.invariant-with_args-loop-e
invariant-with_args-loop-e l = l.more ≡ with_names l.fn.vars (flat_map names (take l.e-index l.args))
