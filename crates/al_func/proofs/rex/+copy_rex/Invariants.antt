use Rattle.std.proofs.Common.{◌≡◌, take}
use Rattle.al_func.proofs.rex.+copy_rex.Given as goal

abbrev pub invariant-copy_args-loop-e : goal.invariant-copy_args-loop-e
invariant-copy_args-loop-e l = l.copies ≡ take l.e-index l.args
