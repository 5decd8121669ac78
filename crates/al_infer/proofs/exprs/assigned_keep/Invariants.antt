use Rattle.std.proofs.Common.{◌≡◌, true, take}
use Rattle.std.specs.List.{list_all}
use Rattle.al_infer.specs.Asked.{asks}
use Rattle.al_infer.proofs.exprs.assigned_keep.Given as goal

abbrev pub invariant-loop-e : goal.invariant-loop-e
invariant-loop-e l = list_all (λ m. asks l.asked m.1) (take l.e-index l.made) ≡ true
