use Rattle.std.proofs.Common.{◌≡◌, true, not, take}
use Rattle.std.specs.List.{list_all}
use Rattle.al_plan.specs.Allows as live
use Rattle.al_infer.proofs.names.are_new.Given as goal

abbrev pub invariant-loop-v : goal.invariant-loop-v
invariant-loop-v l = list_all (λ v. not (live.is_among l.before v.name)) (take l.v-index l.own) ≡ true
