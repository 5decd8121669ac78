use Rattle.std.proofs.Common.{◌≡◌, true, take}
use Rattle.std.specs.List.{list_all}
use Rattle.al_plan.specs.Allows.{is_among}
use Rattle.al_infer.proofs.rules.olds_among.Given as goal

abbrev pub invariant-loop-old : goal.invariant-loop-old
invariant-loop-old l = list_all (λ k. is_among l.vars k.1.name) (take l.old-index l.keys) ≡ true
