use Rattle.std.proofs.Common.{◌≡◌, true, take}
use Rattle.std.specs.List.{list_all}
use Rattle.al_plan.specs.Allows.{is_among}
use Rattle.al_infer.proofs.rules.keys_among.Given as goal

abbrev pub invariant-loop-k : goal.invariant-loop-k
invariant-loop-k l = list_all (λ k. is_among l.vars k.var.name) (take l.k-index l.keys) ≡ true
