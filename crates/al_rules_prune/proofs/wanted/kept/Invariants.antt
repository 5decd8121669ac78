use Rattle.std.proofs.Common.{◌≡◌, filter, take}
use Rattle.al_plan.specs.Allows.{is_among}
use Rattle.al_rules_prune.proofs.wanted.kept.Given as goal

abbrev pub invariant-loop-v : goal.invariant-loop-v
invariant-loop-v g l = l.some ≡ filter (λ v. is_among (g.W.Wanted.vars_of l.wanted) v.name) (take l.v-index l.vars)
