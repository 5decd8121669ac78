use Rattle.std.proofs.Common.{◌≡◌, take, true}
use Rattle.std.specs.List.{list_all}
use Rattle.al_plan.specs.Allows.{is_among}
use Rattle.al_rules_prune.proofs.wanted.all_made.Given as goal

abbrev pub invariant-loop-m : goal.invariant-loop-m
invariant-loop-m g l = list_all (λ m. is_among (g.W.Wanted.vars_of l.wanted) m.0.name) (take l.m-index l.fn.made) ≡ true
