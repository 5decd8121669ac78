use Rattle.std.proofs.Common.{◌≡◌, take}
use Rattle.al_rules_prune.specs.Prunes.{bindings}
use Rattle.al_rules_prune.proofs.projects.kept_bindings.Given as goal

abbrev pub invariant-loop-m : goal.invariant-loop-m
invariant-loop-m g l = l.some ≡ bindings (g.W.Wanted.vars_of l.wanted) (take l.m-index l.made)
