use Rattle.std.proofs.Common.{◌≡◌, take, false, flat_map}
use Rattle.std.specs.List.{list_any}
use Rattle.al_plan.specs.Names.{agg_exprs}
use Rattle.al_plan.specs.Allows.{is_among}
use Rattle.al_rules_prune.specs.Prunes.{read_by}
use Rattle.al_rules_prune.proofs.wanted.any_call_reads.Given as goal

abbrev pub invariant-loop-m : goal.invariant-loop-m
invariant-loop-m l = list_any (λ m. is_among (flat_map read_by (agg_exprs m.1)) l.fn.v.name) (take l.m-index l.fn.made) ≡ false
