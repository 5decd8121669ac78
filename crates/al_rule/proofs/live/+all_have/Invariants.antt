use Rattle.std.proofs.Common.{◌≡◌, take, true}
use Rattle.std.specs.List.{flat_map, list_all}
use Rattle.al_plan.specs.Names.{names}
use Rattle.al_rule.proofs.live.+all_have.Given as goal

abbrev pub invariant-all_args_have-loop-e : goal.invariant-all_args_have-loop-e
invariant-all_args_have-loop-e g l = list_all (g.N.Named.holds_of l.property) (flat_map names (take l.e-index l.fn.args)) ≡ true
