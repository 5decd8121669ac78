use Rattle.std.proofs.Common.{◌≡◌, true, take}
use Rattle.std.specs.List.{list_all}
use Rattle.al_plan.specs.Names as names
use Rattle.al_infer.specs.Asked.{asks}
use Rattle.al_infer.proofs.exprs.aggregated_keep.Given as goal

abbrev pub invariant-loop-call : goal.invariant-loop-call
invariant-loop-call l = list_all (λ m. list_all (asks l.asked) (names.agg_exprs m.1)) (take l.call-index l.made) ≡ true
