use Rattle.std.proofs.Common.{◌≡◌, map, take}
use Rattle.al_plan.specs.Eval.{bind}
use Rattle.al_plain.proofs.rows.cut_row.Given as goal

abbrev pub invariant-loop-v : goal.invariant-loop-v
invariant-loop-v l = l.cut ≡ map (λ v. bind l.vars l.row v.name) (take l.v-index l.out)
