use Rattle.std.proofs.Common.{◌≡◌, map, take}
use Rattle.al_value.specs.declared.value.Value.TheVariants as V
use Rattle.al_plain.proofs.call.nulls.Given as goal

abbrev pub invariant-loop-row : goal.invariant-loop-row
invariant-loop-row l = l.values ≡ map (λ r. V.Null) (take l._row-index l.rows)
