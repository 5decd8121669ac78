use Rattle.std.proofs.Common.{◌≡◌, ◌++◌, map, take}
use Rattle.al_value.specs.declared.value.Value.TheVariants as V
use Rattle.al_plain.proofs.join.padded_row.Given as goal

abbrev pub invariant-loop-var : goal.invariant-loop-var
invariant-loop-var l = l.longer ≡ l.row ++ map (λ v. V.Null) (take l._var-index l.vars)
