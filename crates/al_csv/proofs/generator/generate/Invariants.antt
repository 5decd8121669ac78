use Rattle.std.proofs.Common.{◌≡◌, ◌++◌, codes}
use Rattle.std.specs.List.{flat_map, range_with_len}
use Rattle.al_csv.specs.Generator.{number_after, row_at}
use Rattle.al_csv.proofs.generator.generate.Given as goal

abbrev pub invariant-loop-i : goal.invariant-loop-i
invariant-loop-i l = (l.text ≡ codes "id,grp,val,tag\n" ++ flat_map (row_at l.seed) (range_with_len 0 l.i)) × (l.x ≡ number_after l.seed l.i)
