use Rattle.std.proofs.Common.{◌≡◌, ◌++◌, ◌∷◌, [], replicate}
use Rattle.hy_join.proofs.fields.put_padded.Given as goal

abbrev pub invariant-loop-place : goal.invariant-loop-place
invariant-loop-place l = l.out ≡ l.left ++ replicate l._place (0 ∷ [])
