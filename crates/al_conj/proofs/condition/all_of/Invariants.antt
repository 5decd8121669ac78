use Rattle.std.proofs.Common.{◌≡◌, [], ◌∷◌, ◌++◌, length}
use Rattle.al_conj.specs.Conj as meaning
use Rattle.al_conj.proofs.condition.all_of.Given as goal

abbrev pub invariant-loop-e : goal.invariant-loop-e
invariant-loop-e l = meaning.all_of l.fn.conjuncts ≡ meaning.all_of (l.before ++ l.whole ∷ [])

abbrev pub decreases-loop-e : goal.decreases-loop-e
decreases-loop-e l = length l.before
