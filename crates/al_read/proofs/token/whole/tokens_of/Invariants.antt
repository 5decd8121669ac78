use Rattle.std.proofs.Common.{length}
use Rattle.al_read.proofs.Readings.{Kept}
use Rattle.al_read.proofs.token.whole.tokens_of.Given as goal

abbrev pub invariant-loop-piece : goal.invariant-loop-piece
invariant-loop-piece l = Kept l.bytes l.tokens l.rest

abbrev pub decreases-loop-piece : goal.decreases-loop-piece
decreases-loop-piece l = length l.rest
