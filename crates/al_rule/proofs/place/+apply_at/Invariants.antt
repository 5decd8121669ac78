use Rattle.std.proofs.Common.{length}
use Rattle.al_rule.proofs.place.+apply_at.Given as goal

abbrev pub decreases-apply_at : goal.decreases-apply_at
decreases-apply_at g l = length l.place.now
