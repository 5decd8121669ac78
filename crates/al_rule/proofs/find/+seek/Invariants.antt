use Rattle.std.proofs.Common.{◌+◌, ◌*◌}
use Rattle.al_plan.specs.Accept.{size}
use Rattle.al_rule.proofs.find.+seek.Given as goal

abbrev pub decreases-seek : goal.decreases-seek
decreases-seek g l = 3 * size l.p.now + 2

abbrev pub decreases-seek_below : goal.decreases-seek_below
decreases-seek_below g l = 3 * size l.p.now + 1

abbrev pub decreases-seek_in : goal.decreases-seek_in
decreases-seek_in g l = 3 * size l.p.now
