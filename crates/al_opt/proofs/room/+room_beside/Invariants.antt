use Rattle.std.proofs.Common.{◌+◌, ◌*◌}
use Rattle.al_plan.specs.Accept.{size}
use Rattle.al_opt.proofs.room.+room_beside.Given as goal

abbrev pub decreases-room_beside : goal.decreases-room_beside
decreases-room_beside l = 2 * size l.p.now + 1

abbrev pub decreases-beside_input : goal.decreases-beside_input
decreases-beside_input l = 2 * size l.p.now
