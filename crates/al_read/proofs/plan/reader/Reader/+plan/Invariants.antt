use Rattle.std.proofs.Common.{ℕ, ◌+◌, ◌*◌}
use Rattle.al_read.proofs.plan.reader.Reader.+plan.Given as goal

abbrev pub decreases-plan : goal.decreases-plan
decreases-plan l = 4 * l.levels

abbrev pub decreases-one_input : goal.decreases-one_input
decreases-one_input l = 4 * l.levels + 1

abbrev pub decreases-two_inputs : goal.decreases-two_inputs
decreases-two_inputs l = 4 * l.levels + 1

abbrev pub decreases-inputs : goal.decreases-inputs
decreases-inputs l = 4 * l.levels + 2
