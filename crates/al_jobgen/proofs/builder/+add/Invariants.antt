use Rattle.std.proofs.Common.{length}
use Rattle.al_phys.specs.Operators.{operators}
use Rattle.al_jobgen.proofs.builder.+add.Given as goal

abbrev pub decreases-add : goal.decreases-add
decreases-add l = length (operators l.p.now)
