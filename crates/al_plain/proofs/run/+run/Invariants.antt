use Rattle.std.proofs.Common.{take}
use Rattle.std.specs.List.{All, AllZip}
use Rattle.al_plan.specs.Allows.{live}
use Rattle.al_plain.specs.Gives.{AreWide, IsNestable, sets_of}
use Rattle.al_plain.specs.Groups.{Extends}
use Rattle.al_plain.proofs.run.+run.Given as goal

abbrev pub invariant-nest-loop-bunch : goal.invariant-nest-loop-bunch
invariant-nest-loop-bunch l =
    IsNestable l.nested (sets_of l.sets) l.vars → All (λ b. AreWide l.vars b.members) l.bunches → AllZip (Extends l.nested (sets_of l.sets) l.vars (live l.nested l.vars)) (take l.bunch-index l.bunches) l.rows
