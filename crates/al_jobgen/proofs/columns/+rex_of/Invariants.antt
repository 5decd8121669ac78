use Rattle.std.proofs.Common.{◌≡◌, map, take, flat_map}
use Rattle.al_jobgen.specs.Columns.{rex_of}
use Rattle.hy_job.specs.Literals.{literals}
use Rattle.hy_job.specs.Columns.{AreValues}
use Rattle.al_jobgen.proofs.columns.+rex_of.Given as goal

abbrev pub invariant-rexes_of-loop-e : goal.invariant-rexes_of-loop-e
invariant-rexes_of-loop-e l = (l.rexes ≡ map (rex_of l.vars) (take l.e-index l.args)) × AreValues (flat_map literals l.rexes)
