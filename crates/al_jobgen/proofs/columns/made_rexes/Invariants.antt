use Rattle.std.proofs.Common.{◌≡◌, take, flat_map}
use Rattle.al_jobgen.specs.Columns.{made_rexes}
use Rattle.hy_job.specs.Literals.{literals}
use Rattle.hy_job.specs.Columns.{AreValues}
use Rattle.al_jobgen.proofs.columns.made_rexes.Given as goal

abbrev pub invariant-loop-e : goal.invariant-loop-e
invariant-loop-e l = (l.rexes ≡ made_rexes l.vars (take l.e-index l.made)) × AreValues (flat_map literals l.rexes)
