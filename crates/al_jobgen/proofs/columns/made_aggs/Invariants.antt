use Rattle.std.proofs.Common.{◌≡◌, take, flat_map}
use Rattle.al_jobgen.specs.Columns.{made_aggs}
use Rattle.hy_job.specs.Literals.{agg_literals}
use Rattle.hy_job.specs.Columns.{AreValues}
use Rattle.al_jobgen.proofs.columns.made_aggs.Given as goal

abbrev pub invariant-loop-call : goal.invariant-loop-call
invariant-loop-call l = (l.aggs ≡ made_aggs l.vars (take l.call-index l.made)) × AreValues (flat_map agg_literals l.aggs)
