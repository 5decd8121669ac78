-- The text that explains how a plan is rewritten, computed and run.
use Rattle.std.specs.Prelude.{List, ℕ, ◌++◌, codes}
use Rattle.al_plan.specs.declared.file.PlanFile.{PlanFile}
use Rattle.al_rule.specs.declared.trace.TraceStep.{TraceStep}
use Rattle.al_phys.specs.declared.phys.Phys.{Phys}
use Rattle.hy_job.specs.declared.job.Job.{Job}
use Rattle.hy_job.specs.declared.job.Stage.{Stage}
use Rattle.al_print.specs.Canonical.{plan_text}
use Rattle.al_print.specs.Traces.{trace_text}
use Rattle.al_print.specs.Physical.{phys_text}
use Rattle.al_print.specs.Jobs.{job_text}

-- the trace, the file with the plan that it leads to, the physical plan, and its job with these stages
abbrev pub explanation : List TraceStep → PlanFile → Phys → Job → List Stage → List ℕ
explanation steps f ph job stages = trace_text steps ++ (codes "plan\n" ++ (plan_text f ++ (phys_text ph job.partitions ++ job_text job stages)))
