-- What a sound job tells of the operators of its activities.
use Rattle.std.specs.List.{Contains}
use Rattle.hy_job.specs.declared.job.Activity.{Activity}
use Rattle.hy_job.specs.declared.job.Job.{Job}
use Rattle.hy_job.specs.Sound.{SoundJob, widths_of}
use Rattle.hy_operator.specs.Kinds.{Fits}

-- each activity fits the rows that it sees
abbrev pub ActivitiesFit : Type 0
ActivitiesFit = (job : Job) → SoundJob job → (a : Activity) → Contains job.activities a → Fits a.kind (widths_of job a.number) a.arity
