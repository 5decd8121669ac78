use Rattle.hy_connect_tests.proofs.SoundJobs.{grouping_made}
use Rattle.hy_connect_tests.proofs.jobs.grouping.Goals as goal

pub returns : goal.returns
returns c = grouping_made c.job_cases.ensures.grouping_sound c.in_ok-new.field-0 c.in_ok-activities.activities c.in_ok-edges.edges c.job.result c.in_ok-activities.ensures c.in_ok-edges.ensures c.job.ensures
