use Rattle.hy_job.proofs.JobCases.{sorting_sound, sorting_stages, reading_sound, joining_sound, joining_stages, block_needed, build_first}
use Rattle.hy_job.proofs.SettledCases.{listing_settles}
use Rattle.hy_job.proofs.GroupCases.{grouping_sound, states_have_fields, states_joined, null_alone}
use Rattle.hy_job.proofs.CheckCases.{check_fails}
use Rattle.hy_job.proofs.laws.job_cases.Goals as goal

pub returns-clause-sound : goal.returns-clause-sound
returns-clause-sound c = sorting_sound

pub returns-clause-two_stages : goal.returns-clause-two_stages
returns-clause-two_stages c = sorting_stages

pub returns-clause-block_needed : goal.returns-clause-block_needed
returns-clause-block_needed c = block_needed

pub returns-clause-build_first : goal.returns-clause-build_first
returns-clause-build_first c = build_first

pub returns-clause-joining_sound : goal.returns-clause-joining_sound
returns-clause-joining_sound c = joining_sound

pub returns-clause-four_stages : goal.returns-clause-four_stages
returns-clause-four_stages c = joining_stages

pub returns-clause-reading_sound : goal.returns-clause-reading_sound
returns-clause-reading_sound c = reading_sound

pub returns-clause-settled : goal.returns-clause-settled
returns-clause-settled c = listing_settles

pub returns-clause-grouping_sound : goal.returns-clause-grouping_sound
returns-clause-grouping_sound c = grouping_sound

pub returns-clause-state_fields : goal.returns-clause-state_fields
returns-clause-state_fields c = states_have_fields

pub returns-clause-states_joined : goal.returns-clause-states_joined
returns-clause-states_joined c = states_joined

pub returns-clause-null_alone : goal.returns-clause-null_alone
returns-clause-null_alone c = null_alone

pub returns-clause-check_fails : goal.returns-clause-check_fails
returns-clause-check_fails c = check_fails
