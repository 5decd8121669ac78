use Rattle.hy_output.proofs.CaseLaws.{fail_comes_behind, frames_are_kept, fronts_are_left, full_frames_go_on, rows_are_packed}
use Rattle.hy_output.proofs.laws.output_cases.Goals as goal

pub returns-clause-kept : goal.returns-clause-kept
returns-clause-kept c = frames_are_kept

pub returns-clause-packed : goal.returns-clause-packed
returns-clause-packed c = rows_are_packed

pub returns-clause-full : goal.returns-clause-full
returns-clause-full c = full_frames_go_on

pub returns-clause-fronts : goal.returns-clause-fronts
returns-clause-fronts c = fronts_are_left

pub returns-clause-fails : goal.returns-clause-fails
returns-clause-fails c = fail_comes_behind
