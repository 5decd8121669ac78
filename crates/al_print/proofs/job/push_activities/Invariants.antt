use Rattle.std.proofs.Common.{◌≡◌, ◌++◌, take}
use Rattle.std.specs.List.{flat_map}
use Rattle.al_print.specs.Jobs.{activity_line}
use Rattle.al_print.proofs.job.push_activities.Given as goal

abbrev pub invariant-loop-activity : goal.invariant-loop-activity
invariant-loop-activity l = l.text ≡ l.initial.text ++ flat_map activity_line (take l.activity-index l.activities)
