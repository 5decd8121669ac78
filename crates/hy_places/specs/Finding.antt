-- How the numbers of mailboxes are found: those of an edge follow those of the edges before it.
use Rattle.std.specs.Prelude.{ℕ, nat_eq, Bool, ◌&&◌, List, filter, length, take, if◌then◌else◌}
use Rattle.std.specs.List.{flat_map, list_any}
use Rattle.hy_job.specs.declared.job.Edge.{Edge}
use Rattle.hy_job.specs.declared.job.Job.{Job}
use Rattle.hy_job.specs.declared.job.Stage.{Stage}
use Rattle.hy_job.specs.declared.job.Wire.{Wire}
use Rattle.hy_job.specs.declared.job.Wire.TheVariants as W
use Rattle.hy_job.specs.Boxes.{boxes_over, place_where}

-- the place of an activity in the stage
abbrev pub place_of : List ℕ → ℕ → ℕ
place_of activities a = place_where (λ b. nat_eq b a) activities

-- whether the edge feeds this input
abbrev pub feeds : ℕ → ℕ → Edge → Bool
feeds a input e = nat_eq e.to a && nat_eq e.input input

abbrev pub leaves : ℕ → Edge → Bool
leaves a e = nat_eq e.from a

-- whether the edge is one of the stage
abbrev pub ends_in : Stage → Edge → Bool
ends_in stage e = list_any (λ a. nat_eq a e.to) stage.activities

-- the number of the mailboxes of the edges before this place
abbrev pub boxes_before : Job → Stage → ℕ → ℕ
boxes_before job stage place = length (flat_map (boxes_over job) (filter (ends_in stage) (take place job.edges)))

-- how many mailboxes an edge with such a wire has
abbrev pub boxes_count : Wire → ℕ → ℕ
boxes_count W.OneToOne n = n
boxes_count (W.Hash columns) n = n
boxes_count W.Broadcast n = n
boxes_count W.Gather n = 1
boxes_count (W.Merge keys) n = n

-- and how many of them are in a stage
abbrev pub boxes_in : Job → Stage → Edge → ℕ
boxes_in job stage e = if ends_in stage e then boxes_count e.wire job.partitions else 0

-- where among an edge's mailboxes is the one into which a task puts for a receiver
abbrev pub place_over : Wire → ℕ → ℕ → ℕ
place_over W.OneToOne r s = r
place_over (W.Hash columns) r s = r
place_over W.Broadcast r s = r
place_over W.Gather r s = 0
place_over (W.Merge keys) r s = s

-- where the first of those is from which the task in partition `j` takes
abbrev pub first_inbox : Wire → ℕ → ℕ
first_inbox W.OneToOne j = j
first_inbox (W.Hash columns) j = j
first_inbox W.Broadcast j = j
first_inbox W.Gather j = 0
first_inbox (W.Merge keys) j = 0

-- and of those into which it puts
abbrev pub first_outbox : Wire → ℕ → ℕ
first_outbox W.OneToOne j = j
first_outbox (W.Hash columns) j = 0
first_outbox W.Broadcast j = 0
first_outbox W.Gather j = 0
first_outbox (W.Merge keys) j = j
