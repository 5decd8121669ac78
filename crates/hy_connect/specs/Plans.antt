-- The mailboxes of a stage, with its tasks by their numbers.
use Rattle.std.specs.Prelude.{◌<◌, ◌+◌, ◌*◌, ℕ, nat_eq, List, [], ◌∷◌, map, if◌then◌else◌}
use Rattle.std.specs.List.{flat_map, list_any, range_with_len}
use Rattle.hy_mail.specs.declared.plan.BoxPlan.{BoxPlan}
use Rattle.hy_job.specs.declared.job.Edge.{Edge}
use Rattle.hy_job.specs.declared.job.Job.{Job}
use Rattle.hy_job.specs.declared.job.Stage.{Stage}
use Rattle.hy_job.specs.declared.job.Wire.{Wire}
use Rattle.hy_job.specs.declared.job.Wire.TheVariants as W
use Rattle.hy_job.specs.Sound.{activity, arity_of}
use Rattle.hy_job.specs.Boxes.{StageBox, boxes_of, task_at}
use Rattle.hy_places.specs.Finding.{place_of}
use Rattle.hy_connect.specs.declared.stage_boxes.Ends.{Ends}

-- a mailbox of the stage, with the tasks that put into it and the one that takes from it
abbrev pub plan_of : Job → Stage → StageBox → BoxPlan
plan_of job stage b = record {
  senders = map (task_at job.partitions stage b.edge.from) b.senders;
  receiver = task_at job.partitions stage b.edge.to b.receiver;
  capacity = b.capacity;
  arity = b.arity;
}

-- the mailboxes of a stage, in the order of their numbers
abbrev pub plans_of : Job → Stage → List BoxPlan
plans_of job stage = map (plan_of job stage) (boxes_of job stage)

-- ---- by the numbers of an edge's tasks

-- the tasks of an activity have numbers from here on
abbrev pub first_of : ℕ → List ℕ → ℕ → ℕ
first_of partitions activities a = place_of activities a * partitions

abbrev pub ends_of : Job → Stage → Edge → Ends
ends_of job stage e = record {
  partitions = job.partitions;
  from = first_of job.partitions stage.activities e.from;
  to = first_of job.partitions stage.activities e.to;
  arity = arity_of (activity job e.from);
}

-- a mailbox with so many senders, from this one on, and this receiver
abbrev pub plan_at : Ends → ℕ → ℕ → ℕ → BoxPlan
plan_at ends first count receiver = record {
  senders = range_with_len (ends.from + first) count;
  receiver = ends.to + receiver;
  capacity = 2 * count;
  arity = ends.arity;
}

-- the mailboxes of a receiver
abbrev pub plans_at : Ends → Wire → ℕ → List BoxPlan
plans_at ends W.OneToOne r = plan_at ends r 1 r ∷ []
plans_at ends (W.Hash columns) r = plan_at ends 0 ends.partitions r ∷ []
plans_at ends W.Broadcast r = plan_at ends 0 ends.partitions r ∷ []
plans_at ends W.Gather r = if nat_eq r 0 then plan_at ends 0 ends.partitions r ∷ [] else []
plans_at ends (W.Merge keys) r = if nat_eq r 0 then map (λ s. plan_at ends s 1 r) (range_with_len 0 ends.partitions) else []

-- those of an edge
abbrev pub plans_over : Ends → Wire → List BoxPlan
plans_over ends wire = flat_map (plans_at ends wire) (range_with_len 0 ends.partitions)

-- those of an edge of the stage, and none of another one
abbrev pub edge_plans : Job → Stage → Edge → List BoxPlan
edge_plans job stage e = if list_any (λ a. nat_eq a e.to) stage.activities then plans_over (ends_of job stage e) e.wire else []

-- the numbers of an edge's tasks fit, with room for more
pub record IsSmall (ends : Ends) : Type 0 where
  pub partitions : ends.partitions < 17
  pub from : ends.from < 16777217
  pub to : ends.to < 16777217
