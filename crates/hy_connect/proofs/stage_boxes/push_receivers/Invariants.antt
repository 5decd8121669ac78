use Rattle.std.proofs.Common.{◌≡◌, ◌++◌, flat_map}
use Rattle.std.specs.List.{range_with_len}
use Rattle.hy_connect.specs.Plans.{plans_at}
use Rattle.hy_connect.proofs.stage_boxes.push_receivers.Given as goal

abbrev pub invariant-loop-receiver : goal.invariant-loop-receiver
invariant-loop-receiver l = l.plans ≡ l.initial.plans ++ flat_map (plans_at l.ends l.wire) (range_with_len 0 l.receiver)
