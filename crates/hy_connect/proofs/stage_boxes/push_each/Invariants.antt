use Rattle.std.proofs.Common.{◌≡◌, ◌++◌, map}
use Rattle.std.specs.List.{range_with_len}
use Rattle.hy_connect.specs.Plans.{plan_at}
use Rattle.hy_connect.proofs.stage_boxes.push_each.Given as goal

abbrev pub invariant-loop-sender : goal.invariant-loop-sender
invariant-loop-sender l = l.plans ≡ l.initial.plans ++ map (λ s. plan_at l.ends s 1 l.receiver) (range_with_len 0 l.sender)
