use Rattle.std.proofs.Common.{◌≡◌, ◌≤◌, length, take, vec_capacity}
use Rattle.std.specs.Prelude.{map}
use Rattle.hy_mail.specs.Desks.{fresh_box}
use Rattle.hy_mail.proofs.desk.Desk.new.Given as goal

abbrev pub invariant-loop-plan : goal.invariant-loop-plan
invariant-loop-plan l = (l.made.items ≡ map fresh_box (take l.plan-index l.boxes)) × (length l.boxes ≤ vec_capacity l.made)
