use Rattle.std.proofs.Common.{◌≡◌, ◌≤◌, ◌*◌}
use Rattle.hy_places.specs.Finding.{boxes_before}
use Rattle.hy_places.proofs.boxes.first_box.Given as goal

abbrev pub invariant-loop-edge : goal.invariant-loop-edge
invariant-loop-edge l = record { first : l.first ≡ boxes_before l.job l.stage l.edge-index; small : l.first ≤ 16 * l.edge-index }
