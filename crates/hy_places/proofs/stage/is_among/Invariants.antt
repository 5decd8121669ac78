use Rattle.std.proofs.Common.{◌≡◌, nat_eq, false, take}
use Rattle.std.specs.List.{list_any}
use Rattle.hy_places.proofs.stage.is_among.Given as goal

abbrev pub invariant-loop-a : goal.invariant-loop-a
invariant-loop-a l = list_any (λ a. nat_eq a l.activity) (take l.a-index l.activities) ≡ false
