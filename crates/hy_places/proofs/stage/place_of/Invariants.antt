use Rattle.std.proofs.Common.{◌≡◌, ◌+◌, drop}
use Rattle.hy_places.specs.Finding.{place_of}
use Rattle.hy_places.proofs.stage.place_of.Given as goal

abbrev pub invariant-loop-place : goal.invariant-loop-place
invariant-loop-place l = place_of l.activities l.activity ≡ l.place + place_of (drop l.place l.activities) l.activity
