use Rattle.std.proofs.Common.{◌≡◌, ◌+◌, drop}
use Rattle.hy_job.specs.Boxes.{place_where}
use Rattle.hy_places.specs.Finding.{leaves}
use Rattle.hy_places.proofs.boxes.place_from.Given as goal

abbrev pub invariant-loop-place : goal.invariant-loop-place
invariant-loop-place l = place_where (leaves l.activity) l.edges ≡ l.place + place_where (leaves l.activity) (drop l.place l.edges)
