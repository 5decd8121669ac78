use Rattle.std.proofs.Common.{◌≡◌, ◌+◌, drop}
use Rattle.hy_job.specs.Boxes.{place_where}
use Rattle.hy_places.specs.Finding.{feeds}
use Rattle.hy_places.proofs.boxes.place_into.Given as goal

abbrev pub invariant-loop-place : goal.invariant-loop-place
invariant-loop-place l = place_where (feeds l.activity l.input) l.edges ≡ l.place + place_where (feeds l.activity l.input) (drop l.place l.edges)
