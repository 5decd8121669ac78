use Rattle.std.proofs.Common.{◌≡◌}
use Rattle.hy_stream.specs.Places.{own_of}
use Rattle.hy_stream.proofs.source.next_place.Given as goal

abbrev pub invariant-loop-at : goal.invariant-loop-at
invariant-loop-at l = own_of l.partitions l.partition l.from l.rows ≡ own_of l.partitions l.partition l.at l.rows
