use Rattle.hy_connect.specs.Outlets.{posted}
use Rattle.hy_connect.specs.Many.{Front, parcel_of}
use Rattle.hy_connect.proofs.outlets.post_all.Given as goal

abbrev pub invariant-loop-k : goal.invariant-loop-k
invariant-loop-k l = Front (posted (parcel_of l.mark)) l.k l.initial.outlets l.outlets
