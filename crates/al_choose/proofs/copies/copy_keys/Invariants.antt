use Rattle.std.proofs.Common.{◌≡◌, take}
use Rattle.al_choose.proofs.copies.copy_keys.Given as goal

abbrev pub invariant-loop-new : goal.invariant-loop-new
invariant-loop-new l = l.copies ≡ take l.new-index l.keys
