use Rattle.std.proofs.Common.{◌≡◌, ◌+◌, false, drop}
use Rattle.al_read.specs.TokenReading.{gap_len}
use Rattle.al_read.proofs.token.gap.gap_len.Given as goal

abbrev pub invariant-loop-i : goal.invariant-loop-i
invariant-loop-i l = l.i + gap_len l.inside (drop l.i l.bytes) ≡ gap_len false l.bytes
