use Rattle.std.proofs.Common.{◌≡◌, false, length}
use Rattle.al_read.specs.TokenReading.{content_at}
use Rattle.al_read.proofs.StringLaws.{with_front}
use Rattle.al_read.proofs.token.string.content_of.Given as goal

abbrev pub invariant-loop-byte : goal.invariant-loop-byte
invariant-loop-byte l = with_front l.content (content_at false l.rest) ≡ content_at false l.bytes

abbrev pub decreases-loop-byte : goal.decreases-loop-byte
decreases-loop-byte l = length l.rest
