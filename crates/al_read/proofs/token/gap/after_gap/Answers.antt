use Rattle.std.proofs.Common.{false, arith}
use Rattle.al_read.proofs.GapLaws.{gap_len-within}
use Rattle.al_read.proofs.token.gap.after_gap.Goals as goal

pub split_at-requires : goal.split_at-requires
split_at-requires c = omega (arith, gap_len-within false c.args.bytes.now, c.gap_len.ensures)
