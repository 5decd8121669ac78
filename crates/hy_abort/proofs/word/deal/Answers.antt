use Rattle.std.proofs.Common.{rules}
use Rattle.hy_abort.proofs.Steps.{splits}
use Rattle.hy_abort.proofs.word.deal.Goals as goal

pub split_seat-token-requires : goal.split_seat-token-requires
split_seat-token-requires c = (c.requires.mine, search rules, splits _ _ _ c.requires.some)
