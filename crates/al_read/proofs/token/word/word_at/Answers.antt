use Rattle.al_read.proofs.WordLaws.{front_within}
use Rattle.al_read.proofs.token.word.word_at.Goals as goal

pub split_at-requires : goal.split_at-requires
split_at-requires c = front_within _ _ _ c.word_len.ensures
