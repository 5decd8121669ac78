use Rattle.hy_mail.proofs.Keeps.{learns}
use Rattle.hy_mail.proofs.mailbox.learn.Goals as goal

pub learn_as-requires-clause-rule : goal.learn_as-requires-clause-rule
learn_as-requires-clause-rule c = learns _ _ c.requires.taker
