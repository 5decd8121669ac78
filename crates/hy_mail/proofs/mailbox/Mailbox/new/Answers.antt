use Rattle.hy_mail.proofs.Keeps.{begins}
use Rattle.hy_mail.proofs.mailbox.Mailbox.new.Goals as goal

pub ruled-requires-clause-rule : goal.ruled-requires-clause-rule
ruled-requires-clause-rule c = begins
