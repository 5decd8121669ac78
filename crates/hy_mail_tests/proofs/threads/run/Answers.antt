use Rattle.std.proofs.Common.{rules, true}
use Rattle.hy_mail_tests.specs.Closed.{HasClosed}
use Rattle.hy_mail_tests.proofs.ClosedLaws.{all_closed}
use Rattle.hy_mail_tests.proofs.threads.run.Goals as goal

pub settle-requires-clause-closed : goal.settle-requires-clause-closed
settle-requires-clause-closed g c =
    let both : HasClosed c.join-first.result.1.1.0.took true true = search rules in
    all_closed c.join-first.result.1.1.0.took c.args.of.mailbox.senders c.args.of.made.0 both
