use Rattle.std.proofs.Common.{◌≡◌}
use Rattle.hy_mail.specs.Passes.{IsTakeOf}
use Rattle.hy_mail_tests.specs.Closed.{HasClosed}
use Rattle.hy_mail_tests.proofs.threads.take_all.Given as goal

abbrev pub invariant-loop : goal.invariant-loop
invariant-loop g l =
    (goal.iterator-loop g).can_next l.iterator' × (goal.iterator-loop g).is_finite l.iterator'
    × (l.bank.out ≡ 0) × (l.bank.limit ≡ 1) × IsTakeOf l.mailbox l.pass × HasClosed l.pass.took l.closed.first l.closed.second
