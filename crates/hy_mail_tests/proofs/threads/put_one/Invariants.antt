use Rattle.std.proofs.Common.{◌≡◌}
use Rattle.hy_mail.specs.Passes.{IsSendOf}
use Rattle.hy_mail_tests.proofs.threads.put_one.Given as goal

abbrev pub invariant-loop : goal.invariant-loop
invariant-loop g l =
    (goal.iterator-loop g).can_next l.iterator' × (goal.iterator-loop g).is_finite l.iterator'
    × IsSendOf l.mailbox l.pass × (l.pass.number ≡ l.initial.pass.number) × (l.pass.word ≡ l.initial.pass.word) × (l.left ≡ l.initial.left)
