use Rattle.std.proofs.Common.{◌≡◌}
use Rattle.hy_frame.specs.declared.writer.WriterState.TheVariants.{Opened}
use Rattle.hy_mail.specs.Passes.{IsSendOf}
use Rattle.hy_mail_tests.proofs.threads.send.Given as goal

abbrev pub invariant-loop-sent : goal.invariant-loop-sent
invariant-loop-sent g l =
    (goal.iterator-loop-sent g).can_next l.sent-iterator × (goal.iterator-loop-sent g).is_finite l.sent-iterator
    × IsSendOf l.mailbox l.pass × (l.pass.word ≡ Opened) × (l.pass.number ≡ l.fn.pass.number)
