use Rattle.std.proofs.Common.{◌≡◌, map}
use Rattle.crossbeam_queue.specs.Passes.{IsPassOf, view}
use Rattle.hy_mail.specs.Passes.{SendState}
use Rattle.hy_mail.proofs.mailbox.gather.Given as goal

abbrev pub invariant-loop-pass : goal.invariant-loop-pass
invariant-loop-pass l = IsPassOf l.line l.all × (view l.all ≡ record (view l.initial.all) { known = map (λ (s : SendState). s.put) l.yielded })
