use Rattle.std.proofs.Common.{◌≡◌, All}
use Rattle.hy_frame.specs.Frame.{FrameOf}
use Rattle.hy_mail_tests.proofs.threads.frames.Given as goal

abbrev pub invariant-loop-number : goal.invariant-loop-number
invariant-loop-number l = (l.bank.out ≡ 0) × (l.bank.limit ≡ 1) × All (λ (s : FrameOf). s.arity ≡ 1) l.made.items
