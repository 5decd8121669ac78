use Rattle.std.proofs.Common.{ap, arith}
use Rattle.hy_frame.specs.Frame.{free_in}
use Rattle.hy_frame.proofs.FrameLaws.{used_within, free_is}
use Rattle.hy_frame.proofs.frame.Frame.free.Goals as goal

pub overflow_mul-result : goal.overflow_mul-result
overflow_mul-result c = omega (arith, used_within _ _ _ _ _ c.self.invariant)

pub overflow_sub-result-2 : goal.overflow_sub-result-2
overflow_sub-result-2 c = omega (arith, used_within _ _ _ _ _ c.self.invariant)

pub overflow_sub-result-3 : goal.overflow_sub-result-3
overflow_sub-result-3 c = omega (arith, used_within _ _ _ _ _ c.self.invariant)

pub returns : goal.returns
returns c = omega (arith, free_is _ _ _ _ _ c.self.invariant, ap free_in c.self.view_is)
