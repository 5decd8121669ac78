use Rattle.std.proofs.Common.{◌∙◌, ap, ◌++◌, ◌∷◌, [], sym}
use Rattle.hy_job.proofs.Members.{range_below}
use Rattle.hy_job.proofs.staging.numbers.Goals as goal

pub loop-n-preserved : goal.loop-n-preserved
loop-n-preserved c = c.in_ok-push.ensures.items ∙ (ap (λ xs. xs ++ c.loop-n.n ∷ []) c.loop-n.invariant ∙ sym (range_below c.loop-n.n))
