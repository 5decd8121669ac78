use Rattle.std.proofs.Common.{◌+◌, ℕ, List, [], ◌∷◌, ◌++◌, sym, ap, ◌∙◌}
use Rattle.hy_job.proofs.Members.{range_more}
use Rattle.hy_places.proofs.boxes.numbers.Goals as goal

pub loop-n-preserved : goal.loop-n-preserved
loop-n-preserved c = c.in_ok-push.ensures.ok ∙ (ap (λ (xs : List ℕ). xs ++ (c.args.first + c.loop-n.n) ∷ []) c.loop-n.invariant ∙ sym (range_more c.args.first c.loop-n.n))
