use Rattle.std.proofs.Common.{◌+◌, ℕ, List, [], ◌∷◌, ◌++◌, sym, ap, ◌∙◌}
use Rattle.hy_job.proofs.Members.{range_more}
use Rattle.hy_connect.proofs.stage_boxes.push_box.Goals as goal

pub loop-n-preserved : goal.loop-n-preserved
loop-n-preserved c =
    let first = c.args.ends.from + c.args.first in
    c.in_ok-push.ensures.ok ∙ ap (λ (xs : List ℕ). xs ++ (first + c.loop-n.n) ∷ []) c.loop-n.invariant ∙ sym (range_more first c.loop-n.n)
