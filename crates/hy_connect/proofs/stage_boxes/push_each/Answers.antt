use Rattle.std.proofs.Common.{ℕ, List, [], ◌∷◌, ◌++◌, map, sym, ap, ◌∙◌, append_assoc}
use Rattle.std.specs.List.{range_with_len}
use Rattle.hy_mail.specs.declared.plan.BoxPlan.{BoxPlan}
use Rattle.hy_connect.specs.Plans.{plan_at}
use Rattle.hy_connect.proofs.Planning.{map_more}
use Rattle.hy_connect.proofs.stage_boxes.push_each.Goals as goal

pub loop-sender-preserved : goal.loop-sender-preserved
loop-sender-preserved c =
    let f : ℕ → BoxPlan = λ s. plan_at c.args.ends s 1 c.args.receiver in
    let s = c.loop-sender.sender in
    let old = c.args.plans.now in
    (c.in_ok-push_box.ensures {u = tt}) ∙ ap (λ (xs : List BoxPlan). xs ++ f s ∷ []) c.loop-sender.invariant
    ∙ append_assoc old (map f (range_with_len 0 s)) (f s ∷ []) ∙ ap (λ (xs : List BoxPlan). old ++ xs) (sym (map_more f s))
