use Rattle.std.proofs.Common.{ℕ, List, ◌++◌, flat_map, sym, ap, ◌∙◌, append_assoc}
use Rattle.std.specs.List.{range_with_len}
use Rattle.hy_mail.specs.declared.plan.BoxPlan.{BoxPlan}
use Rattle.hy_connect.specs.Plans.{plans_at}
use Rattle.hy_connect.proofs.Planning.{flat_more}
use Rattle.hy_connect.proofs.stage_boxes.push_receivers.Goals as goal

pub loop-receiver-preserved : goal.loop-receiver-preserved
loop-receiver-preserved c =
    let f : ℕ → List BoxPlan = plans_at c.args.ends c.args.wire.now in
    let r = c.loop-receiver.receiver in
    let old = c.args.plans.now in
    (c.in_ok-push_receiver.ensures {u = tt}) ∙ ap (λ (xs : List BoxPlan). xs ++ f r) c.loop-receiver.invariant
    ∙ append_assoc old (flat_map f (range_with_len 0 r)) (f r) ∙ ap (λ (xs : List BoxPlan). old ++ xs) (sym (flat_more f r))
