use Rattle.std.proofs.Common.{List, ◌∷◌, [], ◌++◌, min, take, drop, length, ap, subst, ◌∙◌}
use Rattle.std.proofs.lemmas.List.{drop_min, take_min}
use Rattle.al_value.specs.declared.value.Value.{Value}
use Rattle.al_agg.specs.Part.{width}
use Rattle.hy_job.specs.Columns as spec
use Rattle.hy_group.specs.Joining.{HasJoined}
use Rattle.hy_group.proofs.JoinLaws.{mixed_all, mixed_next}
use Rattle.hy_group.proofs.joining.join_fields.Goals as goal

pub loop-j-preserved : goal.loop-j-preserved
loop-j-preserved c =
    let m = c.index-made-j.result in
    let left = c.loop-j.left.now in
    let kind = c.agg_of-a.ensures in
    let wide = c.min.ensures ∙ ap (λ k. min k (length left)) (c.width.ensures.table ∙ ap width kind) in
    let n =
    mixed_next c.args.made.now c.loop-j.j m c.loop-j.states.items c.index_mut.result.now c.join_part.new.p c.args.fields.now left c.split_at.result.0.now c.split_at.result.1.now c.loop-j-test.true c.index-made-j.is c.index_mut.ensures.value
    c.loop-j.invariant.0 c.loop-j.invariant.1
    (c.split_at.ensures.front ∙ ap (λ k. take k left) wide ∙ take_min (width (spec.agg_of m)) left)
    (c.split_at.ensures.back ∙ ap (λ k. drop k left) wide ∙ drop_min (width (spec.agg_of m)) left)
    (c.join_part.ensures.kind ∙ kind)
    (subst (λ a. (before : List (List Value)) → HasJoined a before c.index_mut.result.now → HasJoined a (before ++ c.split_at.result.0.now ∷ []) c.join_part.new.p) kind c.in_ok-join_part.ensures.joined)
    in
    (n.0, n.1, λ rows h. n.2 rows (c.loop-j.invariant.2 rows h))

pub returns-clause-seen : goal.returns-clause-seen
returns-clause-seen c rows h = mixed_all c.args.made.now c.loop-j.j rows c.args.fields.now c.loop-j.states.items c.loop-j-test.false (c.loop-j.invariant.2 rows h)
