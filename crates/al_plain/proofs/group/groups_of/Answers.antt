use Rattle.std.proofs.Common.{List, map, ap, sym, subst, ◌∙◌}
use Rattle.std.proofs.lemmas.List.{take_all}
use Rattle.al_plain.specs.Rows.{Cells, AreDistinct}
use Rattle.al_plain.specs.Groups.{AreGroups, group_at}
use Rattle.al_plain.proofs.GroupLaws.{groups_are}
use Rattle.al_plain.proofs.group.groups_of.Goals as goal

pub returns : goal.returns
returns c =
    let keys = c.args.keys.now in
    let vars = c.args.vars.now in
    let rows = c.args.rows.now in
    let whole = c.loop-key.invariant ∙ ap (map (group_at keys vars rows)) (take_all c.loop-key.key-index c.as_slice-key-items.result.now c.loop-key-test.false ∙ c.as_slice-key-items.ensures) in
    let kept = subst (λ (xs : List Cells). AreDistinct xs c.in_ok-different.different) (c.as_slice.ensures ∙ c.in_ok-all.ensures) c.in_ok-different.ensures in
    subst (AreGroups keys vars rows) (sym whole) (groups_are keys vars rows c.in_ok-different.different kept)
