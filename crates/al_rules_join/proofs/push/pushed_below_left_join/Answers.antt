use Rattle.std.proofs.Common.{◌≡◌, false}
use Rattle.std.specs.List.{list_any}
use Rattle.al_conj.specs.Conj.{Splits, conj}
use Rattle.al_rules_join.specs.JoinRules.{reads_of}
use Rattle.al_rules_join.proofs.Matching.{none_of, other_left_join_cond_right}
use Rattle.al_rules_join.proofs.push.pushed_below_left_join.Goals as goal

pub returns-in_default-2 : goal.returns-in_default-2
returns-in_default-2 c =
    let join = c.in-Some.join in
    let has = reads_of join.right.now in
    other_left_join_cond_right c.args.p.now join.cond.now join.left.now join.right.now c.in-Some.ensures
    (none_of c.in_ok-split.field-0 (list_any has (conj join.cond.now) ≡ false) (λ s. Splits has join.cond.now s.first s.rest) c.in_default-2.is (c.in_ok-split.ensures {u = tt}))
