use Rattle.std.proofs.Common.{rules, ◌≡◌, ◌≤◌, sym, ap, ◌∙◌, length, get_or, take_all, false, arith}
use Rattle.std.specs.List.{list_all}
use Rattle.al_plan.specs.Allows.{is_among}
use Rattle.al_rules_prune.proofs.WantedLaws.{all_made_among, one_fails}
use Rattle.al_rules_prune.proofs.wanted.all_made.Goals as goal

pub returns-then-not-has : goal.returns-then-not-has
returns-then-not-has g c =
    let vs = g.W.Wanted.vars_of c.args.wanted.now in
    let miss : is_among vs (get_or c.args.made.now c.loop-m.m-index c.m-item.result).0.name ≡ false = search rules in
    sym (all_made_among vs c.args.made.now ∙ one_fails (λ m. is_among vs m.0.name) c.args.made.now c.loop-m.m-index c.m-item.result c.loop-m-test.true miss)

pub returns : goal.returns
returns g c =
    let vs = g.W.Wanted.vars_of c.args.wanted.now in
    let done : length c.args.made.now ≤ c.loop-m.m-index = omega (arith, c.loop-m-test.false) in
    sym (all_made_among vs c.args.made.now ∙ ap (list_all (λ m. is_among vs m.0.name)) (sym (take_all c.loop-m.m-index c.args.made.now done)) ∙ c.loop-m.invariant)
