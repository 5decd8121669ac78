use Rattle.std.proofs.Common.{rules, ◌≡◌, ◌≤◌, sym, ap, ◌∙◌, length, get_or, take_all, true, nat_eq, arith}
use Rattle.std.specs.Cmp.Lexicographic.{pointwise}
use Rattle.std.specs.List.{list_any}
use Rattle.std.proofs.lemmas.List.Folds.{list_any_at}
use Rattle.al_rule.proofs.LiveLaws.{among_made}
use Rattle.al_rule.proofs.live.is_made.Goals as goal

pub returns-then-eq : goal.returns-then-eq
returns-then-eq g c =
    let hit : pointwise nat_eq (get_or c.args.made.now c.loop-m.m-index c.m-item.result).0.name c.args.v.now.name ≡ true = search rules in
    sym (among_made c.args.made.now c.args.v.now.name ∙ list_any_at (λ m. pointwise nat_eq m.0.name c.args.v.now.name) c.args.made.now c.loop-m.m-index c.m-item.result c.loop-m-test.true hit)

pub returns : goal.returns
returns g c =
    let done : length c.args.made.now ≤ c.loop-m.m-index = omega (arith, c.loop-m-test.false) in
    sym (among_made c.args.made.now c.args.v.now.name ∙ ap (list_any (λ m. pointwise nat_eq m.0.name c.args.v.now.name)) (sym (take_all c.loop-m.m-index c.args.made.now done)) ∙ c.loop-m.invariant)
