use Rattle.std.proofs.Common.{rules, ◌≡◌, [], true, false, sym, subst, Bool, ◌∙◌}
use Rattle.al_plan.specs.Allows.{live}
use Rattle.al_rule.specs.Rules.{Decides}
use Rattle.al_rules_prune.specs.Prunes.{HaveSame, wide}
use Rattle.al_rules_prune.proofs.MatchLaws.{decides_same}
use Rattle.al_rules_prune.proofs.projects.has_same.Goals as goal

pub returns-then-inside : goal.returns-then-inside
returns-then-inside c =
    let other : c.is_wide-wide.result ≡ wide c.args.vars.now c.args.p.now = search rules in
    decides_same c.args.vars.now c.args.p.now true c.is_wide-wide.result (sym c.if-inside.true ∙ c.all_live-inside.ensures) other

pub returns-else-inside : goal.returns-else-inside
returns-else-inside c =
    let other : c.is_wide-wide.result ≡ wide c.args.vars.now c.args.p.now = search rules in
    subst (λ (b : Bool). Decides b (HaveSame c.args.vars.now (live c.args.p.now []))) (sym c.if-inside.false)
    (decides_same c.args.vars.now c.args.p.now false c.is_wide-wide.result (sym c.if-inside.false ∙ c.all_live-inside.ensures) other)
