use Rattle.al_rules_group.proofs.Finding.{told, group_over_other}
use Rattle.al_rules_group.proofs.projects.grouped.Goals as goal

pub returns-in-Some : goal.returns-in-Some
returns-in-Some c =
    let g = c.in-Some.group in
    told c.project_input.result _ _ _ _ (λ none. group_over_other c.args.p.now g.nested.now g.input.now c.in-Some.ensures.0 none) (λ x h. (g.nested.now, g.input.now, c.in-Some.ensures.0, c.in-Some.ensures.1, h)) c.project_input.ensures
