use Rattle.al_rules_group.proofs.Finding.{told, aggregate_over_other}
use Rattle.al_rules_group.proofs.projects.aggregated.Goals as goal

pub returns-in-Some : goal.returns-in-Some
returns-in-Some c =
    let y = c.in-Some.below.now in
    told c.project_input.result _ _ _ _ (λ none. aggregate_over_other c.args.p.now y c.in-Some.ensures none) (λ x h. (y, c.in-Some.ensures, h)) c.project_input.ensures
