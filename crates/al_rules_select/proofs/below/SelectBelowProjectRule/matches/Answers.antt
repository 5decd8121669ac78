use Rattle.al_rules_select.proofs.SelectLaws.{other_project, yes_project}
use Rattle.al_rules_select.proofs.below.SelectBelowProjectRule.matches.Goals as goal

pub returns-in_default-over : goal.returns-in_default-over
returns-in_default-over c = other_project c.args.p.now _ c.in-Some.over.now c.in-Some.ensures (λ vars input h. c.in_default-over.not-Project vars input h)

pub returns-in-Project : goal.returns-in-Project
returns-in-Project c = yes_project c.args.p.now _ c.in-Some.over.now c.in-Project.vars c.in-Project.input c.in-Some.ensures c.in-Project.is
