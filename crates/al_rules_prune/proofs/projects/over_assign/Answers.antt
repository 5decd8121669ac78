use Rattle.std.proofs.Common.{rules, ◌≡◌, true, map}
use Rattle.al_rules_prune.specs.Prunes.{all_among}
use Rattle.al_rules_prune.proofs.MatchLaws.{none_assign, other_assign, all_assign}
use Rattle.al_rules_prune.proofs.projects.over_assign.Goals as goal

pub returns-in_default : goal.returns-in_default
returns-in_default c = none_assign c.args.p.now (search rules)

pub returns-in_default-over : goal.returns-in_default-over
returns-in_default-over c = other_assign c.args.p.now c.in-Some.vars.now c.in-Some.over.now (search rules) (search rules)

pub returns-then-all_made : goal.returns-then-all_made
returns-then-all_made c =
    let all : all_among c.in-Some.vars.now (map (λ m. m.0) c.in-Assign.made) ≡ true = search rules in
    all_assign c.args.p.now c.in-Some.vars.now c.in-Some.over.now c.in-Assign.made c.in-Assign.input (search rules) (search rules) all
