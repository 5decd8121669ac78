use Rattle.al_rules_prune.specs.Prunes as meaning
use Rattle.al_rules_prune.specs.Sound as sound
use Rattle.al_rules_prune.proofs.MatchLaws.{replaces_by}
use Rattle.al_rules_prune.proofs.cuts.ProjectBelowSelectRule.apply.Goals as goal

pub returns-clause-refines : goal.returns-clause-refines
returns-clause-refines c = replaces_by meaning.ProjectBelowSelect sound.project_below_select c.args.p c.cut.result c.cut.ensures.applied
