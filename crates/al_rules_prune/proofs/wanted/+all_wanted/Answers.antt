use Rattle.std.proofs.Common.{rules}
use Rattle.al_plan.specs.Allows.{live}
use Rattle.al_rules_prune.proofs.WantedLaws.{among-Group}
use Rattle.al_rules_prune.proofs.wanted.+all_wanted.Goals as goal

pub returns-then-all_made : goal.returns-then-all_made
returns-then-all_made g t c = λ given h. search (rules, c.all_wanted-then-all_made.ensures (live c.get-in-Group.result.now given), c.all_wanted-below-in-Group.ensures given h, among-Group (g.W.Wanted.vars_of c.args.wanted.now) c.in-Group.keys c.get-then-all_made.result.now c.get-in-Group.result.now given)
