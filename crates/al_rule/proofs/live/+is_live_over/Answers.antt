use Rattle.std.proofs.Common.{rules}
use Rattle.al_plan.specs.Allows.{live}
use Rattle.al_rule.proofs.LiveLaws.{among-Group}
use Rattle.al_rule.proofs.live.+is_live_over.Goals as goal

pub returns-else-is_made : goal.returns-else-is_made
returns-else-is_made t c = λ given h. search (rules, c.is_live_over-else-is_made.ensures (live c.get-in-Group.result.now given), c.is_live_over-below-in-Group.ensures given h, among-Group c.in-Group.keys c.get-else-is_made.result.now c.get-in-Group.result.now given)
