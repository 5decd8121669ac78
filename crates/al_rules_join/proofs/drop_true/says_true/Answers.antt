use Rattle.std.proofs.Common.{true}
use Rattle.al_rules_join.proofs.Matching.{decides_says_true}
use Rattle.al_rules_join.proofs.drop_true.says_true.Goals as goal

pub returns-then-is_and : goal.returns-then-is_and
returns-then-is_and c = decides_says_true c.args.cond.now true c.has_conjunct.result (c.is_and.ensures.0 c.if-is_and.true) c.has_conjunct.ensures
