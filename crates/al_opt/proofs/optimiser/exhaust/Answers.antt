use Rattle.std.proofs.Common.{false}
use Rattle.al_opt.proofs.OptimisedLaws.{reached_out, reaches_boxed}
use Rattle.al_opt.proofs.optimiser.exhaust.Goals as goal

pub returns-in-Ok : goal.returns-in-Ok
returns-in-Ok g c =
    reaches_boxed false (g.S.RuleSet.rules_of c.args.set.now) _ _ _ _ _ c.new.result c.into_inner.ensures
    (reached_out (g.S.RuleSet.rules_of c.args.set.now) _ _ _ _ c.in-Ok.ensures.driven c.in-Ok.ensures.walked c.in-Ok.ensures.stuck c.in-Ok.ensures.replaces)
    c.new.ensures
