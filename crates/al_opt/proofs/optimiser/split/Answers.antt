use Rattle.std.proofs.Common.{true}
use Rattle.al_rules_select.specs.Sets.{split_rules}
use Rattle.al_opt.proofs.OptimisedLaws.{reached_once, reaches_boxed}
use Rattle.al_opt.proofs.optimiser.split.Goals as goal

pub returns-in-Ok : goal.returns-in-Ok
returns-in-Ok c =
    reaches_boxed true split_rules _ _ _ _ _ c.new.result c.into_inner.ensures
    (reached_once split_rules _ _ _ _ c.in-Ok.ensures.driven c.in-Ok.ensures.walked (c.in-Ok.ensures.stuck c.split_laws.ensures) c.in-Ok.ensures.replaces)
    c.new.ensures
