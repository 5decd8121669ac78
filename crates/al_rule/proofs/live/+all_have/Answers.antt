use Rattle.std.proofs.Common.{rules, ◌≡◌, sym, get_or, false}
use Rattle.std.specs.List.{list_all}
use Rattle.al_plan.specs.Names.{names}
use Rattle.al_rule.proofs.LiveLaws.{args_fail}
use Rattle.al_rule.proofs.live.+all_have.Goals as goal

pub all_args_have-returns-then-not-all_have : goal.all_args_have-returns-then-not-all_have
all_args_have-returns-then-not-all_have g t c =
    let miss : list_all (g.N.Named.holds_of c.args.property.now) (names (get_or c.args.args.now c.loop-e.e-index c.e-item.result)) ≡ false = search rules in
    sym (args_fail (g.N.Named.holds_of c.args.property.now) c.args.args.now c.loop-e.e-index c.e-item.result c.loop-e-test.true miss)
