use Rattle.hy_output.proofs.EndLaws.{finish_flushes}
use Rattle.hy_output.proofs.WordLaws.{finish_clean}
use Rattle.hy_output.proofs.output.Output.finish.Goals as goal

pub returns-clause-ok : goal.returns-clause-ok
returns-clause-ok c =
    let i = c.self.inside in
    finish_flushes c.args.self.now c.flush.new.self i.arity i.unit i.filling i.way c.close.new.self c.self.view_is c.in_ok-flush.ensures.ok c.flush.ensures.opened c.close.ensures.told

pub returns-clause-clean : goal.returns-clause-clean
returns-clause-clean c word far =
    let i = c.self.inside in
    finish_clean c.args.self.now c.flush.new.self i.arity i.unit i.filling i.way c.close.new.self word c.self.view_is c.in_ok-flush.ensures.ok c.flush.ensures.opened c.close.ensures.clean far
