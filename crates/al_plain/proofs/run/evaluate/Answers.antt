use Rattle.al_plain.specs.Gives.{sets_of}
use Rattle.al_plain.proofs.RunLaws.{top_given, top_fault}
use Rattle.al_plain.proofs.run.evaluate.Goals as goal

pub returns-in_err-out-clause-check : goal.returns-in_err-out-clause-check
returns-in_err-out-clause-check c =
    top_fault c.args.p.now (sets_of c.args.sets.now) c.requires.fit c.requires.fills c.in_err-out.field-0.0 c.in_err-out.ensures c.from_residual.result c.from_residual.ensures.1

pub returns-clause-rows : goal.returns-clause-rows
returns-clause-rows c = top_given c.args.p.now (sets_of c.args.sets.now) c.requires.fit c.requires.fills c.in_ok-out.out c.in_ok-out.ensures
