use Rattle.std.proofs.Common.{subst, Err}
use Rattle.al_query.specs.Compiles.{TellsAccepted}
use Rattle.al_query.proofs.Compiles.{accept_stopped, read_stopped}
use Rattle.al_query.proofs.accept.accept_text.Goals as goal

pub returns-in-Err-clause-tells : goal.returns-in-Err-clause-tells
returns-in-Err-clause-tells c = read_stopped c.args.bytes.now c.in-Err.fault c.in-Err.ensures.tells

pub returns-in-Err-accept_file-clause-tells : goal.returns-in-Err-accept_file-clause-tells
returns-in-Err-accept_file-clause-tells c =
    accept_stopped c.args.bytes.now c.in-Ok.file c.in-Err-accept_file.fault c.in-Ok.ensures.tells (subst (λ f. TellsAccepted f (Err c.in-Err-accept_file.fault)) c.get.ensures c.in-Err-accept_file.ensures)
