use Rattle.al_query.proofs.Compiles.{read_unread}
use Rattle.al_query.proofs.accept.read_text.Goals as goal

pub returns-in-Err-clause-tells : goal.returns-in-Err-clause-tells
returns-in-Err-clause-tells c = rw c.unread.ensures (read_unread c.args.bytes.now c.in-Err.fault c.in-Err.ensures)
