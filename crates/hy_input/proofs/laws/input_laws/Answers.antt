use Rattle.hy_input.proofs.Bringing.{are_brought, done_bring_none, new_bring_wire}
use Rattle.hy_input.proofs.laws.input_laws.Goals as goal

pub returns-clause-new : goal.returns-clause-new
returns-clause-new c = new_bring_wire

pub returns-clause-brought : goal.returns-clause-brought
returns-clause-brought c = are_brought

pub returns-clause-done : goal.returns-clause-done
returns-clause-done c = done_bring_none
