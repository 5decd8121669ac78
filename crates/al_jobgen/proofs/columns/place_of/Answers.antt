use Rattle.al_jobgen.proofs.PieceColumns.{place_some, place_none}
use Rattle.al_jobgen.proofs.columns.place_of.Goals as goal

pub returns-in-Some : goal.returns-in-Some
returns-in-Some c = place_some c.args.vars.now c.args.v.now.name c.in-Some.at c.in-Some.ensures

pub returns-in-None : goal.returns-in-None
returns-in-None c = place_none c.args.vars.now c.args.v.now.name c.in-None.ensures
