use Rattle.std.proofs.Common.{sym, ◌∙◌, arith}
use Rattle.al_infer.proofs.ListLaws.{place_is}
use Rattle.al_infer.proofs.datasets.place_at.Goals as goal

pub returns-in-Some : goal.returns-in-Some
returns-in-Some c = (rw c.in-Some.is at (c.get.ensures.lookup.4 (omega arith) 0)) ∙ sym (place_is c.args.places.now c.args.number)

pub returns-in-None : goal.returns-in-None
returns-in-None c = (rw c.in-None.is at (c.get.ensures.lookup.4 (omega arith) 0)) ∙ sym (place_is c.args.places.now c.args.number)
