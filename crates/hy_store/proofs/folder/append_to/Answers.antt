use Rattle.hy_store.proofs.SlotLaws.{grew}
use Rattle.hy_store.proofs.folder.append_to.Goals as goal

pub returns-in-Some-clause-ok : goal.returns-in-Some-clause-ok
returns-in-Some-clause-ok g c = grew c.append.result c.in-Some.run' c.append.new.self c.args.slot.now c.in-Some.is c.append.ensures.ok
