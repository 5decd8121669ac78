use Rattle.std.proofs.Common.{◌≡◌, OnOk, sym, subst}
use Rattle.al_phys.specs.declared.property.Partitioning.{Partitioning}
use Rattle.al_print.specs.Canonical.{after}
use Rattle.al_print.specs.Physical.{partitioning_words}
use Rattle.al_print.proofs.phys.put_partitioning.Goals as goal

pub returns-in-Broadcast : goal.returns-in-Broadcast
returns-in-Broadcast c = subst (λ (d : Partitioning). OnOk c.name-in-Broadcast.result (c.name-in-Broadcast.new.self ≡ after c.args.line.now (partitioning_words d))) (sym c.in-Broadcast.is) c.name-in-Broadcast.ensures
