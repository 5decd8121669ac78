use Rattle.std.proofs.Common.{rules, length, Some, [], refl}
use Rattle.hy_store.proofs.SlotLaws.{created}
use Rattle.hy_store.proofs.mem.MemStoreRunStore.create.Goals as goal

pub returns-clause-ok : goal.returns-clause-ok
returns-clause-ok c =
    let made = created length (Some (λ frames. frames)) c.args.self.now.runs.items [] refl refl in search rules
