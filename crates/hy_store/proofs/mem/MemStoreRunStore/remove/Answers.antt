use Rattle.std.proofs.Common.{rules, length, Some}
use Rattle.hy_store.proofs.SlotLaws.{live_below, removed}
use Rattle.hy_store.proofs.mem.MemStoreRunStore.remove.Goals as goal

pub index_mut-requires : goal.index_mut-requires
index_mut-requires c = let below = live_below c.args.self.now.runs.items c.args.run c.requires in search rules

pub returns-clause-ok : goal.returns-clause-ok
returns-clause-ok c =
    let gone = removed length (Some (λ frames. frames)) c.args.self.now.runs.items c.args.run in search rules
