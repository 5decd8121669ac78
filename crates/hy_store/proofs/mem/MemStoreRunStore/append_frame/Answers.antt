use Rattle.std.proofs.Common.{rules}
use Rattle.hy_store.proofs.SlotLaws.{live_below, mem_grown}
use Rattle.hy_store.proofs.mem.MemStoreRunStore.append_frame.Goals as goal

pub index_mut-requires : goal.index_mut-requires
index_mut-requires c = let below = live_below c.args.self.now.runs.items c.args.run c.requires.live in search rules

pub returns-clause-ok : goal.returns-clause-ok
returns-clause-ok c =
    let grew = mem_grown c.args.self.now.runs.items c.args.run c.args.frame.now c.index_mut.result.now c.push_frame.new.run c.requires.live in search rules
