use Rattle.std.proofs.Common.{rules, length, []}
use Rattle.hy_store.proofs.SlotLaws.{live_below, slot_here}
use Rattle.hy_store.proofs.mem.MemStoreRunStore.frames.Goals as goal

pub index-requires : goal.index-requires
index-requires c = let below = live_below c.args.self.now.runs.items c.args.run c.requires in search rules

pub returns-in-Some-clause-count : goal.returns-in-Some-clause-count
returns-in-Some-clause-count c =
    let is = slot_here length 0 c.args.self.now.runs.items c.args.run c.index.result.now c.requires c.index.ensures in
    search rules

pub returns-in-Some-clause-told : goal.returns-in-Some-clause-told
returns-in-Some-clause-told c =
    let is = slot_here (λ frames. frames) [] c.args.self.now.runs.items c.args.run c.index.result.now c.requires c.index.ensures in
    search rules
