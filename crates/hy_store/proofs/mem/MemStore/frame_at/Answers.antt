use Rattle.std.proofs.Common.{rules, []}
use Rattle.hy_store.proofs.SlotLaws.{live_below, slot_here}
use Rattle.hy_store.proofs.mem.MemStore.frame_at.Goals as goal

pub index-requires : goal.index-requires
index-requires c = let below = live_below c.args.self.now.runs.items c.args.run c.requires in search rules

pub returns-in-Some : goal.returns-in-Some
returns-in-Some c =
    let is = slot_here (λ frames. frames) [] c.args.self.now.runs.items c.args.run c.index.result.now c.requires c.index.ensures in
    search rules
