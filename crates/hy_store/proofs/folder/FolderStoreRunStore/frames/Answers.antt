use Rattle.std.proofs.Common.{rules}
use Rattle.hy_store.specs.Folder.{count_in}
use Rattle.hy_store.proofs.SlotLaws.{live_below, slot_here}
use Rattle.hy_store.proofs.folder.FolderStoreRunStore.frames.Goals as goal

pub index-requires : goal.index-requires
index-requires g c = let below = live_below c.args.self.now.runs.items c.args.run c.requires in search rules

pub returns-in-Some-clause-count : goal.returns-in-Some-clause-count
returns-in-Some-clause-count g c =
    let is = slot_here count_in 0 c.args.self.now.runs.items c.args.run c.index.result.now c.requires c.index.ensures in
    search rules
