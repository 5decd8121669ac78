use Rattle.std.proofs.Common.{rules}
use Rattle.hy_store.proofs.SlotLaws.{live_below}
use Rattle.hy_store.proofs.folder.FolderStore.remove_file.Goals as goal

pub index-requires : goal.index-requires
index-requires g c = let below = live_below c.args.self.now.runs.items c.args.run c.requires in search rules
