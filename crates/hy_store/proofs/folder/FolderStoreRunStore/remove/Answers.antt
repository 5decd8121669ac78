use Rattle.std.proofs.Common.{rules, None}
use Rattle.hy_store.specs.Folder.{count_in}
use Rattle.hy_store.proofs.SlotLaws.{live_below, removed}
use Rattle.hy_store.proofs.folder.FolderStoreRunStore.remove.Goals as goal

pub index_mut-requires : goal.index_mut-requires
index_mut-requires g c = let below = live_below c.args.self.now.runs.items c.args.run c.requires in search rules

pub returns-clause-ok : goal.returns-clause-ok
returns-clause-ok g c =
    let gone = removed count_in None c.args.self.now.runs.items c.args.run in search rules
