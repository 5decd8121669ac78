use Rattle.std.proofs.Common.{rules}
use Rattle.hy_store.proofs.SlotLaws.{live_below, folder_grown}
use Rattle.hy_store.proofs.folder.FolderStore.append.Goals as goal

pub index_mut-requires : goal.index_mut-requires
index_mut-requires g c = let below = live_below c.args.self.now.runs.items c.args.run c.requires.live in search rules

pub returns-clause-ok : goal.returns-clause-ok
returns-clause-ok g c =
    let grew = folder_grown c.args.self.now.runs.items c.args.run c.args.frame.now c.index_mut.result.now c.append_to.new.slot c.requires.live in
    search rules
