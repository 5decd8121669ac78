use Rattle.std.proofs.Common.{rules, ◌≡◌, None}
use Rattle.hy_store.specs.Folder.{count_in}
use Rattle.hy_store.proofs.SlotLaws.{created}
use Rattle.hy_store.proofs.folder.FolderStore.make.Goals as goal

pub returns-clause-ok : goal.returns-clause-ok
returns-clause-ok g c =
    let none : count_in c.in_ok-made.made ≡ 0 = search rules in
    let made = created count_in None c.args.self.now.runs.items c.in_ok-made.made none tt in
    search rules
