use Rattle.std.proofs.Common.{◌≡◌, ◌-◌, ◌^◌, min, take}
use Rattle.hy_store.specs.Mem.{live_in}
use Rattle.hy_store.proofs.mem_shelf.MemShelf.live.Given as goal

abbrev pub invariant-loop-store : goal.invariant-loop-store
invariant-loop-store l = l.live ≡ min (live_in (take l.store-index l.fn.self.taken.items)) (2 ^ 64 - 1)
