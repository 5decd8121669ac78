-- What stores and shelves in a folder know of their runs.
use Rattle.std.specs.Prelude.{◌≡◌, ℕ, ◌+◌, List, length, Option, None, Some}
use Rattle.std.specs.List.{sum}
use Rattle.hy_store.specs.Runs.{RunsOf, ShelfOf}
use Rattle.hy_store.specs.Slots.{runs_of}
use Rattle.hy_store.specs.declared.folder.FolderRun.{FolderRun}

-- how many frames a run has
abbrev pub count_in : FolderRun → ℕ
count_in run = length run.starts

-- the runs in slots, of whose frames nothing is told
abbrev pub runs_in : List (Option FolderRun) → RunsOf
runs_in slots = runs_of count_in None slots

-- a shelf that took stores back with so many live runs each
abbrev pub shelf_in : List ℕ → ℕ → ℕ → ShelfOf
shelf_in taken made out = record { live = sum taken; held = None; made = made; out = out }

-- the run in a slot has one frame more
abbrev pub GrewByOne : Option FolderRun → Option FolderRun → Type 0
GrewByOne None after = after ≡ None
GrewByOne (Some before) after = (run : FolderRun) × (after ≡ Some run) × (count_in run ≡ count_in before + 1)
