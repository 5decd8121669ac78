-- What stores and shelves in memory hold.
use Rattle.std.specs.Prelude.{ℕ, ◌+◌, ◌-◌, ◌^◌, min, List, [], length, map, Option, Some}
use Rattle.std.specs.List.{Contains, flat_map, sum_by}
use Rattle.hy_frame.specs.Frame.{FrameOf}
use Rattle.hy_store.specs.Runs.{RunsOf, ShelfOf}
use Rattle.hy_store.specs.Slots.{live_from, of_run, runs_of}
use Rattle.hy_store.specs.declared.mem.MemStore.{MemStore}

-- the frames of each run
abbrev pub Slots : Type 0
Slots = List (Option (List FrameOf))

abbrev pub runs_in : MemStore → RunsOf
runs_in s = runs_of length (Some (λ frames. frames)) s.runs.items

-- the next call is one of those that fail
abbrev pub Fails : MemStore → Type 0
Fails s = Contains s.failing s.calls

-- the number of the call after this one; a count stands still at its type's end
abbrev pub next_call : ℕ → ℕ
next_call n = min (n + 1) (2 ^ 64 - 1)

-- the frames of each live run of a store
abbrev pub live_frames : MemStore → List (List FrameOf)
live_frames s = map (of_run (λ frames. frames) [] s.runs.items) (live_from 0 s.runs.items)

-- how many runs of stores are live
abbrev pub live_in : List MemStore → ℕ
live_in stores = sum_by (λ s. length (live_from 0 s.runs.items)) stores

-- a shelf that took these stores back
abbrev pub shelf_in : List MemStore → ℕ → ℕ → ShelfOf
shelf_in taken made out = record { live = live_in taken; held = Some (flat_map live_frames taken); made = made; out = out }
