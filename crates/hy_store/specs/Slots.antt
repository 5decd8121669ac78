-- Runs by their numbers: a slot for each run that was made, which holds the run as long as it is live.
use Rattle.std.specs.Prelude.{ℕ, ◌+◌, List, [], ◌∷◌, length, get_or, Option, Some, None}
use Rattle.std.specs.Option.{option_map, option_map_or}
use Rattle.hy_frame.specs.Frame.{FrameOf}
use Rattle.hy_store.specs.Runs.{RunsOf}

-- the numbers of the slots that hold a run, the first slot having the number n
abbrev pub live_from : {X : Type 0} → ℕ → List (Option X) → List ℕ
live_from n [] = []
live_from n (None ∷ slots) = live_from (n + 1) slots
live_from n (Some run ∷ slots) = n ∷ live_from (n + 1) slots

-- something of the run with this number
abbrev pub of_run : {X Y : Type 0} → (X → Y) → Y → List (Option X) → ℕ → Y
of_run f none slots r = option_map_or f (get_or slots r None) none

-- the runs in slots, by how many frames each has, and by which, where that is told
abbrev pub runs_of : {X : Type 0} → (X → ℕ) → Option (X → List FrameOf) → List (Option X) → RunsOf
runs_of size told slots =
    record {
      live = live_from 0 slots;
      count = of_run size 0 slots;
      held = option_map (λ frames. of_run frames [] slots) told;
      made = length slots;
    }
