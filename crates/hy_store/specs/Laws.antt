-- What a store's user goes by: which runs are live after a call, and which frames they have room for.
use Rattle.std.specs.Prelude.{◌≡◌, ◌≢◌, ◌+◌, ◌<◌, ℕ, List, [], ◌∷◌, ◌++◌, length, Some, slice_get}
use Rattle.al_value.specs.Outside.{Told}
use Rattle.hy_frame.specs.Frame.{FrameOf}
use Rattle.hy_store.specs.Runs.{RunsOf, IsLive, HaveShape, IsFrameAt, Others, Created, Grown, Removed}

-- a run that was made is live, and so is each other that was
abbrev pub CreatedIsLive : Type 0
CreatedIsLive = (run : ℕ) (old new : RunsOf) → Created run old new → IsLive new run × ((r : ℕ) → IsLive old r → IsLive new r)

-- a run that grew is live where it was, and so is each other
abbrev pub GrownIsLive : Type 0
GrownIsLive = (run r : ℕ) (frame : FrameOf) (old new : RunsOf) → Grown run frame old new → IsLive old r → IsLive new r

-- a run that was removed is not live, and each other is where it was
abbrev pub RemovedIsNot : Type 0
RemovedIsNot =
    (run : ℕ) (old new : RunsOf) → Removed run old new
    → (¬ IsLive new run) × ((r : ℕ) → r ≢ run → IsLive old r → IsLive new r) × ((r : ℕ) → IsLive new r → IsLive old r)

-- a run without frames has a shape that any frame has
abbrev pub CreatedHasShape : Type 0
CreatedHasShape = (run arity unit : ℕ) (old new : RunsOf) → Created run old new → HaveShape new run arity unit

-- a run keeps its shape with a frame of that shape more
abbrev pub GrownHasShape : Type 0
GrownHasShape =
    (run : ℕ) (frame : FrameOf) (old new : RunsOf)
    → HaveShape old run frame.arity frame.unit → Grown run frame old new → HaveShape new run frame.arity frame.unit

-- other runs keep their shapes
abbrev pub OthersHaveShape : Type 0
OthersHaveShape =
    (run r arity unit : ℕ) (old new : RunsOf) → r ≢ run → Others run old new → HaveShape old r arity unit → HaveShape new r arity unit

-- what was put to a run's end is found there
abbrev pub LastIsFound : Type 0
LastIsFound =
    (run : ℕ) (frame found : FrameOf) (old new : RunsOf)
    → Told old.held (λ f. length (f run) ≡ old.count run) → Grown run frame old new → Told new.held (λ _. IsFrameAt new run (old.count run) found → found ≡ frame)
