-- What calls come to as steps of a task, beside the laws of its parts.
use Rattle.std.specs.Prelude.{◌≡◌, ◌⊎◌, ◌<◌, ◌≤◌, ◌+◌, ◌*◌, ℕ, true, [], ◌++◌, length, false, None, List}
use Rattle.hy_frame.specs.Bank.{BankOf}
use Rattle.hy_job.specs.declared.job.Activity.{Activity}
use Rattle.hy_job.specs.declared.job.Job.{Job}
use Rattle.hy_job.specs.declared.job.Wire.{Wire}
use Rattle.hy_connect.specs.Merges.{IsNewMerger, MergerOf}
use Rattle.hy_connect.specs.Sources.{NoneAtHand, frames_held}
use Rattle.hy_output.specs.Outputs.{held as held_out}
use Rattle.hy_input.specs.Inputs.{HoldsRows, Stays, closed_at, has_given_up, held, input_of}
use Rattle.hy_input.specs.declared.taker.Taker.{Taker}
use Rattle.hy_input.specs.declared.taker.Taker.TheVariants as T
use Rattle.hy_course.specs.Parts.{PartsStep}
use Rattle.hy_pipeline.specs.Pipeline.{nothing, parts_of}
use Rattle.hy_pipeline.specs.Tests.{BringsNow, PassSome, untested_of}
use Rattle.hy_worker.specs.Worker.{HasRoom, IsSpent, IsWhole, Lasts, WorkerOf, ended_at, input_at, pipeline}
use Rattle.hy_worker.specs.Calls.{GivesAllUp, RestsAt}

-- ---- a take that found nothing

-- it is a step of the parts by which nothing came, was fed, given, let go on or put
abbrev pub EmptyIsNoStep : WorkerOf → WorkerOf → Type 0
EmptyIsNoStep old new = (at : ℕ → ℕ) (job : Job) (a : Activity) (k : ℕ) → RestsAt k old new → PartsStep job a (parts_of at (pipeline old)) [] [] [] [] nothing (parts_of at (pipeline new))

-- at no input was a Close taken
abbrev pub EmptyClosesNone : WorkerOf → WorkerOf → Type 0
EmptyClosesNone old new = (k i p : ℕ) → RestsAt k old new → closed_at (input_at new.inputs i) p ≡ closed_at (input_at old.inputs i) p

-- a check has to test what it had to
abbrev pub EmptyTestsNone : WorkerOf → WorkerOf → Type 0
EmptyTestsNone old new = (a : Activity) (k : ℕ) → BringsNow (pipeline new) → RestsAt k old new → PassSome a (untested_of (pipeline old) ++ []) (untested_of (pipeline new))

-- ---- failures

-- giving up takes no Close, and changes no sender
abbrev pub GivingUpClosesNone : WorkerOf → WorkerOf → Type 0
GivingUpClosesNone old new = (i : ℕ) → Lasts old new → GivesAllUp old new
    → Stays (input_at old.inputs i) (input_at new.inputs i) × ((p : ℕ) → closed_at (input_at new.inputs i) p ≡ closed_at (input_at old.inputs i) p)

-- ---- what lasts

abbrev pub LastsThen : WorkerOf → WorkerOf → WorkerOf → Type 0
LastsThen first second third = Lasts first second → Lasts second third → Lasts first third

-- ---- frames

-- the limit of a task's bank leaves room: each of at most two inputs may hold a frame for each partition, and there are no more receivers than these
abbrev pub TaskHasRoom : Type 0
TaskHasRoom = (memory inputs places partitions : ℕ) → inputs ≤ 2 * partitions → places ≤ partitions → 0 < partitions → HasRoom memory inputs places (memory + 4 * partitions + 2)

-- operator and output hold no frame, and each input was ended or given up
pub record HasLetGo (w : WorkerOf) : Type 0 where
  pub operator : w.operator.frames ≡ 0
  pub output : held_out w.output ≡ 0
  pub inputs : (k : ℕ) → k < length w.inputs → (ended_at w.ended k ≡ true) ⊎ (has_given_up (input_at w.inputs k) ≡ true)

-- then none is out
abbrev pub NoneIsOut : WorkerOf → Type 0
NoneIsOut w = (bank : BankOf) → IsWhole w bank → HasLetGo w → bank.out ≡ 0

-- ---- at the beginning

-- no frame is at hand, and none has to go back at once
abbrev pub HoldsNone : Taker → Type 0
HoldsNone (T.One t) = Unit {0}
HoldsNone (T.Many t) = Unit {0}
HoldsNone (T.Merge m) = NoneAtHand m.sources × (frames_held m.sources ≡ 0) × (m.given_up ≡ false)

-- so it is of a new merge
abbrev pub NewMergesHoldNone : Type 0
NewMergesHoldNone = (wire : Wire) (boxes : List ℕ) (m : MergerOf) → IsNewMerger wire boxes m → HoldsNone (T.Merge m)

-- what a new input of such a taker is, whatever the width of its rows
abbrev pub NewInputsHoldNone : Type 0
NewInputsHoldNone = (taker : Taker) (partition width : ℕ) → HoldsNone taker
    → HoldsRows (input_of taker partition None 0 false) width × IsSpent false (input_of taker partition None 0 false) × (has_given_up (input_of taker partition None 0 false) ≡ false)
    × (held (input_of taker partition None 0 false) ≡ 0)
