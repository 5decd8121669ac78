-- A task at a moment, as its record sees it, and what a step does to it.
use Rattle.std.specs.Prelude.{◌≡◌, ◌<◌, ℕ, nat_eq, Bool, true, false, ◌||◌, if◌then◌else◌, Option, Some, None, List, [], ◌∷◌, ◌++◌}
use Rattle.std.specs.List.{All, AllByRecursion}
use Rattle.std.specs.List.Sorted.{IsPermutation}
use Rattle.hy_rest.specs.Words.{Signal, Fail, Close, is_fail, put_rows}
use Rattle.hy_job.specs.declared.job.Kind.{Kind}
use Rattle.hy_job.specs.declared.job.Kind.TheVariants as K
use Rattle.hy_job.specs.declared.job.Activity.{Activity}
use Rattle.hy_job.specs.declared.job.Job.{Job}
use Rattle.hy_job.specs.Columns.{Row}
use Rattle.hy_job.specs.Runs.{IsReceiver, MayCome, Put, Taken, rows_at}
use Rattle.hy_job.specs.Settled.{HasCause, IsPassed, Outcome, Stopped, Take, TakesFrom, TakesNoFail, has_closed, is_fault, taken_rows}

pub record TaskOf : Type 1 where
  -- what holds between its steps and makes `rest` true of it. Of a task with a store it says that the store tells
  pub sound : Type 0
  -- until it fails: what it may still put and hand on, for the rows that are still to come
  pub rest : List Taken → Put → Type 0
  -- of a check: the rows that came and are still to be tested
  pub untested : List Row
  -- by input and partition of the sender, whether its Close was taken
  pub closed : ℕ → ℕ → Bool
  -- how it failed, where it did
  pub failure : Option Outcome
  -- once it has failed: what it still owes each receiver
  pub owed : ℕ → List (Signal Row)
  pub raised : Bool
  pub saw : Bool
  -- the rows that it hands on, once it is done
  pub hands_on : List Row

-- ---- steps

-- what a step did outside of the task: at an input, what the task of a partition had sent; for the task of a partition, a signal; to
-- the abort word; or nothing
pub data Deed : Type 0 where
  Work : Deed
  Takes : (input : ℕ) → (sender : ℕ) → (signal : Signal Row) → Deed
  Puts : (receiver : ℕ) → (signal : Signal Row) → Deed
  Raises : Deed
  Looks : (seen : Bool) → Deed

abbrev pub takes_of : Deed → List Take
takes_of (Takes input sender signal) = record { input = input; sender = sender; signal = signal } ∷ []
takes_of _ = []

abbrev pub puts_of : Deed → ℕ → List (Signal Row)
puts_of (Puts receiver signal) r = if nat_eq r receiver then signal ∷ [] else []
puts_of _ r = []

abbrev pub is_raise : Deed → Bool
is_raise Raises = true
is_raise _ = false

-- a raised word was seen
abbrev pub is_sight : Deed → Bool
is_sight (Looks seen) = seen
is_sight _ = false

-- who takes a Fail or sees a raised word has to stop
abbrev pub is_stop : Deed → Bool
is_stop (Takes input sender signal) = is_fail signal
is_stop (Looks seen) = seen
is_stop _ = false

-- ---- a task that has not failed

-- rows that may still come
abbrev pub MayComeTo : Job → Activity → ℕ → (ℕ → ℕ → Bool) → List Taken → Type 0
MayComeTo job a j closed = AllByRecursion (MayCome job a j closed)

-- these signals and what is put behind them
abbrev pub put_behind : (ℕ → List (Signal Row)) → Put → Put
put_behind sent put = record { to = λ r. put_rows (sent r) ++ put.to r; on = put.on }

abbrev pub IsCheck : Kind → Type 0
IsCheck (K.Check name c) = Unit {0}
IsCheck _ = ⊥

-- it took and put these, and has not failed
pub record Advances (job : Job) (a : Activity) (j : ℕ) (old : TaskOf) (took : List Take) (sent : ℕ → List (Signal Row)) (new : TaskOf) : Type 0 where
  pub sound : old.sound → new.sound
  -- what it may do now, it might do before with these in front
  pub rest : old.sound → (more : List Taken) (put : Put) → new.rest more put → old.rest (taken_rows took ++ more) (put_behind sent put)
  -- however the taking goes on, there is something that it may put
  pub alive : old.sound → (more : List Taken) → MayComeTo job a j new.closed more → (put : Put) × new.rest more put
  -- a check passed the rows that it worked on
  pub tested : IsCheck a.kind → (worked : List Row) × IsPermutation (old.untested ++ rows_at 0 (taken_rows took)) (worked ++ new.untested) × IsPassed a.kind worked
  pub takes_no_fail : TakesNoFail took
  pub puts_no_fail : (r : ℕ) → All (λ s. is_fail s ≡ false) (sent r)

-- ---- a task that fails

-- this is a front of what is put for each receiver
abbrev pub IsFrontOf : Job → (ℕ → List (Signal Row)) → Put → Type 0
IsFrontOf job kept whole = (r : ℕ) → r < job.partitions → (rest : List Row) × (whole.to r ≡ put_rows (kept r) ++ rest)

-- it fails, and owes each receiver a front of what it might have put, and word of its failure
pub record Breaks (job : Job) (a : Activity) (j : ℕ) (old : TaskOf) (outcome : Outcome) (new : TaskOf) : Type 0 where
  pub kept : ℕ → List (Signal Row)
  pub ends : (r : ℕ) → IsReceiver job a.number j r → new.owed r ≡ kept r ++ Fail ∷ Close ∷ []
  pub part : old.sound → (more : List Taken) → MayComeTo job a j old.closed more → (whole : Put) × IsFrontOf job kept whole × old.rest more whole
  pub cause : HasCause a.kind outcome old.untested

-- a fault is met in work of its own, and a task stops by what it takes or sees
abbrev pub MayBreak : Deed → Outcome → Type 0
MayBreak Work outcome = is_fault outcome ≡ true
MayBreak (Takes input sender Fail) outcome = outcome ≡ Stopped
MayBreak (Looks true) outcome = outcome ≡ Stopped
MayBreak _ outcome = ⊥

-- ---- what a step does

-- by how it failed before the step and behind it
abbrev pub Goes : Job → Activity → ℕ → TaskOf → Deed → TaskOf → Option Outcome → Option Outcome → Type 0
Goes job a j old deed new None None = (is_stop deed ≡ false) × Advances job a j old (takes_of deed) (puts_of deed) new
Goes job a j old deed new None (Some outcome) = MayBreak deed outcome × Breaks job a j old outcome new
Goes job a j old deed new (Some outcome) (Some outcome') = (outcome' ≡ outcome) × ((r : ℕ) → IsReceiver job a.number j r → old.owed r ≡ puts_of deed r ++ new.owed r)
Goes job a j old deed new (Some outcome) None = ⊥

-- what is put is for a receiver
abbrev pub ToReceiver : Job → Activity → ℕ → Deed → Type 0
ToReceiver job a j (Puts receiver signal) = (receiver < job.partitions) × IsReceiver job a.number j receiver
ToReceiver job a j _ = Unit {0}

pub record Moves (job : Job) (a : Activity) (j : ℕ) (old : TaskOf) (deed : Deed) (new : TaskOf) : Type 0 where
  pub goes : Goes job a j old deed new old.failure new.failure
  pub from : TakesFrom job a j (takes_of deed)
  pub to : ToReceiver job a j deed
  pub closed : (input sender : ℕ) → new.closed input sender ≡ (has_closed (takes_of deed) input sender || old.closed input sender)
  pub raised : new.raised ≡ (is_raise deed || old.raised)
  pub saw : new.saw ≡ (is_sight deed || old.saw)
