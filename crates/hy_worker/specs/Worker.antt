-- What contracts see of a task's inputs, operator and output together, and what is true of them between calls.
use Rattle.std.specs.Prelude.{◌≡◌, ◌+◌, ◌*◌, ◌^◌, ◌<◌, ◌≤◌, ℕ, Bool, true, false, List, [], ◌∷◌, length, slice_index_or, None}
use Rattle.hy_frame.specs.Bank.{BankOf}
use Rattle.hy_frame.specs.declared.writer.WriterState.TheVariants.{Failed}
use Rattle.hy_driver.specs.Seen.{Seen}
use Rattle.hy_driver.specs.declared.phase.Phase.{Phase}
use Rattle.hy_output.specs.Ways.{Stays, most_of, state_of}
use Rattle.hy_output.specs.Outputs.{OutputOf, held as held_out}
use Rattle.hy_input.specs.declared.taker.Taker.TheVariants as T
use Rattle.hy_input.specs.Inputs.{HasEnded, HoldsRows, InputOf, IsDone, IsSent, IsStill, Wants, has_given_up, held, input_of, most}
use Rattle.hy_pipeline.specs.Pipeline.{PipelineOf}

pub record WorkerOf : Type 1 where
  -- by number
  pub inputs : List InputOf
  pub operator : Seen
  pub output : OutputOf
  -- of each input whether it was ended for the operator
  pub ended : List Bool
  -- what the operator's last call came to
  pub phase : Phase
  -- whether the operator has a store, and whether it may hand rows on
  pub stored : Bool
  pub hands : Bool

abbrev pub worker_of : List InputOf → Seen → OutputOf → List Bool → Phase → Bool → Bool → WorkerOf
worker_of inputs operator output ended phase stored hands =
    record { inputs = inputs; operator = operator; output = output; ended = ended; phase = phase; stored = stored; hands = hands }

-- an input without a sender
abbrev pub no_input : InputOf
no_input = input_of (T.One (record { mailbox = 0; closed = [] })) 0 None 0 false

abbrev pub input_at : List InputOf → ℕ → InputOf
input_at inputs k = slice_index_or inputs k no_input

-- whether an input was ended for the operator; one that isn't there has ended
abbrev pub ended_at : List Bool → ℕ → Bool
ended_at ended k = slice_index_or ended k true

-- as the laws of a task's parts see it
abbrev pub pipeline_of : List InputOf → Seen → OutputOf → PipelineOf
pipeline_of inputs operator output = record { input = input_at inputs; operator = operator; output = output }

abbrev pub pipeline : WorkerOf → PipelineOf
pipeline w = pipeline_of w.inputs w.operator w.output

-- ---- frames

-- how many the inputs hold, and may hold
abbrev pub held_inputs : List InputOf → ℕ
held_inputs [] = 0
held_inputs (x ∷ xs) = held x + held_inputs xs

abbrev pub most_inputs : List InputOf → ℕ
most_inputs [] = 0
most_inputs (x ∷ xs) = most x + most_inputs xs

-- how many are held
abbrev pub frames_of : WorkerOf → ℕ
frames_of w = w.operator.frames + held_out w.output + held_inputs w.inputs

-- room for what the operator, the inputs and the output may hold, for as many frames more as a frame that goes on may need,
-- and for one that comes
pub record HasRoom (memory inputs places limit : ℕ) : Type 0 where
  pub goes_on : memory + 2 + inputs + 2 * places ≤ limit
  pub comes : memory + 2 + inputs + places < limit

-- ---- inputs

-- no mailbox is of two inputs
abbrev pub AreApart : List InputOf → Type 0
AreApart inputs = (i j : ℕ) → i < length inputs → j < length inputs → (m n p n' p' : ℕ) → IsSent (input_at inputs i) m n p → IsSent (input_at inputs j) m n' p' → i ≡ j

-- one that was ended brings nothing any more, and holds no frame; nor does one that was given up
pub record IsSpent (ended : Bool) (x : InputOf) : Type 0 where
  pub done : ended ≡ true → has_given_up x ≡ false → IsDone x
  pub ended_holds_none : ended ≡ true → held x ≡ 0
  pub given_up_holds_none : has_given_up x ≡ true → held x ≡ 0

-- it can be gone on at: it isn't ended, and nothing has to be taken before
abbrev pub IsReadyOf : List InputOf → List Bool → ℕ → Type 0
IsReadyOf inputs ended k = (k < length inputs) × (ended_at ended k ≡ false) × (Wants (input_at inputs k) → ⊥)

abbrev pub IsReady : WorkerOf → ℕ → Type 0
IsReady w k = IsReadyOf w.inputs w.ended k

-- every sender's Close was taken, at every input
abbrev pub AllHaveEnded : List InputOf → Type 0
AllHaveEnded inputs = (k : ℕ) → k < length inputs → HasEnded (input_at inputs k)

-- the first one, from a number on, at which something has to be taken
pub record IsFirstWanting (inputs : List InputOf) (from k : ℕ) : Type 0 where
  pub from_on : from ≤ k
  pub there : k < length inputs
  pub wants : Wants (input_at inputs k)
  pub first : (j : ℕ) → from ≤ j → j < k → Wants (input_at inputs j) → ⊥

-- ---- between calls

-- frames of the bank are of the size that the operator and the output have, what is out is what is held, and there is room for more; rows at
-- hand are as wide as the operator takes them
pub record IsWhole (w : WorkerOf) (bank : BankOf) : Type 0 where
  pub unit : bank.unit ≡ w.operator.fixed.unit
  pub size : w.output.unit ≡ w.operator.fixed.unit
  pub arity : w.output.arity ≡ w.operator.fixed.arity
  pub out : bank.out ≡ frames_of w
  pub operator : w.operator.frames ≤ w.operator.fixed.memory + 1
  pub room : HasRoom w.operator.fixed.memory (most_inputs w.inputs) (most_of w.output.way) bank.limit
  pub few : length w.inputs < 2 ^ 32
  pub counted : length w.ended ≡ length w.inputs
  pub holds : (k : ℕ) → k < length w.inputs → HoldsRows (input_at w.inputs k) (w.operator.fixed.width k)
  pub spent : (k : ℕ) → k < length w.inputs → IsSpent (ended_at w.ended k) (input_at w.inputs k)
  pub apart : AreApart w.inputs
  -- one that failed packs nothing
  pub packed : state_of w.output.way ≡ Failed → w.output.filling ≡ None

-- what is kept of the operator is what is seen of it, and no input was given up; so it is until a call faults
pub record IsInStep (w : WorkerOf) : Type 0 where
  pub phase : w.phase ≡ w.operator.phase
  pub ended : (k : ℕ) → k < length w.inputs → w.operator.ended k ≡ ended_at w.ended k
  pub going : (k : ℕ) → k < length w.inputs → has_given_up (input_at w.inputs k) ≡ false

-- what no call changes; and its store's count of faults never falls
pub record Lasts (old new : WorkerOf) : Type 0 where
  pub count : length new.inputs ≡ length old.inputs
  pub inputs : (k : ℕ) → k < length old.inputs → IsStill (input_at old.inputs k) (input_at new.inputs k)
  pub way : Stays old.output.way new.output.way
  pub arity : new.output.arity ≡ old.output.arity
  pub size : new.output.unit ≡ old.output.unit
  pub fixed : new.operator.fixed ≡ old.operator.fixed
  pub stored : new.stored ≡ old.stored
  pub hands : new.hands ≡ old.hands
  pub faults : old.operator.store.faults ≤ new.operator.store.faults
