-- What the calls of a pipeline tell.
use Rattle.std.specs.Prelude.{◌≡◌, ◌≢◌, ◌<◌, ◌≤◌, ◌+◌, ◌⊎◌, ℕ, true, false, List, [], ◌∷◌, length, slice_set, Result, Ok, Err}
use Rattle.hy_frame.specs.Bank.{BankOf}
use Rattle.hy_frame.specs.declared.writer.WriterState.TheVariants.{Closed, Failed, Opened}
use Rattle.hy_rest.specs.Rest.{Continues}
use Rattle.hy_mail.specs.declared.parcel.Parcel.{Parcel}
use Rattle.hy_mail.specs.declared.parcel.Parcel.TheVariants as P
use Rattle.hy_mail.specs.Events.{Event, Empty, Full, Put, Took}
use Rattle.hy_store.specs.declared.fault.Next.{Next}
use Rattle.hy_store.specs.declared.fault.Next.TheVariants as N
use Rattle.hy_store.specs.declared.fault.OpFault.{OpFault}
use Rattle.hy_store.specs.declared.fault.OpFault.TheVariants as F
use Rattle.hy_driver.specs.Rows.{AreValues, Row, values_of}
use Rattle.hy_driver.specs.Seen.{Seen}
use Rattle.hy_driver.specs.Steps.{GivesUp as OperatorGivesUp, IsOver as OperatorIsOver, Lent as LentOperator, Steps, TellsFault, Turned, ended_with}
use Rattle.hy_driver.specs.declared.phase.Phase.TheVariants.{Ended, GivenUp, Hungry, Working}
use Rattle.hy_connect.specs.declared.writer.Offer.{Offer}
use Rattle.hy_connect.specs.declared.writer.Offer.TheVariants as O
use Rattle.hy_output.specs.Ways.{Closes as WayCloses, Fails, Posts, is_idle, mailbox_at, places, state_of, waiting}
use Rattle.hy_output.specs.Outputs.{Spoils, held as held_out}
use Rattle.hy_input.specs.declared.input.Came.{Came}
use Rattle.hy_input.specs.declared.input.Came.TheVariants as C
use Rattle.hy_input.specs.Inputs.{Gives, GivesUp, HoldsRows, InputOf, IsAsked, IsOver, IsStill, Rests, Stays, given, has_given_up}
use Rattle.hy_pipeline.specs.Pipeline.{PipelineOf}
use Rattle.hy_pipeline.specs.Laws.{Comes, EndsInput, FeedsRow, Finishes, GoesOut, InputsStay, OthersStay, TurnsOnce}
use Rattle.hy_pipeline.specs.Tasks.{ClosesBy}
use Rattle.hy_worker.specs.Worker.{WorkerOf, input_at, pipeline}

-- ---- what stays

-- an operator that no call was made to
pub record IsSame (old new : Seen) : Type 0 where
  pub rest : Continues old.rest [] [] new.rest
  pub back : Continues new.rest [] [] old.rest
  pub sound : old.sound → new.sound
  pub was_sound : new.sound → old.sound
  pub ended : (k : ℕ) → new.ended k ≡ old.ended k
  pub phase : new.phase ≡ old.phase
  pub turns : new.turns ≡ old.turns
  pub frames : new.frames ≡ old.frames
  pub untested : new.untested ≡ old.untested
  pub hands_on : new.hands_on ≡ old.hands_on
  pub store : new.store ≡ old.store
  pub makes : (took : List (ℕ × Row)) → new.makes took ≡ old.makes took
  pub fixed : new.fixed ≡ old.fixed

-- and what is kept of it
pub record OperatorStays (old new : WorkerOf) : Type 0 where
  pub seen : IsSame old.operator new.operator
  pub phase : new.phase ≡ old.phase
  pub ended : new.ended ≡ old.ended

-- the same inputs have ended for the operator
abbrev pub EndsStay : Seen → Seen → Type 0
EndsStay old new = (k : ℕ) → new.ended k ≡ old.ended k

-- ---- turns

-- the operator's phase and turns, by what the turn came to
abbrev pub TellsNext : WorkerOf → Next → WorkerOf → Type 0
TellsNext old N.Row new = (new.operator.phase ≡ Working) × Turned old.operator new.operator
    × ((row : Row) × AreValues row × (length row ≡ old.operator.fixed.arity) × TurnsOnce (row ∷ []) (pipeline old) (pipeline new))
TellsNext old N.Work new = (new.operator.phase ≡ Working) × Turned old.operator new.operator × TurnsOnce [] (pipeline old) (pipeline new)
TellsNext old N.NeedInput new = (new.operator.phase ≡ Hungry) × (new.operator.turns ≤ old.operator.turns) × (old.operator.phase ≢ Hungry → Turned old.operator new.operator)
    × TurnsOnce [] (pipeline old) (pipeline new) × ((input : ℕ) × (new.operator.ended input ≡ false))
TellsNext old N.End new = (new.operator.phase ≡ Ended) × (new.operator.turns ≤ old.operator.turns) × (old.operator.phase ≢ Ended → Turned old.operator new.operator)
    × TurnsOnce [] (pipeline old) (pipeline new) × ((input : ℕ) → new.operator.ended input ≡ true) × (new.operator.untested ≡ []) × (old.operator.sound → OperatorIsOver new.operator)

-- the row that it gave could not be packed
pub record RowSpoils (row : Row) (old new : PipelineOf) : Type 0 where
  pub values : AreValues row
  pub works : Steps old.operator [] (row ∷ []) new.operator
  pub ends : EndsStay old.operator new.operator
  pub spoils : Spoils old.output (row ∷ []) new.output

-- the operator faulted, or the row that it gave could not be packed
pub record TurnFails (fault : OpFault) (old new : PipelineOf) : Type 0 where
  pub inputs : InputsStay old new
  pub turned : Turned old.operator new.operator
  pub why : (TellsFault old.operator [] new.operator fault × (new.output ≡ old.output)) ⊎ ((fault ≡ F.NoMemory) × ((row : Row) × RowSpoils row old new))

abbrev pub TellsTurned : WorkerOf → WorkerOf → Result Next OpFault → Type 0
TellsTurned old new (Ok next) = (new.ended ≡ old.ended) × EndsStay old.operator new.operator × TellsNext old next new
TellsTurned old new (Err fault) = (new.ended ≡ old.ended) × TurnFails fault (pipeline old) (pipeline new)

-- ---- an input that is ready

-- the row that it went on to was fed
pub record WentFed (k : ℕ) (old new : WorkerOf) : Type 0 where
  pub row : Row
  pub values : AreValues row
  pub width : length row ≡ old.operator.fixed.width k
  pub feeds : FeedsRow k row (pipeline old) (pipeline new)
  pub kept : new.ended ≡ old.ended
  pub ends : EndsStay old.operator new.operator
  pub phase : new.operator.phase ≡ Working

-- it was over, and ended for the operator
pub record WentEnded (k : ℕ) (old new : WorkerOf) : Type 0 where
  pub ends_input : EndsInput k (pipeline old) (pipeline new)
  pub kept : new.ended ≡ slice_set old.ended k true
  pub ends : (j : ℕ) → new.operator.ended j ≡ ended_with old.operator.ended k j
  pub phase : new.operator.phase ≡ old.operator.phase

-- the operator faulted at a row that the input went on to, or at its end
pub record FeedFails (k : ℕ) (row : Row) (fault : OpFault) (old new : PipelineOf) : Type 0 where
  pub others : OthersStay k old new
  pub gives : Gives (old.input k) (new.input k)
  pub row_is : values_of (given (new.input k)) ≡ row
  pub values : AreValues row
  pub width : length row ≡ old.operator.fixed.width k
  pub why : TellsFault old.operator (row ∷ []) new.operator fault
  pub output : new.output ≡ old.output

pub record EndFails (k : ℕ) (fault : OpFault) (old new : PipelineOf) : Type 0 where
  pub others : OthersStay k old new
  pub over : IsOver (old.input k) (new.input k)
  pub why : TellsFault old.operator [] new.operator fault
  pub output : new.output ≡ old.output

abbrev pub TellsWent : ℕ → WorkerOf → WorkerOf → Result Unit OpFault → Type 0
TellsWent k old new (Ok x) = WentFed k old new ⊎ WentEnded k old new
TellsWent k old new (Err fault) = (new.ended ≡ old.ended) × (((row : Row) × FeedFails k row fault (pipeline old) (pipeline new)) ⊎ EndFails k fault (pipeline old) (pipeline new))

-- ---- what comes

-- it takes nothing: what was at hand is, and all else is as it was
pub record RestsAt (k : ℕ) (old new : WorkerOf) : Type 0 where
  pub others : OthersStay k (pipeline old) (pipeline new)
  pub rests : Rests (input_at old.inputs k) (input_at new.inputs k)
  pub operator : OperatorStays old new
  pub output : new.output ≡ old.output

-- it took a parcel of the task of a partition; where it had been given up, that changes only whose Close was taken
pub record TookOne (k p : ℕ) (parcel : Parcel) (old new : WorkerOf) : Type 0 where
  pub others : OthersStay k (pipeline old) (pipeline new)
  pub comes : has_given_up (input_at old.inputs k) ≡ false → Comes k p parcel (pipeline old) (pipeline new)
  pub stays : Stays (input_at old.inputs k) (input_at new.inputs k)
  pub closes : ClosesBy k p parcel (pipeline old) (pipeline new)
  pub given_up : has_given_up (input_at new.inputs k) ≡ has_given_up (input_at old.inputs k)
  pub operator : OperatorStays old new
  pub output : new.output ≡ old.output

-- by what it came to
abbrev pub IsCame : Came → Parcel → Type 0
IsCame C.Rows (P.Frame f) = Unit {0}
IsCame C.Word P.Open = Unit {0}
IsCame C.Word P.Close = Unit {0}
IsCame C.Failed P.Fail = Unit {0}
IsCame _ _ = ⊥

abbrev pub TookSome : {P : Type 0} → (P → Event → P → Type 0) → P → P → ℕ → WorkerOf → WorkerOf → Came → Type 0
TookSome happens port port' k old new came =
    (m n p : ℕ) × (parcel : Parcel) × IsAsked (input_at old.inputs k) m n p × IsCame came parcel × TookOne k p parcel old new × happens port (Took m n parcel) port'

abbrev pub TellsTook : {P : Type 0} → (P → Event → P → Type 0) → P → P → ℕ → WorkerOf → WorkerOf → Came → Type 0
TellsTook happens port port' k old new C.Empty = (m n p : ℕ) × IsAsked (input_at old.inputs k) m n p × RestsAt k old new × happens port (Empty m) port'
TellsTook happens port port' k old new C.Rows = TookSome happens port port' k old new C.Rows
TellsTook happens port port' k old new C.Word = TookSome happens port port' k old new C.Word
TellsTook happens port port' k old new C.Failed = TookSome happens port port' k old new C.Failed

-- ---- what goes out

-- its last rows went on, or could not
pub record FinishFails (fault : OpFault) (old new : PipelineOf) : Type 0 where
  pub want : fault ≡ F.NoMemory
  pub inputs : InputsStay old new
  pub works : Continues old.operator.rest [] [] new.operator.rest
  pub spoils : Spoils old.output [] new.output
  pub opened : state_of new.output.way ≡ Opened

abbrev pub TellsFinished : WorkerOf → WorkerOf → Result Unit OpFault → Type 0
TellsFinished old new (Ok x) = Finishes (pipeline old) (pipeline new) × (state_of new.output.way ≡ Closed) × (held_out new.output ≡ 0)
TellsFinished old new (Err fault) = FinishFails fault (pipeline old) (pipeline new)

-- what an offer came to at a port
abbrev pub TellsOffered : {P : Type 0} → (P → Event → P → Type 0) → P → P → WorkerOf → WorkerOf → Offer → Type 0
TellsOffered happens port port' old new O.Nothing = is_idle old.output.way × (new.output ≡ old.output) × (port' ≡ port)
TellsOffered happens port port' old new O.Put = (k : ℕ) × (p : Parcel) × GoesOut k p (pipeline old) (pipeline new) × happens port (Put (mailbox_at old.output.way k) p) port'
TellsOffered happens port port' old new O.Full =
    (k : ℕ) × (k < places old.output.way) × (waiting old.output.way k ≢ []) × (new.output ≡ old.output) × happens port (Full (mailbox_at old.output.way k)) port'

-- ---- failures

-- every input, the operator and the output gave up what they held
pub record GivesAllUp (old new : WorkerOf) : Type 0 where
  pub inputs : (k : ℕ) → k < length old.inputs → GivesUp (input_at old.inputs k) (input_at new.inputs k)
  pub operator : OperatorGivesUp old.operator new.operator
  pub faults : old.operator.store.faults ≤ new.operator.store.faults
  pub fixed : new.operator.fixed ≡ old.operator.fixed
  pub ended : new.ended ≡ old.ended
  pub phase : new.phase ≡ GivenUp
  pub fails : Fails old.output.way new.output.way
  pub state : state_of new.output.way ≡ Failed
  pub held : held_out new.output ≡ 0

-- the word of an output that failed has ended
pub record ClosesFailed (old new : WorkerOf) : Type 0 where
  pub inputs : new.inputs ≡ old.inputs
  pub operator : OperatorStays old new
  pub closes : WayCloses old.output.way new.output.way
  pub posts : Posts P.Close old.output.way new.output.way
  pub state : state_of new.output.way ≡ Closed
  pub held : held_out new.output ≡ 0

-- ---- inside

-- an operator that was lent the bank
pub record OperatorWent (old new : Seen) (bank bank' : BankOf) : Type 0 where
  pub lent : LentOperator old new bank bank'
  pub frames : new.frames ≤ old.fixed.memory + 1
  pub fixed : new.fixed ≡ old.fixed
  pub faults : old.store.faults ≤ new.store.faults

pub record GaveUpOne (old new : InputOf) : Type 0 where
  pub gives_up : GivesUp old new
  pub still : IsStill old new
  pub holds : (width : ℕ) → HoldsRows old width → HoldsRows new width

pub record GaveUp (old new : List InputOf) : Type 0 where
  pub count : length new ≡ length old
  pub each : (k : ℕ) → k < length old → GaveUpOne (input_at old k) (input_at new k)

-- those before a number were given up
pub record GaveUpBefore (n : ℕ) (old new : List InputOf) : Type 0 where
  pub count : length new ≡ length old
  pub done : (k : ℕ) → k < n → k < length old → GaveUpOne (input_at old k) (input_at new k)
  pub left : (k : ℕ) → n ≤ k → input_at new k ≡ input_at old k
