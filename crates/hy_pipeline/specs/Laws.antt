-- What single calls of an input, of the operator and of the output come to as steps of a task's parts.
use Rattle.std.specs.Prelude.{◌≡◌, ◌≢◌, ◌<◌, ℕ, Bool, true, false, List, [], ◌∷◌, ◌++◌, length}
use Rattle.std.specs.List.{All}
use Rattle.hy_rest.specs.Rest.{Alive, Continues}
use Rattle.hy_rest.specs.Words.{put_rows}
use Rattle.hy_job.specs.declared.job.Activity.{Activity}
use Rattle.hy_job.specs.declared.job.Edge.{Edge}
use Rattle.hy_job.specs.declared.job.Job.{Job}
use Rattle.hy_job.specs.declared.job.Kind.{Kind}
use Rattle.hy_job.specs.declared.job.Wire.{Wire}
use Rattle.hy_job.specs.Columns.{AreValues}
use Rattle.hy_job.specs.Drivers.{all_left, driver_out}
use Rattle.hy_job.specs.Runs.{Put, Receives, Taken as TakenRow}
use Rattle.hy_job.specs.Sound.{edges_from, inputs, width_in}
use Rattle.hy_mail.specs.declared.parcel.Parcel.{Parcel}
use Rattle.hy_mail.specs.declared.parcel.Parcel.TheVariants as P
use Rattle.hy_places.specs.Places.{receiver_at, receivers_count}
use Rattle.hy_driver.specs.Rows.{Fed, Row, values_of}
use Rattle.hy_driver.specs.Forms.{MayBeFed}
use Rattle.hy_driver.specs.Steps.{IsNew, MayCome, Steps}
use Rattle.hy_connect.specs.Routes.{route_of}
use Rattle.hy_connect.specs.Outlets.{owed_rows}
use Rattle.hy_connect.specs.Writers.{MayGive, WriterOf, outlet, receivers}
use Rattle.hy_output.specs.declared.way.Way.{Way}
use Rattle.hy_output.specs.declared.way.Way.TheVariants as W
use Rattle.hy_output.specs.Keeper.{kept_rows}
use Rattle.hy_output.specs.Ways.{SendsOn, offers, places, rows_waiting, state_of}
use Rattle.hy_output.specs.Outputs.{Flushes, Packs, packed}
use Rattle.hy_input.specs.Inputs.{Closes, Gets, Gives, IsOver, Rests, brings, given}
use Rattle.hy_course.specs.Task.{MayComeTo}
use Rattle.hy_course.specs.Parts.{AreAlive, AreNewParts, PartsStep, RestOf}
use Rattle.hy_pipeline.specs.Pipeline.{AreApart, OffersTo, PipelineOf, nothing, parts_of, put_for, take_of, waits_for}

-- no other input changed
abbrev pub OthersStay : ℕ → PipelineOf → PipelineOf → Type 0
OthersStay k old new = (i : ℕ) → i ≢ k → new.input i ≡ old.input i

abbrev pub InputsStay : PipelineOf → PipelineOf → Type 0
InputsStay old new = (i : ℕ) → new.input i ≡ old.input i

-- the operator was fed the row that an input went on to
pub record FeedsRow (k : ℕ) (row : Row) (old new : PipelineOf) : Type 0 where
  pub others : OthersStay k old new
  pub gives : Gives (old.input k) (new.input k)
  pub row_is : values_of (given (new.input k)) ≡ row
  pub works : Steps old.operator ((k, row) ∷ []) [] new.operator
  pub output : new.output ≡ old.output

abbrev pub FedIsStep : PipelineOf → PipelineOf → Type 0
FedIsStep old new = (at : ℕ → ℕ) (job : Job) (a : Activity) (k : ℕ) (row : Row) → old.operator.sound → FeedsRow k row old new
    → PartsStep job a (parts_of at old) [] ((k, row) ∷ []) [] [] nothing (parts_of at new)

-- an input was found to be over, and was ended at the operator
pub record EndsInput (k : ℕ) (old new : PipelineOf) : Type 0 where
  pub others : OthersStay k old new
  pub over : IsOver (old.input k) (new.input k)
  pub works : Steps old.operator [] [] new.operator
  pub output : new.output ≡ old.output

abbrev pub EndedIsStep : PipelineOf → PipelineOf → Type 0
EndedIsStep old new = (at : ℕ → ℕ) (job : Job) (a : Activity) (k : ℕ) → old.operator.sound → EndsInput k old new
    → PartsStep job a (parts_of at old) [] [] [] [] nothing (parts_of at new)

-- the operator gave these rows in a turn, of which there is at most one, and they were packed
pub record TurnsOnce (rows : List Row) (old new : PipelineOf) : Type 0 where
  pub inputs : InputsStay old new
  pub works : Steps old.operator [] rows new.operator
  pub packs : Packs old.output rows new.output

abbrev pub TurnIsStep : PipelineOf → PipelineOf → Type 0
TurnIsStep old new = (at : ℕ → ℕ) (job : Job) (a : Activity) (rows : List Row) → old.operator.sound → (t : TurnsOnce rows old new)
    → PartsStep job a (parts_of at old) [] [] rows t.packs.written nothing (parts_of at new)

-- the output was opened, or its last rows went on and its word was ended
pub record Opens (old new : PipelineOf) : Type 0 where
  pub inputs : InputsStay old new
  pub works : Continues old.operator.rest [] [] new.operator.rest
  pub packs : Packs old.output [] new.output

abbrev pub OpenIsStep : PipelineOf → PipelineOf → Type 0
OpenIsStep old new = (at : ℕ → ℕ) (job : Job) (a : Activity) → (o : Opens old new) → PartsStep job a (parts_of at old) [] [] [] o.packs.written nothing (parts_of at new)

pub record Finishes (old new : PipelineOf) : Type 0 where
  pub inputs : InputsStay old new
  pub works : Continues old.operator.rest [] [] new.operator.rest
  pub flushes : Flushes old.output new.output

abbrev pub FinishIsStep : PipelineOf → PipelineOf → Type 0
FinishIsStep old new = (at : ℕ → ℕ) (job : Job) (a : Activity) → Finishes old new → PartsStep job a (parts_of at old) [] [] [] (packed old.output) nothing (parts_of at new)

-- a parcel was taken of the task of a partition: a frame's rows came to hand, or the input is as it was, but for a Close
abbrev pub TakesParcel : ℕ → ℕ → Parcel → PipelineOf → PipelineOf → Type 0
TakesParcel k p (P.Frame f) old new = Gets f p (old.input k) (new.input k)
TakesParcel k p P.Open old new = Rests (old.input k) (new.input k)
TakesParcel k p P.Fail old new = Rests (old.input k) (new.input k)
TakesParcel k p P.Close old new = Closes p (old.input k) (new.input k)

pub record Comes (k p : ℕ) (parcel : Parcel) (old new : PipelineOf) : Type 0 where
  pub others : OthersStay k old new
  pub takes : TakesParcel k p parcel old new
  pub works : Continues old.operator.rest [] [] new.operator.rest
  pub output : new.output ≡ old.output

abbrev pub ComeIsStep : PipelineOf → PipelineOf → Type 0
ComeIsStep old new = (at : ℕ → ℕ) (job : Job) (a : Activity) (k p : ℕ) (parcel : Parcel) → Comes k p parcel old new
    → PartsStep job a (parts_of at old) (take_of k p parcel) [] [] [] nothing (parts_of at new)

-- the first parcel that waited in a place was put
pub record GoesOut (k : ℕ) (parcel : Parcel) (old new : PipelineOf) : Type 0 where
  pub inputs : InputsStay old new
  pub works : Continues old.operator.rest [] [] new.operator.rest
  pub packed_is : packed new.output ≡ packed old.output
  pub sends : SendsOn old.output.way k parcel new.output.way

abbrev pub PutIsStep : PipelineOf → PipelineOf → Type 0
PutIsStep old new = (at : ℕ → ℕ) (job : Job) (a : Activity) (k : ℕ) (parcel : Parcel) → AreApart at (places old.output.way) → GoesOut k parcel old new
    → PartsStep job a (parts_of at old) [] [] [] [] (put_for (at k) parcel) (parts_of at new)

-- ---- at the beginning

-- what goes out of a new task: over the first edge that leaves its activity, with a place for each receiver, or nowhere
pub record IsNewWriter (n j : ℕ) (wire : Wire) (at : ℕ → ℕ) (w : WriterOf) : Type 0 where
  pub route : w.route ≡ route_of wire
  pub count : receivers w ≡ receivers_count wire n
  pub at_is : (k : ℕ) → k < receivers w → at k ≡ receiver_at wire j k
  pub owes : (k : ℕ) → k < receivers w → owed_rows (outlet w k) ≡ []

abbrev pub IsNewWay : ℕ → ℕ → List Edge → (ℕ → ℕ) → Way → Type 0
IsNewWay n j [] at (W.Kept keeper) = keeper.frames ≡ []
IsNewWay n j (e ∷ es) at (W.Wire w) = IsNewWriter n j e.wire at w
IsNewWay _ _ _ _ _ = ⊥

-- inputs that bring what the activity receives, its operator, and what goes out
pub record IsNewPipeline (job : Job) (a : Activity) (j : ℕ) (scanned handed : List Row) (at : ℕ → ℕ) (p : PipelineOf) : Type 0 where
  pub brings : (k : ℕ) → k < inputs a.kind → (took : List TakenRow) (rows : List Row) → brings k (p.input k) took rows → Receives job a.number took k rows
  pub operator : IsNew p.operator (driver_out a.kind a.arity (all_left a.kind job.partitions j scanned handed))
  pub packed_is : packed p.output ≡ []
  pub way : IsNewWay job.partitions j (edges_from job a.number) at p.output.way

abbrev pub NewAreNew : PipelineOf → Type 0
NewAreNew p = (job : Job) (a : Activity) (j : ℕ) (scanned handed : List Row) (at : ℕ → ℕ) → j < job.partitions → p.operator.sound → IsNewPipeline job a j scanned handed at p
    → AreNewParts job a j scanned handed (parts_of at p)

-- ---- before the end

-- rows may still be given to what goes out
abbrev pub TakesMore : Way → Type 0
TakesMore way = (given : List Row) → MayGive (state_of way) given

-- its inputs bring something, its operator has something to do, and its output takes more
pub record IsLiving (job : Job) (a : Activity) (j : ℕ) (closed : ℕ → ℕ → Bool) (ended : ℕ → Bool) (p : PipelineOf) : Type 0 where
  pub brings : (k : ℕ) → k < inputs a.kind → (more : List TakenRow) → MayComeTo job a j closed more
      → (rows : List Row) × brings k (p.input k) more rows × All (λ row. (length row ≡ width_in job a.number k) × AreValues row) rows × (ended k ≡ true → rows ≡ [])
  pub may : (fed : Fed) → (ended fed.0 ≡ false) × (length fed.1 ≡ width_in job a.number fed.0) × AreValues fed.1 → MayBeFed p.operator.ended p.operator.fixed.width fed
  pub works : Alive (MayCome p.operator) p.operator.rest
  pub more : TakesMore p.output.way

abbrev pub LivingAreAlive : PipelineOf → Type 0
LivingAreAlive p = (job : Job) (a : Activity) (j : ℕ) (closed : ℕ → ℕ → Bool) (ended : ℕ → Bool) (at : ℕ → ℕ) → AreApart at (places p.output.way) → IsLiving job a j closed ended p
    → AreAlive job a j closed ended (parts_of at p)

-- ---- at the end

-- over a wire the operator leaves nothing, and what is kept comes before what it leaves
abbrev pub Leaves : Way → List Row → List Row → Type 0
Leaves (W.Wire w) left on = (left ≡ []) × (on ≡ [])
Leaves (W.Kept k) left on = on ≡ kept_rows k ++ left

-- its inputs bring nothing any more, its operator has only these rows to leave, nothing is packed
pub record IsEnded (kind : Kind) (left on : List Row) (p : PipelineOf) : Type 0 where
  pub brings : (k : ℕ) → k < inputs kind → brings k (p.input k) [] []
  pub operator : p.operator.rest [] left
  pub packed_is : packed p.output ≡ []
  pub leaves : Leaves p.output.way left on

abbrev pub OwesNothing : Way → Type 0
OwesNothing (W.Wire w) = (k : ℕ) → k < receivers w → owed_rows (outlet w k) ≡ []
OwesNothing (W.Kept k) = Unit {0}

-- then it may put nothing any more but what waits, and hand these on
abbrev pub EndedRests : PipelineOf → Type 0
EndedRests p = (job : Job) (a : Activity) (at : ℕ → ℕ) (left on : List Row) → AreApart at (places p.output.way) → IsEnded a.kind left on p
    → (put : Put) × RestOf job a (parts_of at p) [] put × (put.on ≡ on) × (OwesNothing p.output.way → (r : ℕ) → put.to r ≡ [])

-- what waits in each place is a front of what may be offered there, so what waits for each task is a front of what it may be put
abbrev pub WaitingIsFront : PipelineOf → Type 0
WaitingIsFront p = (at : ℕ → ℕ)
    → ((k : ℕ) → k < places p.output.way → (given put : List Row) → offers p.output.way k given put → (rest : List Row) × (put ≡ rows_waiting p.output.way k ++ rest))
    → (r : ℕ) (given put : List Row) → OffersTo at p.output.way r given put → (rest : List Row) × (put ≡ put_rows (waits_for at p.output.way r) ++ rest)
