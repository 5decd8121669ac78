-- What a task that has not failed is made of: what comes in, the operator that works, and what goes out.
use Rattle.std.specs.Prelude.{◌≡◌, ◌↔◌, ◌<◌, ℕ, Bool, true, false, List, [], ◌∷◌, ◌++◌, length}
use Rattle.std.specs.List.{All, AllByRecursion}
use Rattle.std.specs.List.Sorted.{IsPermutation}
use Rattle.hy_rest.specs.Rest.{Alive, Continues}
use Rattle.hy_rest.specs.Words.{Signal, Fail, Close, is_fail, put_rows}
use Rattle.hy_job.specs.declared.job.Activity.{Activity}
use Rattle.hy_job.specs.declared.job.Job.{Job}
use Rattle.hy_job.specs.Columns.{AreValues, Row}
use Rattle.hy_job.specs.Drivers.{all_left, driver_out, received_of}
use Rattle.hy_job.specs.Runs.{IsReceiver, Put, Receives, Taken, TaskRun, kept_by, rows_at, sent_by}
use Rattle.hy_job.specs.Settled.{HasCause, IsPassed, Outcome, Take, TakesNoFail, taken_rows}
use Rattle.hy_job.specs.Sound.{edges_from, inputs, width_in}
use Rattle.hy_course.specs.Task.{Advances, Breaks, IsCheck, IsFrontOf, MayComeTo, TaskOf, put_behind}

-- a row that the operator is fed, with its input
abbrev pub Fed : Type 0
Fed = ℕ × Row

pub record PartsOf : Type 1 where
  -- the rows that the operator may still be fed at an input, for the rows that are still to come
  pub brings : ℕ → List Taken → List Row → Type 0
  -- what the operator may still give and hand on, for what it is still fed
  pub works : List Fed → List Row → Type 0
  -- the rows that it gave and that have not gone on
  pub packed : List Row
  -- what may still be put for a receiver, for the rows that still go on
  pub offers : ℕ → List Row → List Row → Type 0
  -- what may still be handed on, for the rows that still go on
  pub keeps : List Row → List Row → Type 0

-- what they may still put and hand on together, for the rows that are still to come
pub record RestOf (job : Job) (a : Activity) (p : PartsOf) (took : List Taken) (put : Put) : Type 0 where
  pub fed : List Fed
  pub made : List Row
  pub brings : (input : ℕ) → input < inputs a.kind → p.brings input took (received_of fed input)
  pub works : p.works fed made
  pub offers : (r : ℕ) → r < job.partitions → p.offers r (p.packed ++ made) (put.to r)
  pub keeps : p.keeps (p.packed ++ made) put.on

-- ---- a step

-- they took this, fed these rows, gave these, let these go on and put these; each of it may be nothing
pub record PartsStep (job : Job) (a : Activity) (old : PartsOf) (took : List Take) (fed : List Fed) (gave written : List Row) (sent : ℕ → List (Signal Row)) (new : PartsOf) : Type 0 where
  pub brings : (input : ℕ) → input < inputs a.kind → Continues (old.brings input) (taken_rows took) (received_of fed input) (new.brings input)
  pub works : Continues old.works fed gave new.works
  pub packed : old.packed ++ gave ≡ written ++ new.packed
  pub offers : (r : ℕ) → r < job.partitions → Continues (old.offers r) written (put_rows (sent r)) (new.offers r)
  pub keeps : Continues old.keeps written [] new.keeps

-- ---- at the beginning and at the end

-- what comes in is what the activity receives, and what goes out is what its edge sends and what it keeps
pub record AreNewParts (job : Job) (a : Activity) (j : ℕ) (scanned handed : List Row) (p : PartsOf) : Type 0 where
  pub brings : (input : ℕ) → input < inputs a.kind → (took : List Taken) (rows : List Row) → p.brings input took rows → Receives job a.number took input rows
  pub works : (fed : List Fed) (made : List Row) → p.works fed made → driver_out a.kind a.arity (all_left a.kind job.partitions j scanned handed) fed made
  pub packed : p.packed ≡ []
  pub offers : (r : ℕ) → r < job.partitions → (given put : List Row) → p.offers r given put → put ≡ sent_by (edges_from job a.number) job.partitions j r given
  pub keeps : (given on : List Row) → p.keeps given on → on ≡ kept_by (edges_from job a.number) given

-- nothing comes any more, the operator has only these rows to hand on, and nothing waits
pub record AreDoneParts (job : Job) (a : Activity) (hands_on : List Row) (p : PartsOf) : Type 0 where
  pub last : List Row
  pub brings : (input : ℕ) → input < inputs a.kind → p.brings input [] []
  pub works : p.works [] last
  pub packed : p.packed ≡ []
  pub offers : (r : ℕ) → r < job.partitions → p.offers r last []
  pub keeps : p.keeps last hands_on

-- however the taking goes on, each part has something to do
pub record AreAlive (job : Job) (a : Activity) (j : ℕ) (closed : ℕ → ℕ → Bool) (ended : ℕ → Bool) (p : PartsOf) : Type 0 where
  -- what may come brings rows of the input's width, of values, and none to an input that has ended
  pub brings : (input : ℕ) → input < inputs a.kind → (more : List Taken) → MayComeTo job a j closed more
      → (rows : List Row) × p.brings input more rows × All (λ row. (length row ≡ width_in job a.number input) × AreValues row) rows × (ended input ≡ true → rows ≡ [])
  pub works : Alive (AllByRecursion (λ (x : Fed). (ended x.0 ≡ false) × (length x.1 ≡ width_in job a.number x.0) × AreValues x.1)) p.works
  pub offers : (r : ℕ) → r < job.partitions → (given : List Row) → (put : List Row) × p.offers r given put
  pub keeps : (given : List Row) → (on : List Row) × p.keeps given on

-- ---- laws

abbrev pub PartsContinue : PartsOf → PartsOf → Type 0
PartsContinue old new = (job : Job) (a : Activity) (took : List Take) (fed : List Fed) (gave written : List Row) (sent : ℕ → List (Signal Row))
    → PartsStep job a old took fed gave written sent new
    → (more : List Taken) (put : Put) → RestOf job a new more put → RestOf job a old (taken_rows took ++ more) (put_behind sent put)

-- new parts do a run
abbrev pub NewPartsRun : PartsOf → Type 0
NewPartsRun p = (job : Job) (a : Activity) (j : ℕ) (scanned handed : List Row) → AreNewParts job a j scanned handed p
    → (took : List Taken) (put : Put) → RestOf job a p took put → TaskRun job a j (record { rows = took; scanned = scanned; handed = handed }) put

-- parts that are done may put nothing any more, and hand these on
abbrev pub DonePartsRest : PartsOf → Type 0
DonePartsRest p = (job : Job) (a : Activity) (hands_on : List Row) → AreDoneParts job a hands_on p → RestOf job a p [] (record { to = λ r. []; on = hands_on })

abbrev pub LivingPartsPut : PartsOf → Type 0
LivingPartsPut p = (job : Job) (a : Activity) (j : ℕ) (closed : ℕ → ℕ → Bool) (ended : ℕ → Bool) → AreAlive job a j closed ended p
    → (more : List Taken) → MayComeTo job a j closed more → (put : Put) × RestOf job a p more put

-- where what waits for each receiver is a front of what may be offered to it, it is one of what all of them may still put
abbrev pub WaitingIsFront : PartsOf → Type 0
WaitingIsFront p = (job : Job) (a : Activity) (kept : ℕ → List (Signal Row))
    → ((r : ℕ) → r < job.partitions → (given put : List Row) → p.offers r given put → (rest : List Row) × (put ≡ put_rows (kept r) ++ rest))
    → (took : List Taken) (put : Put) → RestOf job a p took put → IsFrontOf job kept put

-- ---- the task that they make up

-- it may put what its parts may
abbrev pub IsMadeOf : Job → Activity → TaskOf → PartsOf → Type 0
IsMadeOf job a t p = (took : List Taken) (put : Put) → t.rest took put ↔ RestOf job a p took put

-- what is said of what came in, beside the parts
pub record PassesOn (job : Job) (a : Activity) (old : TaskOf) (took : List Take) (sent : ℕ → List (Signal Row)) (new : TaskOf) : Type 0 where
  pub sound : old.sound → new.sound
  pub tested : IsCheck a.kind → (worked : List Row) × IsPermutation (old.untested ++ rows_at 0 (taken_rows took)) (worked ++ new.untested) × IsPassed a.kind worked
  pub takes_no_fail : TakesNoFail took
  pub puts_no_fail : (r : ℕ) → All (λ s. is_fail s ≡ false) (sent r)

-- a step of living parts is one of the task
abbrev pub PartsAdvance : TaskOf → PartsOf → TaskOf → PartsOf → Type 0
PartsAdvance old p new q = (job : Job) (a : Activity) (j : ℕ) (ended : ℕ → Bool) (took : List Take) (fed : List Fed) (gave written : List Row) (sent : ℕ → List (Signal Row))
    → IsMadeOf job a old p → IsMadeOf job a new q → PassesOn job a old took sent new
    → (old.sound → PartsStep job a p took fed gave written sent q) → (old.sound → AreAlive job a j new.closed ended q) → Advances job a j old took sent new

-- where what waits in living parts is a front of what they may put, the task may break and keep it
abbrev pub PartsBreak : TaskOf → PartsOf → TaskOf → Type 0
PartsBreak old p new = (job : Job) (a : Activity) (j : ℕ) (ended : ℕ → Bool) (outcome : Outcome) (kept : ℕ → List (Signal Row))
    → IsMadeOf job a old p → (old.sound → AreAlive job a j old.closed ended p)
    → (old.sound → (r : ℕ) → r < job.partitions → (given put : List Row) → p.offers r given put → (rest : List Row) × (put ≡ put_rows (kept r) ++ rest))
    → ((r : ℕ) → IsReceiver job a.number j r → new.owed r ≡ kept r ++ Fail ∷ Close ∷ []) → HasCause a.kind outcome old.untested → Breaks job a j old outcome new
