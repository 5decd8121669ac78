-- What holds of the runs of a sound job's activities.
use Rattle.std.specs.Prelude.{◌≡◌, ◌<◌, ℕ, Bool, true, false, List, length}
use Rattle.std.specs.List.{AllByRecursion, Contains}
use Rattle.std.specs.List.Sorted.{IsPermutation}
use Rattle.hy_job.specs.declared.job.Kind.{Kind}
use Rattle.hy_job.specs.declared.job.Kind.TheVariants as K
use Rattle.hy_job.specs.declared.job.JoinArg.{JoinArg}
use Rattle.hy_job.specs.declared.job.Activity.{Activity}
use Rattle.hy_job.specs.declared.job.Job.{Job}
use Rattle.hy_job.specs.Columns.{Row, AreValues}
use Rattle.hy_job.specs.Literals.{kind_literals}
use Rattle.hy_job.specs.Sound.{SoundJob, is_second, width_in, handed_arity, blocks_into}
use Rattle.hy_job.specs.Runs.{Took, Put, TaskRun, Output}

abbrev pub is_scan : Kind → Bool
is_scan (K.Scan set) = true
is_scan _ = false

-- each row has this many values
abbrev pub AreWide : ℕ → List Row → Type 0
AreWide width = AllByRecursion (λ row. length row ≡ width)

-- what a task is given is as wide as its activity sees it
pub record TakesFit (job : Job) (a : Activity) (took : Took) : Type 0 where
  pub rows : AllByRecursion (λ t. length t.row ≡ width_in job a.number t.input) took.rows
  pub scanned : is_scan a.kind ≡ true → AreWide a.arity took.scanned
  pub handed : is_second a.kind ≡ true → AreWide (handed_arity job (blocks_into job a.number)) took.handed

-- a claim of each row that a run makes, puts and hands on
pub record EachMade (partitions : ℕ) (P : Row → Type 0) (made : List Row) (put : Put) : Type 0 where
  pub made_rows : AllByRecursion P made
  pub put_rows : (r : ℕ) → r < partitions → AllByRecursion P (put.to r)
  pub on_rows : AllByRecursion P put.on

-- then so is what it makes
abbrev pub RunsFit : Type 0
RunsFit = (job : Job) → SoundJob job → (a : Activity) → Contains job.activities a → (j : ℕ) (took : Took) (put : Put) → TakesFit job a took → (run : TaskRun job a j took put) → EachMade job.partitions (λ row. length row ≡ a.arity) run.made put

-- what a task is given are values
pub record TakesValues (a : Activity) (took : Took) : Type 0 where
  pub rows : AllByRecursion (λ t. AreValues t.row) took.rows
  pub scanned : is_scan a.kind ≡ true → AllByRecursion AreValues took.scanned
  pub handed : is_second a.kind ≡ true → AllByRecursion AreValues took.handed

-- then what it makes are values, where the literals of its expressions are
abbrev pub RunsHaveValues : Type 0
RunsHaveValues = (job : Job) (a : Activity) → AreValues (kind_literals a.kind) → (j : ℕ) (took : Took) (put : Put) → TakesValues a took → (run : TaskRun job a j took put) → EachMade job.partitions AreValues run.made put

-- a probe's rows are the same whatever the order of what was handed
abbrev pub ProbesMove : Type 0
ProbesMove = (arg : JoinArg) (arity n j : ℕ) (received : ℕ → List Row) (scanned handed moved out : List Row) → IsPermutation handed moved
    → Output (K.JoinProbe arg) arity n j received scanned handed out → Output (K.JoinProbe arg) arity n j received scanned moved out
