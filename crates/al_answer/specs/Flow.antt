-- What the tasks of a job receive, are handed and make in whole runs, and when a physical plan allows it.
use Rattle.std.specs.Prelude.{◌≡◌, ◌<◌, ℕ, Bool, List, map}
use Rattle.std.specs.List.{AllByRecursion, range_with_len}
use Rattle.al_plan.specs.declared.expr.Var.{Var}
use Rattle.al_plan.specs.Eval.{bind}
use Rattle.al_plan.specs.Allows.{Sets, IsChecked}
use Rattle.al_phys.specs.declared.phys.Phys.{Phys}
use Rattle.al_phys.specs.Operators.{phys_live}
use Rattle.al_phys.specs.Parts.{Parts}
use Rattle.al_phys.specs.PAllows.{PAllows}
use Rattle.hy_job.specs.declared.job.Kind.{Kind}
use Rattle.hy_job.specs.declared.job.Kind.TheVariants as K
use Rattle.hy_job.specs.declared.job.Activity.{Activity}
use Rattle.hy_job.specs.declared.job.Edge.{Edge}
use Rattle.hy_job.specs.declared.job.Block.{Block}
use Rattle.hy_job.specs.Columns.{Row, AreValues}
use Rattle.hy_job.specs.Literals.{kind_literals}
use Rattle.hy_job.specs.Runs.{Output}
use Rattle.hy_job.specs.Exchange.{IsExchanged, parts_by}
use Rattle.hy_job.specs.Settled.{IsPassed}
use Rattle.al_jobgen.specs.Agree.{AreAsWide}

-- by activity and partition: the rows that a task receives at each input, those of the dataset that a scan is given, those that
-- it is handed, and those that it makes
pub record Flow : Type 0 where
  pub received : ℕ → ℕ → ℕ → List Row
  pub scanned : ℕ → ℕ → List Row
  pub handed : ℕ → ℕ → List Row
  pub made : ℕ → ℕ → List Row

-- a scan is given the rows of its dataset, which are values
abbrev pub IsGiven : Sets → Kind → List Row → Type 0
IsGiven sets (K.Scan set) rows = (rows ≡ sets set) × AllByRecursion AreValues rows
IsGiven sets _ rows = Unit {0}

-- the activity's task of partition `j` makes what it may, and passes all rows that a check has to pass
pub record Works (n : ℕ) (passing : Bool) (sets : Sets) (flow : Flow) (a : Activity) (j : ℕ) : Type 0 where
  pub makes : Output a.kind a.arity n j (flow.received a.number j) (flow.scanned a.number j) (flow.handed a.number j) (flow.made a.number j)
  pub given : IsGiven sets a.kind (flow.scanned a.number j)
  pub passed : IsChecked passing (IsPassed a.kind (flow.received a.number j 0))
  pub literals : AreValues (kind_literals a.kind)

-- what is made at one end of an edge is received at the other
abbrev pub Carries : ℕ → Flow → Edge → Type 0
Carries n flow e = IsExchanged e.wire n (parts_by n (flow.made e.from)) (parts_by n (λ j. flow.received e.to j e.input))

-- what the first of two activities makes, the second is handed
abbrev pub HandsOn : ℕ → Flow → Block → Type 0
HandsOn n flow b = (j : ℕ) → j < n → flow.handed b.after j ≡ flow.made b.before j

-- these activities, edges and blocks do so in each of the partitions
pub record Flows (n : ℕ) (passing : Bool) (sets : Sets) (flow : Flow) (activities : List Activity) (edges : List Edge) (blocks : List Block) : Type 0 where
  pub works : AllByRecursion (λ a. (j : ℕ) → j < n → Works n passing sets flow a j) activities
  pub carries : AllByRecursion (Carries n flow) edges
  pub hands : AllByRecursion (HandsOn n flow) blocks

-- rows by column as parts of rows by variable
abbrev pub bound : ℕ → List Var → (ℕ → List Row) → Parts
bound n vars rows = map (λ j. map (bind vars) (rows j)) (range_with_len 0 n)

-- a physical plan allows these rows by column as its parts
pub record IsAllowed (p : Phys) (passing : Bool) (sets : Sets) (n : ℕ) (rows : ℕ → List Row) : Type 0 where
  pub parts : PAllows p passing sets n (bound n (phys_live p) rows)
  pub wide : (j : ℕ) → j < n → AreAsWide (phys_live p) (rows j)
