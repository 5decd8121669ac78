-- The literals of jobs.
use Rattle.std.specs.Prelude.{List}
use Rattle.std.specs.List.{AllByRecursion}
use Rattle.hy_job.specs.declared.job.Activity.{Activity}
use Rattle.hy_job.specs.declared.job.Job.{Job}
use Rattle.hy_job.specs.Literals.{kind_literals}
use Rattle.hy_job.specs.Columns.{AreValues}

-- the literals of activities are values of the program
abbrev pub HaveValueLiterals : List Activity → Type 0
HaveValueLiterals = AllByRecursion (λ a. AreValues (kind_literals a.kind))

abbrev pub LiteralsAreValues : Job → Type 0
LiteralsAreValues job = HaveValueLiterals job.activities
