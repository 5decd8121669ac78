-- Jobs whose literals are values, and jobs with a literal that is none.
use Rattle.std.specs.Prelude.{ℕ, ◌^◌, pos, List, [], ◌∷◌, false, Some}
use Rattle.al_value.specs.declared.value.Value.TheVariants as V
use Rattle.al_func.specs.declared.rex.Rex.TheVariants as R
use Rattle.hy_job.specs.declared.nested.AggRex.TheVariants as A
use Rattle.hy_job.specs.declared.nested.NestedPlan.{NestedPlan}
use Rattle.hy_job.specs.declared.nested.NestedPlan.TheVariants as N
use Rattle.hy_job.specs.declared.job.Kind.{Kind}
use Rattle.hy_job.specs.declared.job.Kind.TheVariants as K
use Rattle.hy_job.specs.declared.job.Activity.{Activity}
use Rattle.hy_job.specs.declared.job.Job.{Job}
use Rattle.al_jobgen.specs.Literals.{LiteralsAreValues}

abbrev pub does : ℕ → Kind → Activity
does number kind = record { number = number; kind = kind; arity = 1 }

-- a job of these activities
abbrev pub job_with : List Activity → Job
job_with activities = record { activities = activities; edges = []; blocks = []; partitions = 2 }

-- a sum of an int over what passes a test, for each group
abbrev pub grouped : ℕ → NestedPlan
grouped n = N.Aggregate (A.Sum (R.Lit (V.Int (pos n))) ∷ []) (N.Select (R.Lit (V.Bool false)) N.Nested)

-- a literal in each of two activities
abbrev pub ValuesInBoth : Type 0
ValuesInBoth = LiteralsAreValues (job_with (does 0 (K.Assign (R.Lit V.Null ∷ R.Lit (V.Int (pos 7)) ∷ [])) ∷ does 1 (K.GroupBuild (record { keys = 0 ∷ []; nested = Some (grouped 5) })) ∷ []))

-- the second activity's int has more than 64 bits
abbrev pub TooLargeInSecond : Type 0
TooLargeInSecond = LiteralsAreValues (job_with (does 0 (K.Select (R.Lit V.Null)) ∷ does 1 (K.Select (R.Lit (V.Int (pos (2 ^ 63))))) ∷ [])) → ⊥

-- so has one in a group's nested plan
abbrev pub TooLargeInNested : Type 0
TooLargeInNested = LiteralsAreValues (job_with (does 0 (K.GroupEmit (record { keys = 0 ∷ []; nested = Some (grouped (2 ^ 63)) })) ∷ [])) → ⊥
