-- Records that fit together, task by task.
use Rattle.std.proofs.Common.{◌<◌, ℕ, zero, suc, List, arith}
use Rattle.std.specs.List.{AllByRecursion, Contains}
use Rattle.std.proofs.lemmas.List.Elements.{All-contains, All-from_recursion}
use Rattle.hy_job.specs.declared.job.Activity.{Activity}
use Rattle.hy_job.specs.declared.job.Job.{Job}
use Rattle.hy_job.specs.declared.job.Stage.{Stage}
use Rattle.hy_job.specs.Settled.{EachTask}

-- a claim of the numbers below two
pub below_two : (P : ℕ → Type 0) → P 0 → P 1 → (r : ℕ) → r < 2 → P r
below_two P p q zero lt = p
below_two P p q (suc zero) lt = q
below_two P p q (suc (suc r)) lt = absurd (omega (arith, lt))

pub below_one : (P : ℕ → Type 0) → P 0 → (r : ℕ) → r < 1 → P r
below_one P p zero lt = p
below_one P p (suc r) lt = absurd (omega (arith, lt))

-- a claim of each activity's tasks
pub each_task : (job : Job) (stages : List Stage) (P : Activity → ℕ → Type 0) → AllByRecursion (λ a. (j : ℕ) → j < job.partitions → P a j) job.activities → EachTask job stages P
each_task job stages P h a j m n lt = All-contains (λ a. (j : ℕ) → j < job.partitions → P a j) job.activities a (All-from_recursion (λ a. (j : ℕ) → j < job.partitions → P a j) job.activities h) m j lt

-- a claim of each member
pub each_member : {X : Type 0} (P : X → Type 0) (xs : List X) → AllByRecursion P xs → (x : X) → Contains xs x → P x
each_member P xs h x m = All-contains P xs x (All-from_recursion P xs h) m
