-- A job that is one of the worked cases.
use Rattle.std.proofs.Common.{◌≡◌, ◌∙◌, ℕ, List, [], ◌∷◌, IfOk, Result, Ok, Err, ap, sym, subst}
use Rattle.hy_job.specs.declared.job.Activity.{Activity}
use Rattle.hy_job.specs.declared.job.Edge.{Edge}
use Rattle.hy_job.specs.declared.job.Job.{Job}
use Rattle.hy_job.specs.Cases.{GroupingIsSound, block, grouping}
use Rattle.hy_job.specs.Sound.{SoundJob}

job_with : List Activity → List Edge → Job
job_with activities edges = record { activities = activities; edges = edges; blocks = block 1 2 ∷ []; partitions = 2 }

is_grouping : GroupingIsSound → (set : List ℕ) (activities : List Activity) (edges : List Edge) (job : Job) → activities ≡ (grouping set 6 3).activities → edges ≡ (grouping [] 6 3).edges
    → job ≡ record { activities = activities; edges = edges; blocks = block 1 2 ∷ []; partitions = 2 } → SoundJob job
unfolding job_with
is_grouping sound set activities edges job a e j =
    subst SoundJob (sym (j ∙ ap (λ x. job_with x edges) a ∙ ap (job_with (grouping set 6 3).activities) e)) (sound set)

pub grouping_made : {E : Type 0} → GroupingIsSound → (set : List ℕ) (activities : List Activity) (edges : List Edge) (r : Result Job E) → activities ≡ (grouping set 6 3).activities → edges ≡ (grouping [] 6 3).edges
    → IfOk r (λ job. job ≡ record { activities = activities; edges = edges; blocks = block 1 2 ∷ []; partitions = 2 }) → IfOk r SoundJob
grouping_made sound set activities edges (Ok job) a e j = is_grouping sound set activities edges job a e j
grouping_made sound set activities edges (Err x) a e j = tt
