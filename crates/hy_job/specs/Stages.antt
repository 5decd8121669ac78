-- The stages of a job: the parts that its edges connect, in the order in which its blocks let them run.
use Rattle.std.specs.Prelude.{◌≡◌, ◌≢◌, ◌⊎◌, ◌<◌, ◌≤◌, ℕ, List, [], ◌∷◌, ◌++◌, length, slice_index_or}
use Rattle.std.specs.List.{flat_map, All, Contains, range_with_len}
use Rattle.std.specs.List.Sorted.{IsPermutation, IsStrictlyIncreasing}
use Rattle.hy_job.specs.declared.job.Edge.{Edge}
use Rattle.hy_job.specs.declared.job.Block.{Block}
use Rattle.hy_job.specs.declared.job.Job.{Job}
use Rattle.hy_job.specs.declared.job.Stage.{Stage}

-- an edge joins the two activities, in either direction
abbrev pub AreLinked : Job → ℕ → ℕ → Type 0
AreLinked job a b = (e : Edge) × Contains job.edges e × (((e.from ≡ a) × (e.to ≡ b)) ⊎ ((e.from ≡ b) × (e.to ≡ a)))

-- the path leads from one activity along edges to another
unfoldable pub Leads : Job → ℕ → List ℕ → ℕ → Type 0
Leads job a [] b = a ≡ b
Leads job a (x ∷ path) b = AreLinked job a x × Leads job x path b

abbrev pub AreConnected : Job → ℕ → ℕ → Type 0
AreConnected job a b = (path : List ℕ) × Leads job a path b

-- a connected part of the job, whole, as the list of its activities in rising order
pub record IsPart (job : Job) (part : List ℕ) : Type 0 where
  pub some : part ≢ []
  pub rising : IsStrictlyIncreasing part
  pub within : All (λ a. a < length job.activities) part
  pub connected : (a b : ℕ) → Contains part a → Contains part b → AreConnected job a b
  pub closed : (a b : ℕ) → Contains part a → AreLinked job a b → Contains part b

-- the least activity of a part
abbrev pub least_of : List ℕ → ℕ
least_of part = slice_index_or part 0 0

-- no activity of the part is in a stage before
abbrev pub IsNew : List ℕ → List ℕ → Type 0
IsNew before part = (a : ℕ) → Contains part a → Contains before a → ⊥

-- all its blocking edges come from activities of the stages before
abbrev pub IsReady : Job → List ℕ → List ℕ → Type 0
IsReady job before part = (b : Block) → Contains job.blocks b → Contains part b.after → Contains before b.before

-- the part that is the next stage, behind the stages with these activities: of those that are ready, the one with the least activity
pub record IsNext (job : Job) (before part : List ℕ) : Type 0 where
  pub is_part : IsPart job part
  pub new : IsNew before part
  pub ready : IsReady job before part
  pub least : (other : List ℕ) → IsPart job other → IsNew before other → IsReady job before other → least_of part ≤ least_of other

-- each of these stages is the next one, behind the activities of those before it
unfoldable pub AreNext : Job → List ℕ → List Stage → Type 0
AreNext job before [] = Unit {0}
AreNext job before (s ∷ stages) = IsNext job before s.activities × AreNext job (before ++ s.activities) stages

abbrev pub activities_in : List Stage → List ℕ
activities_in = flat_map (λ s. s.activities)

-- the stages of a job, in order
pub record StageOf (job : Job) (stages : List Stage) : Type 0 where
  pub order : AreNext job [] stages
  -- each activity is in one stage
  pub whole : IsPermutation (range_with_len 0 (length job.activities)) (activities_in stages)
