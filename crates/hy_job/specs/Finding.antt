-- How the stages of a job are found: by the root of each activity, which is the greatest activity of its part.
use Rattle.std.specs.Prelude.{◌≡◌, ◌<◌, ◌≤◌, ℕ, nat_eq, Bool, not, ◌&&◌, if◌then◌else◌, Option, Some, None, List, [], ◌∷◌, ◌++◌, filter, length, slice_index_or}
use Rattle.std.specs.List.{list_all, list_any, All, Contains, range_with_len}
use Rattle.std.specs.List.Sorted.{IsPermutation, IsStrictlyIncreasing}
use Rattle.hy_job.specs.declared.job.Edge.{Edge}
use Rattle.hy_job.specs.declared.job.Block.{Block}
use Rattle.hy_job.specs.declared.job.Job.{Job}
use Rattle.hy_job.specs.declared.job.Stage.{Stage}
use Rattle.hy_job.specs.Stages.{AreConnected, AreNext, activities_in}

-- where the first edge that leaves an activity ends
abbrev pub target_of : List Edge → ℕ → Option ℕ
target_of [] a = None
target_of (e ∷ es) a = if nat_eq e.from a then Some e.to else target_of es a

abbrev pub root_at : List ℕ → ℕ → ℕ
root_at roots a = slice_index_or roots a 0

-- the activity leads along the edges to its root, as all do that an edge links with it
pub record IsRooted (job : Job) (roots : List ℕ) (a : ℕ) : Type 0 where
  pub along : (e : Edge) → Contains job.edges e → e.from ≡ a → root_at roots a ≡ root_at roots e.to
  pub reached : AreConnected job a (root_at roots a)
  pub above : a ≤ root_at roots a
  pub below : root_at roots a < length job.activities
  pub last : target_of job.edges a ≡ None → root_at roots a ≡ a

pub record AreRoots (job : Job) (roots : List ℕ) : Type 0 where
  pub count : length roots ≡ length job.activities
  pub each : (a : ℕ) → a < length job.activities → IsRooted job roots a

-- the roots are found from this activity on, and each activity before it stands for itself
pub record AreRootsFrom (job : Job) (roots : List ℕ) (from : ℕ) : Type 0 where
  pub count : length roots ≡ length job.activities
  pub each : (a : ℕ) → from ≤ a → a < length job.activities → IsRooted job roots a
  pub itself : (a : ℕ) → a < from → root_at roots a ≡ a

-- whether no block into the part of this root comes from an activity that is left
abbrev pub is_ready : List Block → List ℕ → List ℕ → ℕ → Bool
is_ready blocks roots left root = list_all (λ b. not (nat_eq (root_at roots b.after) root && list_any (λ a. nat_eq a b.before) left)) blocks

-- the root of the first of these activities that passes the test by its root
abbrev pub first_root : (ℕ → Bool) → List ℕ → List ℕ → Option ℕ
first_root test roots [] = None
first_root test roots (a ∷ more) = if test (root_at roots a) then Some (root_at roots a) else first_root test roots more

-- the root of the part that is the next stage
abbrev pub next_root : List Block → List ℕ → List ℕ → Option ℕ
next_root blocks roots left = first_root (is_ready blocks roots left) roots left

-- the activities that are left and have this root, and the others
abbrev pub with_root : List ℕ → ℕ → List ℕ → List ℕ
with_root roots root left = filter (λ a. nat_eq (root_at roots a) root) left

abbrev pub without_root : List ℕ → ℕ → List ℕ → List ℕ
without_root roots root left = filter (λ a. not (nat_eq (root_at roots a) root)) left

-- the stages so far, and the activities that are left
pub record AreSoFar (job : Job) (roots left : List ℕ) (stages : List Stage) : Type 0 where
  pub order : AreNext job [] stages
  pub whole : IsPermutation (range_with_len 0 (length job.activities)) (activities_in stages ++ left)
  pub rising : IsStrictlyIncreasing left
  pub within : All (λ a. a < length job.activities) left
  pub apart : (a : ℕ) → Contains (activities_in stages) a → Contains left a → ⊥
  -- a part is left as a whole
  pub parts : (a b : ℕ) → Contains left a → b < length job.activities → root_at roots a ≡ root_at roots b → Contains left b
