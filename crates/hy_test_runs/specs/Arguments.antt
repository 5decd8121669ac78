-- What the drivers of these tests are made of.
use Rattle.std.specs.Prelude.{◌≡◌, ◌+◌, ◌≤◌, ℕ, length}
use Rattle.al_func.specs.Rex.{IsSound}
use Rattle.hy_job.specs.declared.job.GroupArg.{GroupArg}
use Rattle.hy_job.specs.declared.job.JoinArg.{JoinArg}
use Rattle.hy_job.specs.Sound.{AreColumns, IsGroupNested, built_fields, made_fields}

-- a join of rows of two values
pub record JoinsPairs (arg : JoinArg) : Type 0 where
  pub left : AreColumns 2 arg.left
  pub right : AreColumns 2 arg.right
  pub rest : IsSound 4 arg.rest
  pub pairs : length arg.left ≡ length arg.right

-- a group over rows of two values, of which rows of so many values are handed on and given
pub record GroupsPairs (built given : ℕ) (arg : GroupArg) : Type 0 where
  pub columns : AreColumns 2 arg.keys
  pub nested : IsGroupNested arg.nested 2
  pub built_is : built ≡ length arg.keys + built_fields arg.nested
  pub given_is : given ≡ length arg.keys + made_fields arg.nested
  pub few_built : built ≤ 1024
  pub few_given : given ≤ 1024
