-- What tests know of a driver between its calls, and of what it hands on.
use Rattle.std.specs.Prelude.{◌≡◌, ◌≢◌, ℕ, Bool, true, false, [], length}
use Rattle.std.specs.List.{All}
use Rattle.hy_frame.specs.Bank.{BankOf}
use Rattle.hy_driver.specs.Seen.{Seen}
use Rattle.hy_driver.specs.Steps.{HasRoom, IsBankOf}
use Rattle.hy_driver.specs.declared.handed.Handed.{Handed}
use Rattle.hy_driver.specs.declared.phase.Phase.TheVariants.{GivenUp}

-- its input has rows of this many values and goes on where it is said to, it was not given up, and this bank may be lent to it
pub record IsReady (values : ℕ) (goes_on : Bool) (s : Seen) (bank : BankOf) : Type 0 where
  pub width : s.fixed.width 0 ≡ values
  pub going : s.phase ≢ GivenUp
  pub open_ : goes_on ≡ true → s.ended 0 ≡ false
  pub lent : IsBankOf s bank
  pub room : HasRoom s bank

-- rows of so many fields are handed on, and nothing else
pub record FitIn (width : ℕ) (handed : Handed) : Type 0 where
  pub rows : All (λ row. length row ≡ width) handed.rows
  pub frames : handed.frames ≡ []
  pub runs : handed.runs ≡ []
