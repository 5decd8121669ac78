-- What is known of a driver between its calls.
use Rattle.std.specs.Prelude.{◌≡◌, ◌≢◌, false}
use Rattle.hy_frame.specs.Bank.{BankOf}
use Rattle.hy_driver.specs.Seen.{Seen}
use Rattle.hy_driver.specs.Steps.{HasRoom, IsBankOf}
use Rattle.hy_driver.specs.declared.phase.Phase.TheVariants.{GivenUp}

-- it was not given up, and this bank may be lent to it
pub record IsReady (s : Seen) (bank : BankOf) : Type 0 where
  pub going : s.phase ≢ GivenUp
  pub lent : IsBankOf s bank
  pub room : HasRoom s bank

-- and its first input goes on, with rows of two values
pub record IsOpen (s : Seen) (bank : BankOf) : Type 0 where
  pub ready : IsReady s bank
  pub open_ : s.ended 0 ≡ false
  pub width : s.fixed.width 0 ≡ 2
