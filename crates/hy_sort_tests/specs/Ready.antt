-- What tests know of a driver between its calls.
use Rattle.std.specs.Prelude.{◌≡◌}
use Rattle.hy_frame.specs.Bank.{BankOf}
use Rattle.hy_driver.specs.Seen.{Seen}
use Rattle.hy_driver.specs.Steps.{HasRoom, IsBankOf}

-- this bank, of which it alone has frames, may be lent to it
pub record IsReady (s : Seen) (bank : BankOf) : Type 0 where
  pub lent : IsBankOf s bank
  pub room : HasRoom s bank
  pub alone : bank.out ≡ s.frames

-- the rows that it takes have one value
pub record TakesOne (s : Seen) : Type 0 where
  pub width : s.fixed.width 0 ≡ 1
