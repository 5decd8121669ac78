-- What tests know of a driver between its calls.
use Rattle.std.specs.Prelude.{◌≡◌, ◌≢◌, ℕ, Bool, true, false}
use Rattle.hy_frame.specs.Bank.{BankOf}
use Rattle.hy_driver.specs.Seen.{Seen}
use Rattle.hy_driver.specs.Steps.{HasRoom, IsBankOf}
use Rattle.hy_job.specs.Sound.{Widths}
use Rattle.hy_stream.specs.Stream.{widths_of}
use Rattle.hy_driver.specs.declared.phase.Phase.TheVariants.{GivenUp}

-- rows of two values at each input
abbrev pub pairs : ℕ → Widths
pairs arity = widths_of (record { width = 2; right_width = 2; arity = arity })

-- its inputs have rows of this many values, it was not given up, those inputs go on that are said to, and this bank may be lent to it
pub record IsReady (values : ℕ) (first second : Bool) (s : Seen) (bank : BankOf) : Type 0 where
  pub width : (input : ℕ) → s.fixed.width input ≡ values
  pub going : s.phase ≢ GivenUp
  pub left : first ≡ true → s.ended 0 ≡ false
  pub right : second ≡ true → s.ended 1 ≡ false
  pub lent : IsBankOf s bank
  pub room : HasRoom s bank
