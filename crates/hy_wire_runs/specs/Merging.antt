-- A merging taker and its bank.
use Rattle.std.specs.Prelude.{◌≡◌, ◌<◌, ◌≤◌, ℕ}
use Rattle.hy_frame.specs.Bank.{BankOf}
use Rattle.hy_connect.specs.declared.taker.Taken.{Taken}
use Rattle.hy_connect.specs.declared.taker.Taken.TheVariants as T
use Rattle.hy_connect.specs.Merges.{MergerOf, senders, source}
use Rattle.hy_connect.specs.Sources.{frames_held}

-- from the first mailboxes
pub record IsToMerge (m : MergerOf) : Type 0 where
  pub few : senders m ≤ 4
  pub numbered : (s : ℕ) → s < senders m → (source m s).mailbox ≡ s

-- the frames that are out are those at hand
pub record HasAtHand (m : MergerOf) (b : BankOf) : Type 0 where
  pub to : IsToMerge m
  pub limit : b.limit ≡ 8
  pub out : b.out ≡ frames_held m.sources

-- after a take that goes on they still are
abbrev pub GoesOn : Taken → MergerOf → BankOf → Type 0
GoesOn T.Empty m b = Unit {0}
GoesOn (T.Frame f) m b = Unit {0}
GoesOn T.Kept m b = HasAtHand m b
GoesOn T.Word m b = HasAtHand m b
GoesOn T.Failed m b = Unit {0}
GoesOn T.Ended m b = Unit {0}
