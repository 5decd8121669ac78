-- A taker and its bank.
use Rattle.std.specs.Prelude.{◌≡◌, ◌<◌, ℕ, Bool, List, length, Option, Some, None}
use Rattle.hy_frame.specs.Bank.{BankOf}
use Rattle.hy_connect.specs.declared.taker.Taken.{Taken}
use Rattle.hy_connect.specs.declared.taker.Taken.TheVariants as T
use Rattle.hy_connect.specs.Takers.{HaveClosed, IsGoing, TakerOf}
use Rattle.hy_wire_runs.specs.declared.reader.Left.{Left}
use Rattle.hy_wire_runs.specs.declared.reader.Left.TheVariants as L
use Rattle.hy_wire_runs.specs.declared.reader.Reader.{Reader}

-- from one of the mailboxes, with so many frames out
pub record TakesFrom (frames : ℕ) (t : TakerOf) (b : BankOf) : Type 0 where
  pub there : t.mailbox < 4
  pub one : length t.closed ≡ 1
  pub limit : b.limit ≡ 4
  pub out : b.out ≡ frames

-- how many frames an answer hands out
abbrev pub handed_out : Taken → ℕ
handed_out T.Empty = 0
handed_out (T.Frame f) = 1
handed_out T.Kept = 0
handed_out T.Word = 0
handed_out T.Failed = 0
handed_out T.Ended = 0

abbrev pub IsReaderWith : ℕ → Reader → Type 0
IsReaderWith frames r = TakesFrom frames r.taker r.bank

abbrev pub IsReader : Reader → Type 0
IsReader r = IsReaderWith 0 r

-- where nothing came, whether the sender's Close was taken
abbrev pub TellsNone : Taken → List Bool → Type 0
TellsNone T.Empty closed = IsGoing closed
TellsNone (T.Frame f) closed = Unit {0}
TellsNone T.Kept closed = Unit {0}
TellsNone T.Word closed = Unit {0}
TellsNone T.Failed closed = Unit {0}
TellsNone T.Ended closed = HaveClosed closed

abbrev pub TellsLeft : List Bool → Option Left → Type 0
TellsLeft closed None = Unit {0}
TellsLeft closed (Some L.Empty) = IsGoing closed
TellsLeft closed (Some L.End) = HaveClosed closed
