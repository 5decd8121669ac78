-- A writer, its bank and the mailboxes.
use Rattle.std.specs.Prelude.{◌≡◌, ◌<◌, ◌≤◌, ◌+◌, ℕ, List, length, slice_index_or}
use Rattle.hy_frame.specs.Bank.{BankOf}
use Rattle.hy_frame.specs.declared.writer.WriterState.{WriterState}
use Rattle.hy_frame.specs.declared.writer.WriterState.TheVariants.{Initial}
use Rattle.hy_mail.specs.Desks.{DeskState, word_of}
use Rattle.hy_connect.specs.Outlets.{held_of}
use Rattle.hy_connect.specs.Writers.{IsAsFar, WriterOf, outlet, receivers}
use Rattle.hy_wire_runs.specs.declared.line.Line.{Line}
use Rattle.hy_wire_runs.specs.Desks.{AreFree, IsDesk}

-- the numbers from this one on
abbrev pub AreNumbers : ℕ → List ℕ → Type 0
AreNumbers first boxes = (k : ℕ) → k < length boxes → slice_index_or boxes k 0 ≡ first + k

-- a writer of rows of two fields to the mailboxes from this one on
pub record WritesTo (first : ℕ) (w : WriterOf) : Type 0 where
  pub wide : w.arity ≡ 2
  pub numbered : (k : ℕ) → k < receivers w → (outlet w k).mailbox ≡ first + k

-- one that has not begun
pub record IsNewLine (first count unit : ℕ) (w : WriterOf) : Type 0 where
  pub to : WritesTo first w
  pub size : w.unit ≡ unit
  pub count_is : receivers w ≡ count
  pub state : w.state ≡ Initial
  pub none : held_of w.outlets ≡ 0
  pub far : (word : ℕ → WriterState) → ((m : ℕ) → first ≤ m → m < 4 → word m ≡ Initial) → IsAsFar word w

-- its mailboxes are those up to the one behind, where nothing was put yet, and their words have come as far as the writer has
-- put
pub record MayOffer (first behind : ℕ) (w : WriterOf) (d : DeskState) : Type 0 where
  pub to : WritesTo first w
  pub few : behind ≤ 4
  pub last : behind ≡ first + receivers w
  pub desk : IsDesk d
  pub far : IsAsFar (word_of d 0) w
  pub free : AreFree behind d

-- and the bank has so many frames out beside those that the writer fills
pub record MayWrite (more first behind : ℕ) (w : WriterOf) (b : BankOf) (d : DeskState) : Type 0 where
  pub offers : MayOffer first behind w d
  pub size : w.unit ≡ b.unit
  pub limit : b.limit ≡ 20
  pub out : b.out ≡ held_of w.outlets + more

-- parcels may be put
abbrev pub IsLine : Line → Type 0
IsLine l = MayOffer l.first l.behind l.writer l.desk

-- none was put yet, and frames may be written, so many of which are out
abbrev pub IsWritingWith : ℕ → Line → Type 0
IsWritingWith more l = MayWrite more l.first l.behind l.writer l.bank l.desk

abbrev pub IsWriting : Line → Type 0
IsWriting l = IsWritingWith 0 l
