-- What contracts see of a taker, and what its answers tell.
use Rattle.std.specs.Prelude.{◌≡◌, ◌<◌, ◌⊎◌, ◌+◌, ℕ, Bool, true, List, length, slice_index_or, slice_set}
use Rattle.hy_frame.specs.Bank.{BankOf, one_more}
use Rattle.hy_job.specs.declared.job.Wire.{Wire}
use Rattle.hy_job.specs.declared.job.Wire.TheVariants as W
use Rattle.hy_mail.specs.declared.parcel.Parcel.TheVariants as P
use Rattle.hy_mail.specs.Events.{Event, Empty, Took}
use Rattle.hy_connect.specs.declared.taker.Taken.{Taken}
use Rattle.hy_connect.specs.declared.taker.Taken.TheVariants as T

-- what comes over the wire is taken as it comes: it is none that merges
abbrev pub ComesAsPut : Wire → Type 0
ComesAsPut W.OneToOne = Unit {0}
ComesAsPut (W.Hash columns) = Unit {0}
ComesAsPut W.Broadcast = Unit {0}
ComesAsPut W.Gather = Unit {0}
ComesAsPut (W.Merge keys) = ⊥

-- a mailbox, and of each of its senders, by number, whether its Close was taken
pub record TakerOf : Type 0 where
  pub mailbox : ℕ
  pub closed : List Bool

-- every sender's Close was taken; so it is where there is no sender
abbrev pub HaveClosed : List Bool → Type 0
HaveClosed closed = (s : ℕ) → s < length closed → slice_index_or closed s true ≡ true

-- not every sender's Close was taken
abbrev pub IsGoing : List Bool → Type 0
IsGoing closed = HaveClosed closed → ⊥

-- with this sender's Close
abbrev pub closing : TakerOf → ℕ → TakerOf
closing t s = record { mailbox = t.mailbox; closed = slice_set t.closed s true }

-- a frame more came in
abbrev pub with_import : BankOf → BankOf
with_import b = record b { out = b.out + 1; imported = one_more b.imported }

-- an Open leaves the taker as it was, and a Close is its sender's
abbrev pub TellsWord : {P : Type 0} → (P → Event → P → Type 0) → P → P → TakerOf → TakerOf → ℕ → Type 0
TellsWord happens port port' old new s =
    ((new ≡ old) × happens port (Took old.mailbox s P.Open) port') ⊎ ((new ≡ closing old s) × happens port (Took old.mailbox s P.Close) port')

-- what an answer of `take` tells
abbrev pub TellsTaken : {P : Type 0} → (P → Event → P → Type 0) → P → P → BankOf → BankOf → TakerOf → TakerOf → Taken → Type 0
TellsTaken happens port port' bank bank' old new T.Empty = IsGoing old.closed × (new ≡ old) × (bank' ≡ bank) × happens port (Empty old.mailbox) port'
TellsTaken happens port port' bank bank' old new (T.Frame f) =
    IsGoing old.closed × (new ≡ old) × (bank' ≡ with_import bank) × ((s : ℕ) × (s < length old.closed) × happens port (Took old.mailbox s (P.Frame f)) port')
TellsTaken happens port port' bank bank' old new T.Kept = ⊥
TellsTaken happens port port' bank bank' old new T.Word =
    IsGoing old.closed × (bank' ≡ bank) × ((s : ℕ) × (s < length old.closed) × TellsWord happens port port' old new s)
TellsTaken happens port port' bank bank' old new T.Failed =
    IsGoing old.closed × (new ≡ old) × (bank' ≡ bank) × ((s : ℕ) × (s < length old.closed) × happens port (Took old.mailbox s P.Fail) port')
TellsTaken happens port port' bank bank' old new T.Ended = HaveClosed old.closed × (new ≡ old) × (bank' ≡ bank) × (port' ≡ port)
