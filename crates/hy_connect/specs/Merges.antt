-- What contracts see of a merging taker, and what its calls do to what it may still give.
use Rattle.std.specs.Prelude.{◌≡◌, ◌≢◌, ◌⊎◌, ◌<◌, ◌+◌, ◌^◌, ℕ, Bool, true, false, List, [], ◌∷◌, ◌++◌, map, length, Option, Some, None}
use Rattle.std.specs.List.{All, AllByRecursion, range_with_len}
use Rattle.std.specs.List.Sorted.{IsSorted}
use Rattle.al_value.specs.declared.settings.SortKey.{SortKey}
use Rattle.hy_frame.specs.Bank.{BankOf}
use Rattle.hy_frame.specs.Frame.{FrameOf}
use Rattle.hy_frame.specs.Row.{Fields}
use Rattle.hy_rest.specs.Rest.{Continues, Finished, InOrder}
use Rattle.hy_job.specs.declared.job.Wire.{Wire}
use Rattle.hy_job.specs.declared.job.Wire.TheVariants as W
use Rattle.hy_job.specs.Columns.{Interleaves, keys_cmp}
use Rattle.hy_job.specs.Runs.{Taken as TakenRow, ComesBy, rows_of}
use Rattle.hy_mail.specs.declared.parcel.Parcel.TheVariants as P
use Rattle.hy_mail.specs.Events.{Event, Empty, Took}
use Rattle.hy_driver.specs.Rows.{Row, values_of}
use Rattle.hy_connect.specs.declared.taker.Taken.{Taken}
use Rattle.hy_connect.specs.declared.taker.Taken.TheVariants as T
use Rattle.hy_connect.specs.declared.merge.Merged.{Merged}
use Rattle.hy_connect.specs.declared.merge.Merged.TheVariants as M
use Rattle.hy_connect.specs.Sources.{SourceOf, AllClosed, AreNew, Brings, HasGiven, IsWanted, NoneAtHand, NoneLacks, Returns, frames_held, given, hand, source_at}

pub record MergerOf : Type 0 where
  pub keys : List SortKey
  -- one for each sender, in the order of the senders
  pub sources : List SourceOf
  -- whose row was given last, until the next take
  pub current : Option ℕ
  -- whether frames are handed on at once
  pub given_up : Bool

-- of its parts
abbrev pub merger_of : List SortKey → List SourceOf → Option ℕ → Bool → MergerOf
merger_of keys sources current given_up = record { keys = keys; sources = sources; current = current; given_up = given_up }

abbrev pub senders : MergerOf → ℕ
senders m = length m.sources

-- what it knows of the sender in this place
abbrev pub source : MergerOf → ℕ → SourceOf
source m s = source_at m.sources s

abbrev pub HasCurrent : List SourceOf → Option ℕ → Type 0
HasCurrent sources None = Unit {0}
HasCurrent sources (Some k) = (k < length sources) × HasGiven (source_at sources k)

-- what is true of each
pub record IsMerger (m : MergerOf) : Type 0 where
  pub few : length m.sources < 2 ^ 32
  pub current : HasCurrent m.sources m.current

abbrev pub row_of : List SourceOf → Option ℕ → Fields
row_of sources None = []
row_of sources (Some k) = given (source_at sources k)

-- the row that was given last
abbrev pub current_row : MergerOf → Fields
current_row m = row_of m.sources m.current

-- ---- wires

abbrev pub IsMerging : Wire → Type 0
IsMerging W.OneToOne = ⊥
IsMerging (W.Hash columns) = ⊥
IsMerging W.Broadcast = ⊥
IsMerging W.Gather = ⊥
IsMerging (W.Merge keys) = Unit {0}

abbrev pub merge_keys : Wire → List SortKey
merge_keys W.OneToOne = []
merge_keys (W.Hash columns) = []
merge_keys W.Broadcast = []
merge_keys W.Gather = []
merge_keys (W.Merge keys) = keys

-- ---- what it may still give

-- an interleaving of the lists, which is sorted where each of them is
abbrev pub IsMerge : List SortKey → List (List Row) → List Row → Type 0
IsMerge keys lists put = Interleaves lists put × (All (IsSorted (keys_cmp keys)) lists → IsSorted (keys_cmp keys) put)

-- the rows of a sender: those at hand, and then those that are still to be taken
abbrev pub rows_from : List SourceOf → ℕ → List TakenRow → ℕ → List Row
rows_from sources input took s = map values_of (hand (source_at sources s)) ++ rows_of input s took

-- a merge of the senders' rows
abbrev pub MergesTo : MergerOf → ℕ → List TakenRow → List Row → Type 0
MergesTo m input took put = IsMerge m.keys (map (rows_from m.sources input took) (range_with_len 0 (senders m))) put

-- these rows are taken at this input, of senders that haven't closed
abbrev pub IsOfOpen : List SourceOf → ℕ → List TakenRow → Type 0
IsOfOpen sources input took = AllByRecursion (λ (t : TakenRow). (t.input ≡ input) × ((source_at sources t.sender).closed ≡ false)) took

-- what it may still give for the rows that are still to be taken, where it takes them at this input
abbrev pub may_give : MergerOf → ℕ → List TakenRow → List Row → Type 0
may_give m input took put = IsOfOpen m.sources input took × InOrder [] [] (MergesTo m input) took put

-- the rows of a frame, as they are taken of a sender
abbrev pub rows_taken : ℕ → ℕ → FrameOf → List TakenRow
rows_taken input s f = map (λ row. record { input = input; sender = s; row = values_of row }) f.rows

-- a new taker may give what comes by its wire of what is taken
abbrev pub BeginsBy : Wire → ℕ → MergerOf → Type 0
BeginsBy wire n m = (input : ℕ) (took : List TakenRow) (put : List Row) → may_give m input took put → ComesBy wire n input took put

-- ---- calls

-- what no call changes
pub record StaysMerger (old new : MergerOf) : Type 0 where
  pub keys : new.keys ≡ old.keys
  pub count : senders new ≡ senders old
  pub mailbox : (s : ℕ) → s < senders old → (source new s).mailbox ≡ (source old s).mailbox

-- a new one of this wire, with these mailboxes
pub record IsNewMerger (wire : Wire) (boxes : List ℕ) (m : MergerOf) : Type 0 where
  pub keys : m.keys ≡ merge_keys wire
  pub sources : AreNew boxes m.sources
  pub current : m.current ≡ None
  pub given_up : m.given_up ≡ false

-- it may be taken from: a sender that hasn't closed has no row at hand, or all have closed
abbrev pub MayTake : MergerOf → Type 0
MayTake m = NoneLacks m.sources → AllClosed m.sources

-- the rows at hand are as they were
pub record Rests (old new : MergerOf) : Type 0 where
  pub still : StaysMerger old new
  pub given_up : new.given_up ≡ old.given_up
  pub current : new.current ≡ None
  pub closed : (s : ℕ) → s < senders old → (source new s).closed ≡ (source old s).closed
  pub hands : (s : ℕ) → s < senders old → hand (source new s) ≡ hand (source old s)
  pub gives : (input : ℕ) → Continues (may_give old input) [] [] (may_give new input)

-- the rows of a frame of this sender came to hand
pub record Gets (s : ℕ) (f : FrameOf) (old new : MergerOf) : Type 0 where
  pub still : StaysMerger old new
  pub given_up : new.given_up ≡ old.given_up
  pub current : new.current ≡ None
  pub closed : (j : ℕ) → j < senders old → (source new j).closed ≡ (source old j).closed
  pub here : hand (source new s) ≡ f.rows
  pub others : (j : ℕ) → j ≢ s → hand (source new j) ≡ hand (source old j)
  pub gives : (input : ℕ) → Continues (may_give old input) (rows_taken input s f) [] (may_give new input)

-- this sender has closed
pub record Closes (s : ℕ) (old new : MergerOf) : Type 0 where
  pub still : StaysMerger old new
  pub given_up : new.given_up ≡ old.given_up
  pub current : new.current ≡ None
  pub here : (source new s).closed ≡ true
  pub others : (j : ℕ) → j ≢ s → (source new j).closed ≡ (source old j).closed
  pub hands : (j : ℕ) → j < senders old → hand (source new j) ≡ hand (source old j)
  pub gives : (input : ℕ) → Continues (may_give old input) [] [] (may_give new input)

-- the first row at hand of this sender was given
pub record Gives (k : ℕ) (old new : MergerOf) : Type 0 where
  pub still : StaysMerger old new
  pub given_up : new.given_up ≡ old.given_up
  pub there : k < senders old
  pub current : new.current ≡ Some k
  pub closed : (j : ℕ) → j < senders old → (source new j).closed ≡ (source old j).closed
  pub here : hand (source old k) ≡ current_row new ∷ hand (source new k)
  pub others : (j : ℕ) → j < senders old → j ≢ k → hand (source new j) ≡ hand (source old j)
  pub gives : (input : ℕ) → Continues (may_give old input) [] (values_of (current_row new) ∷ []) (may_give new input)

-- all frames went back
pub record GivesUp (old new : MergerOf) : Type 0 where
  pub still : StaysMerger old new
  pub given_up : new.given_up ≡ true
  pub current : new.current ≡ None
  pub closed : (s : ℕ) → s < senders old → (source new s).closed ≡ (source old s).closed
  pub none : NoneAtHand new.sources
  pub held : frames_held new.sources ≡ 0

-- what an answer of `take` tells
abbrev pub TellsMergeTake : {P : Type 0} → (P → Event → P → Type 0) → P → P → BankOf → BankOf → MergerOf → MergerOf → Taken → Type 0
TellsMergeTake happens port port' bank bank' old new T.Empty =
    (s : ℕ) × IsWanted old.sources s × Rests old new × Returns (frames_held old.sources) (frames_held new.sources) bank bank' × happens port (Empty (source old s).mailbox) port'
TellsMergeTake happens port port' bank bank' old new (T.Frame f) =
    (old.given_up ≡ true)
    × ((s : ℕ) × IsWanted old.sources s × Rests old new × Brings (frames_held old.sources) (frames_held new.sources + 1) bank bank' × happens port (Took (source old s).mailbox 0 (P.Frame f)) port')
TellsMergeTake happens port port' bank bank' old new T.Kept =
    (old.given_up ≡ false)
    × ((s : ℕ) × (f : FrameOf) × IsWanted old.sources s × Gets s f old new × Brings (frames_held old.sources) (frames_held new.sources) bank bank' × happens port (Took (source old s).mailbox 0 (P.Frame f)) port')
TellsMergeTake happens port port' bank bank' old new T.Word =
    (s : ℕ) × IsWanted old.sources s × Returns (frames_held old.sources) (frames_held new.sources) bank bank'
    × ((Rests old new × happens port (Took (source old s).mailbox 0 P.Open) port') ⊎ (Closes s old new × happens port (Took (source old s).mailbox 0 P.Close) port'))
TellsMergeTake happens port port' bank bank' old new T.Failed =
    (s : ℕ) × IsWanted old.sources s × Rests old new × Returns (frames_held old.sources) (frames_held new.sources) bank bank' × happens port (Took (source old s).mailbox 0 P.Fail) port'
TellsMergeTake happens port port' bank bank' old new T.Ended = AllClosed old.sources × Rests old new × (bank' ≡ bank) × (port' ≡ port)

-- what an answer of `next_row` tells
abbrev pub TellsMerged : BankOf → BankOf → MergerOf → MergerOf → Merged → Type 0
TellsMerged bank bank' old new M.Row =
    NoneLacks old.sources × ((k : ℕ) × Gives k old new × Returns (frames_held old.sources) (frames_held new.sources) bank bank')
TellsMerged bank bank' old new (M.Need s) = IsWanted old.sources s × Rests old new × Returns (frames_held old.sources) (frames_held new.sources) bank bank'
TellsMerged bank bank' old new M.End =
    AllClosed old.sources × NoneAtHand old.sources × Rests old new × (frames_held new.sources ≡ 0) × Returns (frames_held old.sources) 0 bank bank'
    × ((input : ℕ) → Finished (may_give new input))
