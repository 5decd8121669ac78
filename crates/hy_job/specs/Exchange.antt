-- What a wire makes of the rows that go into it in each partition.
use Rattle.std.specs.Prelude.{◌≡◌, ◌<◌, ℕ, zero, suc, nat_eq, List, [], ◌∷◌, map, filter, replicate, length, get_or}
use Rattle.std.specs.List.{All, AllByRecursion, range_with_len}
use Rattle.std.specs.List.Sorted.{IsSorted}
use Rattle.hy_job.specs.declared.job.Wire.{Wire}
use Rattle.hy_job.specs.declared.job.Wire.TheVariants as W
use Rattle.hy_job.specs.Columns.{Row, keys_cmp, part_of, Interleaves}
use Rattle.hy_job.specs.Runs.{Taken, rows_of, ComesBy, sent_over}

-- the rows of each partition
abbrev pub Parts : Type 0
Parts = List (List Row)

-- this many parts, of each of which the claim holds, given its number
pub record HasEach (n : ℕ) (P : ℕ → List Row → Type 0) (parts : Parts) : Type 0 where
  pub count : length parts ≡ n
  pub each : (j : ℕ) → j < n → P j (get_or parts j [])

-- all rows in the first of these parts
abbrev pub in_first : ℕ → List Row → Parts
in_first zero rows = []
in_first (suc n) rows = rows ∷ replicate n []

-- each part has the rows that belong to it by these columns, of each part as they came
abbrev pub IsHashed : ℕ → List ℕ → Parts → Parts → Type 0
IsHashed n columns input = HasEach n (λ j rows. Interleaves (map (filter (λ row. nat_eq (part_of n columns row) j)) input) rows)

-- each part has all rows
abbrev pub IsBroadcast : ℕ → Parts → Parts → Type 0
IsBroadcast n input = HasEach n (λ j rows. Interleaves input rows)

-- what comes out of a wire in each partition
abbrev pub IsExchanged : Wire → ℕ → Parts → Parts → Type 0
IsExchanged W.OneToOne n input parts = parts ≡ input
IsExchanged (W.Hash columns) n input parts = IsHashed n columns input parts
IsExchanged W.Broadcast n input parts = IsBroadcast n input parts
IsExchanged W.Gather n input parts = (rows : List Row) × Interleaves input rows × (parts ≡ in_first n rows)
IsExchanged (W.Merge keys) n input parts =
    (rows : List Row) × Interleaves input rows × (All (IsSorted (keys_cmp keys)) input → IsSorted (keys_cmp keys) rows) × (parts ≡ in_first n rows)

-- the parts, given by their numbers
abbrev pub parts_by : ℕ → (ℕ → List Row) → Parts
parts_by n part = map part (range_with_len 0 n)

-- the tasks of the receiving side took at this input, of each sender, what the wire sends them of the rows that the sender made
pub record AreSent (w : Wire) (n input : ℕ) (made : ℕ → List Row) (took : ℕ → List Taken) : Type 0 where
  pub each : (s r : ℕ) → s < n → r < n → rows_of input s (took r) ≡ sent_over w n s r (made s)
  pub senders : (r : ℕ) → r < n → AllByRecursion (λ t. t.sender < n) (took r)

-- then what comes out is the exchange of what was made
abbrev pub WiresExchange : Type 0
WiresExchange = (w : Wire) (n input : ℕ) (made : ℕ → List Row) (took : ℕ → List Taken) (received : ℕ → List Row)
    → AreSent w n input made took → ((r : ℕ) → r < n → ComesBy w n input (took r) (received r)) → IsExchanged w n (parts_by n made) (parts_by n received)
