-- What an input brings from its beginning to its end.
use Rattle.std.specs.Prelude.{◌≡◌, ◌<◌, ℕ, false, List, [], map, length, None}
use Rattle.std.specs.List.{All, AllByRecursion}
use Rattle.hy_job.specs.declared.job.Wire.{Wire}
use Rattle.hy_job.specs.declared.job.Wire.TheVariants as W
use Rattle.hy_job.specs.Columns.{AreValues}
use Rattle.hy_job.specs.Runs.{ComesBy, Taken}
use Rattle.hy_driver.specs.Rows.{Row, values_of}
use Rattle.hy_connect.specs.Merges.{BeginsBy, senders}
use Rattle.hy_connect.specs.Takers.{ComesAsPut}
use Rattle.hy_connect.specs.Sources.{hand as hand_of, source_at}
use Rattle.hy_input.specs.declared.taker.Taker.{Taker}
use Rattle.hy_input.specs.declared.taker.Taker.TheVariants as T
use Rattle.hy_input.specs.Inputs.{InputOf, IsDone, IsSent, brings, closed_at, hand, input_of}

-- these may still come: at this input, of its senders that haven't closed
abbrev pub MayBring : ℕ → InputOf → List Taken → Type 0
MayBring k x more = AllByRecursion (λ (t : Taken). t.input ≡ k → ((m n : ℕ) × IsSent x m n t.sender) × (closed_at x t.sender ≡ false)) more

-- a row of so many values
abbrev pub IsRow : ℕ → Row → Type 0
IsRow width row = (length row ≡ width) × AreValues row

-- so is each row at hand
abbrev pub AreRowsBy : Taker → List Row → ℕ → Type 0
AreRowsBy (T.One t) at_hand width = AllByRecursion (IsRow width) at_hand
AreRowsBy (T.Many t) at_hand width = AllByRecursion (IsRow width) at_hand
AreRowsBy (T.Merge m) at_hand width = (s : ℕ) → s < senders m → AllByRecursion (IsRow width) (map values_of (hand_of (source_at m.sources s)))

abbrev pub HasRowsOf : InputOf → ℕ → Type 0
HasRowsOf x width = AreRowsBy x.taker (map values_of (hand x)) width

-- whatever may still come, there are rows that it brings, as wide as those at hand and those that come
abbrev pub AreBrought : Type 0
AreBrought = (k : ℕ) (x : InputOf) (more : List Taken) (width : ℕ) → MayBring k x more → HasRowsOf x width → AllByRecursion (λ (t : Taken). t.input ≡ k → IsRow width t.row) more
    → (rows : List Row) × brings k x more rows × All (IsRow width) rows

-- one that is done brings nothing
abbrev pub DoneBringNone : Type 0
DoneBringNone = (k : ℕ) (x : InputOf) → IsDone x
    → brings k x [] [] × ((more : List Taken) (rows : List Row) → MayBring k x more → brings k x more rows → rows ≡ [])

-- what is taken so comes by this wire, over so many partitions
abbrev pub SuitsBy : Wire → ℕ → Taker → Type 0
SuitsBy wire n (T.One t) = wire ≡ W.OneToOne
SuitsBy wire n (T.Many t) = ComesAsPut wire
SuitsBy wire n (T.Merge m) = BeginsBy wire n m

-- a new one brings what comes by its wire
abbrev pub NewBringWire : Type 0
NewBringWire = (wire : Wire) (n from k : ℕ) (taker : Taker) (took : List Taken) (rows : List Row) → SuitsBy wire n taker → brings k (input_of taker from None 0 false) took rows → ComesBy wire n k took rows
