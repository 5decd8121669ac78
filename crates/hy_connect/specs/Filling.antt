-- How full is the frame that is filled, while the rows of one frame are spread.
use Rattle.std.specs.Prelude.{◌≡◌, ◌⊎◌, ◌<◌, ◌≤◌, ◌+◌, ℕ, List, length, Option, Some, None}
use Rattle.hy_frame.specs.Frame.{FrameOf, IsFull}
use Rattle.hy_frame.specs.FrameText.{taken}
use Rattle.hy_connect.specs.Outlets.{OutletOf, outlet_at}

-- no row of this size has room
abbrev pub LacksRoom : Option FrameOf → ℕ → Type 0
LacksRoom None size = Unit {0}
LacksRoom (Some f) size = IsFull f size

-- a frame of the unit's size, whose rows take no more than this
abbrev pub IsFilledTo : ℕ → ℕ → Option FrameOf → Type 0
IsFilledTo unit most None = Unit {0}
IsFilledTo unit most (Some f) = (f.unit ≡ unit) × (f.size ≡ unit) × (taken f.rows ≤ most)

-- since so many parcels waited, rows were spread that take `most` in all: no parcel more waits, or one more waits and what is
-- filled are some of these rows
abbrev pub Within : ℕ → ℕ → ℕ → OutletOf → Type 0
Within unit start most o = (length o.waits ≤ start) ⊎ ((length o.waits ≤ start + 1) × IsFilledTo unit most o.filling)

-- a row of this size came
abbrev pub StaysWithin : ℕ → ℕ → OutletOf → OutletOf → Type 0
StaysWithin unit size old new = (start most : ℕ) → most + size + 8 ≤ unit → Within unit start most old → Within unit start (most + (size + 4)) new

-- it could not come
abbrev pub StopsWithin : ℕ → ℕ → OutletOf → OutletOf → Type 0
StopsWithin unit size old new = (start most : ℕ) → most + size + 8 ≤ unit → Within unit start most old → length new.waits ≤ start + 1

-- each outlet, beside what waited in it at first
abbrev pub AllWithin : ℕ → ℕ → List OutletOf → List OutletOf → Type 0
AllWithin unit most first now = (k : ℕ) → k < length first → Within unit (length (outlet_at first k).waits) most (outlet_at now k)

abbrev pub AllStay : ℕ → ℕ → List OutletOf → List OutletOf → Type 0
AllStay unit size old new = (first : List OutletOf) (most : ℕ) → length first ≡ length old → most + size + 8 ≤ unit → AllWithin unit most first old → AllWithin unit (most + (size + 4)) first new

abbrev pub AllStop : ℕ → ℕ → List OutletOf → List OutletOf → Type 0
AllStop unit size old new =
    (first : List OutletOf) (most : ℕ) → length first ≡ length old → most + size + 8 ≤ unit → AllWithin unit most first old
    → (k : ℕ) → k < length first → length (outlet_at new k).waits ≤ length (outlet_at first k).waits + 1
