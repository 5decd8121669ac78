-- Which rows a wire sends to each of its receivers.
use Rattle.std.specs.Prelude.{◌≡◌, ◌<◌, ℕ, nat_eq, Bool, true, false, List, filter}
use Rattle.std.specs.List.{All}
use Rattle.hy_frame.specs.declared.writer.WriterState.{WriterState}
use Rattle.hy_frame.specs.declared.writer.WriterState.TheVariants.{Opened}
use Rattle.hy_job.specs.declared.job.Wire.{Wire}
use Rattle.hy_job.specs.declared.job.Wire.TheVariants as W
use Rattle.hy_job.specs.Columns.{Row, part_of}
use Rattle.hy_job.specs.Runs.{ReceivesOver, sent_over}
use Rattle.hy_places.specs.Places.{receiver_at}
use Rattle.hy_connect.specs.declared.route.Route.{Route}
use Rattle.hy_connect.specs.declared.route.Route.TheVariants as R

-- of a wire to one receiver, and of a broadcast, each receiver gets all rows
abbrev pub route_of : Wire → Route
route_of W.OneToOne = R.Whole
route_of (W.Hash columns) = R.ByHash columns
route_of W.Broadcast = R.Whole
route_of W.Gather = R.Whole
route_of (W.Merge keys) = R.Whole

-- of these rows, those that go to the receiver in this place of so many
abbrev pub sent_by : Route → ℕ → ℕ → List Row → List Row
sent_by R.Whole n k rows = rows
sent_by (R.ByHash columns) n k rows = filter (λ row. nat_eq (part_of n columns row) k) rows

-- the columns that the wire names are below this number
abbrev pub HasColumns : ℕ → Wire → Type 0
HasColumns arity W.OneToOne = Unit {0}
HasColumns arity (W.Hash columns) = All (λ j. j < arity) columns
HasColumns arity W.Broadcast = Unit {0}
HasColumns arity W.Gather = Unit {0}
HasColumns arity (W.Merge keys) = Unit {0}

abbrev pub RoutesBy : ℕ → Route → Type 0
RoutesBy arity R.Whole = Unit {0}
RoutesBy arity (R.ByHash columns) = All (λ j. j < arity) columns

-- whether frames are filled: where rows are sent one by one, as long as the word is open
abbrev pub fills : WriterState → Route → Bool
fills Opened (R.ByHash columns) = true
fills _ _ = false

-- ---- laws

-- what a writer of the task in partition `j` sends to a place is what the wire sends to that partition
abbrev pub RoutesAreWires : Type 0
RoutesAreWires = (w : Wire) (n j k : ℕ) (rows : List Row) → sent_by (route_of w) n k rows ≡ sent_over w n j (receiver_at w j k) rows

-- which is one that receives from it
abbrev pub PlacesReceive : Type 0
PlacesReceive = (w : Wire) (n j k : ℕ) → k < n → ReceivesOver w n j (receiver_at w j k)
