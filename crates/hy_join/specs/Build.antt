-- What contracts see of the driver that builds the right side of a join.
use Rattle.std.specs.Prelude.{Bool, true, false, List}
use Rattle.std.specs.List.Sorted.{IsPermutation}
use Rattle.hy_driver.specs.Rows.{Row, Fed}
use Rattle.hy_driver.specs.Seen.{Seen, StoreOf}
use Rattle.hy_driver.specs.Keep.{keep_seen}
use Rattle.hy_driver.specs.declared.keep.KeepRows.{KeepRows}

-- until the input has ended the rows may come in any order, and from then on as they were kept
abbrev pub in_any_order : Bool → (List Fed → List Row → Type 0) → List Fed → List Row → Type 0
in_any_order true rest took put = rest took put
in_any_order false rest took put = (as_kept : List Row) × rest took as_kept × IsPermutation as_kept put

-- the driver that keeps all rows, with a store of which it makes no run
abbrev pub build_seen : KeepRows → StoreOf → Seen
build_seen kept store = record (keep_seen kept) { rest = in_any_order kept.ended (keep_seen kept).rest; store = store }
