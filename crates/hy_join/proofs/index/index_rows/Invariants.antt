use Rattle.std.proofs.Common.{◌≡◌, ℕ, nat_eq, take}
use Rattle.indexmap.specs.IndexMap.{get}
use Rattle.hy_join.specs.Keys.{found_at, is_under, places_from}
use Rattle.hy_join.proofs.index.index_rows.Given as goal

abbrev pub invariant-loop-place : goal.invariant-loop-place
invariant-loop-place l = (q : ℕ) → found_at (get nat_eq l.index q) ≡ places_from (is_under l.columns q) 0 (take l.place l.rows)
