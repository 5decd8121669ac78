-- Which rows of a list fall to a partition.
use Rattle.std.specs.Prelude.{◌%◌, ℕ, nat_eq, List, map, filter, drop}
use Rattle.std.specs.List.{enumerate_from}
use Rattle.hy_driver.specs.Rows.{Row}

-- the rows from this place on whose places fall to partition `j` of `n`
abbrev pub own_of : ℕ → ℕ → ℕ → List Row → List Row
own_of n j at rows = map (λ e. e.1) (filter (λ e. nat_eq (e.0 % n) j) (enumerate_from at (drop at rows)))
