-- What holds of chains, the nested plans that work on each row alone.
use Rattle.std.specs.Prelude.{◌≡◌, true, List, [], ◌∷◌}
use Rattle.std.specs.List.{flat_map}
use Rattle.hy_job.specs.declared.nested.NestedPlan.{NestedPlan}
use Rattle.hy_job.specs.Columns.{Row}
use Rattle.hy_job.specs.Nested.{is_chain, chain_rows, NAllows}

-- of many rows a chain makes what it makes of each, one after the other
abbrev pub ChainsWorkByRow : Type 0
ChainsWorkByRow = (p : NestedPlan) (outer : List Row) → is_chain p ≡ true → chain_rows p outer ≡ flat_map (λ row. chain_rows p (row ∷ [])) outer

-- what a chain makes of the outer rows is allowed
abbrev pub ChainsAreAllowed : Type 0
ChainsAreAllowed = (p : NestedPlan) (outer : List Row) → is_chain p ≡ true → NAllows p outer (chain_rows p outer)
