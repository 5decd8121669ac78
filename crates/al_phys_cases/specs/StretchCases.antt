-- Groups of rows that stand behind one another, and groups of all rows, on two partitions.
use Rattle.std.specs.Prelude.{[], ◌∷◌}
use Rattle.al_plan.specs.declared.plan.Plan.TheVariants as P
use Rattle.al_plan.specs.Allows.{Sets}
use Rattle.al_phys.specs.declared.phys.Phys.{Phys}
use Rattle.al_phys.specs.declared.phys.Phys.TheVariants as Q
use Rattle.al_cases.specs.Cases.{a, b, int, one_column, counting}
use Rattle.al_phys_cases.specs.PartCases.{two, InParts, scan_of_a, grouped, counted}

-- the first partition has 1, 2 and 1
abbrev pub stretched : Sets
stretched = one_column (int 1 ∷ int 1 ∷ int 2 ∷ int 1 ∷ int 1 ∷ [])

abbrev pub pre_grouped : Phys
pre_grouped = Q.PreGroup ((b, a) ∷ []) (counting P.Nested) scan_of_a

-- a pre-group gives a row for each stretch, in order
abbrev pub StretchesAreGrouped : Type 0
StretchesAreGrouped = InParts stretched pre_grouped (two (counted 1 1 ∷ counted 2 1 ∷ counted 1 1 ∷ []) (counted 1 2 ∷ []))

-- a hash group doesn't, since two of the rows have the same key
abbrev pub HashGroupsStretches : Type 0
HashGroupsStretches = InParts stretched (grouped scan_of_a) (two (counted 1 1 ∷ counted 2 1 ∷ counted 1 1 ∷ []) (counted 1 2 ∷ []))
