-- Operators that work on each part by itself, on two partitions.
use Rattle.std.specs.Prelude.{[], ◌∷◌}
use Rattle.al_phys.specs.declared.phys.Phys.TheVariants as Q
use Rattle.al_cases.specs.Cases.{t, a, b, n, int, row, a_pair, one_and_two}
use Rattle.al_phys_cases.specs.PartCases.{at, two, OnlyParts, scan_of_a, three, twice}

-- a limit passes over rows of each part and gives rows of each
abbrev pub LimitInParts : Type 0
LimitInParts = OnlyParts three (Q.Limit 1 1 scan_of_a) (two (at 3 ∷ []) [])

abbrev pub LocalLimitInParts : Type 0
LocalLimitInParts = OnlyParts three (Q.LocalLimit 1 scan_of_a) (two (at 1 ∷ []) (at 2 ∷ []))

-- the row of 1 and 2 is cut to its first variable
abbrev pub ProjectInParts : Type 0
ProjectInParts = OnlyParts a_pair (Q.Project (a ∷ []) (Q.Scan t (a ∷ b ∷ []))) (two (at 1 ∷ []) [])

abbrev pub ResultInParts : Type 0
ResultInParts = OnlyParts a_pair (Q.Result (a ∷ []) (Q.Scan t (a ∷ b ∷ []))) (two (at 1 ∷ []) [])

-- two rows of 1 in two parts are two different rows
abbrev pub DistinctInParts : Type 0
DistinctInParts = OnlyParts twice (Q.HashDistinct scan_of_a) (two (at 1 ∷ []) (at 1 ∷ []))

-- and one behind an exchange
abbrev pub DistinctOverHash : Type 0
DistinctOverHash = OnlyParts twice (Q.HashDistinct (Q.HashExchange (a ∷ []) scan_of_a)) (two [] (at 1 ∷ []))

-- each part has its rows of both inputs
abbrev pub UnionInParts : Type 0
UnionInParts = OnlyParts one_and_two (Q.Union (n ∷ []) (a ∷ []) (a ∷ []) scan_of_a scan_of_a) (two (row n (int 1) ∷ row n (int 1) ∷ []) (row n (int 2) ∷ row n (int 2) ∷ []))
