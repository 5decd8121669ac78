-- Physical plans on two partitions that stand for small plans, and some that don't.
use Rattle.std.specs.Prelude.{false, [], ◌∷◌}
use Rattle.al_plan.specs.declared.plan.Plan.{Plan}
use Rattle.al_plan.specs.declared.plan.Plan.TheVariants as P
use Rattle.al_phys.specs.declared.phys.JoinForm.TheVariants as J
use Rattle.al_phys.specs.declared.phys.Phys.{Phys}
use Rattle.al_phys.specs.declared.phys.Phys.TheVariants as Q
use Rattle.al_phys.specs.Stands.{Stands}
use Rattle.al_cases.specs.Cases.{t, u, a, b, n, scan_a, scan_b, below, by_a, same, small}
use Rattle.al_phys_cases.specs.PartCases.{scan_of_a, scan_of_b}

-- the rows of a scan in their parts, whose order is free
abbrev pub ScanStands : Type 0
ScanStands = Stands scan_a scan_of_a 2

-- copied to both parts they are there twice
abbrev pub CopiesStand : Type 0
CopiesStand = Stands scan_a (Q.Broadcast scan_of_a) 2

-- a scan of another dataset
abbrev pub OtherScanStands : Type 0
OtherScanStands = Stands scan_a (Q.Scan u (a ∷ [])) 2

abbrev pub ordered_plan : Plan
ordered_plan = P.Order (by_a false) scan_a

abbrev pub sorted_parts : Phys
sorted_parts = Q.Sort (by_a false) scan_of_a

-- sorted parts that are merged stand for an order
abbrev pub MergeStands : Type 0
MergeStands = Stands ordered_plan (Q.Merge (by_a false) sorted_parts) 2

-- gathered they come in any order
abbrev pub GatherStands : Type 0
GatherStands = Stands ordered_plan (Q.Gather sorted_parts) 2

-- and by themselves they are not in one part
abbrev pub SortStands : Type 0
SortStands = Stands ordered_plan sorted_parts 2

abbrev pub left_join : Plan
left_join = P.LeftJoin same scan_a scan_b

-- a left join whose left rows are copied gives a row without a partner for each partition in which it has none
abbrev pub LeftCopiesStand : Type 0
LeftCopiesStand = Stands left_join (Q.Join J.LoopLeftJoin same (Q.Broadcast scan_of_a) scan_of_b) 2

abbrev pub two_columns : Plan
two_columns = P.Scan t (a ∷ n ∷ [])

-- a hash join whose left rows go by another variable than that of the condition misses pairs
abbrev pub OtherKeyStands : Type 0
OtherKeyStands = Stands (P.Join same two_columns scan_b) (Q.Join J.HashJoin same (Q.HashExchange (n ∷ []) (Q.Scan t (a ∷ n ∷ []))) (Q.HashExchange (b ∷ []) scan_of_b)) 2

-- a plan without the result of the plan that it is to stand for
abbrev pub RootlessStands : Type 0
RootlessStands = Stands (P.Result (a ∷ []) scan_a) (Q.Gather scan_of_a) 2

-- a check that the plan doesn't have
abbrev pub CheckStands : Type 0
CheckStands = Stands scan_a (Q.Check small (below 15) scan_of_a) 2

-- and none where the plan has one
abbrev pub UncheckedStands : Type 0
UncheckedStands = Stands (P.Check small (below 15) scan_a) scan_of_a 2
