-- Small plans that fit and that refine one another, and some that don't.
use Rattle.std.specs.Prelude.{false, true, [], ◌∷◌}
use Rattle.al_func.specs.declared.func.Func.TheVariants as F
use Rattle.al_plan.specs.declared.expr.Expr.{Expr}
use Rattle.al_plan.specs.declared.expr.Expr.TheVariants as E
use Rattle.al_plan.specs.declared.plan.Plan.{Plan}
use Rattle.al_plan.specs.declared.plan.Plan.TheVariants as P
use Rattle.al_plan.specs.Refines.{Fit, Refines, Replaces}
use Rattle.al_cases.specs.Cases.{a, b, int, scan_a, scan_b, below, same, small, by_a, first_one}

-- the row of a with the least value, and the one with the greatest
abbrev pub least : Plan
least = P.Limit 1 0 (P.Order (by_a false) scan_a)

abbrev pub greatest : Plan
greatest = P.Limit 1 0 (P.Order (by_a true) scan_a)

-- a limit over an order may stand for the limit over the scan, whose rows come in any order
abbrev pub LeastForAny : Type 0
LeastForAny = Refines least first_one

-- not the other way round
abbrev pub AnyForLeast : Type 0
AnyForLeast = Refines first_one least

-- nor one order for another
abbrev pub GreatestForLeast : Type 0
GreatestForLeast = Refines greatest least

-- $b < 15
abbrev pub few : Expr
few = E.Call F.Lt (E.Var b ∷ E.Lit (int 15) ∷ [])

-- a select above a left join drops the rows that are in no pair, and below its right input it makes more of them
abbrev pub above : Plan
above = P.Select few (P.LeftJoin same scan_a scan_b)

abbrev pub pushed : Plan
pushed = P.LeftJoin same scan_a (P.Select few scan_b)

abbrev pub PushedForAbove : Type 0
PushedForAbove = Refines pushed above

abbrev pub checked : Plan
checked = P.Check small (below 15) scan_a

-- a plan that faults may not stand for the same plan without its check
abbrev pub CheckForScan : Type 0
CheckForScan = Refines checked scan_a

-- nor that one, which answers where the check faults, for it
abbrev pub ScanForCheck : Type 0
ScanForCheck = Refines scan_a checked

-- a result over a scan of its variable fits
abbrev pub ScanFits : Type 0
ScanFits = Fit (P.Result (a ∷ []) scan_a)

-- over a project of no variables it doesn't
abbrev pub EmptyProjectFits : Type 0
EmptyProjectFits = Fit (P.Result (a ∷ []) (P.Project [] scan_a))

-- nor does a result under another operator
abbrev pub InnerResultFits : Type 0
InnerResultFits = Fit (P.Distinct (P.Result (a ∷ []) scan_a))

-- a limit over an order may also stand in the place of the limit over the scan within a greater plan
abbrev pub LeastInPlace : Type 0
LeastInPlace = Replaces least first_one

-- a plan that makes one variable more may not, though it drops it again
abbrev pub noting : Plan
noting = P.Project (a ∷ []) (P.Assign ((b, below 15) ∷ []) scan_a)

abbrev pub NotingInPlace : Type 0
NotingInPlace = Replaces noting scan_a
