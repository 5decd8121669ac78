-- How many parts a small plan has, and what is left beside them.
use Rattle.std.specs.Prelude.{◌≡◌, Some, None, true}
use Rattle.al_value.specs.declared.value.Value.TheVariants as V
use Rattle.al_plan.specs.declared.expr.Expr.{Expr}
use Rattle.al_plan.specs.declared.expr.Expr.TheVariants as E
use Rattle.al_plan.specs.declared.plan.Plan.{Plan}
use Rattle.al_plan.specs.declared.plan.Plan.TheVariants as P
use Rattle.al_conj.specs.Conj.{both}
use Rattle.al_opt.specs.Room.{parts, Leaves}

abbrev pub yes : Expr
yes = E.Lit (V.Bool true)

-- a select whose condition has two conjuncts
abbrev pub selecting : Plan → Plan
selecting = P.Select (both yes yes)

-- a select, its two conjuncts and the operator below
abbrev pub SelectHasFour : Type 0
SelectHasFour = parts (selecting P.Empty) ≡ 4

-- what stands in a nested plan isn't counted
abbrev pub NestedHasNone : Type 0
NestedHasNone = parts (P.Subplan (selecting P.Nested) P.Empty) ≡ 2

abbrev pub FourFillFour : Type 0
FourFillFour = Leaves 4 (parts (selecting P.Empty)) (Some 0)

abbrev pub FourInThree : Type 0
FourInThree = Leaves 3 (parts (selecting P.Empty)) (Some 0)

abbrev pub NoneInFour : Type 0
NoneInFour = Leaves 4 (parts (selecting P.Empty)) None
