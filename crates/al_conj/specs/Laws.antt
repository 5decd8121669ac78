-- Laws of conditions and their conjuncts.
use Rattle.std.specs.Prelude.{◌≡◌, ◌≢◌, List, []}
use Rattle.std.specs.List.{list_all, flat_map, AllByRecursion}
use Rattle.al_plan.specs.declared.expr.Expr.{Expr}
use Rattle.al_plan.specs.Eval.{Env, holds}
use Rattle.al_plan.specs.Names.{names, has_arities}
use Rattle.al_conj.specs.Conj.{IsLeaf, conj, all_of}

-- a condition is TRUE where all its conjuncts are
abbrev pub ConjunctsDecide : Type 0
ConjunctsDecide = (e : Expr) (r : Env) → holds e r ≡ list_all (λ c. holds c r) (conj e)

abbrev pub AllOfDecides : Type 0
AllOfDecides = (es : List Expr) (r : Env) → holds (all_of es) r ≡ list_all (λ c. holds c r) es

-- it names what they name, in their order
abbrev pub ConjunctsName : Type 0
ConjunctsName = (e : Expr) → flat_map names (conj e) ≡ names e

abbrev pub AllOfNames : Type 0
AllOfNames = (es : List Expr) → names (all_of es) ≡ flat_map names es

abbrev pub ConjunctsCall : Type 0
ConjunctsCall = (e : Expr) → list_all has_arities (conj e) ≡ has_arities e

abbrev pub AllOfCalls : Type 0
AllOfCalls = (es : List Expr) → has_arities (all_of es) ≡ list_all has_arities es

-- conjuncts are leaves, and leaves are their own conjuncts
abbrev pub ConjunctsAreLeaves : Type 0
ConjunctsAreLeaves = (e : Expr) → AllByRecursion IsLeaf (conj e)

abbrev pub LeavesStay : Type 0
LeavesStay = (es : List Expr) → es ≢ [] → AllByRecursion IsLeaf es → conj (all_of es) ≡ es
