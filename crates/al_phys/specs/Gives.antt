-- What an operator gives in a part, for the rows that it takes there.
use Rattle.std.specs.Prelude.{◌≡◌, ◌≢◌, Bool, true, false, List, [], ◌∷◌, length}
use Rattle.std.specs.List.{flat_map, All, AllZip, AllAdjacentBelow}
use Rattle.std.specs.List.Sorted.{IsPermutation}
use Rattle.al_plan.specs.declared.expr.Var.{Var}
use Rattle.al_plan.specs.declared.expr.Expr.{Expr}
use Rattle.al_plan.specs.declared.plan.Plan.{Plan}
use Rattle.al_plan.specs.Eval.{Env}
use Rattle.al_plan.specs.Allows.{Sets, Allows, Gives, live, beside, with_new, pairs, left_pairs, key_of, new_of, Group, rows_in, IsGrouping}
use Rattle.al_phys.specs.declared.phys.JoinForm.{JoinForm}
use Rattle.al_phys.specs.declared.phys.JoinForm.TheVariants as J

-- whether left rows that are in no pair are kept
abbrev pub is_outer : JoinForm → Bool
is_outer J.HashJoin = false
is_outer J.HashLeftJoin = true
is_outer J.LoopJoin = false
is_outer J.LoopLeftJoin = true

-- whether rows are joined by the hash of their keys
abbrev pub is_hash : JoinForm → Bool
is_hash J.HashJoin = true
is_hash J.HashLeftJoin = true
is_hash J.LoopJoin = false
is_hash J.LoopLeftJoin = false

-- the joined rows of a part of the left input and a part of the right one
abbrev pub joined : Bool → List Var → Expr → List Env → List Env → List Env
joined true vars c ls rs = left_pairs vars c ls rs
joined false vars c ls rs = pairs vars c ls rs

-- each row, with the variables of the nested plan's row for it
abbrev pub IsNested : Plan → Bool → Sets → List Var → List Env → List Env → Type 0
IsNested n passing sets vars = AllZip (λ r row. Gives (Allows n) passing sets vars (r ∷ []) (λ inner. row ≡ beside (live n vars) inner r))

-- a row for each group: the values of its keys under their new names, and the nested plan's row over its rows
abbrev pub AreMade : List (Var × Var) → Plan → Bool → Sets → List Var → List Group → List Env → Type 0
AreMade keys n passing sets vars = AllZip (λ g row. Gives (Allows n) passing sets vars (rows_in g) (λ inner. row ≡ with_new (new_of keys) (key_of keys g.0) inner))

-- one row for each list of key values, in any order
abbrev pub IsGrouped : List (Var × Var) → Plan → Bool → Sets → List Var → List Env → List Env → Type 0
IsGrouped keys n passing sets vars rows out = (groups : List Group) × (made : List Env) × IsGrouping keys rows groups × AreMade keys n passing sets vars groups made × IsPermutation made out

-- the rows cut into stretches of equal keys, each as long as it can be
pub record AreStretches (keys : List (Var × Var)) (rows : List Env) (groups : List Group) : Type 0 where
  pub all : rows ≡ flat_map rows_in groups
  pub alike : All (λ g. All (λ r. key_of keys r ≡ key_of keys g.0) g.1) groups
  pub apart : AllAdjacentBelow (λ g h. key_of keys g.0 ≢ key_of keys h.0) groups (length groups)

-- one row for each stretch, in the order of the stretches
abbrev pub IsPreGrouped : List (Var × Var) → Plan → Bool → Sets → List Var → List Env → List Env → Type 0
IsPreGrouped keys n passing sets vars rows out = (groups : List Group) × AreStretches keys rows groups × AreMade keys n passing sets vars groups out
