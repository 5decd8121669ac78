-- Rows that are bunched for a nested plan.
use Rattle.std.specs.Prelude.{◌≡◌, ◌≢◌, ◌++◌, Bool, true, false, List, [], ◌∷◌, map, filter, length, nat_eq}
use Rattle.std.specs.List.{flat_map, All, AllPairs, AllZip}
use Rattle.std.specs.List.Sorted.{IsPermutation}
use Rattle.std.specs.Cmp.Lexicographic.{pointwise}
use Rattle.std.specs.Ordering.{int_eq}
use mathlib.Core.Bool.{beq}
use Rattle.al_value.specs.declared.value.Value.{Value}
use Rattle.al_value.specs.declared.value.Value.TheVariants as V
use Rattle.al_plan.specs.declared.expr.Var.{Var}
use Rattle.al_plan.specs.declared.plan.Plan.{Plan}
use Rattle.al_plan.specs.Eval.{bind}
use Rattle.al_plan.specs.Allows.{Sets, Allows, live, key_of}
use Rattle.al_plain.specs.declared.group.Bunch.{Bunch}
use Rattle.al_plain.specs.Rows.{Cells}

-- whether two values are the same; NULL is the same as NULL
abbrev pub same_value : Value → Value → Bool
same_value V.Null V.Null = true
same_value (V.Bool a) (V.Bool b) = beq a b
same_value (V.Int a) (V.Int b) = int_eq a b
same_value (V.Text a) (V.Text b) = pointwise nat_eq a b
same_value _ _ = false

-- whether two rows have the same values
unfoldable pub same_cells : Cells → Cells → Bool
same_cells a b = pointwise same_value a b

-- the values of the old variables of the keys in a row
unfoldable pub key_cells : List (Var × Var) → List Var → Cells → Cells
key_cells keys vars row = key_of keys (bind vars row)

-- whether a row has these values of the keys
unfoldable pub has_key : List (Var × Var) → List Var → Cells → Cells → Bool
has_key keys vars key row = same_cells (key_cells keys vars row) key

-- the rows with these values of the keys, under them
unfoldable pub group_at : List (Var × Var) → List Var → List Cells → Cells → Bunch
group_at keys vars rows key = record { head = key; members = filter (has_key keys vars key) rows }

-- a row alone, under itself
unfoldable pub alone : Cells → Bunch
alone row = record { head = row; members = row ∷ [] }

-- the rows cut into groups of equal values of the keys, which differ from group to group; each group stands under its values
pub record AreGroups (keys : List (Var × Var)) (vars : List Var) (rows : List Cells) (groups : List Bunch) : Type 0 where
  pub moved : IsPermutation rows (flat_map (λ g. g.members) groups)
  pub alike : All (λ g. All (λ r. key_of keys (bind vars r) ≡ g.head) g.members) groups
  pub filled : All (λ g. g.members ≢ []) groups
  pub apart : AllPairs (λ g h. g.head ≢ h.head) groups

-- the head of a bunch before the one row that the nested plan allows over its members
abbrev pub Extends : Plan → Sets → List Var → List Var → Bunch → Cells → Type 0
Extends n sets vars inner_vars b row =
    (inner : Cells) × (length inner ≡ length inner_vars) × Allows n false sets vars (map (bind vars) b.members) (bind inner_vars inner ∷ []) × (row ≡ b.head ++ inner)

-- a row for each group, in some order of the groups
abbrev pub IsOverGroups : List (Var × Var) → Plan → Sets → List Var → List Cells → List Cells → Type 0
IsOverGroups keys n sets vars rows made = (groups : List Bunch) × AreGroups keys vars rows groups × AllZip (Extends n sets vars (live n vars)) groups made
