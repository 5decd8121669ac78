-- The groups of an operator: their keys, each with the partial states of its rows.
use Rattle.std.specs.Prelude.{◌≡◌, ◌≢◌, ◌⊎◌, ℕ, List, [], ◌∷◌, ◌++◌, map, Vec}
use Rattle.std.specs.List.{AllZip, AllByRecursion, flat_map}
use Rattle.std.specs.List.Sorted.{IsPermutation}
use Rattle.al_value.specs.declared.value.Value.{Value}
use Rattle.al_agg.specs.declared.part.Part.{Part}
use Rattle.hy_job.specs.Columns.{Row, Group, key_of, rows_in}

-- the values of a key, and the states of its rows
abbrev pub Entry : Type 0
Entry = Row × List Part

abbrev pub entries_of : {Y Z : Type 0} → List (Vec Value Y × Vec Part Z) → List Entry
entries_of es = map (λ e. (e.0.items, e.1.items)) es

-- which rows states have seen
abbrev pub Seeing : Type 1
Seeing = List Row → List Part → Type 0

-- the states have seen this row behind those that they had seen, and are right
pub record SeenMore (sees : Seeing) (right : List Part → Type 0) (row : Row) (old new : List Part) : Type 0 where
  pub more : (rows : List Row) → sees rows old → sees (rows ++ row ∷ []) new
  pub fit : right new

-- a row was added to the group of this key, or to a new one behind the others where none has it
unfoldable pub Added : Seeing → (List Part → Type 0) → Row → Row → List Entry → List Entry → Type 0
Added sees right key row [] new = (states : List Part) × sees (row ∷ []) states × right states × (new ≡ (key, states) ∷ [])
Added sees right key row (e ∷ es) new =
    ((e.0 ≡ key) × ((states : List Part) × SeenMore sees right row e.1 states × (new ≡ (e.0, states) ∷ es)))
    ⊎ ((e.0 ≢ key) × ((more : List Entry) × Added sees right key row es more × (new ≡ e ∷ more)))

-- a group of equal keys, and the key and the states that are kept of it
pub record IsKept (sees : Seeing) (keys : List ℕ) (g : Group) (e : Entry) : Type 0 where
  pub alike : AllByRecursion (λ row. key_of keys row ≡ e.0) (rows_in g)
  pub seen : sees (rows_in g) e.1

-- no two have one key
abbrev pub HaveOwnKeys : List Entry → Type 0
HaveOwnKeys [] = Unit {0}
HaveOwnKeys (e ∷ es) = AllByRecursion (λ f. e.0 ≢ f.0) es × HaveOwnKeys es

-- what is kept of rows that were cut into groups by the columns of their keys
pub record StandFor (sees : Seeing) (keys : List ℕ) (entries : List Entry) (rows : List Row) : Type 0 where
  pub groups : List Group
  pub moved : IsPermutation rows (flat_map rows_in groups)
  pub kept : AllZip (IsKept sees keys) groups entries
  pub apart : HaveOwnKeys entries
