-- The hash by which the right rows of a join are found, and where they are.
use Rattle.std.specs.Prelude.{◌≡◌, ℕ, suc, nat_eq, Bool, true, false, if◌then◌else◌, Option, Some, None, List, [], ◌∷◌, filter}
use Rattle.std.specs.Coded.{Coded-set, coded_list, coded_ℕ, Unit-prop}
use Rattle.std.specs.List.{list_any}
use Rattle.al_func.specs.Func.{is_null}
use Rattle.hy_frame.specs.Row.{Fields}
use Rattle.hy_driver.specs.Rows.{Row, values_of}
use Rattle.hy_job.specs.Columns.{cut, key_hash}
use Rattle.indexmap.specs.IndexMap.{IndexMap, get}

-- the hash of the values of these columns, where none of them is NULL
abbrev pub hash_of : List ℕ → Row → Option ℕ
hash_of columns row = if list_any is_null (cut columns row) then None else Some (key_hash 1 (cut columns row))

-- whether there is a hash, and it is this one
abbrev pub is_hash : Option ℕ → ℕ → Bool
is_hash None hash = false
is_hash (Some own) hash = nat_eq own hash

-- whether the row of these fields has this hash
abbrev pub is_under : List ℕ → ℕ → Fields → Bool
is_under columns hash row = is_hash (hash_of columns (values_of row)) hash

-- the places of the rows that pass a test, the first row having this place
abbrev pub places_from : (Fields → Bool) → ℕ → List Fields → List ℕ
places_from test n [] = []
places_from test n (row ∷ rows) = if test row then n ∷ places_from test (suc n) rows else places_from test (suc n) rows

-- what is found by hash, which is nothing where there is none
abbrev pub found_at : Option (List ℕ) → List ℕ
found_at None = []
found_at (Some places) = places

-- by each hash the places of the rows that have it are found
abbrev pub IsIndex : List ℕ → List Fields → (ℕ → Option (List ℕ)) → Type 0
IsIndex columns rows get = (hash : ℕ) → found_at (get hash) ≡ places_from (is_under columns hash) 0 rows

-- the right rows that a left row may meet, by the hash of its keys; all of them, where there is no index
abbrev pub partners : Bool → List ℕ → Option ℕ → List Fields → List Fields
partners false columns hash rows = rows
partners true columns None rows = []
partners true columns (Some hash) rows = filter (is_under columns hash) rows

-- the index of the right rows, where there is one
abbrev pub Indexed : {S : Type 0} → List ℕ → List Fields → Option (IndexMap ℕ (List ℕ) S) → Type 0
Indexed columns rows None = Unit {0}
Indexed columns rows (Some index) = IsIndex columns rows (get nat_eq index)

pub Indexed-prop : {S : Type 0} (columns : List ℕ) (rows : List Fields) (index : Option (IndexMap ℕ (List ℕ) S)) → IsProp (Indexed columns rows index)
Indexed-prop columns rows None = Unit-prop
Indexed-prop columns rows (Some index) = λ x y. λ i hash. Coded-set (coded_list coded_ℕ) (found_at (get nat_eq index hash)) (places_from (is_under columns hash) 0 rows) (x hash) (y hash) i
