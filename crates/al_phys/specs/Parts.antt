-- Rows in parts: how they are moved from part to part, and what partitioning, order and needs mean.
use Rattle.std.specs.Prelude.{◌≡◌, ◌≢◌, ◌⊎◌, ◌<◌, ◌%◌, ℕ, zero, suc, nat_eq, List, [], ◌∷◌, map, filter, drop, replicate, length, get_or}
use Rattle.std.specs.List.{All, AllPairs, Contains, enumerate_from}
use Rattle.std.specs.List.Sorted.{IsPermutation, IsSorted}
use Rattle.al_value.specs.declared.value.Value.{Value}
use Rattle.al_plan.specs.declared.expr.Var.{Var}
use Rattle.al_plan.specs.Eval.{Env}
use Rattle.al_plan.specs.Allows.{keys_cmp}
use Rattle.al_phys.specs.declared.property.Partitioning.{Partitioning}
use Rattle.al_phys.specs.declared.property.Partitioning.TheVariants as D
use Rattle.al_phys.specs.declared.property.Local.{Local}
use Rattle.al_phys.specs.declared.property.Local.TheVariants as O
use Rattle.al_phys.specs.declared.property.Need.{Need}
use Rattle.al_phys.specs.declared.property.Need.TheVariants as N
use Rattle.al_phys.specs.Partition.{partition_of}

-- the rows of each partition
abbrev pub Parts : Type 0
Parts = List (List Env)

-- this many parts, of each of which the claim holds, given its number
pub record HasEach (n : ℕ) (P : ℕ → List Env → Type 0) (parts : Parts) : Type 0 where
  pub count : length parts ≡ n
  pub each : (j : ℕ) → j < n → P j (get_or parts j [])

-- all rows in the first of these parts
abbrev pub in_first : ℕ → List Env → Parts
in_first zero rows = []
in_first (suc n) rows = rows ∷ replicate n []

-- the rows of the first part
abbrev pub first_part : Parts → List Env
first_part [] = []
first_part (rows ∷ parts) = rows

-- the rows whose places in the list are j modulo n
abbrev pub dealt : ℕ → ℕ → List Env → List Env
dealt n j rows = map (λ e. e.1) (filter (λ e. nat_eq (e.0 % n) j) (enumerate_from 0 rows))

-- ---- moving rows

-- one of the lists begins with this item, and behind it they are these lists
unfoldable pub Takes : {A : Type 0} → List (List A) → A → List (List A) → Type 0
Takes [] x rest = ⊥
Takes {A} (xs ∷ xss) x rest =
    ((more : List A) × (xs ≡ x ∷ more) × (rest ≡ more ∷ xss)) ⊎ ((others : List (List A)) × Takes xss x others × (rest ≡ xs ∷ others))

-- the items of all lists, taken one by one from the fronts of the lists
unfoldable pub Interleaves : {A : Type 0} → List (List A) → List A → Type 0
Interleaves xss [] = All (λ xs. xs ≡ []) xss
Interleaves {A} xss (x ∷ xs) = (rest : List (List A)) × Takes xss x rest × Interleaves rest xs

-- the values of a row at these variables
abbrev pub values_at : List Var → Env → List Value
values_at vars r = map (λ v. r v.name) vars

-- the part, of this many, that the hash of a row's values at these variables names
abbrev pub part_of : ℕ → List Var → Env → ℕ
part_of n vars r = partition_of n (values_at vars r)

-- each part has the rows that belong to it by these variables, of each part as they came
abbrev pub IsHashed : ℕ → List Var → Parts → Parts → Type 0
IsHashed n vars input = HasEach n (λ j rows. Interleaves (map (filter (λ r. nat_eq (part_of n vars r) j)) input) rows)

-- each part has all rows
abbrev pub IsBroadcast : ℕ → Parts → Parts → Type 0
IsBroadcast n input = HasEach n (λ j rows. Interleaves input rows)

-- ---- properties

-- the rows stand in the parts as the property says
unfoldable pub HasParts : Partitioning → Parts → Type 0
HasParts D.Unpartitioned parts = All (λ rows. rows ≡ []) (drop 1 parts)
HasParts (D.Hash vars) parts = HasEach (length parts) (λ j rows. All (λ r. part_of (length parts) vars r ≡ j) rows) parts
HasParts D.Broadcast parts = All (λ xs. All (IsPermutation xs) parts) parts
HasParts D.Random parts = Unit {0}

-- the rows of each part stand in this order
unfoldable pub HasLocal : Local → Parts → Type 0
HasLocal O.None parts = Unit {0}
HasLocal (O.Order keys) parts = All (IsSorted (keys_cmp keys)) parts

-- ---- needs

-- no row of the one part has the same values at these variables as a row of the other
abbrev pub AreApart : List Var → List Env → List Env → Type 0
AreApart vars xs ys = (r s : Env) → Contains xs r → Contains ys s → values_at vars r ≢ values_at vars s

-- the parts are as the need asks. That no row stands twice, as `Any` asks, does not show in the parts
unfoldable pub Serves : Need → Parts → Type 0
Serves N.Any parts = Unit {0}
Serves N.One parts = All (λ rows. rows ≡ []) (drop 1 parts)
Serves (N.Keyed vars) parts = AllPairs (AreApart vars) parts
Serves (N.Exactly vars) parts = HasEach (length parts) (λ j rows. All (λ r. part_of (length parts) vars r ≡ j) rows) parts
Serves N.All parts = All (λ xs. All (IsPermutation xs) parts) parts
