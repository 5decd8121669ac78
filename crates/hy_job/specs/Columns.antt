-- Rows by column: what expressions, keys, aggregates and joins give over them.
use Rattle.std.specs.Prelude.{◌≡◌, ◌≢◌, ◌⊎◌, ◌-◌, ◌%◌, ◌&&◌, ℕ, Bool, true, false, if◌then◌else◌, nat_eq, List, [], ◌∷◌, ◌++◌, map, filter, length, replicate, slice_index_or}
use Rattle.std.specs.List.{flat_map, list_all, zip, All, AllByRecursion, AllPairs, AllAdjacentBelow, Contains, enumerate_from}
use Rattle.std.specs.List.Sorted.{IsPermutation}
use Rattle.std.specs.declared.cmp.Ordering.{Ordering}
use Rattle.std.specs.declared.cmp.Ordering.TheVariants.{Equal}
use Rattle.std.specs.Ordering.{ordering_then, ordering_reverse}
use Rattle.al_value.specs.declared.value.Value.{Value}
use Rattle.al_value.specs.declared.value.Value.TheVariants as V
use Rattle.al_value.specs.declared.settings.SortKey.{SortKey}
use Rattle.al_value.specs.Value.{IsValue, value_cmp}
use Rattle.al_value.specs.Field.{field_bytes}
use Rattle.al_value.specs.Hash.{fnv, fnv_offset}
use Rattle.al_func.specs.declared.rex.Rex.{Rex}
use Rattle.al_func.specs.Func.{equal, is_true}
use Rattle.al_func.specs.Items.{range, split}
use Rattle.al_func.specs.Rex.{eval_rex}
use Rattle.al_agg.specs.declared.agg.Agg.{Agg}
use Rattle.al_agg.specs.declared.agg.Agg.TheVariants as A
use Rattle.al_agg.specs.Agg.{agg}
use Rattle.al_agg.specs.Part.{state_fields}
use Rattle.hy_job.specs.declared.nested.AggRex.{AggRex}
use Rattle.hy_job.specs.declared.nested.AggRex.TheVariants as C
use Rattle.hy_job.specs.declared.nested.GenRex.{GenRex}
use Rattle.hy_job.specs.declared.nested.GenRex.TheVariants as G
use Rattle.hy_job.specs.declared.job.JoinArg.{JoinArg}

-- the values of a row, in the order of its columns
abbrev pub Row : Type 0
Row = List Value

-- each is a value
abbrev pub AreValues : Row → Type 0
AreValues = AllByRecursion IsValue

-- the value of a column, and NULL for one out of range
abbrev pub column : Row → ℕ → Value
column row j = slice_index_or row j V.Null

-- whether a condition is TRUE
abbrev pub holds : Rex → Row → Bool
holds e row = is_true (eval_rex e row)

-- the values of these columns
abbrev pub cut : List ℕ → Row → Row
cut columns row = map (column row) columns

-- the row, and the new values behind it
abbrev pub assigned : List Rex → Row → Row
assigned made row = row ++ map (λ e. eval_rex e row) made

-- the items of a generator at a row
unfoldable pub items : GenRex → Row → List Value
items (G.Range a b) row = range (eval_rex a row) (eval_rex b row)
items (G.Split t s) row = split (eval_rex t row) (eval_rex s row)

-- the row with each item behind it
abbrev pub expanded : GenRex → Row → List Row
expanded g row = map (λ x. row ++ x ∷ []) (items g row)

-- ---- order

abbrev pub directed : Bool → Ordering → Ordering
directed descending o = if descending then ordering_reverse o else o

-- the order of two rows by the keys
abbrev pub keys_cmp : List SortKey → Row → Row → Ordering
keys_cmp [] a b = Equal
keys_cmp (k ∷ ks) a b = ordering_then (directed k.descending (value_cmp (column a k.column) (column b k.column))) (keys_cmp ks a b)

-- ---- aggregates

-- which aggregate a call is of
abbrev pub agg_of : AggRex → Agg
agg_of C.CountAll = A.CountAll
agg_of (C.Count e) = A.Count
agg_of (C.Sum e) = A.Sum
agg_of (C.Min e) = A.Min
agg_of (C.Max e) = A.Max

-- the values that it is taken over, one for each row; counting all rows looks at none
abbrev pub agg_values : AggRex → List Row → List Value
agg_values C.CountAll rows = map (λ row. V.Null) rows
agg_values (C.Count e) rows = map (eval_rex e) rows
agg_values (C.Sum e) rows = map (eval_rex e) rows
agg_values (C.Min e) rows = map (eval_rex e) rows
agg_values (C.Max e) rows = map (eval_rex e) rows

abbrev pub agg_value : AggRex → List Row → Value
agg_value a rows = agg (agg_of a) (agg_values a rows)

-- the row of the aggregates' values
abbrev pub agg_row : List AggRex → List Row → Row
agg_row made rows = map (λ a. agg_value a rows) made

-- the row of the fields of the aggregates' partial states
abbrev pub state_row : List AggRex → List Row → Row
state_row made rows = flat_map (λ a. state_fields (agg_of a) (agg_values a rows)) made

-- ---- joins

-- whether the key columns are equal place by place; NULL equals nothing
abbrev pub are_keys_equal : List ℕ → List ℕ → Row → Row → Bool
are_keys_equal ls rs l r = list_all (λ k. is_true (equal (column l k.0) (column r k.1))) (zip ls rs)

-- whether a left and a right row are joined
abbrev pub is_pair : JoinArg → Row → Row → Bool
is_pair arg l r = are_keys_equal arg.left arg.right l r && holds arg.rest (l ++ r)

-- the pairs of a left row
abbrev pub matches : JoinArg → List Row → Row → List Row
matches arg rs l = map (λ r. l ++ r) (filter (is_pair arg l) rs)

-- the row with NULL for each further column up to this many
abbrev pub padded : ℕ → Row → Row
padded arity row = row ++ replicate (arity - length row) V.Null

-- the left row with NULL for the right columns, where it is in no pair
abbrev pub or_alone : Row → List Row → List Row
or_alone l [] = l ∷ []
or_alone l (r ∷ rs) = r ∷ rs

abbrev pub pairs : JoinArg → List Row → List Row → List Row
pairs arg ls rs = flat_map (matches arg rs) ls

-- the joined rows have this many columns
abbrev pub left_pairs : ℕ → JoinArg → List Row → List Row → List Row
left_pairs arity arg ls rs = flat_map (λ l. or_alone (padded arity l) (matches arg rs l)) ls

abbrev pub joined_as : Bool → ℕ → JoinArg → List Row → List Row → List Row
joined_as true arity arg ls rs = left_pairs arity arg ls rs
joined_as false arity arg ls rs = pairs arg ls rs

-- the joined rows of a left and a right list, of this many columns
abbrev pub joined : ℕ → JoinArg → List Row → List Row → List Row
joined arity arg ls rs = joined_as arg.outer arity arg ls rs

-- ---- groups

-- the values of the key columns
abbrev pub key_of : List ℕ → Row → List Value
key_of keys row = cut keys row

-- a group is its first row and the other rows with the same key
abbrev pub Group : Type 0
Group = Row × List Row

abbrev pub rows_in : Group → List Row
rows_in g = g.0 ∷ g.1

-- the rows cut into groups of equal keys, whose keys differ; NULL equals NULL
pub record IsGrouping (keys : List ℕ) (rows : List Row) (groups : List Group) : Type 0 where
  pub moved : IsPermutation rows (flat_map rows_in groups)
  pub alike : All (λ g. All (λ r. key_of keys r ≡ key_of keys g.0) g.1) groups
  pub apart : AllPairs (λ g h. key_of keys g.0 ≢ key_of keys h.0) groups

-- the different rows, each once, in any order
pub record IsDistinctOf (rows kept : List Row) : Type 0 where
  pub within : All (Contains rows) kept
  pub all : All (Contains kept) rows
  pub once : AllPairs ◌≢◌ kept

-- the rows cut into stretches of equal keys, each as long as it can be
pub record AreStretches (keys : List ℕ) (rows : List Row) (groups : List Group) : Type 0 where
  pub all : rows ≡ flat_map rows_in groups
  pub alike : All (λ g. All (λ r. key_of keys r ≡ key_of keys g.0) g.1) groups
  pub apart : AllAdjacentBelow (λ g h. key_of keys g.0 ≢ key_of keys h.0) groups (length groups)

-- the rows cut into pieces of equal keys, however many pieces there are of one key
pub record ArePieces (keys : List ℕ) (rows : List Row) (pieces : List Group) : Type 0 where
  pub moved : IsPermutation rows (flat_map rows_in pieces)
  pub alike : All (λ g. All (λ r. key_of keys r ≡ key_of keys g.0) g.1) pieces

-- ---- moving rows

-- the rows whose places in the list are j modulo n
abbrev pub dealt : ℕ → ℕ → List Row → List Row
dealt n j rows = map (λ e. e.1) (filter (λ e. nat_eq (e.0 % n) j) (enumerate_from 0 rows))

-- the hash of values at a level: over the byte of the level and the bytes of their fields, in order
unfoldable pub key_hash : ℕ → List Value → ℕ
key_hash level keys = fnv (fnv fnv_offset (level ∷ [])) (flat_map field_bytes keys)

-- the part, of this many, that the hash of these columns names
abbrev pub part_of : ℕ → List ℕ → Row → ℕ
part_of n columns row = key_hash 0 (cut columns row) % n

-- one of the lists begins with this item, and behind it they are these lists
unfoldable pub Takes : {A : Type 0} → List (List A) → A → List (List A) → Type 0
Takes [] x rest = ⊥
Takes {A} (xs ∷ xss) x rest =
    ((more : List A) × (xs ≡ x ∷ more) × (rest ≡ more ∷ xss)) ⊎ ((others : List (List A)) × Takes xss x others × (rest ≡ xs ∷ others))

-- the items of all lists, taken one by one from the fronts of the lists
unfoldable pub Interleaves : {A : Type 0} → List (List A) → List A → Type 0
Interleaves xss [] = All (λ xs. xs ≡ []) xss
Interleaves {A} xss (x ∷ xs) = (rest : List (List A)) × Takes xss x rest × Interleaves rest xs
