-- The part that the hash of a row's fields names.
use Rattle.std.proofs.Common.{◌≡◌, ◌<◌, ◌≤◌, ◌+◌, ◌%◌, ℕ, List, [], ◌∷◌, ◌++◌, map, length, take, get_or, refl, sym, ap, ◌∙◌, arith, append-nil, add-one, take_all, flat_map}
use Rattle.std.proofs.lemmas.List.{map-append, get_or-map}
use Rattle.std.proofs.lemmas.Grind.{flat_map-append, fold-append}
use Rattle.std.proofs.Math.Seq.{take-suc}
use Rattle.al_value.specs.Field.{field_bytes}
use Rattle.al_value.specs.Hash.{fnv, fnv_offset, fnv_step}
use Rattle.al_value.specs.declared.value.Value.{Value}
use Rattle.al_value.specs.declared.value.Value.TheVariants as V
use Rattle.hy_frame.specs.Row.{Fields, IsRow}
use Rattle.hy_job.specs.Columns.{column, cut, key_hash, part_of}
use Rattle.hy_driver.specs.Rows.{Row, values_of}
use Rattle.hy_driver.proofs.Values.{fields_again}

key_push : (level : ℕ) (keys : List Value) (v : Value) → key_hash level (keys ++ v ∷ []) ≡ fnv (key_hash level keys) (field_bytes v)
unfolding key_hash
key_push level keys v =
    ap (λ (bytes : List ℕ). fnv (fnv fnv_offset (level ∷ [])) bytes) (flat_map-append field_bytes keys (v ∷ []) ∙ ap (λ (bytes : List ℕ). flat_map field_bytes keys ++ bytes) (append-nil (field_bytes v)))
    ∙ fold-append fnv_step (fnv fnv_offset (level ∷ [])) (flat_map field_bytes keys) (field_bytes v)

pub hash_none : (row : Row) → fnv fnv_offset (0 ∷ []) ≡ key_hash 0 (cut [] row)
unfolding key_hash
hash_none row = refl

-- a field is that of the value in its column
field_at : (row : Fields) (j : ℕ) → IsRow (length row) row → j < length row → get_or row j [] ≡ field_bytes (column (values_of row) j)
field_at row j is low =
    let again = fields_again (length row) row is in
    let wide = again.2 in
    ap (λ (r : Fields). get_or r j []) (sym again.1) ∙ get_or-map field_bytes (values_of row) j V.Null [] (omega arith)

cut_more : (columns : List ℕ) (i : ℕ) (row : Row) → i < length columns → cut (take (i + 1) columns) row ≡ cut (take i columns) row ++ column row (get_or columns i 0) ∷ []
cut_more columns i row low =
    ap (λ (js : List ℕ). map (column row) js) (ap (λ (n : ℕ). take n columns) (add-one i) ∙ take-suc columns i 0 low)
    ∙ map-append (column row) (take i columns) (get_or columns i 0 ∷ [])

pub hash_more : (columns : List ℕ) (i j h : ℕ) (row : Fields) → i < length columns → j ≡ get_or columns i 0 → IsRow (length row) row → j < length row → h ≡ key_hash 0 (cut (take i columns) (values_of row))
    → fnv h (get_or row j []) ≡ key_hash 0 (cut (take (i + 1) columns) (values_of row))
hash_more columns i j h row low is fields there so_far =
    ap (λ (n : ℕ). fnv n (get_or row j [])) so_far
    ∙ ap (λ (bytes : List ℕ). fnv (key_hash 0 (cut (take i columns) (values_of row))) bytes) (field_at row j fields there)
    ∙ sym (key_push 0 (cut (take i columns) (values_of row)) (column (values_of row) j))
    ∙ ap (λ (k : ℕ). key_hash 0 (cut (take i columns) (values_of row) ++ column (values_of row) k ∷ [])) is
    ∙ ap (λ (keys : List Value). key_hash 0 keys) (sym (cut_more columns i (values_of row) low))

pub part_is : (columns : List ℕ) (i n h : ℕ) (row : Row) → length columns ≤ i → h ≡ key_hash 0 (cut (take i columns) row) → h % n ≡ part_of n columns row
part_is columns i n h row above so_far = ap (λ (x : ℕ). x % n) (so_far ∙ ap (λ (js : List ℕ). key_hash 0 (cut js row)) (take_all i columns above))
