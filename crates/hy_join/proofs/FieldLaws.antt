-- Fields that are compared by their bytes, and rows that are put together.
use Rattle.std.proofs.Common.{◌≡◌, ◌<◌, ◌≤◌, ◌+◌, ◌&&◌, ℕ, not, Bool, true, false, true≢false, List, [], ◌∷◌, ◌++◌, length, take, drop, get_or, replicate, refl, sym, ap, subst, ◌∙◌, inl, inr, append_assoc, append-nil}
use Rattle.std.specs.Str.{bytes_eq}
use Rattle.std.proofs.lemmas.Bool.{cases_Bool}
use Rattle.std.proofs.lemmas.Bool.Decides.{Decides-int_eq}
use Rattle.std.proofs.lemmas.Slice.Eq.{bytes_eq-Decides}
use Rattle.std.proofs.lemmas.List.{drop_more, drop_all, take_all, take_more, replicate_more}
use Rattle.al_func.specs.Func.{equal, is_true}
use Rattle.al_value.specs.Field.{field_bytes}
use Rattle.al_value.specs.Value.{IsValue}
use Rattle.al_value.specs.declared.value.Value.{Value}
use Rattle.al_value.specs.declared.value.Value.TheVariants as V
use Rattle.hy_frame.specs.Field.{IsField}
use Rattle.hy_frame.specs.Row.{Fields}
use Rattle.hy_store.proofs.FieldLaws.{one_value, value_of_field}
use Rattle.hy_driver.specs.Rows.{Row, value_of, values_of}
use Rattle.hy_job.specs.Columns.{are_keys_equal, column}
use Rattle.hy_rows.proofs.RowLaws.{value_found, column_pushed, null_pushed}
use Rattle.hy_join.specs.Fields.{is_null_field}

-- ---- one value

pub equal_same : (v w : Value) → is_true (equal v w) ≡ true → v ≡ w
equal_same (V.Bool true) (V.Bool true) h = refl
equal_same (V.Bool true) (V.Bool false) h = absurd (true≢false (sym h))
equal_same (V.Bool false) (V.Bool true) h = absurd (true≢false (sym h))
equal_same (V.Bool false) (V.Bool false) h = refl
equal_same (V.Int a) (V.Int b) h = ap V.Int ((Decides-int_eq a b).0 h)
equal_same (V.Text a) (V.Text b) h = ap V.Text ((bytes_eq-Decides a b).0 h)
equal_same v w h = absurd (true≢false (sym h))

-- a value is equal to itself, but for NULL
equal_itself : (v : Value) → is_true (equal v v) ≡ not (is_null_field (field_bytes v))
equal_itself V.Null = refl
equal_itself (V.Bool true) = refl
equal_itself (V.Bool false) = refl
equal_itself (V.Int z) = (Decides-int_eq z z).1 refl
equal_itself (V.Text t) = (bytes_eq-Decides t t).1 refl

by_bytes : (v w : Value) → IsValue v → IsValue w → (bytes_eq (field_bytes v) (field_bytes w) && not (is_null_field (field_bytes v))) ≡ is_true (equal v w)
by_bytes v w is_v is_w =
    elim (cases_Bool (bytes_eq (field_bytes v) (field_bytes w))) [
      | inl same ↦
          let one : v ≡ w = one_value v w is_v is_w ((bytes_eq-Decides (field_bytes v) (field_bytes w)).0 same) in
          rw same (sym (equal_itself v) ∙ ap (λ (x : Value). is_true (equal v x)) one)
      | inr other ↦ rw other (elim (cases_Bool (is_true (equal v w))) [
        | inl e ↦ absurd (true≢false (sym ((bytes_eq-Decides (field_bytes v) (field_bytes w)).1 (ap field_bytes (equal_same v w e))) ∙ other))
        | inr n ↦ sym n
      ])
    ]

fields_same : (left right : List ℕ) → IsField left → IsField right → (bytes_eq left right && not (is_null_field left)) ≡ is_true (equal (value_of left) (value_of right))
fields_same left right is_left is_right =
    let v = value_of_field left is_left in
    let w = value_of_field right is_right in
    (λ i. bytes_eq (sym v.2 i) (sym w.2 i) && not (is_null_field (sym v.2 i))) ∙ by_bytes v.0 w.0 v.1 w.1 ∙ (λ i. is_true (equal (value_found v.0 left v.1 v.2 i) (value_found w.0 right w.1 w.2 i)))

-- NULL is equal to nothing, and other values are equal where their fields have the same bytes
pub null_field : (left right : List ℕ) → IsField left → IsField right → is_null_field left ≡ true → false ≡ is_true (equal (value_of left) (value_of right))
null_field left right is_left is_right null = sym (no_more (bytes_eq left right) null) ∙ fields_same left right is_left is_right
  where
    no_more : (b : Bool) {c : Bool} → c ≡ true → (b && not c) ≡ false
    no_more true e = ap not e
    no_more false e = refl

pub live_field : (left right : List ℕ) (same : Bool) → IsField left → IsField right → is_null_field left ≡ false → same ≡ bytes_eq left right → same ≡ is_true (equal (value_of left) (value_of right))
live_field left right same is_left is_right live is = is ∙ sym (no_less (bytes_eq left right) live) ∙ fields_same left right is_left is_right
  where
    no_less : (b : Bool) {c : Bool} → c ≡ false → (b && not c) ≡ b
    no_less true e = ap not e
    no_less false e = refl

-- ---- columns

one_of_one : (v w : Value) → v ∷ [] ≡ w ∷ [] → v ≡ w
one_of_one v w e = cc

pub column_there : (row : Fields) (j : ℕ) → j < length row → column (values_of row) j ≡ value_of (get_or row j [])
column_there row j low = sym (one_of_one _ _ (column_pushed row j (get_or row j []) [] (value_of (get_or row j []) ∷ []) low refl refl))

pub column_gone : (row : Fields) (j : ℕ) → length row ≤ j → column (values_of row) j ≡ V.Null
column_gone row j low = sym (one_of_one _ _ (null_pushed row j (0 ∷ []) [] (V.Null ∷ []) low refl refl))

-- NULL is equal to nothing
null_left : (w : Value) → is_true (equal V.Null w) ≡ false
null_left w = refl

null_right : (v : Value) → is_true (equal v V.Null) ≡ false
null_right V.Null = refl
null_right (V.Bool b) = refl
null_right (V.Int z) = refl
null_right (V.Text t) = refl

pub columns_same : (left right : Fields) (j k : ℕ) (f g : List ℕ) (same : Bool) → j < length left → k < length right → f ≡ get_or left j [] → g ≡ get_or right k [] → same ≡ is_true (equal (value_of f) (value_of g))
    → same ≡ is_true (equal (column (values_of left) j) (column (values_of right) k))
columns_same left right j k f g same low_left low_right at_left at_right is =
    is ∙ (λ i. is_true (equal (value_of (at_left i)) (value_of (at_right i)))) ∙ (λ i. is_true (equal (sym (column_there left j low_left) i) (sym (column_there right k low_right) i)))

pub left_gone : (left right : Fields) (j k : ℕ) → length left ≤ j → false ≡ is_true (equal (column (values_of left) j) (column (values_of right) k))
left_gone left right j k low = sym (ap (λ (v : Value). is_true (equal v (column (values_of right) k))) (column_gone left j low) ∙ null_left (column (values_of right) k))

pub right_gone : (left right : Fields) (j k : ℕ) → length right ≤ k → false ≡ is_true (equal (column (values_of left) j) (column (values_of right) k))
right_gone left right j k low = sym (ap (λ (w : Value). is_true (equal (column (values_of left) j) w)) (column_gone right k low) ∙ null_right (column (values_of left) j))

-- ---- keys, from one place on

abbrev pub from : ℕ → List ℕ → List ℕ → Row → Row → Bool
from i lefts rights l r = are_keys_equal (drop i lefts) (drop i rights) l r

one_place : (lefts rights : List ℕ) (l r : Row) (i : ℕ) → i < length lefts → length lefts ≡ length rights
    → from i lefts rights l r ≡ (is_true (equal (column l (get_or lefts i 0)) (column r (get_or rights i 0))) && from (i + 1) lefts rights l r)
one_place lefts rights l r i low same = λ k. are_keys_equal (drop_more lefts i 0 low k) (drop_more rights i 0 (subst (λ (n : ℕ). i < n) same low) k) l r

pub keys_go_on : (lefts rights : List ℕ) (l r : Row) (i j k : ℕ) (same : Bool) → i < length lefts → length lefts ≡ length rights → j ≡ get_or lefts i 0 → k ≡ get_or rights i 0
    → same ≡ is_true (equal (column l j) (column r k)) → same ≡ true → from i lefts rights l r ≡ are_keys_equal lefts rights l r → from (i + 1) lefts rights l r ≡ are_keys_equal lefts rights l r
keys_go_on lefts rights l r i j k same low wide at_left at_right is so whole =
    let here : is_true (equal (column l (get_or lefts i 0)) (column r (get_or rights i 0))) ≡ true = (λ n. is_true (equal (column l (sym at_left n)) (column r (sym at_right n)))) ∙ sym is ∙ so in
    sym (one_place lefts rights l r i low wide ∙ ap (λ b. b && from (i + 1) lefts rights l r) here) ∙ whole

pub keys_differ : (lefts rights : List ℕ) (l r : Row) (i j k : ℕ) (same : Bool) → i < length lefts → length lefts ≡ length rights → j ≡ get_or lefts i 0 → k ≡ get_or rights i 0
    → same ≡ is_true (equal (column l j) (column r k)) → same ≡ false → from i lefts rights l r ≡ are_keys_equal lefts rights l r → false ≡ are_keys_equal lefts rights l r
keys_differ lefts rights l r i j k same low wide at_left at_right is differ whole =
    let here : is_true (equal (column l (get_or lefts i 0)) (column r (get_or rights i 0))) ≡ false = (λ n. is_true (equal (column l (sym at_left n)) (column r (sym at_right n)))) ∙ sym is ∙ differ in
    sym (one_place lefts rights l r i low wide ∙ ap (λ b. b && from (i + 1) lefts rights l r) here) ∙ whole

pub keys_all : (lefts rights : List ℕ) (l r : Row) (i : ℕ) → length lefts ≤ i → from i lefts rights l r ≡ are_keys_equal lefts rights l r → true ≡ are_keys_equal lefts rights l r
keys_all lefts rights l r i low whole = sym (ap (λ (ls : List ℕ). are_keys_equal ls (drop i rights) l r) (drop_all i lefts low)) ∙ whole

-- ---- rows put together

pub both_first : (left right out : Fields) → out ≡ left → out ≡ left ++ take 0 right
both_first left right out is = is ∙ sym (append-nil left)

pub both_next : (left right out out' : Fields) (j : ℕ) (field : List ℕ) → j < length right → field ≡ get_or right j [] → out ≡ left ++ take j right → out' ≡ out ++ field ∷ [] → out' ≡ left ++ take (j + 1) right
both_next left right out out' j field low at is pushed =
    pushed ∙ (λ i. is i ++ at i ∷ []) ∙ append_assoc left (take j right) (get_or right j [] ∷ []) ∙ ap (λ (r : Fields). left ++ r) (sym (take_more right j [] low))

pub both_all : (left right out : Fields) (j : ℕ) → length right ≤ j → out ≡ left ++ take j right → out ≡ left ++ right
both_all left right out j low is = is ∙ ap (λ (r : Fields). left ++ r) (take_all j right low)

pub padded_first : (left out : Fields) → out ≡ left → out ≡ left ++ replicate 0 (0 ∷ [])
padded_first left out is = is ∙ sym (append-nil left)

pub padded_next : (left out out' : Fields) (n : ℕ) → out ≡ left ++ replicate n (0 ∷ []) → out' ≡ out ++ (0 ∷ []) ∷ [] → out' ≡ left ++ replicate (n + 1) (0 ∷ [])
padded_next left out out' n is pushed =
    pushed ∙ ap (λ (r : Fields). r ++ (0 ∷ []) ∷ []) is ∙ append_assoc left (replicate n (0 ∷ [])) ((0 ∷ []) ∷ []) ∙ ap (λ (r : Fields). left ++ r) (replicate_more n (0 ∷ []))

pub ruleset field_laws = (null_field, live_field, columns_same, left_gone, right_gone, keys_go_on, keys_differ, keys_all, both_first, both_next, both_all, padded_first, padded_next)
