-- The hash of a row's keys, and the rows that are found by it.
use Rattle.std.proofs.Common.{◌≡◌, ◌<◌, ◌≤◌, ◌+◌, ◌&&◌, ◌||◌, ℕ, zero, suc, Bool, true, false, true≢false, List, [], ◌∷◌, ◌++◌, map, filter, flat_map, length, take, get_or, Some, None, Option, refl, sym, ap, subst, ◌∙◌, arith, append-nil}
use Rattle.std.specs.Prelude.{if◌then◌else◌}
use Rattle.std.specs.List.{list_any}
use Rattle.std.proofs.lemmas.Bool.{eq-eqb}
use Rattle.std.proofs.lemmas.Bool.Decides.{Decides-eqb}
use Rattle.std.proofs.lemmas.List.{map-append, take_all, take_more}
use Rattle.std.proofs.lemmas.List.Concat.{flat_map-append}
use Rattle.al_func.specs.Func.{equal, is_null, is_true}
use Rattle.al_value.specs.Field.{field_bytes}
use Rattle.al_value.specs.Hash.{fnv, fnv_offset, fnv_step}
use Rattle.al_value.specs.declared.value.Value.{Value}
use Rattle.al_value.specs.declared.value.Value.TheVariants as V
use Rattle.hy_frame.specs.Field.{IsField}
use Rattle.hy_frame.specs.Row.{Fields}
use Rattle.hy_store.proofs.FieldLaws.{value_of_field}
use Rattle.hy_driver.specs.Rows.{Row, value_of, values_of}
use Rattle.hy_job.proofs.Members.{by_cases}
use Rattle.hy_job.specs.Columns.{are_keys_equal, column, cut, is_pair, key_hash, matches}
use Rattle.hy_job.specs.declared.job.JoinArg.{JoinArg}
use Rattle.hy_rows.proofs.RowLaws.{value_found}
use Rattle.hy_join.specs.Fields.{is_null_field}
use Rattle.hy_join.specs.Keys.{hash_of, is_hash, is_under, places_from, partners}
use Rattle.hy_join.specs.Probe.{right_rows}
use Rattle.hy_join.proofs.FieldLaws.{column_there, column_gone, equal_same}

-- ---- the hash of keys

-- the hash after the first columns, none of which is NULL
abbrev pub HashedTo : List ℕ → Row → ℕ → ℕ → Type 0
HashedTo columns row i hash = (list_any is_null (cut (take i columns) row) ≡ false) × (hash ≡ fnv (fnv fnv_offset (1 ∷ [])) (flat_map field_bytes (cut (take i columns) row)))

any_append : (xs ys : Row) → list_any is_null (xs ++ ys) ≡ (list_any is_null xs || list_any is_null ys)
any_append [] ys = refl
any_append (x ∷ xs) ys = either (is_null x) (list_any is_null (xs ++ ys)) (list_any is_null xs) (list_any is_null ys) (any_append xs ys)
  where
    either : (b c d e : Bool) → c ≡ (d || e) → (b || c) ≡ ((b || d) || e)
    either true c d e h = refl
    either false c d e h = h

fnv_append : (xs ys : List ℕ) (h : ℕ) → fnv h (xs ++ ys) ≡ fnv (fnv h xs) ys
fnv_append [] ys h = refl
fnv_append (x ∷ xs) ys h = fnv_append xs ys (fnv_step h x)

cut_more : (columns : List ℕ) (row : Row) (i j : ℕ) → i < length columns → j ≡ get_or columns i j → cut (take (i + 1) columns) row ≡ cut (take i columns) row ++ column row j ∷ []
cut_more columns row i j low at = ap (λ (js : List ℕ). cut js row) (take_more columns i j low) ∙ map-append (column row) (take i columns) (get_or columns i j ∷ []) ∙ ap (λ k. cut (take i columns) row ++ column row k ∷ []) (sym at)

-- the value of a field that is not that of NULL
not_null : (field : List ℕ) → IsField field → is_null_field field ≡ false → (is_null (value_of field) ≡ false) × (field_bytes (value_of field) ≡ field)
not_null field is live =
    let v = value_of_field field is in
    let same = value_found v.0 field v.1 v.2 in
    (subst (λ (w : Value). is_null w ≡ false) same (thing v.0 (ap is_null_field v.2 ∙ live)), subst (λ (w : Value). field_bytes w ≡ field) same v.2)
  where
    thing : (v : Value) → is_null_field (field_bytes v) ≡ false → is_null v ≡ false
    thing V.Null e = absurd (true≢false e)
    thing (V.Bool b) e = refl
    thing (V.Int z) e = refl
    thing (V.Text t) e = refl

pub hashed_none : (columns : List ℕ) (row : Row) (hash : ℕ) → hash ≡ fnv fnv_offset (1 ∷ []) → HashedTo columns row 0 hash
hashed_none columns row hash is = (refl, is)

pub hashed_more : (columns : List ℕ) (row : Row) (i j hash hash' : ℕ) (field : List ℕ) → i < length columns → j ≡ get_or columns i j → is_null (column row j) ≡ false → field ≡ field_bytes (column row j)
    → HashedTo columns row i hash → hash' ≡ fnv hash field → HashedTo columns row (i + 1) hash'
hashed_more columns row i j hash hash' field low at live is h next =
    let more = cut_more columns row i j low at in (
      ap (list_any is_null) more ∙ any_append (cut (take i columns) row) (column row j ∷ []) ∙ (λ n. h.0 n || (live n || false)),
      next ∙ (λ n. fnv (h.1 n) (is n)) ∙ sym (ap (λ (values : Row). fnv (fnv fnv_offset (1 ∷ [])) (flat_map field_bytes values)) more
          ∙ ap (fnv (fnv fnv_offset (1 ∷ []))) (flat_map-append field_bytes (cut (take i columns) row) (column row j ∷ []) ∙ ap (λ (b : List ℕ). flat_map field_bytes (cut (take i columns) row) ++ b) (append-nil (field_bytes (column row j))))
          ∙ fnv_append (flat_map field_bytes (cut (take i columns) row)) (field_bytes (column row j)) (fnv fnv_offset (1 ∷ []))),
    )

pub hashed_all : (columns : List ℕ) (row : Row) (i hash : ℕ) → length columns ≤ i → HashedTo columns row i hash → Some hash ≡ hash_of columns row
unfolding key_hash
hashed_all columns row i hash low h =
    let all = take_all i columns low in
    let none : list_any is_null (cut columns row) ≡ false = ap (λ (js : List ℕ). list_any is_null (cut js row)) (sym all) ∙ h.0 in
    let same : hash ≡ fnv (fnv fnv_offset (1 ∷ [])) (flat_map field_bytes (cut columns row)) = h.1 ∙ ap (λ (js : List ℕ). fnv (fnv fnv_offset (1 ∷ [])) (flat_map field_bytes (cut js row))) all in
    rw none (ap Some same)

-- a NULL among the keys
any_null : (columns : List ℕ) (row : Row) (i : ℕ) → i < length columns → is_null (column row (get_or columns i 0)) ≡ true → list_any is_null (cut columns row) ≡ true
any_null [] row i low null = absurd (omega (arith, low))
any_null (j ∷ columns) row zero low null = rw null refl
any_null (j ∷ columns) row (suc i) low null = or_later (is_null (column row j)) (any_null columns row i (omega (arith, low)) null)
  where
    or_later : (b : Bool) {c : Bool} → c ≡ true → (b || c) ≡ true
    or_later true h = refl
    or_later false h = h

-- whichever stands in for an item that is not there
pub item_there : {X : Type 0} (xs : List X) (i : ℕ) (x d : X) → i < length xs → x ≡ get_or xs i x → x ≡ get_or xs i d
item_there [] i x d low at = absurd (omega (arith, low))
item_there (y ∷ xs) zero x d low at = at
item_there (y ∷ xs) (suc i) x d low at = item_there xs i x d (omega (arith, low)) at

pub no_hash : (columns : List ℕ) (row : Row) (i j : ℕ) → is_null (column row j) ≡ true → i < length columns → j ≡ get_or columns i j → None ≡ hash_of columns row
no_hash columns row i j null low at =
    let here : is_null (column row (get_or columns i 0)) ≡ true = ap (λ k. is_null (column row k)) (sym (item_there columns i j 0 low at)) ∙ null in
    rw (any_null columns row i low here) refl

-- ---- fields of keys

pub field_gone : (row : Fields) (j : ℕ) → length row ≤ j → is_null (column (values_of row) j) ≡ true
field_gone row j gone = ap is_null (column_gone row j gone)

pub field_null : (row : Fields) (j : ℕ) (field : List ℕ) → j < length row → field ≡ get_or row j [] → is_null_field field ≡ true → is_null (column (values_of row) j) ≡ true
field_null row j field low is null = ap is_null (column_there row j low ∙ ap value_of (sym is) ∙ null_value field null)
  where
    null_value : (field : List ℕ) → is_null_field field ≡ true → value_of field ≡ V.Null
    null_value [] e = refl
    null_value (tag ∷ rest) e = ap (λ t. value_of (t ∷ rest)) ((Decides-eqb tag 0).0 e)

pub field_live : (row : Fields) (j : ℕ) (field : List ℕ) → j < length row → field ≡ get_or row j [] → IsField field → is_null_field field ≡ false → is_null (column (values_of row) j) ≡ false
field_live row j field low is is_field live = ap is_null (column_there row j low ∙ ap value_of (sym is)) ∙ (not_null field is_field live).0

pub field_kept : (row : Fields) (j : ℕ) (field : List ℕ) → j < length row → field ≡ get_or row j [] → IsField field → is_null_field field ≡ false → field ≡ field_bytes (column (values_of row) j)
field_kept row j field low is is_field live = sym (ap field_bytes (column_there row j low ∙ ap value_of (sym is)) ∙ (not_null field is_field live).1)

pub ruleset field_laws = (field_gone, field_null, field_live, field_kept)

-- ---- pairs have one hash

equal_keys : (ls rs : List ℕ) (l r : Row) → length ls ≡ length rs → are_keys_equal ls rs l r ≡ true → (cut ls l ≡ cut rs r) × (list_any is_null (cut rs r) ≡ false)
equal_keys [] [] l r wide h = (refl, refl)
equal_keys [] (k ∷ rs) l r wide h = absurd (omega (arith, wide))
equal_keys (j ∷ ls) [] l r wide h = absurd (omega (arith, wide))
equal_keys (j ∷ ls) (k ∷ rs) l r wide h =
    let here = both (is_true (equal (column l j) (column r k))) _ h in
    let same = equal_same (column l j) (column r k) here.0 in
    let more = equal_keys ls rs l r (omega (arith, wide)) here.1 in
    ((λ i. same i ∷ more.0 i), (λ i. live (column l j) (column r k) here.0 i || more.1 i))
  where
    both : (a b : Bool) → (a && b) ≡ true → (a ≡ true) × (b ≡ true)
    both true b e = (refl, e)
    both false b e = absurd (true≢false (sym e))

    live : (v w : Value) → is_true (equal v w) ≡ true → is_null w ≡ false
    live v (V.Bool b) e = refl
    live v (V.Int z) e = refl
    live v (V.Text t) e = refl
    live V.Null V.Null e = absurd (true≢false (sym e))
    live (V.Bool b) V.Null e = absurd (true≢false (sym e))
    live (V.Int z) V.Null e = absurd (true≢false (sym e))
    live (V.Text t) V.Null e = absurd (true≢false (sym e))

-- rows that are joined have one hash, and NULL is not among their keys
one_hash : (arg : JoinArg) (l r : Row) → length arg.left ≡ length arg.right → is_pair arg l r ≡ true → (hash : ℕ) × (hash_of arg.left l ≡ Some hash) × (hash_of arg.right r ≡ Some hash)
one_hash arg l r wide pair =
    let keys = equal_keys arg.left arg.right l r wide (first (are_keys_equal arg.left arg.right l r) _ pair) in (
      key_hash 1 (cut arg.right r),
      ap (λ (values : Row). if list_any is_null values then None else Some (key_hash 1 values)) keys.0 ∙ chosen keys.1,
      chosen keys.1,
    )
  where
    first : (a b : Bool) → (a && b) ≡ true → a ≡ true
    first true b e = refl
    first false b e = absurd (true≢false (sym e))

    chosen : list_any is_null (cut arg.right r) ≡ false → (if list_any is_null (cut arg.right r) then None else Some (key_hash 1 (cut arg.right r))) ≡ Some (key_hash 1 (cut arg.right r))
    chosen e = rw e refl

-- a row that is not among the partners of a left row is not joined with it
pub partners_all : (arg : JoinArg) (indexed : Bool) (l : Row) (rows : List Fields) → length arg.left ≡ length arg.right → matches arg (right_rows (partners indexed arg.right (hash_of arg.left l) rows)) l ≡ matches arg (right_rows rows) l
partners_all arg false l rows wide = refl
partners_all arg true l rows wide = by_hash (hash_of arg.left l) refl
  where
    never : (r : Row) → hash_of arg.left l ≡ None → is_pair arg l r ≡ true → ⊥
    never r none pair = no_some (one_hash arg l r wide pair).0 (sym none ∙ (one_hash arg l r wide pair).1)
      where
        no_some : (n : ℕ) → None ≡ Some n → ⊥
        no_some n e = cc

    none_joined : hash_of arg.left l ≡ None → (rows : List Fields) → [] ≡ filter (is_pair arg l) (right_rows rows)
    none_joined none [] = refl
    none_joined none (row ∷ rows) = by_cases (is_pair arg l (values_of row)) (λ t. absurd (never (values_of row) none t)) (λ f. rw f (none_joined none rows))

    under : (hash : ℕ) (row : Fields) → hash_of arg.left l ≡ Some hash → is_pair arg l (values_of row) ≡ true → is_under arg.right hash row ≡ true
    under hash row is pair =
        let one = one_hash arg l (values_of row) wide pair in
        ap (λ (h : Option ℕ). is_hash h hash) one.2 ∙ eq-eqb one.0 hash (same_number one.0 hash (sym one.1 ∙ is))
      where
        same_number : (m n : ℕ) → Some m ≡ Some n → m ≡ n
        same_number m n e = cc

    kept : (hash : ℕ) → hash_of arg.left l ≡ Some hash → (rows : List Fields) → filter (is_pair arg l) (right_rows (filter (is_under arg.right hash) rows)) ≡ filter (is_pair arg l) (right_rows rows)
    kept hash is [] = refl
    kept hash is (row ∷ rows) =
        by_cases (is_pair arg l (values_of row)) (λ t. rw (under hash row is t, t) (ap (λ (rs : List Row). values_of row ∷ rs) (kept hash is rows)))
        (λ f. by_cases (is_under arg.right hash row) (λ u. rw (u, f) (kept hash is rows)) (λ u. rw (u, f) (kept hash is rows)))

    by_hash : (hash : Option ℕ) → hash_of arg.left l ≡ hash → matches arg (right_rows (partners true arg.right hash rows)) l ≡ matches arg (right_rows rows) l
    by_hash None is = ap (map (λ r. l ++ r)) (none_joined is rows)
    by_hash (Some hash) is = ap (map (λ r. l ++ r)) (kept hash is rows)

pub partners_few : (indexed : Bool) (columns : List ℕ) (hash : Option ℕ) (rows : List Fields) → length (partners indexed columns hash rows) ≤ length rows
partners_few false columns hash rows = omega arith
partners_few true columns None rows = omega arith
partners_few true columns (Some hash) rows = some_of rows
  where
    some_of : (rows : List Fields) → length (filter (is_under columns hash) rows) ≤ length rows
    some_of [] = omega arith
    some_of (row ∷ rows) = let few = some_of rows in by_cases (is_under columns hash row) (λ t. rw t (omega (arith, few))) (λ f. rw f (omega (arith, few)))

-- ---- places

-- one row more
pub places_more : (test : Fields → Bool) (n : ℕ) (rows : List Fields) (row : Fields) → places_from test n (rows ++ row ∷ []) ≡ places_from test n rows ++ (if test row then (n + length rows) ∷ [] else [])
places_more test n [] row = let none : n ≡ n + 0 = omega arith in ap (λ m. if test row then m ∷ [] else []) none
places_more test n (r ∷ rows) row =
    let last : (suc n) + length rows ≡ n + suc (length rows) = omega arith in
    let more = places_more test (suc n) rows row ∙ ap (λ m. places_from test (suc n) rows ++ (if test row then m ∷ [] else [])) last in
    by_cases (test r) (λ t. rw t (ap (λ (places : List ℕ). n ∷ places) more)) (λ f. rw f more)

pub places_next : (test : Fields → Bool) (place : ℕ) (rows : List Fields) (row : Fields) (old new : List ℕ) → place < length rows → row ≡ get_or rows place []
    → old ≡ places_from test 0 (take place rows) → new ≡ old ++ (if test row then place ∷ [] else []) → new ≡ places_from test 0 (take (place + 1) rows)
places_next test place rows row old new low at is longer =
    let before : place ≡ 0 + length (take place rows) = (let many : length (take place rows) ≡ place = length-take place rows low in omega (arith, many)) in
    longer ∙ (λ i. is i ++ (if test (at i) then before i ∷ [] else [])) ∙ sym (places_more test 0 (take place rows) (get_or rows place [])) ∙ ap (places_from test 0) (sym (take_more rows place [] low))
  where
    length-take : (n : ℕ) (rows : List Fields) → n < length rows → length (take n rows) ≡ n
    length-take n [] low = absurd (omega (arith, low))
    length-take zero (row ∷ rows) low = refl
    length-take (suc n) (row ∷ rows) low = ap suc (length-take n rows (omega (arith, low)))

pub ruleset key_laws = (hashed_none, hashed_more, hashed_all)
