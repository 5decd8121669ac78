-- The turns of the left row that is at hand.
use Rattle.std.proofs.Common.{◌≡◌, ◌<◌, ◌≤◌, ◌+◌, ◌-◌, ℕ, Bool, true, false, true≢false, List, [], ◌∷◌, ◌++◌, map, length, drop, replicate, Some, None, refl, sym, ap, subst, ◌∙◌, arith, inl, inr, zero, suc}
use Rattle.std.specs.Prelude.{slice_get}
use Rattle.std.proofs.lemmas.Option.{get_or_from_slice_get, slice_get_cases, slice_get_within}
use Rattle.std.proofs.lemmas.List.{drop_more, drop_all, get_or-map, length-map, length-append, length-replicate, map-append}
use Rattle.al_value.specs.declared.value.Value.TheVariants as V
use Rattle.hy_frame.specs.Row.{AllFields, Fields, IsRow}
use Rattle.hy_driver.specs.Rows.{Row, value_of, values_of}
use Rattle.hy_job.specs.Columns.{is_pair, matches, padded}
use Rattle.hy_job.specs.declared.job.JoinArg.{JoinArg}
use Rattle.hy_join.specs.Probe.{right_rows, or_alone_yet, owed_of, turns_of}
use Rattle.hy_join.proofs.PairLaws.{values_of_both}

-- ---- the right rows from a place on

next_right : (rows : List Fields) (place : ℕ) (right : Fields) → slice_get rows place ≡ Some right → drop place (right_rows rows) ≡ values_of right ∷ drop (place + 1) (right_rows rows)
next_right rows place right at =
    let low = slice_get_within rows place right at in
    let low' : place < length (right_rows rows) = subst (λ (n : ℕ). place < n) (sym (length-map rows values_of)) low in
    drop_more (right_rows rows) place [] low' ∙ ap (λ (r : Row). r ∷ drop (place + 1) (right_rows rows)) (get_or-map values_of rows place [] [] low ∙ ap values_of (get_or_from_slice_get rows place right [] at))

-- all rows were met
past : (rows : List Fields) (place : ℕ) → slice_get rows place ≡ None → length rows ≤ place
past rows place gone =
    elim (slice_get_cases rows place).1 [
      | inl there ↦ absurd (none_some there.0 (sym gone ∙ there.2))
      | inr le ↦ le.0
    ]
  where
    none_some : (row : Fields) → None ≡ Some row → ⊥
    none_some row e = cc

pub matches_pair : (arg : JoinArg) (l r : Row) (rights : List Row) → is_pair arg l r ≡ true → matches arg (r ∷ rights) l ≡ (l ++ r) ∷ matches arg rights l
matches_pair arg l r rights so = rw so refl

pub matches_none : (arg : JoinArg) (l r : Row) (rights : List Row) → is_pair arg l r ≡ false → matches arg (r ∷ rights) l ≡ matches arg rights l
matches_none arg l r rights differ = rw differ refl

found : (alone : Bool) (l pair : Row) (pairs : List Row) → or_alone_yet alone l (pair ∷ pairs) ≡ pair ∷ pairs
found true l pair pairs = refl
found false l pair pairs = refl

-- ---- a turn

module _ (arg : JoinArg) (arity : ℕ) (rows : List Fields) (row : Fields) where
  -- it met a partner
  pub met_partner : (holds alone same : Bool) (place : ℕ) (right out : Fields) → holds ≡ true → slice_get rows place ≡ Some right
      → same ≡ is_pair arg (values_of row) (values_of right) → same ≡ true → out ≡ row ++ right
      → owed_of arg arity rows row holds alone place ≡ values_of out ∷ owed_of arg arity rows row holds false (place + 1)
  met_partner false alone same place right out at is pair so both = absurd (true≢false (sym at))
  met_partner true alone same place right out at is pair so both =
      let l = values_of row in
      let more = drop (place + 1) (right_rows rows) in
      ap (λ (rights : List Row). or_alone_yet alone (padded arity l) (matches arg rights l)) (next_right rows place right is)
      ∙ ap (or_alone_yet alone (padded arity l)) (matches_pair arg l (values_of right) more (sym pair ∙ so))
      ∙ found alone (padded arity l) (l ++ values_of right) (matches arg more l)
      ∙ ap (λ (r : Row). r ∷ matches arg more l) (sym (ap values_of both ∙ values_of_both row right))

  -- it met another row
  pub met_another : (holds alone same : Bool) (place : ℕ) (right : Fields) → holds ≡ true → slice_get rows place ≡ Some right
      → same ≡ is_pair arg (values_of row) (values_of right) → same ≡ false
      → owed_of arg arity rows row holds alone (place + 1) ≡ owed_of arg arity rows row holds alone place
  met_another false alone same place right at is pair differ = absurd (true≢false (sym at))
  met_another true alone same place right at is pair differ =
      let l = values_of row in
      let more = drop (place + 1) (right_rows rows) in
      sym (ap (λ (rights : List Row). or_alone_yet alone (padded arity l) (matches arg rights l)) (next_right rows place right is)
      ∙ ap (or_alone_yet alone (padded arity l)) (matches_none arg l (values_of right) more (sym pair ∙ differ)))

  met_all : (alone : Bool) (place : ℕ) → slice_get rows place ≡ None → owed_of arg arity rows row true alone place ≡ or_alone_yet alone (padded arity (values_of row)) []
  met_all alone place all =
      let all' : length (right_rows rows) ≤ place = subst (λ (n : ℕ). n ≤ place) (sym (length-map rows values_of)) (past rows place all) in
      ap (λ (rights : List Row). or_alone_yet alone (padded arity (values_of row)) (matches arg rights (values_of row))) (drop_all place (right_rows rows) all')

  -- the fields of a row with NULLs behind it
  values_padded : (n : ℕ) → length row + n ≡ arity → values_of (row ++ replicate n (0 ∷ [])) ≡ padded arity (values_of row)
  unfolding values_of
  values_padded n wide =
      let as_many : n ≡ arity - length (map value_of row) = (let same : length (map value_of row) ≡ length row = length-map row value_of in omega (arith, wide, same)) in
      map-append value_of row (replicate n (0 ∷ [])) ∙ ap (λ (r : Row). map value_of row ++ r) (nulls n ∙ ap (λ m. replicate m V.Null) as_many)
    where
      nulls : (n : ℕ) → map value_of (replicate n (0 ∷ [])) ≡ replicate n V.Null
      nulls zero = refl
      nulls (suc n) = ap (λ (r : Row). V.Null ∷ r) (nulls n)

  -- it met all right rows and has no partner: it comes alone
  pub comes_alone : (holds alone : Bool) (place n : ℕ) (out : Fields) → holds ≡ true → alone ≡ true → slice_get rows place ≡ None → length row + n ≡ arity → out ≡ row ++ replicate n (0 ∷ [])
      → owed_of arg arity rows row holds alone place ≡ values_of out ∷ owed_of arg arity rows row false alone place
  comes_alone false alone place n out at yet all wide is = absurd (true≢false (sym at))
  comes_alone true false place n out at yet all wide is = absurd (true≢false (sym yet))
  comes_alone true true place n out at yet all wide is =
      met_all true place all ∙ ap (λ (r : Row). r ∷ []) (sym (ap values_of is ∙ values_padded n wide))

  -- or it has one, or is not to come alone
  pub comes_not : (holds alone : Bool) (place : ℕ) → holds ≡ true → alone ≡ false → slice_get rows place ≡ None
      → owed_of arg arity rows row false alone place ≡ owed_of arg arity rows row holds alone place
  comes_not false alone place at not_alone all = absurd (true≢false (sym at))
  comes_not true true place at not_alone all = absurd (true≢false not_alone)
  comes_not true false place at not_alone all = sym (met_all false place all)

-- ---- rows that are given

null_fields : (n : ℕ) → AllFields (replicate n (0 ∷ []))
null_fields zero = tt
null_fields (suc n) = (inl (omega arith, refl), null_fields n)

both_fields : (left right : Fields) → AllFields left → AllFields right → AllFields (left ++ right)
both_fields [] right f g = g
both_fields (field ∷ left) right f g = (f.0, both_fields left right f.1 g)

pub padded_row : (row out : Fields) (n arity : ℕ) → IsRow (length row) row → length row + n ≡ arity → out ≡ row ++ replicate n (0 ∷ []) → IsRow arity out
padded_row row out n arity is wide same =
    subst (IsRow arity) (sym same) (length-append row (replicate n (0 ∷ [])) ∙ ap (λ m. length row + m) (length-replicate n (0 ∷ [])) ∙ wide, both_fields row (replicate n (0 ∷ [])) is.1 (null_fields n))

pub joined_row : (left right out : Fields) (a b : ℕ) → length left ≡ a → length right ≡ b → IsRow (length left + length right) out → IsRow (a + b) out
joined_row left right out a b wide wide' is = subst (λ (n : ℕ). IsRow n out) (λ i. wide i + wide' i) is

-- ---- turns

pub one_met : (holds : Bool) (rows : List Fields) (place : ℕ) (right : Fields) → holds ≡ true → slice_get rows place ≡ Some right
    → turns_of rows holds (place + 1) < turns_of rows holds place
one_met false rows place right at is = absurd (true≢false (sym at))
one_met true rows place right at is = let low = slice_get_within rows place right is in omega (arith, low)

pub none_left : (holds : Bool) (rows : List Fields) (place : ℕ) → holds ≡ true → turns_of rows false place < turns_of rows holds place
none_left false rows place at = absurd (true≢false (sym at))
none_left true rows place at = omega arith

pub ruleset left_laws = (met_partner, met_another, comes_alone, comes_not, padded_row, joined_row, one_met, none_left)
