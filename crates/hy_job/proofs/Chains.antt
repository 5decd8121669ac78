-- What chains make of rows: of each row alone, and what is allowed.
use Rattle.std.proofs.Common.{◌≡◌, ◌<◌, ℕ, Bool, true, false, List, [], ◌∷◌, ◌++◌, map, filter, flat_map, length, get_or, refl, ap, sym, subst, ◌∙◌}
use Rattle.std.specs.List.{All, AllByRecursion}
use Rattle.std.proofs.lemmas.List.{map-append}
use Rattle.std.proofs.lemmas.List.Elements.{All-from_recursion, filter-append}
use Rattle.std.proofs.lemmas.List.Sorted.{IsPermutation-refl}
use Rattle.std.proofs.lemmas.Grind.{flat_map-append}
use Rattle.al_func.specs.declared.rex.Rex.{Rex}
use Rattle.al_func.specs.Rex.{IsSound}
use Rattle.hy_job.specs.declared.nested.GenRex.{GenRex}
use Rattle.hy_job.specs.declared.nested.NestedPlan.TheVariants as P
use Rattle.hy_job.specs.declared.nested.NestedPlan.{NestedPlan, more_of-NestedPlan as Is, end_of-NestedPlan as At}
use Rattle.hy_job.specs.declared.nested.NestedPlan.TheVariants.{Nested, Assign', Select', Project', Unnest', Order', Distinct', Limit', Aggregate'}
use Rattle.hy_job.specs.Columns.{Row, holds, cut, assigned, expanded}
use Rattle.hy_job.specs.Nested.{NAllows, IsOrderOf, n_ordered, n_width, is_chain, chain_rows}
use Rattle.hy_job.specs.Sound.{NSound, AreSound, item_exprs}
use Rattle.hy_job.specs.RunLaws.{AreWide}
use Rattle.hy_job.specs.Opens.{nested_shape, nested_hidden, row_hidden}
use Rattle.hy_job.proofs.RowLaws.{at_place}
use Rattle.hy_job.proofs.RunFits.{nested_wide}

pub chain-none : (n : NestedPlan) → chain_rows n [] ≡ []
chain-none Nested = refl
chain-none (Assign' made _ (Is p At)) = ap (map (assigned made)) (chain-none p)
chain-none (Select' c _ (Is p At)) = ap (filter (holds c)) (chain-none p)
chain-none (Project' columns _ (Is p At)) = ap (map (cut columns)) (chain-none p)
chain-none (Unnest' g _ (Is p At)) = ap (flat_map (expanded g)) (chain-none p)
chain-none (Order' keys _ (Is p At)) = refl
chain-none (Distinct' _ (Is p At)) = refl
chain-none (Limit' n k _ (Is p At)) = refl
chain-none (Aggregate' made _ (Is p At)) = refl

pub chain-append : (n : NestedPlan) (xs ys : List Row) → chain_rows n (xs ++ ys) ≡ chain_rows n xs ++ chain_rows n ys
chain-append Nested xs ys = refl
chain-append (Assign' made _ (Is p At)) xs ys = ap (map (assigned made)) (chain-append p xs ys) ∙ map-append (assigned made) (chain_rows p xs) (chain_rows p ys)
chain-append (Select' c _ (Is p At)) xs ys = ap (filter (holds c)) (chain-append p xs ys) ∙ filter-append (holds c) (chain_rows p xs) (chain_rows p ys)
chain-append (Project' columns _ (Is p At)) xs ys = ap (map (cut columns)) (chain-append p xs ys) ∙ map-append (cut columns) (chain_rows p xs) (chain_rows p ys)
chain-append (Unnest' g _ (Is p At)) xs ys = ap (flat_map (expanded g)) (chain-append p xs ys) ∙ flat_map-append (expanded g) (chain_rows p xs) (chain_rows p ys)
chain-append (Order' keys _ (Is p At)) xs ys = refl
chain-append (Distinct' _ (Is p At)) xs ys = refl
chain-append (Limit' n k _ (Is p At)) xs ys = refl
chain-append (Aggregate' made _ (Is p At)) xs ys = refl

-- a chain works on each row alone
pub chain_by_row : (n : NestedPlan) (outer : List Row) → chain_rows n outer ≡ flat_map (λ row. chain_rows n (row ∷ [])) outer
chain_by_row n [] = chain-none n
chain_by_row n (row ∷ outer) = chain-append n (row ∷ []) outer ∙ ap (λ (more : List Row). chain_rows n (row ∷ []) ++ more) (chain_by_row n outer)

same_order : (t : Bool) (rows : List Row) → IsOrderOf t rows rows
same_order true rows = refl
same_order false rows = IsPermutation-refl rows

-- what a chain makes is allowed
pub chain_allowed : (n : NestedPlan) (outer : List Row) → is_chain n ≡ true → NAllows n outer (chain_rows n outer)
chain_allowed Nested outer e = IsPermutation-refl outer
chain_allowed (Assign' made _ (Is p At)) outer e = (chain_rows p outer, chain_allowed p outer e, refl)
chain_allowed (Select' c _ (Is p At)) outer e = (chain_rows p outer, chain_allowed p outer e, refl)
chain_allowed (Project' columns _ (Is p At)) outer e = (chain_rows p outer, chain_allowed p outer e, refl)
chain_allowed (Unnest' g _ (Is p At)) outer e = (chain_rows p outer, chain_allowed p outer e, same_order (n_ordered p) (flat_map (expanded g) (chain_rows p outer)))
chain_allowed (Order' keys _ (Is p At)) outer e = absurd (cc)
chain_allowed (Distinct' _ (Is p At)) outer e = absurd (cc)
chain_allowed (Limit' n k _ (Is p At)) outer e = absurd (cc)
chain_allowed (Aggregate' made _ (Is p At)) outer e = absurd (cc)

-- a claim of a number of values is one of each row that has it
pub each_row : (P : ℕ → Type 0) (w : ℕ) → P w → (rows : List Row) → AreWide w rows → All (λ row. P (length row)) rows
each_row P w h rows wide = All-from_recursion (λ row. P (length row)) rows (each rows wide)
  where
    each : (rows : List Row) → AreWide w rows → AllByRecursion (λ row. P (length row)) rows
    each [] wide = tt
    each (row ∷ rows) wide = (subst P (sym wide.0) h, each rows wide.1)

-- the same of the rows that a plan allows
pub each_allowed : (P : ℕ → Type 0) (n : NestedPlan) (w : ℕ) (outer rows : List Row) → AreWide w outer → NAllows n outer rows → P (n_width n w) → All (λ row. P (length row)) rows
each_allowed P n w outer rows wide allowed h = each_row P (n_width n w) h rows (nested_wide n w outer rows allowed wide)

-- and of those that a chain makes of one row
pub each_made : (P : ℕ → Type 0) (n : NestedPlan) (row : Row) (rows : List Row) → is_chain n ≡ true → rows ≡ chain_rows n (row ∷ []) → P (n_width n (length row)) → All (λ row. P (length row)) rows
each_made P n row rows chain is h = each_allowed P n (length row) (row ∷ []) rows (refl, tt) (subst (NAllows n (row ∷ [])) (sym is) (chain_allowed n (row ∷ []) chain)) h

-- ---- what the operators of a chain read is there

module _ (plan p : NestedPlan) (row : Row) (rows : List Row) (chain : is_chain plan ≡ true) (sound : NSound plan (length row)) (is : rows ≡ chain_rows p (row ∷ [])) where
  pub assign_fits : (made : List Rex) → plan ≡ P.Assign made p → All (λ r. AreSound (length r) made) rows
  unfolding nested_shape nested_hidden row_hidden
  assign_fits made e =
      each_made (λ w. AreSound w made) p row rows (subst (λ n. is_chain n ≡ true) e chain) is (subst (λ n. NSound n (length row)) e sound).1

  pub select_fits : (c : Rex) → plan ≡ P.Select c p → All (λ r. IsSound (length r) c) rows
  unfolding nested_shape nested_hidden row_hidden
  select_fits c e =
      each_made (λ w. IsSound w c) p row rows (subst (λ n. is_chain n ≡ true) e chain) is (subst (λ n. NSound n (length row)) e sound).1

  pub unnest_fits : (g : GenRex) → plan ≡ P.Unnest g p → All (λ r. AreSound (length r) (item_exprs g)) rows
  unfolding nested_shape nested_hidden row_hidden
  unnest_fits g e =
      each_made (λ w. AreSound w (item_exprs g)) p row rows (subst (λ n. is_chain n ≡ true) e chain) is (subst (λ n. NSound n (length row)) e sound).1

-- the number of values of the row at hand
pub wide_at : (w : ℕ) (rows : List Row) (i : ℕ) (row : Row) → i < length rows → row ≡ get_or rows i row → AreWide w rows → length row ≡ w
wide_at w rows i row low at wide = at_place (λ r. length r ≡ w) rows i row low at wide
