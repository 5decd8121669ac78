-- What is made of rows of values are values, where the literals are.
use Rattle.std.proofs.Common.{◌≡◌, ℕ, Bool, true, false, cond, List, [], ◌∷◌, ◌++◌, map, filter, flat_map, refl}
use Rattle.std.specs.Prelude.{ℤ, pos, FitsSigned, if◌then◌else◌, length}
use Rattle.std.specs.Int.{w64}
use Rattle.std.specs.List.{AllByRecursion}
use Rattle.std.proofs.lemmas.List.Elements.{All-from_recursion}
use Rattle.al_value.specs.declared.value.Value.{Value}
use Rattle.al_value.specs.declared.value.Value.TheVariants as V
use Rattle.al_value.specs.Value.{IsValue}
use Rattle.al_func.specs.declared.rex.Rex.{Rex}
use Rattle.al_func.specs.Rex.{eval_rex}
use Rattle.al_agg.specs.declared.agg.Agg.{Agg}
use Rattle.al_agg.specs.declared.agg.Agg.TheVariants as G
use Rattle.al_agg.specs.Agg.{agg, counted, wrapped, is_i64, sum_of, total, present, ints_of}
use Rattle.al_agg.proofs.AggLaws.{least-valid, greatest-valid}
use Rattle.hy_job.specs.declared.nested.GenRex.{GenRex}
use Rattle.hy_job.specs.declared.nested.AggRex.{AggRex}
use Rattle.hy_job.specs.declared.nested.AggRex.TheVariants as A
use Rattle.hy_job.specs.declared.nested.NestedPlan.{NestedPlan, more_of-NestedPlan as Is, end_of-NestedPlan as At}
use Rattle.hy_job.specs.declared.nested.NestedPlan.TheVariants.{Nested, Assign', Select', Project', Unnest', Order', Distinct', Limit', Aggregate'}
use Rattle.hy_job.specs.Columns.{Row, AreValues, holds, cut, assigned, expanded, items, agg_values}
use Rattle.hy_job.specs.Nested.{chain_rows}
use Rattle.hy_job.specs.Literals.{literals, agg_literals, gen_literals, n_literals}
use Rattle.hy_job.proofs.RunRows.{all_append, all_halves}
use Rattle.hy_job.proofs.ExprValues.{eval_valid, items_valid, col_valid, fits_from}

-- ---- rows of values

assigned_valid : (made : List Rex) → AllByRecursion IsValue (flat_map literals made) → (row : Row) → AreValues row → AllByRecursion IsValue (map (λ e. eval_rex e row) made)
assigned_valid [] h row r = tt
assigned_valid (e ∷ made) h row r = let both = all_halves IsValue (literals e) (flat_map literals made) h in (eval_valid e both.0 row r, assigned_valid made both.1 row r)

pub rows_assigned : (made : List Rex) → AllByRecursion IsValue (flat_map literals made) → (rows : List Row) → AllByRecursion AreValues rows → AllByRecursion AreValues (map (assigned made) rows)
rows_assigned made h [] r = tt
rows_assigned made h (row ∷ rows) r = (all_append IsValue row (map (λ e. eval_rex e row) made) r.0 (assigned_valid made h row r.0), rows_assigned made h rows r.1)

rows_kept : (p : Row → Bool) (rows : List Row) → AllByRecursion AreValues rows → AllByRecursion AreValues (filter p rows)
rows_kept p [] r = tt
rows_kept p (row ∷ rows) r = by (p row) (rows_kept p rows r.1)
  where
    by : (b : Bool) → AllByRecursion AreValues (filter p rows) → AllByRecursion AreValues (cond b (row ∷ filter p rows) (filter p rows))
    by true h = (r.0, h)
    by false h = h

pub cut_valid : (columns : List ℕ) (row : Row) → AreValues row → AreValues (cut columns row)
cut_valid [] row r = tt
cut_valid (j ∷ columns) row r = (col_valid row j r, cut_valid columns row r)

pub rows_cut : (columns : List ℕ) (rows : List Row) → AllByRecursion AreValues rows → AllByRecursion AreValues (map (cut columns) rows)
rows_cut columns [] r = tt
rows_cut columns (row ∷ rows) r = (cut_valid columns row r.0, rows_cut columns rows r.1)

each_item : (row xs : Row) → AreValues row → AreValues xs → AllByRecursion AreValues (map (λ x. row ++ x ∷ []) xs)
each_item row [] r h = tt
each_item row (x ∷ xs) r h = (all_append IsValue row (x ∷ []) r (h.0, tt), each_item row xs r h.1)

pub rows_expanded : (g : GenRex) → AllByRecursion IsValue (gen_literals g) → (rows : List Row) → AllByRecursion AreValues rows → AllByRecursion AreValues (flat_map (expanded g) rows)
rows_expanded g h [] r = tt
rows_expanded g h (row ∷ rows) r = all_append AreValues (expanded g row) (flat_map (expanded g) rows) (each_item row (items g row) r.0 (items_valid g h row r.0)) (rows_expanded g h rows r.1)

-- ---- chains

pub keeps_values : (n : NestedPlan) → AllByRecursion IsValue (n_literals n) → (rows : List Row) → AllByRecursion AreValues rows → AllByRecursion AreValues (chain_rows n rows)
keeps_values Nested h rows r = r
keeps_values (Assign' made _ (Is p At)) h rows r =
    let both = all_halves IsValue (flat_map literals made) (n_literals p) h in rows_assigned made both.0 (chain_rows p rows) (keeps_values p both.1 rows r)
keeps_values (Select' c _ (Is p At)) h rows r =
    let both = all_halves IsValue (literals c) (n_literals p) h in rows_kept (holds c) (chain_rows p rows) (keeps_values p both.1 rows r)
keeps_values (Project' columns _ (Is p At)) h rows r = rows_cut columns (chain_rows p rows) (keeps_values p h rows r)
keeps_values (Unnest' g _ (Is p At)) h rows r =
    let both = all_halves IsValue (gen_literals g) (n_literals p) h in rows_expanded g both.0 (chain_rows p rows) (keeps_values p both.1 rows r)
keeps_values (Order' keys _ (Is p At)) h rows r = tt
keeps_values (Distinct' _ (Is p At)) h rows r = tt
keeps_values (Limit' n k _ (Is p At)) h rows r = tt
keeps_values (Aggregate' made _ (Is p At)) h rows r = tt

-- ---- aggregates

each_null : (rows : List Row) → AllByRecursion IsValue (map (λ row. V.Null) rows)
each_null [] = tt
each_null (row ∷ rows) = (tt, each_null rows)

each_value : (e : Rex) → AllByRecursion IsValue (literals e) → (rows : List Row) → AllByRecursion AreValues rows → AllByRecursion IsValue (map (eval_rex e) rows)
each_value e h [] r = tt
each_value e h (row ∷ rows) r = (eval_valid e h row r.0, each_value e h rows r.1)

pub taken_valid : (a : AggRex) → AllByRecursion IsValue (agg_literals a) → (rows : List Row) → AllByRecursion AreValues rows → AllByRecursion IsValue (agg_values a rows)
taken_valid A.CountAll h rows r = each_null rows
taken_valid (A.Count e) h rows r = each_value e h rows r
taken_valid (A.Sum e) h rows r = each_value e h rows r
taken_valid (A.Min e) h rows r = each_value e h rows r
taken_valid (A.Max e) h rows r = each_value e h rows r

-- ---- values of aggregates

fitted_valid : (b : Bool) (z : ℤ) → (b ≡ true → FitsSigned w64 z) → IsValue (if b then V.Int z else V.Null)
fitted_valid true z h = h refl
fitted_valid false z h = tt

pub counted_valid : (z : ℤ) → IsValue (counted z)
counted_valid z = fitted_valid (is_i64 (wrapped z)) (wrapped z) (fits_from (wrapped z))

pub sum_valid : (ns : List ℤ) → IsValue (sum_of ns)
sum_valid [] = tt
sum_valid (n ∷ ns) = counted_valid (total (n ∷ ns))

pub agg_valid : (a : Agg) (vs : List Value) → AllByRecursion IsValue vs → IsValue (agg a vs)
unfolding agg
agg_valid G.CountAll vs h = counted_valid (pos (length vs))
agg_valid G.Count vs h = counted_valid (pos (length (present vs)))
agg_valid G.Sum vs h = sum_valid (ints_of vs)
agg_valid G.Min vs h = least-valid vs (All-from_recursion IsValue vs h)
agg_valid G.Max vs h = greatest-valid vs (All-from_recursion IsValue vs h)
