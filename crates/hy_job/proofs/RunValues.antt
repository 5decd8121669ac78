-- What activities make of rows of values are rows of values.
use Rattle.std.proofs.Common.{◌≡◌, inl, inr, ◌<◌, ℕ, zero, suc, ℤ, Bool, true, false, Option, Some, None, List, [], ◌∷◌, ◌++◌, map, flat_map, take, drop, length, refl, sym, subst, arith}
use Rattle.std.specs.Prelude.{pos, replicate, ◌-◌}
use Rattle.std.specs.List.{All, AllByRecursion, AllZip, Contains}
use Rattle.std.proofs.lemmas.List.Elements.{All-contains, All-from_recursion, recursion_from_All}
use Rattle.al_value.specs.declared.value.Value.{Value}
use Rattle.al_value.specs.declared.value.Value.TheVariants as V
use Rattle.al_value.specs.Value.{IsValue}
use Rattle.al_agg.specs.declared.agg.Agg.{Agg}
use Rattle.al_agg.specs.declared.agg.Agg.TheVariants as A
use Rattle.al_agg.specs.Agg.{agg, lesser, greater, least, greatest, wrapped, ints_of, present}
use Rattle.al_agg.specs.Part.{width, state_fields, halves, some_sum, sum_fields}
use Rattle.al_agg.proofs.HalfLaws.{high_half-fits, low_half-fits}
use Rattle.al_agg.proofs.AggLaws.{least-append, greatest-append, least-one, greatest-one, least-valid, greatest-valid}
use Rattle.hy_job.specs.declared.nested.AggRex.{AggRex}
use Rattle.hy_job.specs.declared.nested.NestedPlan.{NestedPlan, more_of-NestedPlan as Is, end_of-NestedPlan as At}
use Rattle.hy_job.specs.declared.nested.NestedPlan.TheVariants.{Nested, Assign', Select', Project', Unnest', Order', Distinct', Limit', Aggregate'}
use Rattle.hy_job.specs.declared.job.GroupArg.{GroupArg}
use Rattle.hy_job.specs.declared.job.JoinArg.{JoinArg}
use Rattle.hy_job.specs.declared.job.Kind.{Kind}
use Rattle.hy_job.specs.declared.job.Kind.TheVariants as K
use Rattle.hy_job.specs.Columns.{Row, AreValues, holds, agg_of, agg_values, agg_row, state_row, is_pair, matches, or_alone, padded, joined_as, key_of, Group, rows_in}
use Rattle.hy_job.specs.Literals.{literals, agg_literals, gen_literals, n_literals, group_literals, kind_literals}
use Rattle.hy_job.specs.Nested.{n_ordered, root_aggs, chain_rows, n_state, IsOrderOf, NAllows}
use Rattle.hy_job.specs.Sound.{inputs, is_second}
use Rattle.hy_job.specs.Runs.{StandFor, IsJoined, AreJoined, piece_row, piece_fields, AreGroupValues, first_columns, InFirst, Output}
use Rattle.hy_job.specs.RunLaws.{is_scan, RunsHaveValues}
use Rattle.hy_job.proofs.RunRows.{all_append, all_halves, all_filter, all_take, all_drop, all_moved, all_unflat, all_map, all_flat_map, all_zip, interleaves_all, dealt_all, each_made, received_all}
use Rattle.hy_job.proofs.RowValues.{rows_assigned, cut_valid, rows_cut, rows_expanded, keeps_values, taken_valid, agg_valid, counted_valid, sum_valid as sum_of_valid}

abbrev Valid : List Row → Type 0
Valid = AllByRecursion AreValues

same_valid : (xs ys : List Row) → ys ≡ xs → Valid xs → Valid ys
same_valid xs ys e h = subst Valid (sym e) h

within_valid : (rows kept : List Row) → All (Contains rows) kept → Valid rows → Valid kept
within_valid rows kept h g = each kept (recursion_from_All (Contains rows) kept h)
  where
    each : (xs : List Row) → AllByRecursion (Contains rows) xs → Valid xs
    each [] m = tt
    each (x ∷ xs) m = (All-contains AreValues rows x (All-from_recursion AreValues rows g) m.0, each xs m.1)

-- ---- states

halves_valid : (z : ℤ) → AreValues (halves z)
halves_valid z = (high_half-fits z, (low_half-fits z, tt))

sum_valid : (sum : Option ℤ) → AreValues (sum_fields sum)
sum_valid None = (tt, halves_valid (pos 0))
sum_valid (Some z) = (tt, halves_valid z)

fields_valid : (a : Agg) (vs : List Value) → AllByRecursion IsValue vs → AreValues (state_fields a vs)
unfolding state_fields
fields_valid A.CountAll vs h = halves_valid (wrapped (pos (length vs)))
fields_valid A.Count vs h = halves_valid (wrapped (pos (length (present vs))))
fields_valid A.Sum vs h = sum_valid (some_sum (ints_of vs))
fields_valid A.Min vs h = (least-valid vs (All-from_recursion IsValue vs h), tt)
fields_valid A.Max vs h = (greatest-valid vs (All-from_recursion IsValue vs h), tt)

state_valid : (made : List AggRex) → AreValues (flat_map agg_literals made) → (rows : List Row) → Valid rows → AreValues (state_row made rows)
state_valid [] h rows r = tt
state_valid (a ∷ made) h rows r =
    let both = all_halves IsValue (agg_literals a) (flat_map agg_literals made) h in
    all_append IsValue (state_fields (agg_of a) (agg_values a rows)) (state_row made rows) (fields_valid (agg_of a) (agg_values a rows) (taken_valid a both.0 rows r)) (state_valid made both.1 rows r)

row_valid : (made : List AggRex) → AreValues (flat_map agg_literals made) → (rows : List Row) → Valid rows → AreValues (agg_row made rows)
row_valid [] h rows r = tt
row_valid (a ∷ made) h rows r = let both = all_halves IsValue (agg_literals a) (flat_map agg_literals made) h in (agg_valid (agg_of a) (agg_values a rows) (taken_valid a both.0 rows r), row_valid made both.1 rows r)

-- ---- joined states

lesser_valid : (v w : Value) → IsValue v → IsValue w → IsValue (lesser v w)
lesser_valid v w h g = subst (λ x. IsValue (lesser v x)) (least-one w) (least-valid (v ∷ w ∷ []) (All-from_recursion IsValue (v ∷ w ∷ []) (h, (g, tt))))

greater_valid : (v w : Value) → IsValue v → IsValue w → IsValue (greater v w)
greater_valid v w h g = subst (λ x. IsValue (greater v x)) (greatest-one w) (greatest-valid (v ∷ w ∷ []) (All-from_recursion IsValue (v ∷ w ∷ []) (h, (g, tt))))

stand_least : (fields vs : List Value) → AreValues fields → StandFor A.Min fields vs → IsValue (least vs)
unfolding state_fields
stand_least fields vs h (inl e) = (subst AreValues (sym e) h).0
stand_least fields vs h (inr none) = subst (λ xs. IsValue (least xs)) (sym none.1) tt

stand_greatest : (fields vs : List Value) → AreValues fields → StandFor A.Max fields vs → IsValue (greatest vs)
unfolding state_fields
stand_greatest fields vs h (inl e) = (subst AreValues (sym e) h).0
stand_greatest fields vs h (inr none) = subst (λ xs. IsValue (greatest xs)) (sym none.1) tt

joined_least : (states lists : List (List Value)) → AllByRecursion AreValues states → AllZip (StandFor A.Min) states lists → IsValue (least (flat_map (λ vs. vs) lists))
joined_least [] [] h z = tt
joined_least [] (vs ∷ lists) h z = absurd z
joined_least (s ∷ states) [] h z = absurd z
joined_least (s ∷ states) (vs ∷ lists) h z = subst IsValue (sym (least-append vs (flat_map (λ xs. xs) lists))) (lesser_valid _ _ (stand_least s vs h.0 z.0) (joined_least states lists h.1 z.1))

joined_greatest : (states lists : List (List Value)) → AllByRecursion AreValues states → AllZip (StandFor A.Max) states lists → IsValue (greatest (flat_map (λ vs. vs) lists))
joined_greatest [] [] h z = tt
joined_greatest [] (vs ∷ lists) h z = absurd z
joined_greatest (s ∷ states) [] h z = absurd z
joined_greatest (s ∷ states) (vs ∷ lists) h z = subst IsValue (sym (greatest-append vs (flat_map (λ xs. xs) lists))) (greater_valid _ _ (stand_greatest s vs h.0 z.0) (joined_greatest states lists h.1 z.1))

final_valid : (a : Agg) (states : List (List Value)) (v : Value) → AllByRecursion AreValues states → IsJoined a states v → IsValue v
unfolding agg
final_valid A.CountAll states v h j = subst IsValue (sym j.2) (counted_valid (pos (length (flat_map (λ vs. vs) j.0))))
final_valid A.Count states v h j = subst IsValue (sym j.2) (counted_valid (pos (length (present (flat_map (λ vs. vs) j.0)))))
final_valid A.Sum states v h j = subst IsValue (sym j.2) (sum_of_valid (ints_of (flat_map (λ vs. vs) j.0)))
final_valid A.Min states v h j = subst IsValue (sym j.2) (joined_least states j.0 h j.1)
final_valid A.Max states v h j = subst IsValue (sym j.2) (joined_greatest states j.0 h j.1)

take_valid : (n : ℕ) (row : Row) → AreValues row → AreValues (take n row)
take_valid n row h = all_take IsValue n row h

drop_valid : (n : ℕ) (row : Row) → AreValues row → AreValues (drop n row)
drop_valid n row h = all_drop IsValue n row h

joined_valid : (aggs : List Agg) (rows : List Row) (values : Row) → Valid rows → AreJoined aggs rows values → AreValues values
joined_valid [] rows values h j = subst AreValues (sym j) tt
joined_valid (a ∷ more) rows values h j = subst AreValues (sym j.2) (
  final_valid a (map (take (width a)) rows) j.0 (all_map AreValues AreValues (take (width a)) (take_valid (width a)) rows h) j.3,
  joined_valid more (map (drop (width a)) rows) j.1 (all_map AreValues AreValues (drop (width a)) (drop_valid (width a)) rows h) j.4,
)

-- ---- nested plans

ordered_valid : (b : Bool) (xs ys : List Row) → IsOrderOf b xs ys → Valid xs → Valid ys
ordered_valid true xs ys h g = same_valid xs ys h g
ordered_valid false xs ys h g = all_moved AreValues xs ys h g

nested_valid : (n : NestedPlan) → AreValues (n_literals n) → (outer rows : List Row) → NAllows n outer rows → Valid outer → Valid rows
nested_valid Nested l outer rows a h = all_moved AreValues outer rows a h
nested_valid (Assign' made _ (Is p At)) l outer rows a h = let both = all_halves IsValue (flat_map literals made) (n_literals p) l in same_valid _ rows a.2 (rows_assigned made both.0 a.0 (nested_valid p both.1 outer a.0 a.1 h))
nested_valid (Select' c _ (Is p At)) l outer rows a h = let both = all_halves IsValue (literals c) (n_literals p) l in same_valid _ rows a.2 (all_filter AreValues (holds c) a.0 (nested_valid p both.1 outer a.0 a.1 h))
nested_valid (Project' columns _ (Is p At)) l outer rows a h = same_valid _ rows a.2 (rows_cut columns a.0 (nested_valid p l outer a.0 a.1 h))
nested_valid (Unnest' g _ (Is p At)) l outer rows a h = let both = all_halves IsValue (gen_literals g) (n_literals p) l in ordered_valid (n_ordered p) _ rows a.2 (rows_expanded g both.0 a.0 (nested_valid p both.1 outer a.0 a.1 h))
nested_valid (Order' keys _ (Is p At)) l outer rows a h = all_moved AreValues a.0 rows a.2.0 (nested_valid p l outer a.0 a.1 h)
nested_valid (Distinct' _ (Is p At)) l outer rows a h = within_valid a.0 rows a.2.within (nested_valid p l outer a.0 a.1 h)
nested_valid (Limit' n k _ (Is p At)) l outer rows a h = same_valid _ rows a.2 (all_take AreValues n _ (all_drop AreValues k a.0 (nested_valid p l outer a.0 a.1 h)))
nested_valid (Aggregate' made _ (Is p At)) l outer rows a h =
    let both = all_halves IsValue (flat_map agg_literals made) (n_literals p) l in same_valid _ rows a.2 (row_valid made both.0 a.0 (nested_valid p both.1 outer a.0 a.1 h), tt)

n_state_valid : (n : NestedPlan) → AreValues (n_literals n) → (rows : List Row) → Valid rows → AreValues (n_state n rows)
n_state_valid (Aggregate' made _ (Is p At)) l rows r = let both = all_halves IsValue (flat_map agg_literals made) (n_literals p) l in state_valid made both.0 (chain_rows p rows) (keeps_values p both.1 rows r)
n_state_valid _ l rows r = tt

-- ---- groups and joins

behind_valid : (row new : Row) → AreValues row → AreValues new → AreValues (row ++ new)
behind_valid row new h g = all_append IsValue row new h g

piece_valid : (nested : Option NestedPlan) → AreValues (group_literals nested) → (rows : List Row) → Valid rows → AreValues (piece_fields nested rows)
piece_valid (Some n) l rows r = n_state_valid n l rows r
piece_valid None l rows r = tt

pieces_valid : (arg : GroupArg) → AreValues (group_literals arg.nested) → (pieces : List Group) → AllByRecursion (λ g. Valid (rows_in g)) pieces → Valid (map (piece_row arg) pieces)
pieces_valid arg l pieces h = all_map (λ (g : Group). Valid (rows_in g)) AreValues (piece_row arg) (λ g r. behind_valid (key_of arg.keys g.0) (piece_fields arg.nested (rows_in g)) (cut_valid arg.keys g.0 r.0) (piece_valid arg.nested l (rows_in g) r)) pieces h

group_valid : (nested : Option NestedPlan) (fields : List Row) (values : Row) → Valid fields → AreGroupValues nested fields values → AreValues values
group_valid (Some n) fields values h j = joined_valid (map agg_of (root_aggs n)) fields values h j
group_valid None fields values h j = subst AreValues (sym j) tt

matches_valid : (arg : JoinArg) (rs : List Row) (l : Row) → AreValues l → Valid rs → Valid (matches arg rs l)
matches_valid arg rs l e h = all_map AreValues AreValues (λ r. l ++ r) (λ r f. behind_valid l r e f) _ (all_filter AreValues (is_pair arg l) rs h)

nulls_valid : (n : ℕ) → AreValues (replicate n V.Null)
nulls_valid zero = tt
nulls_valid (suc n) = (tt, nulls_valid n)

alone_valid : (arity : ℕ) (l : Row) (xs : List Row) → AreValues l → Valid xs → Valid (or_alone (padded arity l) xs)
alone_valid arity l [] e h = (behind_valid l (replicate (arity - length l) V.Null) e (nulls_valid (arity - length l)), tt)
alone_valid arity l (x ∷ xs) e h = h

joins_valid : (outer : Bool) (arity : ℕ) (arg : JoinArg) (ls rs : List Row) → Valid ls → Valid rs → Valid (joined_as outer arity arg ls rs)
joins_valid true arity arg ls rs h g = all_flat_map AreValues AreValues _ (λ l e. alone_valid arity l _ e (matches_valid arg rs l e g)) ls h
joins_valid false arity arg ls rs h g = all_flat_map AreValues AreValues _ (λ l e. matches_valid arg rs l e g) ls h

-- ---- what an activity makes

record AreGiven (kind : Kind) (received : ℕ → List Row) (scanned handed : List Row) : Type 0 where
  rows : (input : ℕ) → input < inputs kind → Valid (received input)
  own : is_scan kind ≡ true → Valid scanned
  given : is_second kind ≡ true → Valid handed

in_first : (P : List Row → Type 0) (j : ℕ) (out : List Row) → ((rows : List Row) → P rows → Valid rows) → InFirst P j out → Valid out
in_first P zero out f h = f out h
in_first P (suc j) out f h = same_valid [] out h tt

makes_valid : (kind : Kind) → AreValues (kind_literals kind) → (arity n j : ℕ) (received : ℕ → List Row) (scanned handed out : List Row) → AreGiven kind received scanned handed → Output kind arity n j received scanned handed out → Valid out
makes_valid (K.Scan set) l arity n j received scanned handed out g o = same_valid _ out o (dealt_all AreValues n j scanned (g.own refl))
makes_valid K.One l arity n j received scanned handed out g o = in_first _ j out (λ rows e. same_valid _ rows e (tt, tt)) o
makes_valid (K.Assign made) l arity n j received scanned handed out g o = same_valid _ out o (rows_assigned made l (received 0) (g.rows 0 (omega arith)))
makes_valid (K.Select c) l arity n j received scanned handed out g o = same_valid _ out o (all_filter AreValues (holds c) (received 0) (g.rows 0 (omega arith)))
makes_valid (K.Project columns) l arity n j received scanned handed out g o = same_valid _ out o (rows_cut columns (received 0) (g.rows 0 (omega arith)))
makes_valid (K.Unnest x) l arity n j received scanned handed out g o = same_valid _ out o (rows_expanded x l (received 0) (g.rows 0 (omega arith)))
makes_valid (K.Subplan inner) l arity n j received scanned handed out g o =
    all_zip AreValues AreValues _ (λ r row e h. subst AreValues (sym h.2) (behind_valid r h.0 e (nested_valid inner l (r ∷ []) (h.0 ∷ []) h.1 (e, tt)).0)) (received 0) out (g.rows 0 (omega arith)) o
makes_valid (K.Check name c) l arity n j received scanned handed out g o = same_valid _ out o (g.rows 0 (omega arith))
makes_valid (K.Union ls rs) l arity n j received scanned handed out g o =
    interleaves_all AreValues _ out (rows_cut ls (received 0) (g.rows 0 (omega arith)), (rows_cut rs (received 1) (g.rows 1 (omega arith)), tt)) o
makes_valid (K.Limit m k) l arity n j received scanned handed out g o = same_valid _ out o (all_take AreValues m _ (all_drop AreValues k (received 0) (g.rows 0 (omega arith))))
makes_valid (K.LocalLimit m) l arity n j received scanned handed out g o = same_valid _ out o (all_take AreValues m (received 0) (g.rows 0 (omega arith)))
makes_valid (K.PreGroup keys inner) l arity n j received scanned handed out g o =
    all_zip (λ (x : Group). Valid (rows_in x)) AreValues _ (λ x row e h. subst AreValues (sym h.2) (behind_valid (key_of keys x.0) h.0 (cut_valid keys x.0 e.0) (nested_valid inner l (rows_in x) (h.0 ∷ []) h.1 e).0))
    o.0 out (all_unflat AreValues rows_in o.0 (subst Valid o.1.all (g.rows 0 (omega arith)))) o.2
makes_valid (K.Result columns) l arity n j received scanned handed out g o = same_valid _ out o (rows_cut columns (received 0) (g.rows 0 (omega arith)))
makes_valid (K.SortBuild keys) l arity n j received scanned handed out g o = all_moved AreValues (received 0) out o (g.rows 0 (omega arith))
makes_valid (K.SortEmit keys) l arity n j received scanned handed out g o = all_moved AreValues handed out o.0 (g.given refl)
makes_valid (K.GroupBuild arg) l arity n j received scanned handed out g o =
    same_valid _ out o.2 (pieces_valid arg l o.0 (all_unflat AreValues rows_in o.0 (all_moved AreValues (received 0) _ o.1.moved (g.rows 0 (omega arith)))))
makes_valid (K.GroupEmit arg) l arity n j received scanned handed out g o =
    all_moved AreValues o.1 out o.4 (all_zip (λ (x : Group). Valid (rows_in x)) AreValues _
    (λ x row e h. subst AreValues (sym h.2) (behind_valid (key_of (first_columns arg) x.0) h.0 (cut_valid (first_columns arg) x.0 e.0) (group_valid arg.nested _ h.0 (all_map AreValues AreValues (drop (length arg.keys)) (drop_valid (length arg.keys)) (rows_in x) e) h.1)))
    o.0 o.1 (all_unflat AreValues rows_in o.0 (all_moved AreValues handed _ o.2.moved (g.given refl))) o.3)
makes_valid (K.JoinBuild arg) l arity n j received scanned handed out g o = all_moved AreValues (received 0) out o (g.rows 0 (omega arith))
makes_valid (K.JoinProbe arg) l arity n j received scanned handed out g o = all_moved AreValues _ out o (joins_valid arg.outer arity arg (received 0) handed (g.rows 0 (omega arith)) (g.given refl))
makes_valid (K.AggPart made) l arity n j received scanned handed out g o = same_valid _ out o (state_valid made l (received 0) (g.rows 0 (omega arith)), tt)
makes_valid (K.AggFinal made) l arity n j received scanned handed out g o = in_first _ j out (λ rows h. same_valid _ rows h.2 (joined_valid made (received 0) h.0 (g.rows 0 (omega arith)) h.1, tt)) o

pub runs_have_values : RunsHaveValues
runs_have_values job a l j took put fits run = each_made AreValues job a j took put run
    (makes_valid a.kind l a.arity job.partitions j run.received took.scanned took.handed run.made
    (record {
      rows = λ input lt. received_all (λ i row. AreValues row) job a.number took.rows input (run.received input) fits.rows (run.receives input lt);
      own = fits.scanned;
      given = fits.handed;
    }) run.makes)
