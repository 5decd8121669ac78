-- How wide the rows are that activities make.
use Rattle.std.proofs.Common.{◌≡◌, ◌<◌, ◌+◌, ◌-◌, ℕ, zero, suc, Bool, true, false, Option, Some, None, List, [], ◌∷◌, ◌++◌, map, flat_map, length, refl, ap, sym, subst, ◌∙◌, arith}
use Rattle.std.specs.List.{All, AllByRecursion, Contains, sum_by}
use Rattle.std.specs.List.Sorted.{IsPermutation}
use Rattle.std.proofs.lemmas.List.{length-append, length-map, length-replicate}
use Rattle.std.proofs.lemmas.List.Concat.{length-flat_map}
use Rattle.std.proofs.lemmas.List.FromFn.{length-range_with_len}
use Rattle.std.proofs.lemmas.List.Elements.{All-contains, All-from_recursion, recursion_from_All}
use Rattle.std.specs.Prelude.{ℤ, replicate}
use Rattle.al_value.specs.declared.value.Value.{Value}
use Rattle.al_value.specs.declared.value.Value.TheVariants as V
use Rattle.al_func.specs.declared.rex.Rex.{Rex}
use Rattle.al_func.specs.Rex.{eval_rex}
use Rattle.al_agg.specs.declared.agg.Agg.{Agg}
use Rattle.al_agg.specs.declared.agg.Agg.TheVariants as A
use Rattle.al_agg.specs.Agg.{ints_of}
use Rattle.al_agg.specs.Part.{width, state_fields, some_sum, sum_fields}
use Rattle.hy_job.specs.declared.nested.AggRex.{AggRex}
use Rattle.hy_job.specs.declared.nested.GenRex.{GenRex}
use Rattle.hy_job.specs.declared.nested.NestedPlan.{NestedPlan, more_of-NestedPlan as Is, end_of-NestedPlan as At}
use Rattle.hy_job.specs.declared.nested.NestedPlan.TheVariants.{Nested, Assign', Select', Project', Unnest', Order', Distinct', Limit', Aggregate'}
use Rattle.hy_job.specs.declared.job.GroupArg.{GroupArg}
use Rattle.hy_job.specs.declared.job.JoinArg.{JoinArg}
use Rattle.hy_job.specs.declared.job.Kind.{Kind}
use Rattle.hy_job.specs.declared.job.Kind.TheVariants as K
use Rattle.hy_job.specs.declared.job.Activity.{Activity}
use Rattle.hy_job.specs.Columns.{Row, column, holds, agg_value, cut, assigned, expanded, items, agg_of, agg_values, state_row, is_pair, matches, or_alone, padded, joined_as, joined, key_of, Group, rows_in}
use Rattle.hy_job.specs.Nested.{n_width, n_ordered, root_aggs, chain_rows, n_state, IsOrderOf, NAllows}
use Rattle.hy_job.specs.Sound.{Widths, widths_of, inputs, states_width, built_fields, made_fields, HasArity, is_second, width_in}
use Rattle.hy_job.specs.Runs.{AreJoined, piece_row, piece_fields, AreGroupValues, first_columns, InFirst, Output}
use Rattle.hy_job.specs.RunLaws.{AreWide, is_scan, RunsFit}
use Rattle.hy_job.proofs.RunRows.{all_filter, all_take, all_drop, all_moved, all_unflat, all_map, all_flat_map, all_zip, all_any, interleaves_all, dealt_all, each_made, received_all}

-- ---- rows

assigned_wide : (made : List Rex) (w : ℕ) (row : Row) → length row ≡ w → length (assigned made row) ≡ w + length made
assigned_wide made w row e =
    let all = length-append row (map (λ e. eval_rex e row) made) in
    let new = length-map made (λ e. eval_rex e row) in
    omega (arith, all, new, e)

cut_wide : (columns : List ℕ) (row : Row) → length (cut columns row) ≡ length columns
cut_wide columns row = length-map columns (column row)

beside_wide : (w v : ℕ) (row new : Row) → length row ≡ w → length new ≡ v → length (row ++ new) ≡ w + v
beside_wide w v row new e f = let all = length-append row new in omega (arith, all, e, f)

expanded_wide : (g : GenRex) (w : ℕ) (row : Row) → length row ≡ w → AreWide (w + 1) (expanded g row)
expanded_wide g w row e = each (items g row)
  where
    each : (xs : List Value) → AreWide (w + 1) (map (λ x. row ++ x ∷ []) xs)
    each [] = tt
    each (x ∷ xs) = (beside_wide w 1 row (x ∷ []) e refl, each xs)

cuts_wide : (columns : List ℕ) (rows : List Row) → AreWide (length columns) (map (cut columns) rows)
cuts_wide columns [] = tt
cuts_wide columns (row ∷ rows) = (cut_wide columns row, cuts_wide columns rows)

assigns_wide : (made : List Rex) (w : ℕ) (rows : List Row) → AreWide w rows → AreWide (w + length made) (map (assigned made) rows)
assigns_wide made w rows h = all_map (λ row. length row ≡ w) (λ row. length row ≡ w + length made) (assigned made) (λ row e. assigned_wide made w row e) rows h

expands_wide : (g : GenRex) (w : ℕ) (rows : List Row) → AreWide w rows → AreWide (w + 1) (flat_map (expanded g) rows)
expands_wide g w rows h = all_flat_map (λ row. length row ≡ w) (λ row. length row ≡ w + 1) (expanded g) (λ row e. expanded_wide g w row e) rows h

moved_wide : (w : ℕ) (xs ys : List Row) → IsPermutation xs ys → AreWide w xs → AreWide w ys
moved_wide w = all_moved (λ row. length row ≡ w)

same_wide : (w : ℕ) (xs ys : List Row) → ys ≡ xs → AreWide w xs → AreWide w ys
same_wide w xs ys e h = subst (AreWide w) (sym e) h

-- rows each of which is one of these
within_wide : (w : ℕ) (rows kept : List Row) → All (Contains rows) kept → AreWide w rows → AreWide w kept
within_wide w rows kept h g = each kept (recursion_from_All (Contains rows) kept h)
  where
    each : (xs : List Row) → AllByRecursion (Contains rows) xs → AreWide w xs
    each [] m = tt
    each (x ∷ xs) m = (All-contains (λ row. length row ≡ w) rows x (All-from_recursion (λ row. length row ≡ w) rows g) m.0, each xs m.1)

-- ---- states

sum_wide : (ns : List ℤ) → length (sum_fields (some_sum ns)) ≡ 3
sum_wide [] = refl
sum_wide (n ∷ ns) = refl

fields_wide : (a : Agg) (vs : List Value) → length (state_fields a vs) ≡ width a
unfolding state_fields
fields_wide A.CountAll vs = refl
fields_wide A.Count vs = refl
fields_wide A.Sum vs = sum_wide (ints_of vs)
fields_wide A.Min vs = refl
fields_wide A.Max vs = refl

states_wide : (made : List AggRex) (rows : List Row) → length (state_row made rows) ≡ states_width made
states_wide made rows =
    length-flat_map (λ a. state_fields (agg_of a) (agg_values a rows)) made ∙ ap (λ (f : AggRex → ℕ). sum_by f made) (λ i a. fields_wide (agg_of a) (agg_values a rows) i)

-- ---- nested plans

ordered_wide : (b : Bool) (w : ℕ) (xs ys : List Row) → IsOrderOf b xs ys → AreWide w xs → AreWide w ys
ordered_wide true w xs ys h g = same_wide w xs ys h g
ordered_wide false w xs ys h g = moved_wide w xs ys h g

pub nested_wide : (n : NestedPlan) (w : ℕ) (outer rows : List Row) → NAllows n outer rows → AreWide w outer → AreWide (n_width n w) rows
nested_wide Nested w outer rows a h = moved_wide w outer rows a h
nested_wide (Assign' made _ (Is p At)) w outer rows a h = same_wide _ _ rows a.2 (assigns_wide made (n_width p w) a.0 (nested_wide p w outer a.0 a.1 h))
nested_wide (Select' c _ (Is p At)) w outer rows a h = same_wide _ _ rows a.2 (all_filter (λ row. length row ≡ n_width p w) (holds c) a.0 (nested_wide p w outer a.0 a.1 h))
nested_wide (Project' columns _ (Is p At)) w outer rows a h = same_wide _ _ rows a.2 (cuts_wide columns a.0)
nested_wide (Unnest' g _ (Is p At)) w outer rows a h = ordered_wide (n_ordered p) _ _ rows a.2 (expands_wide g (n_width p w) a.0 (nested_wide p w outer a.0 a.1 h))
nested_wide (Order' keys _ (Is p At)) w outer rows a h = moved_wide _ a.0 rows a.2.0 (nested_wide p w outer a.0 a.1 h)
nested_wide (Distinct' _ (Is p At)) w outer rows a h = within_wide _ a.0 rows a.2.within (nested_wide p w outer a.0 a.1 h)
nested_wide (Limit' n k _ (Is p At)) w outer rows a h =
    same_wide _ _ rows a.2 (all_take (λ row. length row ≡ n_width p w) n _ (all_drop (λ row. length row ≡ n_width p w) k a.0 (nested_wide p w outer a.0 a.1 h)))
nested_wide (Aggregate' made _ (Is p At)) w outer rows a h = same_wide _ _ rows a.2 (length-map made (λ x. agg_value x a.0), tt)

-- the one row that a nested plan gives
one_wide : (n : NestedPlan) (w : ℕ) (outer : List Row) (inner : Row) → NAllows n outer (inner ∷ []) → AreWide w outer → length inner ≡ n_width n w
one_wide n w outer inner a h = (nested_wide n w outer (inner ∷ []) a h).0

n_state_wide : (n : NestedPlan) (rows : List Row) → length (n_state n rows) ≡ states_width (root_aggs n)
n_state_wide (Aggregate' made _ (Is p At)) rows = states_wide made (chain_rows p rows)
n_state_wide _ rows = refl

-- ---- groups and joins

piece_wide : (nested : Option NestedPlan) (rows : List Row) → length (piece_fields nested rows) ≡ built_fields nested
piece_wide (Some n) rows = n_state_wide n rows
piece_wide None rows = refl

pieces_wide : (arg : GroupArg) (pieces : List Group) → AreWide (length arg.keys + built_fields arg.nested) (map (piece_row arg) pieces)
pieces_wide arg [] = tt
pieces_wide arg (g ∷ pieces) = (beside_wide _ _ (key_of arg.keys g.0) (piece_fields arg.nested (rows_in g)) (cut_wide arg.keys g.0) (piece_wide arg.nested (rows_in g)), pieces_wide arg pieces)

joined_values : (aggs : List Agg) (rows : List Row) (values : Row) → AreJoined aggs rows values → length values ≡ length aggs
joined_values [] rows values h = ap length h
joined_values (a ∷ more) rows values h = let rest = joined_values more _ h.1 h.4 in ap length h.2 ∙ omega (arith, rest)

group_values : (nested : Option NestedPlan) (fields : List Row) (values : Row) → AreGroupValues nested fields values → length values ≡ made_fields nested
group_values (Some n) fields values h = joined_values (map agg_of (root_aggs n)) fields values h ∙ length-map (root_aggs n) agg_of
group_values None fields values h = ap length h

matches_wide : (arg : JoinArg) (w v : ℕ) (rs : List Row) (l : Row) → length l ≡ w → AreWide v rs → AreWide (w + v) (matches arg rs l)
matches_wide arg w v rs l e h = all_map (λ r. length r ≡ v) (λ r. length r ≡ w + v) (λ r. l ++ r) (λ r f. beside_wide w v l r e f) _ (all_filter (λ r. length r ≡ v) (is_pair arg l) rs h)

alone_wide : (w : ℕ) (l : Row) (xs : List Row) → length l ≡ w → AreWide w xs → AreWide w (or_alone l xs)
alone_wide w l [] e h = (e, tt)
alone_wide w l (x ∷ xs) e h = h

padded_wide : (w v : ℕ) (l : Row) → length l ≡ w → length (padded (w + v) l) ≡ w + v
padded_wide w v l e =
    let all = length-append l (replicate ((w + v) - length l) V.Null) in
    let new = length-replicate ((w + v) - length l) V.Null in
    omega (arith, all, new, e)

joins_wide : (outer : Bool) (arg : JoinArg) (w v : ℕ) (ls rs : List Row) → AreWide w ls → AreWide v rs → AreWide (w + v) (joined_as outer (w + v) arg ls rs)
joins_wide true arg w v ls rs h g = all_flat_map (λ l. length l ≡ w) (λ r. length r ≡ w + v) _ (λ l e. alone_wide (w + v) (padded (w + v) l) _ (padded_wide w v l e) (matches_wide arg w v rs l e g)) ls h
joins_wide false arg w v ls rs h g = all_flat_map (λ l. length l ≡ w) (λ r. length r ≡ w + v) _ (λ l e. matches_wide arg w v rs l e g) ls h

-- ---- what an activity makes

-- what it is given is as wide as it sees it
record AreGiven (kind : Kind) (w : Widths) (arity : ℕ) (received : ℕ → List Row) (scanned handed : List Row) : Type 0 where
  rows : (input : ℕ) → input < inputs kind → AreWide (w.taken input) (received input)
  own : is_scan kind ≡ true → AreWide arity scanned
  given : is_second kind ≡ true → AreWide w.handed handed

in_first : (P : List Row → Type 0) (w j : ℕ) (out : List Row) → ((rows : List Row) → P rows → AreWide w rows) → InFirst P j out → AreWide w out
in_first P w zero out f h = f out h
in_first P w (suc j) out f h = same_wide w [] out h tt

makes_wide : (kind : Kind) (w : Widths) (arity n j : ℕ) (received : ℕ → List Row) (scanned handed out : List Row) → HasArity kind w arity → AreGiven kind w arity received scanned handed → Output kind arity n j received scanned handed out → AreWide arity out
makes_wide (K.Scan set) w arity n j received scanned handed out a g o = same_wide _ _ out o (dealt_all (λ row. length row ≡ arity) n j scanned (g.own refl))
makes_wide K.One w arity n j received scanned handed out a g o = in_first _ arity j out (λ rows e. same_wide _ _ rows e (sym a, tt)) o
makes_wide (K.Assign made) w arity n j received scanned handed out a g o = subst (λ x. AreWide x out) (sym a) (same_wide _ _ out o (assigns_wide made (w.taken 0) (received 0) (g.rows 0 (omega arith))))
makes_wide (K.Select c) w arity n j received scanned handed out a g o = subst (λ x. AreWide x out) (sym a) (same_wide _ _ out o (all_filter (λ row. length row ≡ w.taken 0) (holds c) (received 0) (g.rows 0 (omega arith))))
makes_wide (K.Project columns) w arity n j received scanned handed out a g o = subst (λ x. AreWide x out) (sym a) (same_wide _ _ out o (cuts_wide columns (received 0)))
makes_wide (K.Unnest x) w arity n j received scanned handed out a g o = subst (λ x. AreWide x out) (sym a) (same_wide _ _ out o (expands_wide x (w.taken 0) (received 0) (g.rows 0 (omega arith))))
makes_wide (K.Subplan inner) w arity n j received scanned handed out a g o = subst (λ x. AreWide x out) (sym a)
    (all_zip (λ row. length row ≡ w.taken 0) (λ row. length row ≡ w.taken 0 + n_width inner (w.taken 0)) _
    (λ r row e h. ap length h.2 ∙ beside_wide (w.taken 0) (n_width inner (w.taken 0)) r h.0 e (one_wide inner (w.taken 0) (r ∷ []) h.0 h.1 (e, tt))) (received 0) out (g.rows 0 (omega arith)) o)
makes_wide (K.Check name c) w arity n j received scanned handed out a g o = subst (λ x. AreWide x out) (sym a) (same_wide _ _ out o (g.rows 0 (omega arith)))
makes_wide (K.Union ls rs) w arity n j received scanned handed out a g o =
    interleaves_all (λ row. length row ≡ arity) _ out (subst (λ x. AreWide x (map (cut ls) (received 0))) (sym a.0) (cuts_wide ls (received 0)), (subst (λ x. AreWide x (map (cut rs) (received 1))) (sym a.1) (cuts_wide rs (received 1)), tt)) o
makes_wide (K.Limit m k) w arity n j received scanned handed out a g o = subst (λ x. AreWide x out) (sym a)
    (same_wide _ _ out o (all_take (λ row. length row ≡ w.taken 0) m _ (all_drop (λ row. length row ≡ w.taken 0) k (received 0) (g.rows 0 (omega arith)))))
makes_wide (K.LocalLimit m) w arity n j received scanned handed out a g o = subst (λ x. AreWide x out) (sym a) (same_wide _ _ out o (all_take (λ row. length row ≡ w.taken 0) m (received 0) (g.rows 0 (omega arith))))
makes_wide (K.PreGroup keys inner) w arity n j received scanned handed out a g o = subst (λ x. AreWide x out) (sym a)
    (all_zip (λ (x : Group). AreWide (w.taken 0) (rows_in x)) (λ row. length row ≡ length keys + n_width inner (w.taken 0)) _
    (λ x row e h. ap length h.2 ∙ beside_wide (length keys) (n_width inner (w.taken 0)) (key_of keys x.0) h.0 (cut_wide keys x.0) (one_wide inner (w.taken 0) (rows_in x) h.0 h.1 e))
    o.0 out (all_unflat (λ row. length row ≡ w.taken 0) rows_in o.0 (subst (AreWide (w.taken 0)) o.1.all (g.rows 0 (omega arith)))) o.2)
makes_wide (K.Result columns) w arity n j received scanned handed out a g o = subst (λ x. AreWide x out) (sym a) (same_wide _ _ out o (cuts_wide columns (received 0)))
makes_wide (K.SortBuild keys) w arity n j received scanned handed out a g o = subst (λ x. AreWide x out) (sym a) (moved_wide _ (received 0) out o (g.rows 0 (omega arith)))
makes_wide (K.SortEmit keys) w arity n j received scanned handed out a g o = subst (λ x. AreWide x out) (sym a) (moved_wide _ handed out o.0 (g.given refl))
makes_wide (K.GroupBuild arg) w arity n j received scanned handed out a g o = subst (λ x. AreWide x out) (sym a) (same_wide _ _ out o.2 (pieces_wide arg o.0))
makes_wide (K.GroupEmit arg) w arity n j received scanned handed out a g o = subst (λ x. AreWide x out) (sym a)
    (moved_wide _ o.1 out o.4 (all_zip (λ (x : Group). Unit {0}) (λ row. length row ≡ length arg.keys + made_fields arg.nested) _
    (λ x row u h. ap length h.2 ∙ beside_wide (length arg.keys) (made_fields arg.nested) (key_of (first_columns arg) x.0) h.0 (cut_wide (first_columns arg) x.0 ∙ length-range_with_len 0 (length arg.keys)) (group_values arg.nested _ h.0 h.1))
    o.0 o.1 (all_any (λ (x : Group). Unit {0}) (λ x. tt) o.0) o.3))
makes_wide (K.JoinBuild arg) w arity n j received scanned handed out a g o = subst (λ x. AreWide x out) (sym a) (moved_wide _ (received 0) out o (g.rows 0 (omega arith)))
makes_wide (K.JoinProbe arg) w arity n j received scanned handed out a g o = subst (λ x. AreWide x out) (sym a)
    (moved_wide _ _ out (subst (λ x. IsPermutation (joined x arg (received 0) handed) out) a o) (joins_wide arg.outer arg (w.taken 0) w.handed (received 0) handed (g.rows 0 (omega arith)) (g.given refl)))
makes_wide (K.AggPart made) w arity n j received scanned handed out a g o = same_wide _ _ out o (states_wide made (received 0) ∙ sym a, tt)
makes_wide (K.AggFinal made) w arity n j received scanned handed out a g o = in_first _ arity j out (λ rows h. same_wide _ _ rows h.2 (joined_values made (received 0) h.0 h.1 ∙ sym a, tt)) o

pub runs_fit : RunsFit
runs_fit job sound a m j took put fits run = each_made (λ row. length row ≡ a.arity) job a j took put run
    (makes_wide a.kind (widths_of job a.number) a.arity job.partitions j run.received took.scanned took.handed run.made
    (All-contains (λ (x : Activity). HasArity x.kind (widths_of job x.number) x.arity) job.activities a (All-from_recursion (λ (x : Activity). HasArity x.kind (widths_of job x.number) x.arity) job.activities sound.arities) m)
    (record {
      rows = λ input lt. received_all (λ i row. length row ≡ width_in job a.number i) job a.number took.rows input (run.received input) fits.rows (run.receives input lt);
      own = fits.scanned;
      given = fits.handed;
    }) run.makes)
