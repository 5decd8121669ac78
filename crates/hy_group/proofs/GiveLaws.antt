-- What is given for groups is what their activity makes of the rows for which they stand.
use Rattle.std.proofs.Common.{Ok, ◌≡◌, ◌≤◌, ◌<◌, ◌+◌, ℕ, zero, suc, Bool, true, false, List, [], ◌∷◌, ◌++◌, map, flat_map, take, length, get_or, Option, Some, None, refl, sym, ap, subst, ◌∙◌, arith, append_assoc, append-nil}
use Rattle.std.specs.List.{AllZip, range_with_len}
use Rattle.std.proofs.lemmas.List.{length-map}
use Rattle.std.specs.List.Sorted.{IsPermutation}
use Rattle.std.proofs.lemmas.List.Sorted.{IsPermutation-trans, IsPermutation-cons, IsPermutation-append_comm, length_permutation}
use Rattle.al_value.specs.declared.value.Value.{Value}
use Rattle.al_agg.specs.declared.agg.Agg.{Agg}
use Rattle.al_agg.specs.declared.part.Part.{Part}
use Rattle.al_agg.specs.Agg.{agg}
use Rattle.hy_job.specs.declared.nested.NestedPlan.{NestedPlan}
use Rattle.hy_job.specs.declared.job.GroupArg.{GroupArg}
use Rattle.hy_job.specs.Columns as spec
use Rattle.hy_job.specs.Columns.{Row, Group, column, cut, key_of, rows_in}
use Rattle.hy_job.specs.Runs.{AreGroupValues, AreJoined, IsGroupOf, first_columns}
use Rattle.hy_frame.specs.Row.{Fields}
use Rattle.hy_driver.specs.Rows.{value_of, values_of}
use Rattle.hy_group.specs.Emit.{AreGiven, Finishes, IsFinished, IsGiven, IsTaken, TakesOut}
use Rattle.hy_group.specs.Fresh.{aggs_of}
use Rattle.hy_group.specs.Groups.{Added, Entry, IsKept, StandFor}
use Rattle.hy_group.specs.Joining.{HaveJoined, handed_sees}
use Rattle.hy_group.proofs.JoinLaws.{both_zip}
use Rattle.hy_group.proofs.SomeLaws.{IsRowOf, is_grouping}

joined_values : (aggs : List Agg) (fields : List Row) (states : List Part) (values : Row) → HaveJoined aggs fields states → AllZip IsFinished states values → AreJoined aggs fields values
joined_values [] fields [] [] h f = refl
joined_values [] fields [] (v ∷ vs) h f = absurd f
joined_values [] fields (p ∷ ps) values h f = absurd h
joined_values (a ∷ aggs) fields [] values h f = absurd h
joined_values (a ∷ aggs) fields (p ∷ ps) [] h f = absurd f
joined_values (a ∷ aggs) fields (p ∷ ps) (v ∷ vs) h f = (
  v,
  vs,
  refl,
  (h.0.lists, h.0.each, f.0 (flat_map (λ ws. ws) h.0.lists) h.0.stands ∙ ap (λ b. agg b (flat_map (λ ws. ws) h.0.lists)) h.0.kind),
  joined_values aggs _ ps vs h.1 f.1,
)

group_values : (nested : Option NestedPlan) (fields : List Row) (states : List Part) (values : Row) → HaveJoined (map spec.agg_of (aggs_of nested)) fields states → AllZip IsFinished states values → AreGroupValues nested fields values
group_values (Some n) fields states values h f = joined_values _ fields states values h f
group_values None fields states values h f = joined_values [] fields states values h f

module _ (arg : GroupArg) where
  abbrev Kept : Group → Entry → Type 0
  Kept = IsKept (handed_sees arg) (first_columns arg)

  rows_given : (groups : List Group) (entries : List Entry) (made : List Row) → AllZip Kept groups entries → AllZip IsGiven entries made → AllZip (IsRowOf arg) groups made
  rows_given [] [] [] k g = tt
  rows_given [] [] (row ∷ made) k g = absurd g
  rows_given [] (e ∷ es) made k g = absurd k
  rows_given (h ∷ groups) [] made k g = absurd k
  rows_given (h ∷ groups) (e ∷ es) [] k g = absurd g
  rows_given (h ∷ groups) (e ∷ es) (row ∷ made) k g = (
    (g.0.values, group_values arg.nested _ e.1 g.0.values k.0.seen g.0.each, g.0.is ∙ ap (λ (r : Row). r ++ g.0.values) (sym k.0.alike.0)),
    rows_given groups es made k.1 g.1,
  )

  -- the groups stand for all rows that were handed on
  pub given_group : (entries : List Entry) (handed put : List Row) → StandFor (handed_sees arg) (first_columns arg) entries handed → AreGiven entries put → IsGroupOf arg handed put
  given_group entries handed put s g = (s.groups, g.made, is_grouping (handed_sees arg) (first_columns arg) entries handed s, rows_given s.groups entries g.made s.kept g.each, g.moved)

  -- of no rows comes none
  pub group_of_none : (put : List Row) → IsGroupOf arg [] put → AreGiven [] put
  group_of_none put h = record { made = []; each = tt; moved = subst (λ (l : List Row). IsPermutation l put) (none h.0 h.1 h.2.moved h.3) h.4 }
    where
      none : (groups : List Group) (made : List Row) → IsPermutation [] (flat_map rows_in groups) → AllZip (IsRowOf arg) groups made → made ≡ []
      none [] [] m z = refl
      none [] (row ∷ made) m z = absurd z
      none (g ∷ gs) made m z = absurd (omega (arith, length_permutation _ _ m))

-- a row more for the last group
pub one_given : (es : List Entry) (e : Entry) (row : Row) (put : List Row) → IsGiven e row → AreGiven es put → AreGiven (es ++ e ∷ []) (row ∷ put)
one_given es e row put own g = record {
  made = g.made ++ row ∷ [];
  each = both_zip IsGiven es g.made e row g.each own;
  moved = IsPermutation-trans _ _ _ (IsPermutation-append_comm g.made (row ∷ [])) (IsPermutation-cons row g.made put g.moved);
}

pub none_given : (put : List Row) → AreGiven [] put → put ≡ []
none_given put g = none g.made put g.each g.moved
  where
    none : (made put : List Row) → AllZip IsGiven [] made → IsPermutation made put → put ≡ []
    none [] [] z m = refl
    none [] (row ∷ put) z m = absurd (omega (arith, length_permutation _ _ m))
    none (row ∷ made) put z m = absurd z

-- ---- keys of the rows that are handed on

shifted : (a n : ℕ) (x : Value) (row : Row) → map (column (x ∷ row)) (range_with_len (suc a) n) ≡ map (column row) (range_with_len a n)
shifted a zero x row = refl
shifted a (suc n) x row =
    let next : suc a + 1 ≡ suc (a + 1) = omega arith in
    ap (λ m. column row a ∷ map (column (x ∷ row)) (range_with_len m n)) next ∙ ap (λ (vs : Row). column row a ∷ vs) (shifted (a + 1) n x row)

-- the first columns are the values in front
pub first_cut : (n : ℕ) (row : Row) → n ≤ length row → take n row ≡ cut (range_with_len 0 n) row
first_cut zero row low = refl
first_cut (suc n) [] low = absurd (omega (arith, low))
first_cut (suc n) (x ∷ row) low = let less : n ≤ length row = omega (arith, low) in ap (λ (vs : Row). x ∷ vs) (first_cut n row less ∙ sym (shifted 0 n x row))

pub key_fits : (fields : Fields) (values slice : Row) (n : ℕ) → slice ≡ values → values ≡ values_of fields → n ≤ length fields → n ≤ length slice
unfolding values_of
key_fits fields values slice n same is low = let wide = ap (λ (r : Row). length r) (same ∙ is) ∙ length-map fields value_of in omega (arith, low, wide)

pub ruleset key_laws = (key_fits)

-- ---- finished states

pub none_finished : (row : Row) → Finishes [] row row
none_finished row = record { values = []; each = tt; is = sym (append-nil row) }

pub one_finished : (states : List Part) (p : Part) (v : Value) (first row row' : Row) → IsFinished p v → row' ≡ row ++ v ∷ [] → Finishes states first row → Finishes (states ++ p ∷ []) first row'
one_finished states p v first row row' own put f = record {
  values = f.values ++ v ∷ [];
  each = both_zip IsFinished states f.values p v f.each own;
  is = put ∙ ap (λ (r : Row). r ++ v ∷ []) f.is ∙ append_assoc first f.values (v ∷ []);
}

pub taken_one : (arity : ℕ) (old new : List Entry) (out : Fields) (b : Bool) → b ≡ true → TakesOut arity old new out (Ok b) → IsTaken arity old new out
taken_one arity old new out b is m = subst (λ c. TakesOut arity old new out (Ok c)) is m

pub taken_none : (arity : ℕ) (old new : List Entry) (out : Fields) (b : Bool) → b ≡ false → TakesOut arity old new out (Ok b) → (old ≡ []) × (new ≡ [])
taken_none arity old new out b is m = subst (λ c. TakesOut arity old new out (Ok c)) is m

-- ---- a row that is found in its place

pub same_item : {A : Type 0} (xs : List A) (i : ℕ) (d e : A) → i < length xs → get_or xs i d ≡ get_or xs i e
same_item [] i d e low = absurd (omega (arith, low))
same_item (x ∷ xs) zero d e low = refl
same_item (x ∷ xs) (suc i) d e low = let less : i < length xs = omega (arith, low) in same_item xs i d e less

-- the key of a row that was handed on is the values in front
pub keyed_added : (arg : GroupArg) (right : List Part → Type 0) (fields : Fields) (values slice : Row) (n : ℕ) (old new : List Entry) → slice ≡ values → values ≡ values_of fields → n ≡ length arg.keys → length arg.keys ≤ length fields
    → Added (handed_sees arg) right (take n slice) values old new → Added (handed_sees arg) right (cut (first_columns arg) (values_of fields)) (values_of fields) old new
unfolding values_of
keyed_added arg right fields values slice n old new same is many low added =
    let wide = length-map fields value_of in
    let within : length arg.keys ≤ length (values_of fields) = omega (arith, low, wide) in
    subst (λ (v : Row). Added (handed_sees arg) right (cut (first_columns arg) (values_of fields)) v old new) is
    (subst (λ (k : Row). Added (handed_sees arg) right k values old new) (ap (take n) (same ∙ is) ∙ ap (λ m. take m (values_of fields)) many ∙ first_cut (length arg.keys) (values_of fields) within) added)
