-- The worked cases.
use Rattle.std.proofs.Common.{◌≡◌, ◌↔◌, ℕ, pos, true, false, List, [], ◌∷◌, ◌++◌, map, refl, sym, ap, subst, ◌∙◌, inl, inr, arith, append-nil}
use Rattle.std.specs.Prelude.{FitsSigned}
use Rattle.std.specs.Int.{w64}
use Rattle.std.specs.List.{AllZip, flat_map}
use Rattle.std.proofs.lemmas.List.Sorted.{IsPermutation-refl}
use Rattle.std.proofs.lemmas.Int.{ints}
use Rattle.std.proofs.lemmas.List.{map-append}
use Rattle.al_value.specs.declared.value.Value.{Value}
use Rattle.al_value.specs.declared.value.Value.TheVariants as V
use Rattle.al_func.specs.Rex.{eval_rex}
use Rattle.al_func.specs.declared.rex.Rex.TheVariants as R
use Rattle.al_func.proofs.RexLaws.{eval_rex-Col}
use Rattle.al_agg.specs.Agg.{agg, greater, greatest as greatest_in}
use Rattle.al_agg.specs.declared.agg.Agg.TheVariants as A
use Rattle.al_agg.specs.Part.{IsState, Stands, agg_of, state_fields}
use Rattle.al_agg.proofs.AggLaws.{greatest-append}
use Rattle.al_agg.proofs.PartLaws.{greatest-add}
use Rattle.hy_store.specs.Fields.{fields_of}
use Rattle.hy_driver.specs.Rows.{Row, values_of}
use Rattle.hy_driver.specs.declared.phase.Phase.TheVariants.{Working, GivenUp}
use Rattle.hy_driver.proofs.Values.{values_again}
use Rattle.hy_job.specs.declared.nested.AggRex.TheVariants as C
use Rattle.hy_job.specs.Cases.{int, row_of}
use Rattle.hy_job.specs.Columns.{state_row}
use Rattle.hy_job.specs.Drivers.{received_of}
use Rattle.hy_job.specs.Runs.{AreJoined, StandFor}
use Rattle.hy_aggregate.specs.Aggregate.{agg_state}
use Rattle.hy_aggregate.specs.Cases.{EachIsJoined, FirstAlone, GivesBeforeItEnds, OneRowComes, RowIsSeen, StatesJoin, greatest, greatest_of, narrow}
use Rattle.hy_aggregate.specs.Joined.{HasJoined}
use Rattle.hy_aggregate.specs.Work.{HaveTaken}
use Rattle.hy_aggregate.proofs.Aggregating.{agg_ends, agg_fed}

same : {P : Type 0} → P ↔ P
same = (λ h. h, λ h. h)

number_of : Value → ℕ
number_of (V.Int (pos n)) = n
number_of _ = 0

-- ---- the row of states

abbrev rows_two : List Row
rows_two = row_of 2 ∷ row_of 1 ∷ []

values_two : map (eval_rex (R.Col 0)) rows_two ≡ int 2 ∷ int 1 ∷ []
values_two = λ i. eval_rex-Col 0 (row_of 2) i ∷ eval_rex-Col 0 (row_of 1) i ∷ []

state_two : state_row (C.Max (R.Col 0) ∷ []) rows_two ≡ row_of 2
unfolding state_fields
state_two = ap (λ vs. greatest_in vs ∷ []) values_two

state_none : state_row (C.Max (R.Col 0) ∷ []) [] ≡ V.Null ∷ []
unfolding state_fields
state_none = refl

pub one_row_comes : OneRowComes
one_row_comes out = (
  (λ h. h.2 ∙ ap (λ (row : Row). row ∷ []) (h.1 ∙ state_two), λ e. (row_of 2, sym state_two, e)),
  (λ h. h.2 ∙ ap (λ (row : Row). row ∷ []) (h.1 ∙ state_none), λ e. (V.Null ∷ [], sym state_none, e)),
  same,
)

-- ---- joined states

fits_one : FitsSigned w64 (pos 1)
fits_one = omega (arith, ints)

fits_two : FitsSigned w64 (pos 2)
fits_two = omega (arith, ints)

fits_three : FitsSigned w64 (pos 3)
fits_three = omega (arith, ints)

fits_four : FitsSigned w64 (pos 4)
fits_four = omega (arith, ints)

fields_alone : (n : ℕ) → StandFor A.Max (row_of n) (row_of n)
unfolding state_fields
fields_alone n = inl refl

stands_at : (n : ℕ) → FitsSigned w64 (pos n) → (vs : List Value) → StandFor A.Max (row_of n) vs → greatest_in vs ≡ int n
unfolding state_fields IsState
stands_at n fits vs (inl e) = one (greatest_in vs) (int n) e
  where
    one : (v w : Value) → v ∷ [] ≡ w ∷ [] → v ≡ w
    one v w e = cc
stands_at n fits vs (inr none) = absurd (none.0 fits)

joined_two : (m n : ℕ) → FitsSigned w64 (pos m) → FitsSigned w64 (pos n) → (lists : List (List Value)) → AllZip (StandFor A.Max) (row_of m ∷ row_of n ∷ []) lists
    → greatest_in (flat_map (λ vs. vs) lists) ≡ greater (int m) (int n)
joined_two m n fits fits' [] zip = absurd zip
joined_two m n fits fits' (a ∷ []) zip = absurd zip.1
joined_two m n fits fits' (a ∷ b ∷ []) zip =
    greatest-append a (b ++ []) ∙ (ap (λ l. greater (greatest_in a) (greatest_in l)) (append-nil b) ∙ (λ i. greater (stands_at m fits a zip.0 i) (stands_at n fits' b zip.1.0 i)))
joined_two m n fits fits' (a ∷ b ∷ c ∷ lists) zip = absurd zip.1.1

only_two : (row : Row) → AreJoined (A.Max ∷ []) rows_two row → row ≡ row_of 2
unfolding agg
only_two row h = h.2 ∙ (λ i. (h.3.2 ∙ joined_two 2 1 fits_two fits_one h.3.0 h.3.1) i ∷ h.4 i)

two_joined : AreJoined (A.Max ∷ []) rows_two (row_of 2)
unfolding agg
two_joined = (int 2, [], refl, (row_of 2 ∷ row_of 1 ∷ [], (fields_alone 2, (fields_alone 1, tt)), refl), refl)

first_of : List Row → ℕ
first_of ((v ∷ row) ∷ rows) = number_of v
first_of _ = 0

pub states_join : StatesJoin
unfolding number_of first_of
states_join = (
  (row_of 2, two_joined, refl),
  λ h. let differ : ◌≡◌ {A = ℕ} 1 2 = ap first_of (h.2 ∙ ap (λ (row : Row). row ∷ []) (only_two h.0 h.1)) in omega (arith, differ),
  λ h. no h.0 h.2,
)
  where
    no : (row : Row) → [] ≡ row ∷ [] → ⊥
    no row e = cc

pub first_alone : FirstAlone
first_alone out = ((row_of 2, two_joined, refl), same)

greatest_stands : (m n k : ℕ) → FitsSigned w64 (pos m) → FitsSigned w64 (pos n) → greater (int m) (int n) ≡ int k → HasJoined A.Max (row_of m ∷ row_of n ∷ []) (greatest_of (int k))
unfolding Stands agg_of
greatest_stands m n k fits fits' is = record {
  kind = refl;
  some = (row_of m ∷ row_of n ∷ [], (fields_alone m, (fields_alone n, tt)));
  each = λ lists zip. sym (joined_two m n fits fits' lists zip ∙ is);
}

greatest_is : (m n k : ℕ) → FitsSigned w64 (pos m) → FitsSigned w64 (pos n) → HasJoined A.Max (row_of m ∷ row_of n ∷ []) (greatest_of (int k)) → int k ≡ greater (int m) (int n)
unfolding Stands agg_of
greatest_is m n k fits fits' h = h.each h.some.0 h.some.1 ∙ joined_two m n fits fits' h.some.0 h.some.1

pub each_is_joined : EachIsJoined
unfolding number_of
each_is_joined = (
  (greatest_stands 2 1 2 fits_two fits_one refl, (greatest_stands 3 4 4 fits_three fits_four refl, tt)),
  λ h. let differ : ◌≡◌ {A = ℕ} 4 2 = ap number_of (greatest_is 2 1 4 fits_two fits_one h.0) in omega (arith, differ),
  λ h. h.1,
  λ h. let differ : ◌≡◌ {A = ℕ} 3 4 = ap number_of (greatest_is 3 4 3 fits_three fits_four h.1.0) in omega (arith, differ),
)

-- ---- turns

live : Working ≡ GivenUp → ⊥
live e = cc

none_seen : HaveTaken greatest [] (greatest_of V.Null ∷ [])
unfolding Stands agg_of
none_seen = ((refl, refl), tt)

pub gives_before_it_ends : GivesBeforeItEnds
gives_before_it_ends out = (
  agg_ends narrow refl greatest [] out false true Working refl refl live,
  λ h. let free = (h.6 ([], none_seen)).finished.some.1 [] none_seen in no free.output.0 (free.alone refl ∙ free.output.2),
)
  where
    no : (row : Row) → [] ≡ row ∷ [] → ⊥
    no row e = cc

-- the state of one row
one_seen : (n : ℕ) → HaveTaken greatest (row_of n ∷ []) (greatest_of (int n) ∷ [])
unfolding Stands agg_of
one_seen n = ((refl, ap (λ v. greatest_in (v ∷ [])) (sym (eval_rex-Col 0 (row_of n)))), tt)

two_seen : (rows : List Row) → HaveTaken greatest rows (greatest_of (int 1) ∷ []) → HaveTaken greatest (rows ++ values_of (fields_of (row_of 2)) ∷ []) (greatest_of (int 2) ∷ [])
unfolding Stands agg_of
two_seen rows h = ((refl, more), tt)
  where
    value : eval_rex (R.Col 0) (values_of (fields_of (row_of 2))) ≡ int 2
    value = ap (eval_rex (R.Col 0)) (values_again (row_of 2) (fits_two, tt)) ∙ eval_rex-Col 0 (row_of 2)

    more : int 2 ≡ greatest_in (map (eval_rex (R.Col 0)) (rows ++ values_of (fields_of (row_of 2)) ∷ []))
    more = greatest-add (map (eval_rex (R.Col 0)) rows) (int 2) (int 1) h.0.1 ∙ ap greatest_in (ap (λ v. map (eval_rex (R.Col 0)) rows ++ v ∷ []) (sym value) ∙ sym (map-append (eval_rex (R.Col 0)) rows (values_of (fields_of (row_of 2)) ∷ [])))

state_is : (rows : List Row) → HaveTaken greatest rows (greatest_of (int 1) ∷ []) → state_row (C.Max (R.Col 0) ∷ []) rows ≡ row_of 1
unfolding state_fields Stands agg_of
state_is rows h = ap (λ v. v ∷ []) (sym h.0.1)

one_then_two : state_row (C.Max (R.Col 0) ∷ []) (row_of 1 ∷ row_of 2 ∷ []) ≡ row_of 2
unfolding state_fields
one_then_two = ap (λ vs. greatest_in vs ∷ []) (λ i. eval_rex-Col 0 (row_of 1) i ∷ eval_rex-Col 0 (row_of 2) i ∷ [])

pub row_is_seen : RowIsSeen
unfolding number_of first_of
row_is_seen = (
  agg_fed narrow refl greatest (greatest_of (int 1) ∷ []) (greatest_of (int 2) ∷ []) true false Working Working (fields_of (row_of 2)) 0 (row_of 2) refl refl refl (fits_two, tt) refl two_seen,
  λ h.
      let put : (agg_state narrow greatest (greatest_of (int 1) ∷ []) true false Working).rest ((0, row_of 2) ∷ []) (row_of 1 ∷ []) =
      (h.rest ((0, row_of 1) ∷ [], one_seen 1)).back [] (row_of 1 ∷ []) (
        tt,
        λ held stands. record {
          rest = row_of 1 ∷ [];
          output = (row_of 1, sym (state_is (received_of (held ++ []) 0) (subst (λ t. HaveTaken greatest (received_of t 0) (greatest_of (int 1) ∷ [])) (sym (append-nil held)) stands)), refl);
          among = IsPermutation-refl (row_of 1 ∷ []);
          alone = λ e. refl;
        },
      ) in
      let free = put.1 ((0, row_of 1) ∷ []) (one_seen 1) in
      let differ : ◌≡◌ {A = ℕ} 1 2 = ap first_of (free.alone refl ∙ (free.output.2 ∙ ap (λ (row : Row). row ∷ []) (free.output.1 ∙ one_then_two))) in
      omega (arith, differ),
)
