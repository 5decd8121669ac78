-- The worked case of values that may still come.
use Rattle.std.proofs.Common.{◌≡◌, ◌⊎◌, inl, inr, ℕ, ℤ, false, nat_eq, List, [], ◌∷◌, ◌++◌, map, refl, ap, sym, subst, ◌∙◌, arith}
use Rattle.std.specs.Prelude.{pos, ◌^◌}
use Rattle.std.specs.List.{AllByRecursion}
use Rattle.std.specs.Ordering.{int_cmp}
use Rattle.std.specs.Cmp.{int_cmp_is}
use Rattle.std.proofs.lemmas.Int.{ints}
use Rattle.std.specs.declared.cmp.Ordering.TheVariants.{Greater}
use Rattle.al_value.specs.declared.value.Value.{Value}
use Rattle.al_value.specs.declared.value.Value.TheVariants as V
use Rattle.al_value.specs.Value.{IsValue}
use Rattle.al_func.specs.Func.{apply, is_at_most, at_most}
use Rattle.al_func.specs.declared.func.Func.TheVariants as F
use Rattle.al_func.specs.declared.rex.Rex.TheVariants as R
use Rattle.al_func.specs.Rex.{eval_rex}
use Rattle.al_func.proofs.RexLaws.{eval_rex-Col, eval_rex-Lit, eval_rex-Call}
use Rattle.al_agg.specs.Agg.{greater, greatest}
use Rattle.al_agg.specs.Part.{state_fields}
use Rattle.hy_job.specs.declared.nested.AggRex.TheVariants as C
use Rattle.hy_job.specs.declared.job.Kind.TheVariants as K
use Rattle.hy_job.specs.Columns.{Row, AreValues, column, state_row}
use Rattle.hy_job.specs.Sound.{edges_from}
use Rattle.hy_job.specs.Runs.{Taken, MayCome, Receives, rows_at, sent_by}
use Rattle.hy_job.specs.Cases.{act, row_of}
use Rattle.hy_job.specs.RunCases.{none_ended, took_first, too_large, telling, ValuesCome}
use Rattle.hy_job.proofs.Members.{by_cases}

-- a truth that is not TRUE
abbrev Untrue : Value → Type 0
Untrue v = (v ≡ V.Bool false) ⊎ (v ≡ V.Null)

int_untrue : (z : ℤ) → IsValue (V.Int z) → V.Bool (is_at_most (int_cmp (pos (2 ^ 63)) z)) ≡ V.Bool false
int_untrue z f = ap (λ o. V.Bool (is_at_most o)) (sym (int_cmp_is (pos (2 ^ 63)) z Greater (let high = f.sfits in omega (arith, ints, high))))

untrue : (v : Value) → IsValue v → Untrue (at_most (V.Int (pos (2 ^ 63))) v)
untrue V.Null f = inr refl
untrue (V.Bool b) f = inr refl
untrue (V.Int z) f = inl (int_untrue z f)
untrue (V.Text t) f = inr refl

told : (row : Row) → eval_rex too_large row ≡ at_most (V.Int (pos (2 ^ 63))) (column row 0)
unfolding apply
told row = eval_rex-Call F.Le (R.Lit (V.Int (pos (2 ^ 63))) ∷ R.Col 0 ∷ []) row ∙ ap (λ (vs : List Value). apply F.Le vs) (λ i. eval_rex-Lit (V.Int (pos (2 ^ 63))) row i ∷ eval_rex-Col 0 row i ∷ [])

first_value : (row : Row) → AreValues row → IsValue (column row 0)
first_value [] h = tt
first_value (v ∷ row) h = h.0

all_untrue : (rows : List Row) → AllByRecursion AreValues rows → AllByRecursion Untrue (map (eval_rex too_large) rows)
all_untrue [] h = tt
all_untrue (row ∷ rows) h = (subst Untrue (sym (told row)) (untrue (column row 0) (first_value row h.0)), all_untrue rows h.1)

two_untrue : (v w : Value) → Untrue v → Untrue w → Untrue (greater v w)
two_untrue v w (inl e) (inl f) = inl (λ i. greater (e i) (f i))
two_untrue v w (inl e) (inr f) = inl (λ i. greater (e i) (f i))
two_untrue v w (inr e) (inl f) = inl (λ i. greater (e i) (f i))
two_untrue v w (inr e) (inr f) = inr (λ i. greater (e i) (f i))

greatest_untrue : (vs : List Value) → AllByRecursion Untrue vs → Untrue (greatest vs)
greatest_untrue [] h = inr refl
greatest_untrue (v ∷ vs) h = two_untrue v (greatest vs) h.0 (greatest_untrue vs h.1)

false_first : (w : Value) → Untrue w → greater (V.Bool false) w ≡ V.Bool false
false_first w (inl f) = ap (greater (V.Bool false)) f
false_first w (inr f) = ap (greater (V.Bool false)) f

state_is : (rows : List Row) → AllByRecursion AreValues rows → state_row (C.Max too_large ∷ []) (row_of 0 ∷ rows) ≡ V.Bool false ∷ []
unfolding state_fields
state_is rows h = ap (λ v. v ∷ []) (ap (λ v. greater v (greatest (map (eval_rex too_large) rows))) (told (row_of 0)) ∙ false_first _ (greatest_untrue _ (all_untrue rows h)))

module _ (set : List ℕ) where
  came : (more : List Taken) → AllByRecursion (MayCome (telling set) (act 1 (K.AggPart (C.Max too_large ∷ [])) 1) 0 none_ended) more → AllByRecursion AreValues (rows_at 0 more)
  came [] may = tt
  came (t ∷ more) may = by_cases (nat_eq t.input 0) (λ y. rw y (may.0.values, came more may.1)) (λ n. rw n (came more may.1))

  of_zero : (taken : List Taken) (input : ℕ) → input ≡ 0 → Receives (telling set) 1 taken input (rows_at 0 taken)
  of_zero taken input z = subst (λ x. Receives (telling set) 1 taken x (rows_at 0 taken)) (sym z) refl

  first : (r : ℕ) → r ≡ 0 → (V.Bool false ∷ []) ∷ [] ≡ sent_by (edges_from (telling set) 1) 1 0 r ((V.Bool false ∷ []) ∷ [])
  first r e = subst (λ x. (V.Bool false ∷ []) ∷ [] ≡ sent_by (edges_from (telling set) 1) 1 0 x ((V.Bool false ∷ []) ∷ [])) (sym e) refl

pub values_come : ValuesCome
values_come set more may = (
  record { to = λ r. (V.Bool false ∷ []) ∷ []; on = [] },
  record { to = λ r lt. ([], refl); on = ([], refl) },
  record {
    received = λ input. row_of 0 ∷ rows_at 0 more;
    made = (V.Bool false ∷ []) ∷ [];
    receives = λ input lt. of_zero set ((took_first (row_of 0 ∷ [])).rows ++ more) input (omega (arith, lt));
    makes = ap (λ row. row ∷ []) (sym (state_is (rows_at 0 more) (came set more may)));
    sends = λ r lt. first set r (omega (arith, lt));
    hands_on = refl;
  },
)
