-- The steps of the driver that keeps all rows.
use Rattle.std.proofs.Common.{◌≡◌, ◌≢◌, ℕ, Bool, true, false, true≢false, List, [], ◌∷◌, ◌++◌, map, length, None, refl, sym, ap, subst, ◌∙◌, append_assoc, append-nil, arith}
use Rattle.std.specs.List.{All, AllByRecursion}
use Rattle.std.specs.List.Sorted.{IsPermutation}
use Rattle.std.proofs.lemmas.List.Sorted.{IsPermutation-refl}
use Rattle.hy_store.specs.Runs.{HaveShape}
use Rattle.hy_frame.specs.Row.{Fields, IsRow}
use Rattle.hy_rest.proofs.Rest.{in_order_alive}
use Rattle.hy_store.specs.Fields.{fields_of}
use Rattle.hy_store.specs.declared.fault.Next.TheVariants as N
use Rattle.hy_store.proofs.FieldLaws.{rows_are_values}
use Rattle.hy_driver.specs.Rows.{Row, AreValues, Fed, values_of}
use Rattle.hy_driver.specs.Seen.{Fixed, no_store}
use Rattle.hy_driver.specs.Forms.{may_come, one_ended}
use Rattle.hy_driver.specs.Steps.{IsNew, Steps, TellsTurn}
use Rattle.hy_driver.specs.Handing.{HandedOn}
use Rattle.hy_driver.specs.Pass.{pass_out}
use Rattle.hy_driver.specs.Keep.{kept, keep_state}
use Rattle.hy_driver.specs.declared.handed.Handed.{Handed}
use Rattle.hy_driver.specs.declared.phase.Phase.{Phase}
use Rattle.hy_driver.specs.declared.phase.Phase.TheVariants.{Working, Hungry, Ended, GivenUp}
use Rattle.hy_driver.proofs.Values.{values_again, fields_again, as_many}
use Rattle.hy_driver.proofs.Turns.{turns_asking, turns_ending}
use Rattle.hy_driver.proofs.Forms.{EndsMore, ends_none, all_ended, none_comes, none_tested, new_ordered, ordered}

abbrev rows_in : List Fed → List Row
rows_in = map (λ x. x.1)

kept_rows : (rows : List Fields) (took : List Fed) → rows_in (kept rows ++ took) ≡ map values_of rows ++ rows_in took
kept_rows [] took = refl
kept_rows (row ∷ rows) took = ap (λ r. values_of row ∷ r) (kept_rows rows took)

one_more_kept : (rows : List Fields) (row : Fields) → map values_of (rows ++ row ∷ []) ≡ map values_of rows ++ values_of row ∷ []
one_more_kept [] row = refl
one_more_kept (r ∷ rows) row = ap (λ x. values_of r ∷ x) (one_more_kept rows row)

all_more : (n : ℕ) (rows : List Fields) (row : Fields) → AllByRecursion (IsRow n) rows → IsRow n row → AllByRecursion (IsRow n) (rows ++ row ∷ [])
all_more n [] row all is = (is, tt)
all_more n (r ∷ rows) row all is = (all.0, all_more n rows row all.1 is)

fields_kept : (n : ℕ) (rows : List Fields) → AllByRecursion (IsRow n) rows → map fields_of (map values_of rows) ≡ rows
fields_kept n [] all = refl
fields_kept n (row ∷ rows) all = rw ((fields_again n row all.0).1, fields_kept n rows all.1) refl

module _ (fixed : Fixed) (none : fixed.check ≡ None) where
  step : (rows rows' : List Fields) (ended ended' : Bool) (phase phase' : Phase) (fed : List Fed) → EndsMore (one_ended ended) (one_ended ended') → may_come (one_ended ended) fixed.width fed
      → (AllByRecursion (IsRow fixed.arity) rows → AllByRecursion (IsRow fixed.arity) rows')
      → ((took : List Fed) → rows_in (kept rows ++ (fed ++ took)) ≡ rows_in (kept rows' ++ took))
      → Steps (keep_state fixed rows ended phase) fed [] (keep_state fixed rows' ended' phase')
  step rows rows' ended ended' phase phase' fed less may sound same = record {
    sound = sound;
    rest = λ h. ordered (one_ended ended) (one_ended ended') fixed.width fed less may [] [] (kept rows) (kept rows') [] pass_out pass_out
        (λ took rest may output. (rows_in (kept rows ++ (fed ++ took)), refl, same took ∙ sym output));
    alive = λ h. in_order_alive (may_come (one_ended ended') fixed.width) pass_out [] (kept rows') (λ took may. (rows_in (kept rows' ++ took), refl));
    makes = λ h took may. refl;
    tested = none_tested fixed.check none _;
    served = refl;
  }

  -- no row is taken
  pub keep_stays : (rows : List Fields) (ended ended' : Bool) (phase phase' : Phase) → EndsMore (one_ended ended) (one_ended ended')
      → Steps (keep_state fixed rows ended phase) [] [] (keep_state fixed rows ended' phase')
  keep_stays rows ended ended' phase phase' less = step rows rows ended ended' phase phase' [] less tt (λ h. h) (λ took. refl)

  -- a row is taken
  pub keep_fed : (rows : List Fields) (row : Fields) (ended : Bool) (phase : Phase) (input : ℕ) (values : Row) → fixed.width input ≡ fixed.arity
      → one_ended ended input ≡ false → length row ≡ fixed.width input → AreValues values → fields_of values ≡ row
      → Steps (keep_state fixed rows ended phase) ((input, values) ∷ []) [] (keep_state fixed (rows ++ row ∷ []) ended Working)
  keep_fed rows row ended phase input values as_wide going wide are is =
      let many = as_many values row (fixed.width input) is wide in
      let same : values_of row ≡ values = ap values_of (sym is) ∙ values_again values are in
      step rows (rows ++ row ∷ []) ended ended phase Working ((input, values) ∷ []) (ends_none (one_ended ended)) ((going, many, are), tt)
      (λ all. all_more fixed.arity rows row all ((rows_are_values fixed.arity row).1 (values, many ∙ as_wide, are, is)))
      (λ took. kept_rows rows ((input, values) ∷ took) ∙ (ap (λ v. map values_of rows ++ v ∷ rows_in took) (sym same)
      ∙ (sym (append_assoc (map values_of rows) (values_of row ∷ []) (rows_in took)) ∙ (ap (λ r. r ++ rows_in took) (sym (one_more_kept rows row)) ∙ sym (kept_rows (rows ++ row ∷ []) took)))))

  pub keep_asks : (rows : List Fields) (out : Fields) (ended : Bool) (phase : Phase) → ended ≡ false → phase ≢ GivenUp → (phase ≡ Ended → ended ≡ true)
      → TellsTurn (keep_state fixed rows ended phase) out (keep_state fixed rows ended Hungry) N.NeedInput
  keep_asks rows out ended phase going live over =
      let turns = turns_asking phase live (λ e. true≢false (sym (over e) ∙ going)) in
      (refl, turns.0, turns.1, keep_stays rows ended ended phase Hungry (ends_none (one_ended ended)), (0, going))

  pub keep_ends : (rows : List Fields) (out : Fields) (ended : Bool) (phase : Phase) → ended ≡ true → phase ≢ GivenUp
      → TellsTurn (keep_state fixed rows ended phase) out (keep_state fixed rows ended Ended) N.End
  keep_ends rows out false phase over live = absurd (true≢false (sym over))
  keep_ends rows out true phase over live =
      let turns = turns_ending phase live in
      let all : rows_in (kept rows ++ []) ≡ map values_of rows = kept_rows rows [] ∙ append-nil (map values_of rows) in (
        refl,
        turns.0,
        turns.1,
        keep_stays rows true true phase Ended (ends_none (one_ended true)),
        all_ended,
        refl,
        λ h. record {
          finished = record {
            some = (tt, record { rest = map values_of rows; output = sym all; is = refl });
            only = λ took put h.
                let no_more = none_comes (one_ended true) fixed.width all_ended took h.0 in
                (no_more, h.1.is ∙ (h.1.output ∙ (ap (λ t. rows_in (kept rows ++ t)) no_more ∙ all)));
          };
          makes = refl;
        },
      )

  -- the rows that it keeps are handed on
  pub keep_hands : (rows : List Fields) (ended : Bool) (phase : Phase) (h : Handed) → All (λ row. length row ≡ fixed.arity) rows → (phase ≡ GivenUp → rows ≡ []) → h.rows ≡ rows → h.frames ≡ [] → h.runs ≡ []
      → HandedOn (keep_state fixed rows ended phase) h
  keep_hands rows ended phase h fit given_up of_rows no_frames no_runs = record {
    frames = ap (λ f. length f) no_frames;
    shape = subst (AllByRecursion (λ frame. (frame.arity ≡ fixed.arity) × (frame.unit ≡ fixed.unit))) (sym no_frames) tt;
    fit = subst (All (λ row. length row ≡ fixed.arity)) (sym of_rows) fit;
    runs = λ e. subst (IsPermutation []) (sym no_runs) (IsPermutation-refl []);
    shapes = λ e. subst (AllByRecursion (λ run. HaveShape no_store.runs run fixed.arity fixed.unit)) (sym no_runs) tt;
    rows = λ e all. rw (of_rows, no_frames, no_runs) (fields_kept fixed.arity rows all ∙ sym (append-nil rows));
    none = λ e. (of_rows ∙ given_up e, no_runs);
  }

pub keep_new : (fixed : Fixed) (rows : List Fields) → rows ≡ [] → IsNew (keep_state fixed rows false Working) pass_out
keep_new fixed rows none = subst (λ r. IsNew (keep_state fixed r false Working) pass_out) (sym none) (record {
  phase = refl;
  frames = omega arith;
  untested = refl;
  rest = λ h. new_ordered (one_ended false) fixed.width pass_out;
  alive = λ h. in_order_alive (may_come (one_ended false) fixed.width) pass_out [] [] (λ took may. (rows_in took, refl));
})
