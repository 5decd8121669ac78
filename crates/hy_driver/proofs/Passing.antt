-- The steps of the driver that passes all rows on.
use Rattle.std.proofs.Common.{◌≡◌, ◌≢◌, ℕ, Bool, true, false, true≢false, List, [], ◌∷◌, ◌++◌, map, length, None, refl, sym, ap, ◌∙◌, arith}
use Rattle.hy_frame.specs.Row.{Fields, IsRow}
use Rattle.hy_rest.specs.Rest.{Alive}
use Rattle.hy_rest.proofs.Rest.{in_order_alive}
use Rattle.hy_store.specs.Fields.{fields_of}
use Rattle.hy_store.specs.declared.fault.Next.TheVariants as N
use Rattle.hy_driver.specs.Rows.{Row, AreValues, Fed, values_of}
use Rattle.hy_driver.specs.Seen.{Fixed}
use Rattle.hy_driver.specs.Forms.{may_come, in_order, one_ended}
use Rattle.hy_driver.specs.Steps.{IsNew, Steps, TellsTurn}
use Rattle.hy_driver.specs.Pass.{pass_out, held_row, pass_state}
use Rattle.hy_driver.specs.declared.phase.Phase.{Phase}
use Rattle.hy_driver.specs.declared.phase.Phase.TheVariants.{Working, Hungry, Ended, GivenUp}
use Rattle.hy_driver.proofs.Values.{values_again, fields_again, as_many}
use Rattle.hy_driver.proofs.Turns.{turns_asking, turns_ending, beside}
use Rattle.hy_driver.proofs.Forms.{EndsMore, ends_none, all_ended, none_comes, none_tested, new_ordered, ordered, storeless_steps}

some_put : (ended : Bool) (fixed : Fixed) (held : List Fed) → Alive (may_come (one_ended ended) fixed.width) (in_order (one_ended ended) fixed.width [] held pass_out)
some_put ended fixed held = in_order_alive (may_come (one_ended ended) fixed.width) pass_out [] held (λ took may. (map (λ x. x.1) (held ++ took), refl))

module _ (fixed : Fixed) (none : fixed.check ≡ None) where
  step : (row row' : Fields) (holds holds' ended ended' : Bool) (phase phase' : Phase) (fed : List Fed) (sent : List Row) → EndsMore (one_ended ended) (one_ended ended') → may_come (one_ended ended) fixed.width fed
      → ((took : List Fed) → map (λ x. x.1) (held_row holds row ++ (fed ++ took)) ≡ sent ++ map (λ x. x.1) (held_row holds' row' ++ took))
      → Steps (pass_state fixed row holds ended phase) fed sent (pass_state fixed row' holds' ended' phase')
  step row row' holds holds' ended ended' phase phase' fed sent less may same =
      storeless_steps _ _ (one_ended ended) (one_ended ended') phase phase' _ _ [] [] [] [] fixed fed sent
      (ordered (one_ended ended) (one_ended ended') fixed.width fed less may [] [] (held_row holds row) (held_row holds' row') sent pass_out pass_out
      (λ took rest may output. (map (λ x. x.1) (held_row holds row ++ (fed ++ took)), refl, same took ∙ ap (λ r. sent ++ r) (sym output))))
      (some_put ended' fixed (held_row holds' row')) (none_tested fixed.check none _)

  -- nothing is taken or given
  pub pass_stays : (row : Fields) (holds ended ended' : Bool) (phase phase' : Phase) → EndsMore (one_ended ended) (one_ended ended')
      → Steps (pass_state fixed row holds ended phase) [] [] (pass_state fixed row holds ended' phase')
  pass_stays row holds ended ended' phase phase' less = step row row holds holds ended ended' phase phase' [] [] less tt (λ took. refl)

  -- a row is taken by one that is hungry, and so holds none
  pub pass_fed : (row row' : Fields) (holds ended : Bool) (phase : Phase) (input : ℕ) (values : Row) → phase ≡ Hungry → (holds ≡ true → phase ≡ Working)
      → one_ended ended input ≡ false → length row' ≡ fixed.width input → AreValues values → fields_of values ≡ row'
      → Steps (pass_state fixed row holds ended phase) ((input, values) ∷ []) [] (pass_state fixed row' true ended Working)
  pass_fed row row' true ended phase input values hungry works open_ wide are is = absurd (no (sym hungry ∙ works refl))
    where
      no : Hungry ≡ Working → ⊥
      no e = cc
  pass_fed row row' false ended phase input values hungry works open_ wide are is =
      let same : values_of row' ≡ values = ap values_of (sym is) ∙ values_again values are in
      step row row' false true ended ended phase Working ((input, values) ∷ []) [] (ends_none (one_ended ended)) ((open_, as_many values row' (fixed.width input) is wide, are), tt)
      (λ took. ap (λ v. v ∷ map (λ x. x.1) took) (sym same))

  -- the row that it holds is given
  pub pass_gives : (row out : Fields) (holds ended : Bool) (phase : Phase) → holds ≡ true → (holds ≡ true → phase ≡ Working)
      → IsRow (length row) row → (holds ≡ true → length row ≡ fixed.arity) → row ≡ out
      → TellsTurn (pass_state fixed row holds ended phase) out (pass_state fixed row false ended phase) N.Row
  pass_gives row out false ended phase held works is wide same = absurd (true≢false (sym held))
  pass_gives row out true ended phase held works is wide same =
      let again = fields_again (length row) row is in (
        works refl,
        omega arith,
        (
          values_of row,
          again.0,
          again.2 ∙ wide refl,
          again.1 ∙ same,
          step row row true false ended ended phase phase [] (values_of row ∷ []) (ends_none (one_ended ended)) tt (λ took. refl),
        ),
      )

  -- it asks for input where it holds no row
  pub pass_asks : (row out : Fields) (holds ended : Bool) (phase : Phase) → ended ≡ false → phase ≢ GivenUp → (phase ≡ Ended → ended ≡ true)
      → TellsTurn (pass_state fixed row holds ended phase) out (pass_state fixed row holds ended Hungry) N.NeedInput
  pass_asks row out holds ended phase going live over =
      let turns = beside _ (turns_asking phase live (λ e. true≢false (sym (over e) ∙ going))) in
      (refl, turns.0, turns.1, pass_stays row holds ended ended phase Hungry (ends_none (one_ended ended)), (0, going))

  -- it has ended where it holds no row and no row comes
  pub pass_ends : (row out : Fields) (holds ended : Bool) (phase : Phase) → holds ≡ false → ended ≡ true → phase ≢ GivenUp
      → TellsTurn (pass_state fixed row holds ended phase) out (pass_state fixed row holds ended Ended) N.End
  pass_ends row out true ended phase free over live = absurd (true≢false free)
  pass_ends row out false false phase free over live = absurd (true≢false (sym over))
  pass_ends row out false true phase free over live =
      let turns = beside 0 (turns_ending phase live) in (
        refl,
        turns.0,
        turns.1,
        pass_stays row false true true phase Ended (ends_none (one_ended true)),
        all_ended,
        refl,
        λ h. record {
          finished = record {
            some = (tt, record { rest = []; output = refl; is = refl });
            only = λ took put h.
                let no_more = none_comes (one_ended true) fixed.width all_ended took h.0 in
                (no_more, h.1.is ∙ (h.1.output ∙ ap (map (λ x. x.1)) no_more));
          };
          makes = refl;
        },
      )

pub pass_new : (fixed : Fixed) (row : Fields) → IsNew (pass_state fixed row false false Working) pass_out
pass_new fixed row = record {
  phase = refl;
  frames = omega arith;
  untested = refl;
  rest = λ h. new_ordered (one_ended false) fixed.width pass_out;
  alive = λ h. some_put false fixed [];
}
