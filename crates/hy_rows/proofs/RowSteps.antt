-- The steps of a driver that works in order, owes rows, and holds none that it took.
use Rattle.std.proofs.Common.{◌≡◌, ◌≢◌, ℕ, Bool, true, false, true≢false, List, [], ◌∷◌, ◌++◌, map, length, Option, Some, None, refl, sym, subst, ◌∙◌, arith, append-nil}
use Rattle.hy_rest.proofs.Rest.{in_order_alive}
use Rattle.hy_frame.specs.Row.{Fields}
use Rattle.hy_store.specs.Fields.{fields_of}
use Rattle.hy_store.specs.declared.fault.Next.TheVariants as N
use Rattle.hy_driver.specs.Rows.{Row, AreValues, Fed}
use Rattle.hy_driver.specs.Seen.{Check, Fixed}
use Rattle.hy_driver.specs.Forms.{may_come}
use Rattle.hy_driver.specs.Steps.{IsNew, Pass, Steps, TellsTurn}
use Rattle.hy_driver.specs.declared.phase.Phase.{Phase}
use Rattle.hy_driver.specs.declared.phase.Phase.TheVariants.{Working, Hungry, Ended, GivenUp}
use Rattle.hy_driver.proofs.Turns.{turns_asking, turns_ending, beside}
use Rattle.hy_driver.proofs.Forms.{EndsMore, ends_none, none_comes, new_ordered, ordered, storeless_steps}
use Rattle.hy_rows.specs.State.{row_state}

-- whatever comes, there is an output
abbrev pub Lives : (List Fed → List Row → Type 0) → Type 0
Lives out = (took : List Fed) → (rest : List Row) × out took rest

-- of nothing comes nothing
abbrev pub Ends : (List Fed → List Row → Type 0) → Type 0
Ends out = out [] [] × ((rest : List Row) → out [] rest → rest ≡ [])

passes_none : (check : Option Check) → Pass check []
passes_none None = tt
passes_none (Some check) = tt

module _ (fixed : Fixed) (ended ended' : ℕ → Bool) (less : EndsMore ended ended') (out out' : List Fed → List Row → Type 0) (lives : Lives out') where
  step : (owed owed' : List Row) (phase phase' : Phase) (fed : List Fed) (sent : List Row) → may_come ended fixed.width fed → Pass fixed.check (map (λ x. x.1) fed)
      → ((took : List Fed) (rest : List Row) → out' took rest → (old : List Row) × out (fed ++ took) old × (owed ++ old ≡ sent ++ (owed' ++ rest)))
      → Steps (row_state fixed out ended owed phase) fed sent (row_state fixed out' ended' owed' phase')
  step owed owed' phase phase' fed sent may pass same =
      storeless_steps _ _ ended ended' phase phase' _ _ [] [] [] [] fixed fed sent
      (ordered ended ended' fixed.width fed less may owed owed' [] [] sent out out' (λ took rest come output. same took rest output))
      (in_order_alive (may_come ended' fixed.width) out' owed' [] (λ took come. lives took)) (map (λ x. x.1) fed, sym (append-nil _), pass)

  -- what comes of a row that is taken is owed
  pub row_fed : (made : List Row) (phase phase' : Phase) (input : ℕ) (values : Row) → ended input ≡ false → length values ≡ fixed.width input → AreValues values → Pass fixed.check (values ∷ [])
      → ((took : List Fed) (rest : List Row) → out' took rest → out ((input, values) ∷ took) (made ++ rest))
      → Steps (row_state fixed out ended [] phase) ((input, values) ∷ []) [] (row_state fixed out' ended' made phase')
  row_fed made phase phase' input values open_ wide are pass makes =
      step [] made phase phase' ((input, values) ∷ []) [] ((open_, wide, are), tt) pass (λ took rest output. (made ++ rest, makes took rest output, refl))

  -- a row is taken of which nothing comes
  pub row_left : (owed : List Row) (phase phase' : Phase) (input : ℕ) (values : Row) → ended input ≡ false → length values ≡ fixed.width input → AreValues values → Pass fixed.check (values ∷ [])
      → ((took : List Fed) (rest : List Row) → out' took rest → out ((input, values) ∷ took) rest)
      → Steps (row_state fixed out ended owed phase) ((input, values) ∷ []) [] (row_state fixed out' ended' owed phase')
  row_left owed phase phase' input values open_ wide are pass makes =
      step owed owed phase phase' ((input, values) ∷ []) [] ((open_, wide, are), tt) pass (λ took rest output. (rest, makes took rest output, refl))

-- nothing is taken or given
pub row_stays : (fixed : Fixed) (ended ended' : ℕ → Bool) → EndsMore ended ended' → (out : List Fed → List Row → Type 0) → Lives out → (owed : List Row) (phase phase' : Phase)
    → Steps (row_state fixed out ended owed phase) [] [] (row_state fixed out ended' owed phase')
row_stays fixed ended ended' less out lives owed phase phase' =
    step fixed ended ended' less out out lives owed owed phase phase' [] [] tt (passes_none fixed.check) (λ took rest output. (rest, output, refl))

module _ (fixed : Fixed) (ended : ℕ → Bool) (out : List Fed → List Row → Type 0) (lives : Lives out) where
  -- the first row that is owed is given
  pub row_gives : (row : Row) (owed : List Row) (fields : Fields) (phase : Phase) → phase ≡ Working → AreValues row → length row ≡ fixed.arity → fields_of row ≡ fields
      → TellsTurn (row_state fixed out ended (row ∷ owed) phase) fields (row_state fixed out ended owed phase) N.Row
  row_gives row owed fields phase works are wide is = (
    works,
    omega arith,
    (
      row,
      are,
      wide,
      is,
      step fixed ended ended (ends_none ended) out out lives (row ∷ owed) owed phase phase [] (row ∷ []) tt (passes_none fixed.check) (λ took rest output. (rest, output, refl)),
    ),
  )

  -- it asks for input where it owes no row
  pub row_asks : (fields : Fields) (phase : Phase) (input : ℕ) → ended input ≡ false → phase ≢ GivenUp → (phase ≡ Ended → ended input ≡ true)
      → TellsTurn (row_state fixed out ended [] phase) fields (row_state fixed out ended [] Hungry) N.NeedInput
  row_asks fields phase input going live over =
      let turns = beside 0 (turns_asking phase live (λ e. true≢false (sym (over e) ∙ going))) in
      (refl, turns.0, turns.1, row_stays fixed ended ended (ends_none ended) out lives [] phase Hungry, (input, going))

  -- it has ended where it owes no row and no row comes
  pub row_ends : (fields : Fields) (phase : Phase) → Ends out → ((input : ℕ) → ended input ≡ true) → phase ≢ GivenUp
      → TellsTurn (row_state fixed out ended [] phase) fields (row_state fixed out ended [] Ended) N.End
  row_ends fields phase nothing all live =
      let turns = beside 0 (turns_ending phase live) in (
        refl,
        turns.0,
        turns.1,
        row_stays fixed ended ended (ends_none ended) out lives [] phase Ended,
        all,
        refl,
        λ h. record {
          finished = record {
            some = (tt, record { rest = []; output = nothing.0; is = refl });
            only = λ took put h.
                let no_more = none_comes ended fixed.width all took h.0 in
                (no_more, h.1.is ∙ nothing.1 h.1.rest (subst (λ t. out t h.1.rest) no_more h.1.output));
          };
          makes = refl;
        },
      )

  pub row_new : IsNew (row_state fixed out ended [] Working) out
  row_new = record {
    phase = refl;
    frames = omega arith;
    untested = refl;
    rest = λ h. new_ordered ended fixed.width out;
    alive = λ h. in_order_alive (may_come ended fixed.width) out [] [] (λ took come. lives took);
  }
