-- The steps of the operator that gives a row for each stretch of rows with equal keys.
use Rattle.std.proofs.Common.{◌≡◌, ◌≢◌, ◌<◌, ◌≤◌, ◌+◌, ℕ, Bool, true, false, true≢false, List, [], ◌∷◌, ◌++◌, map, length, Option, None, refl, sym, ap, subst, ◌∙◌, append_assoc, append-nil, arith}
use Rattle.std.proofs.lemmas.List.Elements.{All-nil}
use Rattle.hy_frame.specs.Row.{Fields, IsRow}
use Rattle.hy_rest.proofs.Rest.{in_order_alive}
use Rattle.hy_store.specs.Fields.{fields_of}
use Rattle.hy_store.specs.declared.fault.Next.TheVariants as N
use Rattle.hy_driver.specs.Rows.{Row, AreValues, Fed, values_of}
use Rattle.hy_driver.specs.Seen.{Fixed, Seen, turns_in}
use Rattle.hy_driver.specs.Forms.{may_come, one_ended}
use Rattle.hy_driver.specs.Steps.{IsNew, Steps, TellsTurn}
use Rattle.hy_driver.specs.declared.phase.Phase.{Phase}
use Rattle.hy_driver.specs.declared.phase.Phase.TheVariants.{Working, Hungry, Ended, GivenUp}
use Rattle.hy_driver.proofs.Forms.{EndsMore, all_ended, ends_none, ends_one, none_comes, none_tested, ordered}
use Rattle.hy_driver.proofs.Turns.{beside, turns_asking}
use Rattle.hy_driver.proofs.Values.{as_many, fields_again, values_again}
use Rattle.hy_job.specs.declared.nested.NestedPlan.{NestedPlan}
use Rattle.hy_job.specs.Columns.{key_of}
use Rattle.hy_job.specs.Drivers.{received_of}
use Rattle.hy_job.specs.Nested.{IsPreGrouped}
use Rattle.hy_job.specs.Sound.{is_aggregate}
use Rattle.hy_rows.proofs.Received.{is_first, received_one}
use Rattle.hy_rows.proofs.RowSteps.{Ends, Lives, row_ends, row_new}
use Rattle.hy_subplan.specs.Held.{held_row}
use Rattle.hy_subplan.specs.Stretch.{Breaks, GoesOn, IsRowOf, IsStretch, as_fed, pre_out, pre_state, stretch_turns}
use Rattle.hy_subplan.proofs.Stretches.{only_none, stretch_cut, stretch_last, stretch_longer, stretch_none, stretch_some}

-- ---- what is received

fed_behind : (rows : List Row) (took : List Fed) → received_of (as_fed rows ++ took) 0 ≡ rows ++ received_of took 0
fed_behind [] took = refl
fed_behind (r ∷ rows) took = received_one 0 r (as_fed rows ++ took) refl ∙ ap (λ (rs : List Row). r ∷ rs) (fed_behind rows took)

-- with a row that is taken behind those of a stretch
with_fed : (rows : List Row) (ended : Bool) (input : ℕ) (values : Row) (took : List Fed) → one_ended ended input ≡ false → received_of (as_fed rows ++ ((input, values) ∷ took)) 0 ≡ rows ++ values ∷ received_of took 0
with_fed rows ended input values took open_ = fed_behind rows ((input, values) ∷ took) ∙ ap (λ (rs : List Row). rows ++ rs) (received_one input values took (is_first ended input open_))

-- ---- steps

module _ (fixed : Fixed) (keys : List ℕ) (n : NestedPlan) (root : is_aggregate n ≡ true) (none : fixed.check ≡ None) where
  lives : (rows : List Row) (took : List Fed) → (rest : List Row) × pre_out keys n (as_fed rows ++ took) rest
  lives rows took = stretch_some keys n root (received_of (as_fed rows ++ took) 0)

  step : (ended ended' : Bool) → EndsMore (one_ended ended) (one_ended ended') → (owed owed' rows rows' : List Row) (phase phase' : Phase) (fed : List Fed) (sent : List Row) → may_come (one_ended ended) fixed.width fed
      → (IsStretch keys rows → IsStretch keys rows')
      → (IsStretch keys rows → (took : List Fed) (rest : List Row) → may_come (one_ended ended') fixed.width took → pre_out keys n (as_fed rows' ++ took) rest → (old : List Row) × pre_out keys n (as_fed rows ++ (fed ++ took)) old × (owed ++ old ≡ sent ++ (owed' ++ rest)))
      → Steps (pre_state fixed keys n ended owed rows phase) fed sent (pre_state fixed keys n ended' owed' rows' phase')
  step ended ended' less owed owed' rows rows' phase phase' fed sent may keeps same = record {
    sound = keeps;
    rest = λ s. ordered (one_ended ended) (one_ended ended') fixed.width fed less may owed owed' (as_fed rows) (as_fed rows') sent (pre_out keys n) (pre_out keys n) (same s);
    alive = λ s. in_order_alive (may_come (one_ended ended') fixed.width) (pre_out keys n) owed' (as_fed rows') (λ took come. lives rows' took);
    makes = λ s took may. refl;
    tested = none_tested fixed.check none (map (λ x. x.1) fed);
    served = refl;
  }

  -- nothing is taken or given
  stays : (ended ended' : Bool) → EndsMore (one_ended ended) (one_ended ended') → (owed rows : List Row) (phase phase' : Phase) → Steps (pre_state fixed keys n ended owed rows phase) [] [] (pre_state fixed keys n ended' owed rows phase')
  stays ended ended' less owed rows phase phase' = step ended ended' less owed owed rows rows phase phase' [] [] tt (λ s. s) (λ s took rest come output. (rest, output, refl))

  module _ (ended holds : Bool) (held : Fields) (unheld : holds ≡ false) (rows : List Row) (phase : Phase) (input : ℕ) (values taken : Row) (fields : Fields) (open_ : one_ended ended input ≡ false) (wide : length fields ≡ fixed.width input) (are : AreValues values)
      (is : fields_of values ≡ fields) (read : taken ≡ values_of fields) where
    same_values : taken ≡ values
    same_values = read ∙ ap values_of (sym is) ∙ values_again values are

    from_none : (new : Seen) → Steps (pre_state fixed keys n ended [] rows phase) ((input, values) ∷ []) [] new → Steps (pre_state fixed keys n ended (held_row holds held) rows phase) ((input, values) ∷ []) [] new
    from_none new steps = subst (λ b. Steps (pre_state fixed keys n ended (held_row b held) rows phase) ((input, values) ∷ []) [] new) (sym unheld) steps

    -- a row goes on with the stretch
    pub pre_goes_on : (rows' : List Row) → GoesOn keys rows taken → rows' ≡ rows ++ taken ∷ [] → Steps (pre_state fixed keys n ended (held_row holds held) rows phase) ((input, values) ∷ []) [] (pre_state fixed keys n ended [] rows' Working)
    pre_goes_on rows' on pushed = from_none (pre_state fixed keys n ended [] rows' Working)
        (step ended ended (ends_none (one_ended ended)) [] [] rows rows' phase Working ((input, values) ∷ []) [] ((open_, as_many values fields (fixed.width input) is wide, are), tt)
        (λ s. subst (IsStretch keys) (sym pushed) (stretch_longer keys rows taken s on))
        (λ s took rest come output. (rest, subst (λ (rs : List Row). IsPreGrouped keys n rs rest) (there took) output, refl)))
      where
        there : (took : List Fed) → received_of (as_fed rows' ++ took) 0 ≡ received_of (as_fed rows ++ ((input, values) ∷ took)) 0
        there took =
            fed_behind rows' took ∙ ap (λ (rs : List Row). rs ++ received_of took 0) (pushed ∙ ap (λ v. rows ++ v ∷ []) same_values)
            ∙ append_assoc rows (values ∷ []) (received_of took 0) ∙ sym (with_fed rows ended input values took open_)

    -- it has other keys, so the stretch is over
    pub pre_breaks : (rows' : List Row) (made : Row) (out : Fields) → Breaks keys rows taken → IsRowOf keys n rows made → values_of out ≡ made → rows' ≡ taken ∷ []
        → Steps (pre_state fixed keys n ended (held_row holds held) rows phase) ((input, values) ∷ []) [] (pre_state fixed keys n ended (held_row true out) rows' Working)
    pre_breaks rows' made out breaks row put one = from_none (pre_state fixed keys n ended (held_row true out) rows' Working)
        (step ended ended (ends_none (one_ended ended)) [] (values_of out ∷ []) rows rows' phase Working ((input, values) ∷ []) [] ((open_, as_many values fields (fixed.width input) is wide, are), tt)
        (λ s. subst (IsStretch keys) (sym one) (All-nil (λ (r : Row). key_of keys r ≡ key_of keys taken)))
        (λ s took rest come output. (
          made ∷ rest,
          subst (λ (rs : List Row). IsPreGrouped keys n rs (made ∷ rest)) (sym (with_fed rows ended input values took open_))
              (stretch_cut keys n rows values (received_of took 0) made rest s (subst (Breaks keys rows) same_values breaks) row (subst (λ (rs : List Row). IsPreGrouped keys n rs rest) (alone took) output)),
          ap (λ v. v ∷ rest) (sym put),
        )))
      where
        alone : (took : List Fed) → received_of (as_fed rows' ++ took) 0 ≡ values ∷ received_of took 0
        alone took = fed_behind rows' took ∙ ap (λ (rs : List Row). rs ++ received_of took 0) (one ∙ ap (λ (v : Row). v ∷ []) same_values)

  pub pre_stays : (ended : Bool) (owed rows : List Row) (phase : Phase) → Steps (pre_state fixed keys n ended owed rows phase) [] [] (pre_state fixed keys n true owed rows phase)
  pre_stays ended owed rows phase = stays ended true (ends_one ended) owed rows phase phase

  -- the row that is held is given
  pub pre_gives : (ended holds : Bool) (row out : Fields) (rows : List Row) (phase : Phase) → holds ≡ true → (holds ≡ true → phase ≡ Working) → IsRow (length row) row → (holds ≡ true → length row ≡ fixed.arity) → row ≡ out
      → TellsTurn (pre_state fixed keys n ended (held_row holds row) rows phase) out (pre_state fixed keys n ended (held_row false row) rows phase) N.Row
  pre_gives ended false row out rows phase held works is wide same = absurd (true≢false (sym held))
  pre_gives ended true row out rows phase held works is wide same =
      let again = fields_again (length row) row is in (
        works refl,
        omega arith,
        (
          values_of row,
          again.0,
          again.2 ∙ wide refl,
          again.1 ∙ same,
          step ended ended (ends_none (one_ended ended)) (values_of row ∷ []) [] rows rows phase phase [] (values_of row ∷ []) tt (λ s. s) (λ s took rest come output. (rest, output, refl)),
        ),
      )

  -- it asks for input
  pub pre_asks : (ended holds : Bool) (row out : Fields) (rows : List Row) (phase : Phase) → holds ≡ false → ended ≡ false → phase ≢ GivenUp → (phase ≡ Ended → ended ≡ true)
      → TellsTurn (pre_state fixed keys n ended (held_row holds row) rows phase) out (pre_state fixed keys n ended (held_row holds row) rows Hungry) N.NeedInput
  pre_asks ended true row out rows phase unheld going live over = absurd (true≢false unheld)
  pre_asks ended false row out rows phase unheld going live over =
      let turns = beside (0 + stretch_turns rows) (turns_asking phase live (λ e. true≢false (sym (over e) ∙ going))) in
      (refl, turns.0, turns.1, stays ended ended (ends_none (one_ended ended)) [] rows phase Hungry, (0, going))

  -- the last stretch is over
  pub pre_last : (ended holds : Bool) (row out : Fields) (rows rows' : List Row) (made : Row) (phase : Phase) → holds ≡ false → ended ≡ true → phase ≢ GivenUp → (phase ≡ Ended → rows ≡ []) → IsRowOf keys n rows made → rows' ≡ []
      → values_of out ≡ made → IsRow (length out) out → length out ≡ fixed.arity
      → TellsTurn (pre_state fixed keys n ended (held_row holds row) rows phase) out (pre_state fixed keys n ended (held_row holds row) rows' Working) N.Row
  pre_last ended true row out rows rows' made phase unheld over live done is_row none_left put is wide = absurd (true≢false unheld)
  pre_last false false row out rows rows' made phase unheld over live done is_row none_left put is wide = absurd (true≢false (sym over))
  pre_last true false row out [] rows' made phase unheld over live done is_row none_left put is wide = absurd is_row
  pre_last true false row out (r ∷ rs) rows' made phase unheld over live done is_row none_left put is wide =
      let again = fields_again (length out) out is in
      subst (λ (left : List Row). TellsTurn (pre_state fixed keys n true [] (r ∷ rs) phase) out (pre_state fixed keys n true [] left Working) N.Row) (sym none_left) (
        refl,
        fewer phase live (λ e. no (done e)),
        (
          values_of out,
          again.0,
          again.2 ∙ wide,
          again.1,
          step true true (ends_none (one_ended true)) [] [] (r ∷ rs) [] phase Working [] (values_of out ∷ []) tt (λ s. tt)
              (λ s took rest come output.
              let no_more = none_comes (one_ended true) fixed.width all_ended took come in
              let no_rest = only_none keys n rest (subst (λ t. pre_out keys n t rest) no_more output) in (
                made ∷ rest,
                subst (λ t. pre_out keys n (as_fed (r ∷ rs) ++ t) (made ∷ rest)) (sym no_more)
                    (subst (λ (rest : List Row). IsPreGrouped keys n (received_of (as_fed (r ∷ rs) ++ []) 0) (made ∷ rest)) (sym no_rest)
                    (subst (λ (rows : List Row). IsPreGrouped keys n rows (made ∷ [])) (sym (fed_behind (r ∷ rs) [] ∙ append-nil (r ∷ rs))) (stretch_last keys n (r ∷ rs) made s is_row))),
                ap (λ v. v ∷ rest) (sym put),
              )),
        ),
      )
    where
      no : r ∷ rs ≡ [] → ⊥
      no e = cc

      fewer : (phase : Phase) → phase ≢ GivenUp → phase ≢ Ended → 0 + 0 + turns_in Working < 0 + 2 + turns_in phase
      fewer Working live going = omega arith
      fewer Hungry live going = omega arith
      fewer Ended live going = absurd (going refl)
      fewer GivenUp live going = absurd (live refl)

  -- nothing is left
  pub pre_ends : (ended holds : Bool) (row out : Fields) (rows : List Row) (phase : Phase) → holds ≡ false → ended ≡ true → rows ≡ [] → phase ≢ GivenUp
      → TellsTurn (pre_state fixed keys n ended (held_row holds row) rows phase) out (pre_state fixed keys n ended (held_row holds row) rows Ended) N.End
  pre_ends ended true row out rows phase unheld over empty live = absurd (true≢false unheld)
  pre_ends ended false row out rows phase unheld over empty live =
      subst (λ (left : List Row). TellsTurn (pre_state fixed keys n ended [] left phase) out (pre_state fixed keys n ended [] left Ended) N.End) (sym empty)
      (row_ends fixed (one_ended ended) (pre_out keys n) (λ took. lives [] took) out phase (stretch_none keys n, λ rest h. only_none keys n rest h) (subst (λ b. (input : ℕ) → one_ended b input ≡ true) (sym over) all_ended) live)

  pub pre_new : (ended : Bool) (row : Fields) (rows : List Row) → rows ≡ [] → IsNew (pre_state fixed keys n ended (held_row false row) rows Working) (pre_out keys n)
  pre_new ended row rows empty =
      subst (λ (left : List Row). IsNew (pre_state fixed keys n ended [] left Working) (pre_out keys n)) (sym empty) (row_new fixed (one_ended ended) (pre_out keys n) (λ took. lives [] took))
