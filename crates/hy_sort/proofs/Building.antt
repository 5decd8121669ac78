-- The steps of the driver that keeps the rows of a sort.
use Rattle.std.proofs.Common.{◌≡◌, ◌≢◌, ℕ, nat_eq, Bool, true, false, true≢false, List, [], ◌∷◌, ◌++◌, map, length, None, refl, sym, ap, subst, ◌∙◌, append_assoc, append-nil, arith}
use Rattle.std.specs.List.{All, AllByRecursion}
use Rattle.std.specs.List.Sorted.{IsPermutation}
use Rattle.std.proofs.lemmas.List.{map-append}
use Rattle.std.proofs.lemmas.List.Sorted.{IsPermutation-refl}
use Rattle.hy_frame.specs.Row.{Fields, IsRow}
use Rattle.hy_rest.proofs.Rest.{in_order_alive}
use Rattle.hy_store.specs.Fields.{fields_of}
use Rattle.hy_store.specs.declared.fault.Next.TheVariants as N
use Rattle.hy_store.proofs.FieldLaws.{rows_are_values}
use Rattle.hy_driver.specs.Rows.{Row, AreValues, Fed, values_of}
use Rattle.hy_driver.specs.Seen.{Fixed}
use Rattle.hy_driver.specs.Forms.{may_come, one_ended}
use Rattle.hy_driver.specs.Steps.{IsNew, Steps, TellsTurn}
use Rattle.hy_driver.specs.Handing.{HandedOn}
use Rattle.hy_driver.specs.Keep.{kept}
use Rattle.hy_driver.specs.declared.handed.Handed.{Handed}
use Rattle.hy_driver.specs.declared.phase.Phase.{Phase}
use Rattle.hy_driver.specs.declared.phase.Phase.TheVariants.{Working, Hungry, Ended, GivenUp}
use Rattle.hy_driver.proofs.Values.{values_again, as_many}
use Rattle.hy_driver.proofs.Turns.{turns_asking, turns_ending}
use Rattle.hy_driver.proofs.Forms.{EndsMore, ends_none, all_ended, none_comes, none_tested, new_ordered, ordered}
use Rattle.hy_driver.proofs.Keeping.{keep_hands}
use Rattle.hy_job.specs.Drivers.{received_of}
use Rattle.hy_job.proofs.FreeLaws.{IsPermutation-same}
use Rattle.hy_rows.proofs.Received.{all_received, is_first, received_one}
use Rattle.hy_sort.specs.Build.{build_out, build_state}

-- ---- outputs

-- there is an output
some_out : (phase : Phase) (took : List Fed) → (rest : List Row) × build_out phase took rest
some_out Working took = (received_of took 0, IsPermutation-refl (received_of took 0))
some_out Hungry took = (received_of took 0, IsPermutation-refl (received_of took 0))
some_out Ended took = (map (λ x. x.1) took, refl)
some_out GivenUp took = (received_of took 0, IsPermutation-refl (received_of took 0))

-- before it has ended any order will do
any_order : (phase : Phase) (took : List Fed) (rest : List Row) → phase ≢ Ended → IsPermutation (received_of took 0) rest → build_out phase took rest
any_order Working took rest going moved = moved
any_order Hungry took rest going moved = moved
any_order Ended took rest going moved = absurd (going refl)
any_order GivenUp took rest going moved = moved

some_order : (phase : Phase) (took : List Fed) (rest : List Row) → phase ≢ Ended → build_out phase took rest → IsPermutation (received_of took 0) rest
some_order Working took rest going out = out
some_order Hungry took rest going out = out
some_order Ended took rest going out = absurd (going refl)
some_order GivenUp took rest going out = out

-- and that in which they came always will
as_they_came : (phase : Phase) (took : List Fed) (rest : List Row) → received_of took 0 ≡ map (λ x. x.1) took → rest ≡ map (λ x. x.1) took → build_out phase took rest
as_they_came Working took rest all is = IsPermutation-same (received_of took 0) rest (all ∙ sym is)
as_they_came Hungry took rest all is = IsPermutation-same (received_of took 0) rest (all ∙ sym is)
as_they_came Ended took rest all is = is
as_they_came GivenUp took rest all is = IsPermutation-same (received_of took 0) rest (all ∙ sym is)

-- ---- rows that are kept

in_rows : (rows : List Fields) (took : List Fed) → map (λ x. x.1) (kept rows ++ took) ≡ map values_of rows ++ map (λ x. x.1) took
in_rows [] took = refl
in_rows (row ∷ rows) took = ap (λ r. values_of row ∷ r) (in_rows rows took)

kept_received : (rows : List Fields) (took : List Fed) → received_of (kept rows ++ took) 0 ≡ map values_of rows ++ received_of took 0
kept_received [] took = refl
kept_received (row ∷ rows) took = ap (λ r. values_of row ∷ r) (kept_received rows took)

-- a row more is received, whether it is kept or still to come
one_more : (rows : List Fields) (row : Fields) (input : ℕ) (values : Row) (took : List Fed) → nat_eq input 0 ≡ true → values_of row ≡ values
    → received_of (kept (rows ++ row ∷ []) ++ took) 0 ≡ received_of (kept rows ++ (input, values) ∷ took) 0
one_more rows row input values took first same =
    kept_received (rows ++ row ∷ []) took
    ∙ (ap (λ r. r ++ received_of took 0) (map-append values_of rows (row ∷ []))
    ∙ (append_assoc (map values_of rows) (values_of row ∷ []) (received_of took 0)
    ∙ (ap (λ v. map values_of rows ++ v ∷ received_of took 0) same
    ∙ (ap (λ r. map values_of rows ++ r) (sym (received_one input values took first))
    ∙ sym (kept_received rows ((input, values) ∷ took))))))

all_more : (n : ℕ) (rows : List Fields) (row : Fields) → AllByRecursion (IsRow n) rows → IsRow n row → AllByRecursion (IsRow n) (rows ++ row ∷ [])
all_more n [] row all is = (is, tt)
all_more n (r ∷ rows) row all is = (all.0, all_more n rows row all.1 is)

-- ---- steps

module _ (fixed : Fixed) (none : fixed.check ≡ None) where
  step : (rows rows' : List Fields) (ended ended' : Bool) (phase phase' : Phase) (fed : List Fed) → EndsMore (one_ended ended) (one_ended ended') → may_come (one_ended ended) fixed.width fed
      → (AllByRecursion (IsRow fixed.arity) rows → AllByRecursion (IsRow fixed.arity) rows')
      → ((took : List Fed) (rest : List Row) → may_come (one_ended ended') fixed.width took → build_out phase' (kept rows' ++ took) rest → build_out phase (kept rows ++ (fed ++ took)) rest)
      → Steps (build_state fixed rows ended phase) fed [] (build_state fixed rows' ended' phase')
  step rows rows' ended ended' phase phase' fed less may sound same = record {
    sound = sound;
    rest = λ h. ordered (one_ended ended) (one_ended ended') fixed.width fed less may [] [] (kept rows) (kept rows') [] (build_out phase) (build_out phase')
        (λ took rest come output. (rest, same took rest come output, refl));
    alive = λ h. in_order_alive (may_come (one_ended ended') fixed.width) (build_out phase') [] (kept rows') (λ took come. some_out phase' (kept rows' ++ took));
    makes = λ h took may. refl;
    tested = none_tested fixed.check none _;
    served = refl;
  }

  -- its input ends
  pub build_closes : (rows : List Fields) (ended ended' : Bool) (phase : Phase) → EndsMore (one_ended ended) (one_ended ended')
      → Steps (build_state fixed rows ended phase) [] [] (build_state fixed rows ended' phase)
  build_closes rows ended ended' phase less = step rows rows ended ended' phase phase [] less tt (λ h. h) (λ took rest come out. out)

  -- a row is taken
  pub build_fed : (rows : List Fields) (row : Fields) (ended : Bool) (phase : Phase) (input : ℕ) (values : Row) → phase ≡ Hungry → fixed.width input ≡ fixed.arity
      → one_ended ended input ≡ false → length row ≡ fixed.width input → AreValues values → fields_of values ≡ row
      → Steps (build_state fixed rows ended phase) ((input, values) ∷ []) [] (build_state fixed (rows ++ row ∷ []) ended Working)
  build_fed rows row ended phase input values hungry as_wide going wide are is =
      let many = as_many values row (fixed.width input) is wide in
      let same : values_of row ≡ values = ap values_of (sym is) ∙ values_again values are in
      step rows (rows ++ row ∷ []) ended ended phase Working ((input, values) ∷ []) (ends_none (one_ended ended)) ((going, many, are), tt)
      (λ all. all_more fixed.arity rows row all ((rows_are_values fixed.arity row).1 (values, many ∙ as_wide, are, is)))
      (λ took rest come out. any_order phase (kept rows ++ (input, values) ∷ took) rest (λ e. no (sym hungry ∙ e))
      (subst (λ r. IsPermutation r rest) (one_more rows row input values took (is_first ended input going) same) out))
    where
      no : Hungry ≡ Ended → ⊥
      no e = cc

  pub build_asks : (rows : List Fields) (out : Fields) (ended : Bool) (phase : Phase) → ended ≡ false → phase ≢ GivenUp → (phase ≡ Ended → ended ≡ true)
      → TellsTurn (build_state fixed rows ended phase) out (build_state fixed rows ended Hungry) N.NeedInput
  build_asks rows out ended phase going live over =
      let not_ended : phase ≢ Ended = λ e. true≢false (sym (over e) ∙ going) in
      let turns = turns_asking phase live not_ended in (
        refl,
        turns.0,
        turns.1,
        step rows rows ended ended phase Hungry [] (ends_none (one_ended ended)) tt (λ h. h) (λ took rest come out. any_order phase (kept rows ++ took) rest not_ended out),
        (0, going),
      )

  pub build_ends : (rows : List Fields) (out : Fields) (ended : Bool) (phase : Phase) → ended ≡ true → phase ≢ GivenUp
      → TellsTurn (build_state fixed rows ended phase) out (build_state fixed rows ended Ended) N.End
  build_ends rows out false phase over live = absurd (true≢false (sym over))
  build_ends rows out true phase over live =
      let turns = turns_ending phase live in
      let all : map (λ (x : Fed). x.1) (kept rows ++ []) ≡ map values_of rows = in_rows rows [] ∙ append-nil (map values_of rows) in (
        refl,
        turns.0,
        turns.1,
        step rows rows true true phase Ended [] (ends_none (one_ended true)) tt (λ h. h)
            (λ took rest come out. as_they_came phase (kept rows ++ took) rest (kept_received rows took ∙ (ap (λ r. map values_of rows ++ r) (all_received true fixed.width took come) ∙ sym (in_rows rows took))) out),
        all_ended,
        refl,
        λ h. record {
          finished = record {
            some = (tt, record { rest = map values_of rows; output = sym all; is = refl });
            only = λ took put h.
                let no_more = none_comes (one_ended true) fixed.width all_ended took h.0 in
                (no_more, h.1.is ∙ (h.1.output ∙ (ap (λ t. map (λ (x : Fed). x.1) (kept rows ++ t)) no_more ∙ all)));
          };
          makes = refl;
        },
      )

  -- the rows that it keeps are handed on
  pub build_hands : (rows : List Fields) (ended : Bool) (phase : Phase) (h : Handed) → All (λ row. length row ≡ fixed.arity) rows → (phase ≡ GivenUp → rows ≡ []) → h.rows ≡ rows → h.frames ≡ [] → h.runs ≡ []
      → HandedOn (build_state fixed rows ended phase) h
  build_hands rows ended phase h fit given_up of_rows no_frames no_runs =
      let handed = keep_hands fixed none rows ended phase h fit given_up of_rows no_frames no_runs in record {
        frames = handed.frames;
        shape = handed.shape;
        fit = handed.fit;
        runs = handed.runs;
        shapes = handed.shapes;
        rows = handed.rows;
        none = handed.none;
      }

pub build_new : (fixed : Fixed) (rows : List Fields) → rows ≡ [] → IsNew (build_state fixed rows false Working) (build_out Working)
build_new fixed rows none = subst (λ r. IsNew (build_state fixed r false Working) (build_out Working)) (sym none) (record {
  phase = refl;
  frames = omega arith;
  untested = refl;
  rest = λ h. new_ordered (one_ended false) fixed.width (build_out Working);
  alive = λ h. in_order_alive (may_come (one_ended false) fixed.width) (build_out Working) [] [] (λ took may. some_out Working took);
})
