-- The steps of the driver of aggregates without keys.
use Rattle.std.proofs.Common.{◌≡◌, ◌≢◌, ◌<◌, ◌+◌, ℕ, Bool, true, false, true≢false, if◌then◌else◌, List, [], ◌∷◌, ◌++◌, map, length, None, refl, sym, ap, subst, ◌∙◌, append_assoc, append-nil, arith}
use Rattle.std.specs.List.{AllByRecursion}
use Rattle.std.specs.List.Sorted.{IsPermutation}
use Rattle.std.proofs.lemmas.List.Sorted.{IsPermutation-refl}
use Rattle.al_agg.specs.declared.part.Part.{Part}
use Rattle.hy_frame.specs.Row.{Fields, IsRow}
use Rattle.hy_rest.specs.Rest.{Alive, AnyOrder}
use Rattle.hy_rest.proofs.Rest.{held_alive}
use Rattle.hy_store.specs.Fields.{fields_of}
use Rattle.hy_store.specs.declared.fault.Next.TheVariants as N
use Rattle.hy_driver.specs.Rows.{AreValues, Fed, Row, values_of}
use Rattle.hy_driver.specs.Seen.{Fixed, turns_in}
use Rattle.hy_driver.specs.Forms.{free_for_each, may_come, one_ended}
use Rattle.hy_driver.specs.Steps.{IsNew, Steps, TellsTurn}
use Rattle.hy_driver.specs.declared.phase.Phase.{Phase}
use Rattle.hy_driver.specs.declared.phase.Phase.TheVariants.{Working, Hungry, Ended, GivenUp}
use Rattle.hy_driver.proofs.Values.{as_many, fields_again, values_again}
use Rattle.hy_driver.proofs.Turns.{beside, turns_asking, turns_ending}
use Rattle.hy_driver.proofs.Forms.{EndsMore, all_ended, ends_none, freely_for_each, none_comes, none_tested}
use Rattle.hy_job.specs.declared.job.Kind.TheVariants as K
use Rattle.hy_job.specs.Drivers.{all_left, driver_out, has_last, received_of}
use Rattle.hy_job.specs.Sound.{HasArity, IsInRange, TakesStates}
use Rattle.hy_job.proofs.Drivers.{drivers_move}
use Rattle.hy_rows.proofs.Received.{all_received, is_first, received_append, received_one}
use Rattle.hy_aggregate.specs.declared.work.AggWork.{AggWork}
use Rattle.hy_aggregate.specs.declared.work.AggWork.TheVariants as W
use Rattle.hy_aggregate.specs.Work.{HaveTaken, IsLast, Reads, agg_out, arity_of, kind_of}
use Rattle.hy_aggregate.specs.Aggregate.{StandsFor, agg_state, widths_of}
use Rattle.hy_aggregate.proofs.Lasting.{same_last, some_last}

-- ---- rows

-- what is put into a row of fields is found again in them
pub row_again : (row : Row) (fields : Fields) → IsRow (length fields) fields → values_of fields ≡ row → AreValues row × (fields_of row ≡ fields)
row_again row fields is same = let again = fields_again (length fields) fields is in (subst AreValues same again.0, ap fields_of (sym same) ∙ again.1)

-- rows that come are values
come_values : (ended : Bool) (width : ℕ → ℕ) (took : List Fed) → may_come (one_ended ended) width took → AllByRecursion AreValues (received_of took 0)
come_values ended width took come = subst (AllByRecursion AreValues) (sym (all_received ended width took come)) (each took come)
  where
    each : (took : List Fed) → may_come (one_ended ended) width took → AllByRecursion AreValues (map (λ x. x.1) took)
    each [] h = tt
    each (x ∷ took) h = (h.0.2, each took h.1)

-- a row that is taken stands behind those that were taken
fed_behind : (held : List Fed) (input : ℕ) (values : Row) (ended : Bool) → one_ended ended input ≡ false → received_of held 0 ++ values ∷ [] ≡ received_of (held ++ (input, values) ∷ []) 0
fed_behind held input values ended going = ap (λ r. received_of held 0 ++ r) (sym (received_one input values [] (is_first ended input going))) ∙ sym (received_append held ((input, values) ∷ []))

-- ---- outputs

out_moves : (work : AggWork) (last : Bool) → AnyOrder (agg_out work last)
out_moves (W.Part made) last = drivers_move (K.AggPart made) 0 (record { skip = 0; give = 0; own = []; handed = []; last = last }) refl
out_moves (W.Final made) last = drivers_move (K.AggFinal made) 0 (record { skip = 0; give = 0; own = []; handed = []; last = last }) refl

-- whichever rows the states stand for, the output is the same
same_out : (work : AggWork) (states : List Part) (last : Bool) (held held' took : List Fed) (rest : List Row) → StandsFor work last states held → StandsFor work last states held'
    → agg_out work last (held ++ took) rest → agg_out work last (held' ++ took) rest
same_out work states false held held' took rest h g out = out
same_out work states true held held' took rest h g out = (
  out.0,
  subst (λ r. IsLast work r out.0) (sym (received_append held' took))
      (same_last work states (received_of held 0) (received_of held' 0) (received_of took 0) out.0 h g (subst (λ r. IsLast work r out.0) (received_append held took) out.1)),
  out.2,
)

some_out : (work : AggWork) (states : List Part) (last ended : Bool) (width : ℕ → ℕ) (held took : List Fed) → StandsFor work last states held → may_come (one_ended ended) width took → (rest : List Row) × agg_out work last (held ++ took) rest
some_out work states false ended width held took h come = ([], refl)
some_out work states true ended width held took h come =
    let last = some_last work states (received_of held 0) (received_of took 0) h (come_values ended width took come) in
    (last.0 ∷ [], (last.0, subst (λ r. IsLast work r last.0) (sym (received_append held took)) last.1, refl))

lives : (work : AggWork) (states : List Part) (last ended : Bool) (width : ℕ → ℕ) (held : List Fed) → StandsFor work last states held
    → Alive (may_come (one_ended ended) width) (free_for_each (one_ended ended) width [] (StandsFor work last states) (agg_out work last))
lives work states last ended width held h = held_alive (may_come (one_ended ended) width) (StandsFor work last states) (agg_out work last) []
    (λ took come. let rest = some_out work states last ended width held took h come in (rest.0, λ other g. same_out work states last held other took rest.0 h g rest.1))

-- ---- steps

module _ (fixed : Fixed) (none : fixed.check ≡ None) (work : AggWork) where
  step : (states states' : List Part) (last last' ended ended' : Bool) (phase phase' : Phase) (fed : List Fed) (sent : List Row) → EndsMore (one_ended ended) (one_ended ended') → may_come (one_ended ended) fixed.width fed
      → ((held : List Fed) → StandsFor work last states held → (held' : List Fed) × StandsFor work last' states' held'
      × ((took : List Fed) (rest : List Row) → may_come (one_ended ended') fixed.width took → agg_out work last' (held' ++ took) rest → (old : List Row) × agg_out work last (held ++ (fed ++ took)) old × (old ≡ sent ++ rest)))
      → Steps (agg_state fixed work states last ended phase) fed sent (agg_state fixed work states' last' ended' phase')
  step states states' last last' ended ended' phase phase' fed sent less may goes = record {
    sound = λ h. let more = goes h.0 h.1 in (more.0, more.1);
    rest = λ h. freely_for_each (one_ended ended) (one_ended ended') fixed.width fed less may [] [] (StandsFor work last states) (StandsFor work last' states') sent (agg_out work last) (agg_out work last') (out_moves work last)
        (λ held stands.
        let more = goes held stands in
        (more.0, more.1, λ took rest come out. let old = more.2 took rest come out in (old.0, old.1, subst (λ r. IsPermutation old.0 r) old.2 (IsPermutation-refl old.0))));
    alive = λ h. let more = goes h.0 h.1 in lives work states' last' ended' fixed.width more.0 more.1;
    makes = λ h took may. refl;
    tested = none_tested fixed.check none _;
    served = refl;
  }

  -- nothing is taken or given
  pub agg_stays : (states : List Part) (last ended ended' : Bool) (phase phase' : Phase) → EndsMore (one_ended ended) (one_ended ended')
      → Steps (agg_state fixed work states last ended phase) [] [] (agg_state fixed work states last ended' phase')
  agg_stays states last ended ended' phase phase' less = step states states last last ended ended' phase phase' [] [] less tt (λ held stands. (held, stands, λ took rest come out. (rest, out, refl)))

  -- a row is taken
  pub agg_fed : (states states' : List Part) (last ended : Bool) (phase phase' : Phase) (row : Fields) (input : ℕ) (values : Row) → last ≡ true → one_ended ended input ≡ false → length row ≡ fixed.width input → AreValues values → fields_of values ≡ row
      → ((rows : List Row) → HaveTaken work rows states → HaveTaken work (rows ++ values_of row ∷ []) states')
      → Steps (agg_state fixed work states last ended phase) ((input, values) ∷ []) [] (agg_state fixed work states' true ended phase')
  agg_fed states states' false ended phase phase' row input values still going wide are is takes = absurd (true≢false (sym still))
  agg_fed states states' true ended phase phase' row input values still going wide are is takes =
      let same : values_of row ≡ values = ap values_of (sym is) ∙ values_again values are in
      step states states' true true ended ended phase phase' ((input, values) ∷ []) [] (ends_none (one_ended ended)) ((going, as_many values row (fixed.width input) is wide, are), tt)
      (λ held stands. (
        held ++ (input, values) ∷ [],
        subst (λ r. HaveTaken work r states') (ap (λ v. received_of held 0 ++ v ∷ []) same ∙ fed_behind held input values ended going) (takes (received_of held 0) stands),
        λ took rest come out. (rest, subst (λ t. agg_out work true t rest) (append_assoc held ((input, values) ∷ []) took) out, refl),
      ))

  -- a row is let go that nothing comes of
  pub agg_passed : (states : List Part) (last ended : Bool) (phase phase' : Phase) (row : Fields) (input : ℕ) (values : Row) → last ≡ false → one_ended ended input ≡ false → length row ≡ fixed.width input → AreValues values → fields_of values ≡ row
      → Steps (agg_state fixed work states last ended phase) ((input, values) ∷ []) [] (agg_state fixed work states last ended phase')
  agg_passed states true ended phase phase' row input values over going wide are is = absurd (true≢false over)
  agg_passed states false ended phase phase' row input values over going wide are is =
      step states states false false ended ended phase phase' ((input, values) ∷ []) [] (ends_none (one_ended ended)) ((going, as_many values row (fixed.width input) is wide, are), tt)
      (λ held stands. (held, tt, λ took rest come out. (rest, out, refl)))

  pub agg_asks : (states : List Part) (out : Fields) (last ended : Bool) (phase : Phase) → ended ≡ false → phase ≢ GivenUp → (phase ≡ Ended → ended ≡ true)
      → TellsTurn (agg_state fixed work states last ended phase) out (agg_state fixed work states last ended Hungry) N.NeedInput
  agg_asks states out last ended phase going live over =
      let turns = beside (if last then 2 else 0) (turns_asking phase live (λ e. true≢false (sym (over e) ∙ going))) in
      (refl, turns.0, turns.1, agg_stays states last ended ended phase Hungry (ends_none (one_ended ended)), (0, going))

  -- a turn was used for its row
  pub agg_turned : (last : Bool) (phase : Phase) → last ≡ true → phase ≢ GivenUp → (phase ≡ Ended → last ≡ false) → turns_in Working < (if last then 2 else 0) + turns_in phase
  agg_turned false phase still live given = absurd (true≢false (sym still))
  agg_turned true Working still live given = omega arith
  agg_turned true Hungry still live given = omega arith
  agg_turned true Ended still live given = absurd (true≢false (given refl))
  agg_turned true GivenUp still live given = absurd (live refl)

  -- its row is given
  pub agg_gives : (states states' : List Part) (row : Row) (out : Fields) (last ended : Bool) (phase : Phase) → last ≡ true → ended ≡ true → phase ≢ GivenUp → (phase ≡ Ended → last ≡ false)
      → AreValues row → length row ≡ fixed.arity → fields_of row ≡ out → ((rows : List Row) → HaveTaken work rows states → IsLast work rows row)
      → TellsTurn (agg_state fixed work states last ended phase) out (agg_state fixed work states' false ended Working) N.Row
  agg_gives states states' row out false ended phase still over live given are wide is last = absurd (true≢false (sym still))
  agg_gives states states' row out true false phase still over live given are wide is last = absurd (true≢false (sym over))
  agg_gives states states' row out true true phase still over live given are wide is last = (
    refl,
    agg_turned true phase still live given,
    (
      row,
      are,
      wide,
      is,
      step states states' true false true true phase Working [] (row ∷ []) (ends_none (one_ended true)) tt
          (λ held stands. (
            held,
            tt,
            λ took rest come none_left.
                let no_more = none_comes (one_ended true) fixed.width all_ended took come in
                (row ∷ [], (row, subst (λ t. IsLast work (received_of (held ++ t) 0) row) (sym no_more) (subst (λ h. IsLast work (received_of h 0) row) (sym (append-nil held)) (last (received_of held 0) stands)), refl), ap (λ r. row ∷ r) (sym none_left)),
          )),
    ),
  )

  -- it has ended where its row was given and no row comes
  pub agg_ends : (states : List Part) (out : Fields) (last ended : Bool) (phase : Phase) → last ≡ false → ended ≡ true → phase ≢ GivenUp
      → TellsTurn (agg_state fixed work states last ended phase) out (agg_state fixed work states last ended Ended) N.End
  agg_ends states out true ended phase given over live = absurd (true≢false given)
  agg_ends states out false false phase given over live = absurd (true≢false (sym over))
  agg_ends states out false true phase given over live =
      let turns = beside 0 (turns_ending phase live) in (
        refl,
        turns.0,
        turns.1,
        agg_stays states false true true phase Ended (ends_none (one_ended true)),
        all_ended,
        refl,
        λ h. record {
          finished = record {
            some = (tt, λ held stands. record { rest = []; output = refl; among = IsPermutation-refl []; alone = λ e. refl });
            only = λ took put h.
                let free = h.1 [] tt in
                (none_comes (one_ended true) fixed.width all_ended took h.0, free.alone refl ∙ free.output);
          };
          makes = refl;
        },
      )

-- ---- new ones

first_of : (fixed : Fixed) (work : AggWork) (states : List Part) (last : Bool) → HaveTaken work [] states → IsNew (agg_state fixed work states last false Working) (agg_out work last)
first_of fixed work states last none = record {
  phase = refl;
  frames = omega arith;
  untested = refl;
  rest = λ h took put. (
    λ free. let own = free.1 [] (first last) in (free.0, subst (agg_out work last took) (sym (own.alone refl)) own.output),
    λ is. (is.0, λ held stands. record { rest = put; output = same_out work states last [] held took put (first last) stands is.1; among = IsPermutation-refl put; alone = λ e. refl }),
  );
  alive = λ h. lives work states last false fixed.width [] (first last);
}
  where
    first : (last : Bool) → StandsFor work last states []
    first true = none
    first false = tt

pub agg_new : (fixed : Fixed) (work : AggWork) (states : List Part) (last : Bool) (arity n j : ℕ) (scanned handed : List Row) → last ≡ has_last (kind_of work) j → HaveTaken work [] states
    → IsNew (agg_state fixed work states last false Working) (driver_out (kind_of work) arity (all_left (kind_of work) n j scanned handed))
agg_new fixed (W.Part made) states last arity n j scanned handed is none = subst (λ l. IsNew (agg_state fixed (W.Part made) states l false Working) (agg_out (W.Part made) true)) (sym is) (first_of fixed (W.Part made) states true none)
agg_new fixed (W.Final made) states last arity n j scanned handed is none = subst (λ l. IsNew (agg_state fixed (W.Final made) states l false Working) (agg_out (W.Final made) (has_last (K.AggFinal made) j))) (sym is) (first_of fixed (W.Final made) states (has_last (K.AggFinal made) j) none)

pub agg_sound : (fixed : Fixed) (work : AggWork) (states : List Part) (last : Bool) → HaveTaken work [] states → (agg_state fixed work states last false Working).sound
agg_sound fixed work states true none = ([], none)
agg_sound fixed work states false none = ([], tt)

pub sound_reads : (work : AggWork) (width : ℕ) → IsInRange (kind_of work) (widths_of width) → TakesStates (kind_of work) (widths_of width) → Reads work width
sound_reads (W.Part made) width range takes = range
sound_reads (W.Final made) width range takes = takes

pub sound_arity : (work : AggWork) (width arity : ℕ) → HasArity (kind_of work) (widths_of width) arity → arity ≡ arity_of work
sound_arity (W.Part made) width arity is = is
sound_arity (W.Final made) width arity is = is
