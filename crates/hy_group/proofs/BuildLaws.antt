-- The steps of the driver that builds groups.
use Rattle.std.proofs.Common.{◌≡◌, ◌≢◌, ◌==◌, ◌+◌, ◌*◌, if◌then◌else◌, ◌<◌, ◌≤◌, ℕ, Bool, true, false, true≢false, List, [], ◌∷◌, ◌++◌, map, length, Option, Some, None, Ok, refl, sym, ap, subst, ◌∙◌, inl, inr, arith, append_assoc, append-nil, length-append}
use Rattle.std.proofs.lemmas.Bool.{cases_Bool}
use Rattle.std.specs.Cmp.{unsigned_Decides}
use Rattle.std.proofs.lemmas.List.{length-map, map-append}
use Rattle.std.specs.List.{All, AllByRecursion}
use Rattle.std.proofs.lemmas.List.Elements.{All-append, All-from_recursion}
use Rattle.std.specs.List.Sorted.{IsPermutation}
use Rattle.std.proofs.lemmas.List.Sorted.{IsPermutation-refl}
use Rattle.al_value.specs.Outside.{Told}
use Rattle.al_agg.specs.declared.part.Part.{Part}
use Rattle.hy_frame.specs.Row.{Fields, IsRow}
use Rattle.hy_store.specs.Fields.{fields_of}
use Rattle.hy_store.specs.Runs.{HaveShape}
use Rattle.hy_store.specs.declared.fault.Next.TheVariants as N
use Rattle.hy_driver.specs.Rows.{Row, AreValues, Fed, value_of, values_of}
use Rattle.hy_driver.specs.Seen.{Fixed, StoreOf, turns_in}
use Rattle.hy_driver.specs.Forms.{may_come, one_ended}
use Rattle.hy_driver.specs.Steps.{IsNew, Steps, TellsTurn}
use Rattle.hy_driver.specs.Handing.{HandedOn, handed_rows}
use Rattle.hy_driver.specs.declared.handed.Handed.{Handed}
use Rattle.hy_driver.specs.declared.phase.Phase.{Phase}
use Rattle.hy_driver.specs.declared.phase.Phase.TheVariants.{Working, Hungry, Ended, GivenUp}
use Rattle.hy_driver.proofs.Values.{values_again, fields_again, as_many}
use Rattle.hy_driver.proofs.Turns.{turns_asking, turns_ending, beside}
use Rattle.hy_driver.proofs.Forms.{EndsMore, all_ended, come_behind, come_from, ends_none, none_comes, none_tested}
use Rattle.hy_job.specs.declared.job.GroupArg.{GroupArg}
use Rattle.hy_job.specs.Columns.{ArePieces, cut}
use Rattle.hy_job.specs.Drivers.{received_of}
use Rattle.hy_group.specs.Build.{Stands, build_state, pieces_out}
use Rattle.hy_group.specs.Fresh.{ReadsNested, row_sees}
use Rattle.hy_group.specs.Groups.{Added, Entry, Seeing, StandFor}
use Rattle.hy_group.specs.Making.{IsMade, Makes, entry_row}
use Rattle.hy_group.proofs.GroupLaws.{few_added, none_stand, some_entry, stand_more}
use Rattle.hy_group.proofs.PieceLaws.{no_pieces, none_are, one_made, received_both, some_pieces, stand_for_none}

-- a row is taken of the one input that there is
received_one : (ended : Bool) (input : ℕ) (row : Row) → one_ended ended input ≡ false → received_of ((input, row) ∷ []) 0 ≡ row ∷ []
received_one ended input row going = elim (cases_Bool (input == 0)) [ inl y ↦ subst (λ k. received_of ((k, row) ∷ []) 0 ≡ row ∷ []) (sym ((unsigned_Decides input 0).0 y)) refl | inr n ↦ absurd (true≢false (sym (ap (λ b. if b then ended else true) n) ∙ going)) ]

-- an output for each list of rows for which the groups stand
abbrev Serves : GroupArg → List Entry → List Fed → List Row → Type 0
Serves arg entries took rest = (held : List Fed) → Stands arg entries held → pieces_out arg (held ++ took) rest

-- of groups of no rows an output is none
none_for : (arg : GroupArg) (held : List Fed) → Stands arg [] held → pieces_out arg (held ++ []) []
none_for arg held s =
    let nothing : received_of (held ++ []) 0 ≡ [] = received_both held [] ∙ append-nil (received_of held 0) ∙ stand_for_none arg held s in
    ([], subst (λ (rows : List Row). ArePieces arg.keys rows []) (sym nothing) (none_are arg), refl)

module _ (fixed : Fixed) (none : fixed.check ≡ None) (arg : GroupArg) (store : StoreOf) where
  step : (entries entries' : List Entry) (rows rows' : List Fields) (ended ended' : Bool) (phase phase' : Phase) (fed : List Fed) → EndsMore (one_ended ended) (one_ended ended') → may_come (one_ended ended) fixed.width fed
      → (AllByRecursion (IsRow fixed.arity) rows → AllByRecursion (IsRow fixed.arity) rows')
      → ((took : List Fed) (rest : List Row) → Serves arg entries' took rest → (old : List Row) × Serves arg entries (fed ++ took) old × (map values_of rows ++ old ≡ map values_of rows' ++ rest))
      → Steps (build_state fixed arg entries rows ended phase store) fed [] (build_state fixed arg entries' rows' ended' phase' store)
  step entries entries' rows rows' ended ended' phase phase' fed less may sound same = record {
    sound = sound;
    rest = λ h. record {
      back = λ took put r.
          let q = same took r.1.rest r.1.output in (
            come_behind (one_ended ended) fixed.width fed took may (come_from (one_ended ended) (one_ended ended') fixed.width less took r.0),
            record { rest = q.0; output = q.1; is = r.1.is ∙ sym q.2 },
          );
    };
    alive = λ h took come. let q = some_pieces arg entries' took in (map values_of rows' ++ q.0, (come, record { rest = q.0; output = q.1; is = refl }));
    makes = λ h took may. refl;
    tested = none_tested fixed.check none _;
    served = refl;
  }

  -- no row is taken, and no group made a row
  pub build_stays : (entries : List Entry) (rows : List Fields) (ended ended' : Bool) (phase phase' : Phase) → EndsMore (one_ended ended) (one_ended ended')
      → Steps (build_state fixed arg entries rows ended phase store) [] [] (build_state fixed arg entries rows ended' phase' store)
  build_stays entries rows ended ended' phase phase' less = step entries entries rows rows ended ended' phase phase' [] less tt (λ h. h) (λ took rest out. (rest, out, refl))

  -- a row is added to a group
  pub build_fed : (entries entries' : List Entry) (rows : List Fields) (ended : Bool) (phase phase' : Phase) (input : ℕ) (values : Row) (row : Fields) (right : List Part → Type 0) → one_ended ended input ≡ false → length row ≡ fixed.width input → AreValues values → fields_of values ≡ row
      → Added (row_sees arg.nested) right (cut arg.keys (values_of row)) (values_of row) entries entries'
      → Steps (build_state fixed arg entries rows ended phase store) ((input, values) ∷ []) [] (build_state fixed arg entries' rows ended phase' store)
  build_fed entries entries' rows ended phase phase' input values row right going wide are is added =
      let many = as_many values row (fixed.width input) is wide in
      let same : values_of row ≡ values = ap values_of (sym is) ∙ values_again values are in
      let more : Added (row_sees arg.nested) right (cut arg.keys values) values entries entries' = subst (λ (v : Row). Added (row_sees arg.nested) right (cut arg.keys v) v entries entries') same added in
      step entries entries' rows rows ended ended phase phase' ((input, values) ∷ []) (ends_none (one_ended ended)) ((going, many, are), tt) (λ h. h)
      (λ took rest out. (
        rest,
        λ held s. subst (λ (l : List Fed). pieces_out arg l rest) (append_assoc held ((input, values) ∷ []) took)
            (out (held ++ (input, values) ∷ [])
            (subst (StandFor (row_sees arg.nested) arg.keys entries') (ap (λ (l : List Row). received_of held 0 ++ l) (sym (received_one ended input values going)) ∙ sym (received_both held ((input, values) ∷ [])))
            (stand_more (row_sees arg.nested) right arg.keys (cut arg.keys values) values entries entries' (received_of held 0) refl more s))),
        refl,
      ))

  pub build_asks : (entries : List Entry) (rows : List Fields) (out : Fields) (ended : Bool) (phase : Phase) → ended ≡ false → phase ≢ GivenUp → (phase ≡ Ended → ended ≡ true)
      → TellsTurn (build_state fixed arg entries rows ended phase store) out (build_state fixed arg entries rows ended Hungry store) N.NeedInput
  build_asks entries rows out ended phase going live over =
      let turns = beside (2 * length entries) (turns_asking phase live (λ e. true≢false (sym (over e) ∙ going))) in
      (refl, turns.0, turns.1, build_stays entries rows ended ended phase Hungry (ends_none (one_ended ended)), (0, going))

  -- the last group is made a row
  pub build_works : (entries es : List Entry) (e : Entry) (rows rows' : List Fields) (row : Fields) (out : Fields) (ended : Bool) (phase : Phase) → entries ≡ es ++ e ∷ [] → rows' ≡ rows ++ row ∷ [] → values_of row ≡ entry_row e → IsRow fixed.arity row
      → phase ≢ GivenUp → (phase ≡ Ended → entries ≡ []) → TellsTurn (build_state fixed arg entries rows ended phase store) out (build_state fixed arg es rows' ended Working store) N.Work
  build_works entries es e rows rows' row out ended phase of made values is live over = (
    refl,
    fewer,
    step entries es rows rows' ended ended phase Working [] (ends_none (one_ended ended)) tt
        (λ all. subst (AllByRecursion (IsRow fixed.arity)) (sym made) (push rows all))
        (λ took rest serves. (
          entry_row e ∷ rest,
          subst (λ (fs : List Entry). Serves arg fs took (entry_row e ∷ rest)) (sym of) (one_made arg es e took rest serves),
          (λ i. map values_of rows ++ (sym values i ∷ rest)) ∙ sym (append_assoc (map values_of rows) (values_of row ∷ []) rest)
              ∙ ap (λ (l : List Row). l ++ rest) (sym (ap (map values_of) made ∙ map-append values_of rows (row ∷ []))),
        )),
  )
    where
      push : (rows : List Fields) → AllByRecursion (IsRow fixed.arity) rows → AllByRecursion (IsRow fixed.arity) (rows ++ row ∷ [])
      push [] all = (is, tt)
      push (r ∷ rows) all = (all.0, push rows all.1)

      longer : length entries ≡ length es + 1
      longer = ap (λ (l : List Entry). length l) of ∙ length-append es (e ∷ [])

      turn : (phase : Phase) → phase ≢ GivenUp → phase ≢ Ended → 2 * length es + 2 < 2 * length entries + turns_in phase
      turn Working going unended = omega (arith, longer)
      turn Hungry going unended = omega (arith, longer)
      turn Ended going unended = absurd (unended refl)
      turn GivenUp going unended = absurd (going refl)

      fewer : 2 * length es + 2 < 2 * length entries + turns_in phase
      fewer = turn phase live (λ h. some_entry entries es e of (over h))

  pub build_ends : (entries : List Entry) (rows : List Fields) (out : Fields) (ended : Bool) (phase : Phase) → entries ≡ [] → ended ≡ true → phase ≢ GivenUp
      → TellsTurn (build_state fixed arg entries rows ended phase store) out (build_state fixed arg entries rows ended Ended store) N.End
  build_ends (e ∷ es) rows out ended phase gone over live = absurd (cc)
  build_ends [] rows out false phase gone over live = absurd (true≢false (sym over))
  build_ends [] rows out true phase gone over live =
      let turns = beside 0 (turns_ending phase live) in (
        refl,
        turns.0,
        turns.1,
        build_stays [] rows true true phase Ended (ends_none (one_ended true)),
        all_ended,
        refl,
        λ h. record {
          finished = record {
            some = (
              tt,
              record {
                rest = [];
                output = λ held s. none_for arg held s;
                is = sym (append-nil (map values_of rows));
              },
            );
            only = λ took put r.
                let no_more = none_comes (one_ended true) fixed.width all_ended took r.0 in (
                  no_more,
                  r.1.is ∙ ap (λ (l : List Row). map values_of rows ++ l) (no_pieces arg r.1.rest (subst (λ (t : List Fed). pieces_out arg t r.1.rest) no_more (r.1.output [] (none_stand (row_sees arg.nested) arg.keys)))) ∙ append-nil (map values_of rows),
                );
          };
          makes = refl;
        },
      )

  -- so it does where a row was made
  pub build_makes : (entries es : List Entry) (rows rows' : List Fields) (out : Fields) (ended : Bool) (phase : Phase) → IsMade fixed.arity entries es rows rows' → phase ≢ GivenUp → (phase ≡ Ended → entries ≡ [])
      → TellsTurn (build_state fixed arg entries rows ended phase store) out (build_state fixed arg es rows' ended Working store) N.Work
  build_makes entries es rows rows' out ended phase m live over = build_works entries es m.entry rows rows' m.row out ended phase m.last m.made m.values m.is_row live over

  pub build_over : (entries entries' : List Entry) (rows rows' : List Fields) (out : Fields) (ended : Bool) (phase : Phase) → (entries ≡ []) × (entries' ≡ []) × (rows' ≡ rows) → ended ≡ true → phase ≢ GivenUp
      → TellsTurn (build_state fixed arg entries rows ended phase store) out (build_state fixed arg entries' rows' ended Ended store) N.End
  build_over entries entries' rows rows' out ended phase none_left over live =
      subst (λ (es : List Entry). TellsTurn (build_state fixed arg entries rows ended phase store) out (build_state fixed arg es rows' ended Ended store) N.End) (none_left.0 ∙ sym none_left.1)
      (subst (λ (rs : List Fields). TellsTurn (build_state fixed arg entries rows ended phase store) out (build_state fixed arg entries rs ended Ended store) N.End) (sym none_left.2) (build_ends entries rows out ended phase none_left.0 over live))

  pub build_new : (entries : List Entry) (rows : List Fields) → entries ≡ [] → rows ≡ [] → IsNew (build_state fixed arg entries rows false Working store) (pieces_out arg)
  build_new (e ∷ es) rows gone none_made = absurd (cc)
  build_new [] (row ∷ rows) gone none_made = absurd (cc)
  build_new [] [] gone none_made = record {
    phase = refl;
    frames = omega arith;
    untested = refl;
    rest = λ h took put. (
      λ r. (r.0, subst (pieces_out arg took) (sym r.1.is) (r.1.output [] (none_stand (row_sees arg.nested) arg.keys))),
      λ r. (
        r.0,
        record {
          rest = put;
          output = λ held s. (r.1.0, subst (λ (rows : List Row). ArePieces arg.keys rows r.1.0) (sym (received_both held took ∙ ap (λ (l : List Row). l ++ received_of took 0) (stand_for_none arg held s))) r.1.1, r.1.2);
          is = refl;
        },
      ),
    );
    alive = λ h took come. let q = some_pieces arg [] took in (q.0, (come, record { rest = q.0; output = q.1; is = refl }));
  }

  -- the rows that it made are handed on
  pub build_hands : (entries : List Entry) (rows : List Fields) (ended : Bool) (phase : Phase) (h : Handed) → store.runs.live ≡ [] → All (λ row. length row ≡ fixed.arity) rows → (phase ≡ GivenUp → rows ≡ []) → h.rows ≡ rows → h.frames ≡ [] → h.runs ≡ []
      → HandedOn (build_state fixed arg entries rows ended phase store) h
  build_hands entries rows ended phase h live fit given_up of_rows no_frames no_runs = record {
    frames = ap (λ f. length f) no_frames;
    shape = subst (AllByRecursion (λ frame. (frame.arity ≡ fixed.arity) × (frame.unit ≡ fixed.unit))) (sym no_frames) tt;
    fit = subst (All (λ row. length row ≡ fixed.arity)) (sym of_rows) fit;
    runs = λ e. subst (IsPermutation store.runs.live) (sym no_runs) (subst (λ (l : List ℕ). IsPermutation l []) (sym live) (IsPermutation-refl []));
    shapes = λ e. subst (AllByRecursion (λ run. HaveShape store.runs run fixed.arity fixed.unit)) (sym no_runs) tt;
    rows = λ e all. told store.runs.held (λ held. map fields_of (map values_of rows) ≡ handed_rows h held) (λ held. rw (of_rows, no_frames, no_runs) (fields_kept rows all ∙ sym (append-nil rows)));
    none = λ e. (of_rows ∙ given_up e, no_runs);
  }
    where
      told : {X : Type 0} (o : Option X) (P : X → Type 0) → ((x : X) → P x) → Told o P
      told None P h = tt
      told (Some x) P h = h x

      fields_kept : (rows : List Fields) → AllByRecursion (IsRow fixed.arity) rows → map fields_of (map values_of rows) ≡ rows
      fields_kept [] all = refl
      fields_kept (row ∷ rows) all = rw ((fields_again fixed.arity row all.0).1, fields_kept rows all.1) refl

-- a row has as many values as fields
pub wide_values : (arg : GroupArg) (row : Fields) (values : Row) → values ≡ values_of row → ReadsNested arg.nested (length row) → ReadsNested arg.nested (length values)
unfolding values_of
wide_values arg row values is reads = subst (ReadsNested arg.nested) (sym (ap (λ (r : Row). length r) is ∙ length-map row value_of)) reads

-- a row's turns where it was hungry for it
pub fed_turns : (sees : Seeing) (right : List Part → Type 0) (key row : Row) (entries entries' : List Entry) (phase : Phase) → phase ≡ Hungry → Added sees right key row entries entries' → 2 * length entries' + 2 ≤ 2 * length entries + turns_in phase + 3
fed_turns sees right key row entries entries' phase hungry added =
    let few = few_added sees right [] key row entries entries' added in
    subst (λ p. 2 * length entries' + 2 ≤ 2 * length entries + turns_in p + 3) (sym hungry) (omega (arith, few))

-- the rows that are made fit
pub rows_fit : (arity : ℕ) (entries es : List Entry) (rows rows' : List Fields) → IsMade arity entries es rows rows' → All (λ (row : Fields). length row ≡ arity) rows → All (λ (row : Fields). length row ≡ arity) rows'
rows_fit arity entries es rows rows' m fit = subst (All (λ (row : Fields). length row ≡ arity)) (sym m.made) (All-append (λ (row : Fields). length row ≡ arity) rows (m.row ∷ []) fit (All-from_recursion (λ (row : Fields). length row ≡ arity) (m.row ∷ []) (m.is_row.0, tt)))

-- what an answer tells
pub made_one : (arity : ℕ) (old new : List Entry) (rows rows' : List Fields) (b : Bool) → b ≡ true → Makes arity old new rows rows' (Ok b) → IsMade arity old new rows rows'
made_one arity old new rows rows' b is m = subst (λ c. Makes arity old new rows rows' (Ok c)) is m

pub made_none : (arity : ℕ) (old new : List Entry) (rows rows' : List Fields) (b : Bool) → b ≡ false → Makes arity old new rows rows' (Ok b) → (old ≡ []) × (new ≡ []) × (rows' ≡ rows)
made_none arity old new rows rows' b is m = subst (λ c. Makes arity old new rows rows' (Ok c)) is m
