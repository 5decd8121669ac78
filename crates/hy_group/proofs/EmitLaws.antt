-- The steps of the driver that gives groups.
use Rattle.std.proofs.Common.{◌≡◌, ◌≢◌, ◌↔◌, ◌+◌, ◌-◌, ◌*◌, ◌<◌, ◌≤◌, ℕ, nat_lt, Bool, true, false, true≢false, List, [], ◌∷◌, ◌++◌, map, take, length, get_or, None, refl, sym, ap, subst, ◌∙◌, arith, length-append}
use Rattle.std.specs.List.{AllByRecursion}
use Rattle.std.proofs.lemmas.Bool.{le-ltb, ltb-false}
use Rattle.std.proofs.lemmas.Bool.Decides.{Decides-ltb}
use Rattle.std.proofs.lemmas.List.{get_or-map, length-map, take_all}
use Rattle.std.proofs.lemmas.List.Sorted.{IsPermutation-refl}
use Rattle.al_agg.specs.declared.part.Part.{Part}
use Rattle.hy_frame.specs.Row.{Fields, IsRow}
use Rattle.hy_store.specs.Fields.{fields_of}
use Rattle.hy_store.specs.declared.fault.Next.TheVariants as N
use Rattle.hy_driver.specs.Rows.{Row, AreValues, Fed, values_of}
use Rattle.hy_driver.specs.Seen.{Fixed, StoreOf, turns_in}
use Rattle.hy_driver.specs.Forms.{may_come, one_ended}
use Rattle.hy_driver.specs.Steps.{IsNew, Steps, TellsTurn}
use Rattle.hy_driver.specs.declared.phase.Phase.{Phase}
use Rattle.hy_driver.specs.declared.phase.Phase.TheVariants.{Working, Hungry, Ended, GivenUp}
use Rattle.hy_driver.proofs.Values.{as_many, fields_again}
use Rattle.hy_driver.proofs.Turns.{turns_asking, turns_ending}
use Rattle.hy_driver.proofs.Forms.{EndsMore, all_ended, come_behind, come_from, ends_none, ends_one, none_comes, none_tested}
use Rattle.hy_job.specs.declared.job.GroupArg.{GroupArg}
use Rattle.hy_job.specs.Columns.{cut}
use Rattle.hy_job.specs.Runs.{IsGroupOf, first_columns}
use Rattle.hy_job.proofs.RowLaws.{upto}
use Rattle.hy_group.specs.Emit.{AreGiven, IsTaken, WorksOn, emit_rest, emit_sound, emit_state}
use Rattle.hy_group.specs.Groups.{Added, Entry, StandFor}
use Rattle.hy_group.specs.Joining.{handed_sees}
use Rattle.hy_group.proofs.GroupLaws.{few_added, none_stand, some_entry, stand_more}
use Rattle.hy_group.proofs.GiveLaws.{given_group, group_of_none, none_given, one_given}
use Rattle.hy_group.proofs.SomeLaws.{some_given, some_group}

values_are : (arity : ℕ) (rows : List Fields) → AllByRecursion (IsRow arity) rows → AllByRecursion AreValues (map values_of rows)
values_are arity [] all = tt
values_are arity (row ∷ rows) all = ((fields_again arity row all.0).0, values_are arity rows all.1)

module _ (fixed : Fixed) (none : fixed.check ≡ None) (arity : ℕ) (arg : GroupArg) (rows : List Fields) (store : StoreOf) where
  abbrev Rests : Bool → List Entry → List Row → Type 0
  Rests b entries put = emit_rest b arg (map values_of rows) entries put

  abbrev Holds : Bool → ℕ → List Entry → Type 0
  Holds b at entries = emit_sound b arity arg rows at entries

  abbrev going : ℕ → Bool
  going at = nat_lt at (length rows)

  some_rest : (b : Bool) (at : ℕ) (entries : List Entry) → Holds b at entries → (put : List Row) × Rests b entries put
  some_rest true at entries s = some_group arg (map values_of rows) (values_are arity rows s.rows_are)
  some_rest false at entries s = some_given entries

  step : (at at' : ℕ) (entries entries' : List Entry) (ended ended' : Bool) → EndsMore (one_ended ended) (one_ended ended') → (phase phase' : Phase) (fed : List Fed) → may_come (one_ended ended) fixed.width fed → (sent : List Row)
      → (Holds (going at) at entries → Holds (going at') at' entries')
      → (Holds (going at) at entries → (put : List Row) → Rests (going at') entries' put → Rests (going at) entries (sent ++ put))
      → Steps (emit_state fixed arity arg rows at entries ended phase store) fed sent (emit_state fixed arity arg rows at' entries' ended' phase' store)
  step at at' entries entries' ended ended' less phase phase' fed may sent sound back = record {
    sound = sound;
    rest = λ h. record { back = λ took put r. (come_behind (one_ended ended) fixed.width fed took may (come_from (one_ended ended) (one_ended ended') fixed.width less took r.0), back h put r.1) };
    alive = λ h took come. let q = some_rest (going at') at' entries' (sound h) in (q.0, (come, q.1));
    makes = λ h took may. refl;
    tested = none_tested fixed.check none (map (λ x. x.1) fed);
    served = refl;
  }

  -- nothing is given of a row that is taken, and inputs may end
  pub emit_fed : (at : ℕ) (entries : List Entry) (ended : Bool) (phase : Phase) (input : ℕ) (values : Row) (row : Fields) → one_ended ended input ≡ false → length row ≡ fixed.width input → AreValues values → fields_of values ≡ row
      → Steps (emit_state fixed arity arg rows at entries ended phase store) ((input, values) ∷ []) [] (emit_state fixed arity arg rows at entries ended Working store)
  emit_fed at entries ended phase input values row open_ wide are is =
      step at at entries entries ended ended (ends_none (one_ended ended)) phase Working ((input, values) ∷ []) ((open_, as_many values row (fixed.width input) is wide, are), tt) [] (λ h. h) (λ h put r. r)

  pub emit_stays : (at : ℕ) (entries : List Entry) (ended : Bool) (phase : Phase) → Steps (emit_state fixed arity arg rows at entries ended phase store) [] [] (emit_state fixed arity arg rows at entries true phase store)
  emit_stays at entries ended phase = step at at entries entries ended true (ends_one ended) phase phase [] tt [] (λ h. h) (λ h put r. r)

  is_going : (at : ℕ) → at < length rows → going at ≡ true
  is_going at low = (Decides-ltb at (length rows)).1 low

  is_over : (at : ℕ) → length rows ≤ at → going at ≡ false
  is_over at low = le-ltb at (length rows) low

  -- ---- a row that was handed on is worked on

  module _ (right : List Part → Type 0) (at : ℕ) (low : at < length rows) (entries entries' : List Entry)
      (added : Added (handed_sees arg) right (cut (first_columns arg) (values_of (get_or rows at []))) (values_of (get_or rows at [])) entries entries') where
    one_more : take at (map values_of rows) ++ values_of (get_or rows at []) ∷ [] ≡ take (at + 1) (map values_of rows)
    one_more =
        upto (map values_of rows) at (values_of (get_or rows at [])) (subst (λ n. at < n) (sym (length-map rows values_of)) low)
        (sym (get_or-map values_of rows at [] (values_of (get_or rows at [])) low))

    stands : WorksOn arity arg rows at entries → StandFor (handed_sees arg) (first_columns arg) entries' (take (at + 1) (map values_of rows))
    stands h = subst (StandFor (handed_sees arg) (first_columns arg) entries') one_more
        (stand_more (handed_sees arg) right (first_columns arg) (cut (first_columns arg) (values_of (get_or rows at []))) (values_of (get_or rows at [])) entries entries' (take at (map values_of rows)) refl added h.stand)

    holds_next : (b : Bool) → WorksOn arity arg rows at entries → Holds b (at + 1) entries'
    holds_next true h = record { rows_are = h.rows_are; stand = stands h }
    holds_next false h = tt

    rests_next : (b : Bool) → going (at + 1) ≡ b → WorksOn arity arg rows at entries → (put : List Row) → Rests b entries' put → IsGroupOf arg (map values_of rows) put
    rests_next true is h put r = r
    rests_next false is h put r =
        let all : length (map values_of rows) ≤ at + 1 = subst (λ n. n ≤ at + 1) (sym (length-map rows values_of)) (ltb-false (at + 1) (length rows) is) in
        given_group arg entries' (map values_of rows) put (subst (StandFor (handed_sees arg) (first_columns arg) entries') (take_all (at + 1) (map values_of rows) all) (stands h)) r

    works : Holds (going at) at entries → WorksOn arity arg rows at entries
    works h = subst (λ b. Holds b at entries) (is_going at low) h

    pub emit_works : (out : Fields) (ended : Bool) (phase : Phase) → phase ≢ GivenUp → (phase ≡ Ended → at ≡ length rows)
        → TellsTurn (emit_state fixed arity arg rows at entries ended phase store) out (emit_state fixed arity arg rows (at + 1) entries' ended Working store) N.Work
    emit_works out ended phase live over = (
      refl,
      fewer phase live (λ e. absurd (omega (arith, low, over e))),
      step at (at + 1) entries entries' ended ended (ends_none (one_ended ended)) phase Working [] tt [] (λ h. holds_next (going (at + 1)) (works h))
          (λ h put r. subst (λ b. Rests b entries put) (sym (is_going at low)) (rests_next (going (at + 1)) refl (works h) put r)),
    )
      where
        few : length entries' ≤ length entries + 1
        few = few_added (handed_sees arg) right (first_columns arg) (cut (first_columns arg) (values_of (get_or rows at []))) (values_of (get_or rows at [])) entries entries' added

        fewer : (phase : Phase) → phase ≢ GivenUp → phase ≢ Ended → 4 * (length rows - (at + 1)) + (2 * length entries' + 2) < 4 * (length rows - at) + (2 * length entries + turns_in phase)
        fewer Working live unended = omega (arith, low, few)
        fewer Hungry live unended = omega (arith, low, few)
        fewer Ended live unended = absurd (unended refl)
        fewer GivenUp live unended = absurd (live refl)

  -- ---- a group is given

  pub emit_gives : (at : ℕ) (entries es : List Entry) (out : Fields) (ended : Bool) (phase : Phase) → length rows ≤ at → IsTaken fixed.arity entries es out → phase ≢ GivenUp → (phase ≡ Ended → entries ≡ [])
      → TellsTurn (emit_state fixed arity arg rows at entries ended phase store) out (emit_state fixed arity arg rows at es ended Working store) N.Row
  emit_gives at entries es out ended phase all t live over =
      let again = fields_again fixed.arity out t.is_row in (
        refl,
        fewer phase live (λ e. some_entry entries es t.entry t.last (over e)),
        (
          values_of out,
          again.0,
          again.2,
          again.1,
          step at at entries es ended ended (ends_none (one_ended ended)) phase Working [] tt (values_of out ∷ []) (λ h. subst (λ b. Holds b at es) (sym (is_over at all)) tt)
              (λ h put r. subst (λ b. Rests b entries (values_of out ∷ put)) (sym (is_over at all))
              (subst (λ (fs : List Entry). AreGiven fs (values_of out ∷ put)) (sym t.last) (one_given es t.entry (values_of out) put t.given (subst (λ b. Rests b es put) (is_over at all) r)))),
        ),
      )
    where
      longer : length entries ≡ length es + 1
      longer = ap (λ (l : List Entry). length l) t.last ∙ length-append es (t.entry ∷ [])

      fewer : (phase : Phase) → phase ≢ GivenUp → phase ≢ Ended → 4 * (length rows - at) + (2 * length es + 2) < 4 * (length rows - at) + (2 * length entries + turns_in phase)
      fewer Working live unended = omega (arith, longer)
      fewer Hungry live unended = omega (arith, longer)
      fewer Ended live unended = absurd (unended refl)
      fewer GivenUp live unended = absurd (live refl)

  -- ---- the end

  pub emit_ends : (at : ℕ) (entries entries' : List Entry) (out : Fields) (ended : Bool) (phase : Phase) → length rows ≤ at → (entries ≡ []) × (entries' ≡ []) → ended ≡ true → phase ≢ GivenUp
      → TellsTurn (emit_state fixed arity arg rows at entries ended phase store) out (emit_state fixed arity arg rows at entries' ended Ended store) N.End
  emit_ends at (e ∷ es) entries' out ended phase all gone over live = absurd (cc)
  emit_ends at [] (e ∷ es) out ended phase all gone over live = absurd (cc)
  emit_ends at [] [] out false phase all gone over live = absurd (true≢false (sym over))
  emit_ends at [] [] out true phase all gone over live =
      let turns = turns_ending phase live in
      let fewer : 4 * (length rows - at) + (0 + turns_in Ended) ≤ 4 * (length rows - at) + (0 + turns_in phase) = omega (arith, turns.0) in (
        refl,
        fewer,
        (λ e. let less : turns_in Ended < turns_in phase = turns.1 e in omega (arith, less)),
        step at at [] [] true true (ends_none (one_ended true)) phase Ended [] tt [] (λ h. h) (λ h put r. r),
        all_ended,
        refl,
        λ h. record {
          finished = record {
            some = (tt, subst (λ b. Rests b [] []) (sym (is_over at all)) (record { made = []; each = tt; moved = IsPermutation-refl [] }));
            only = λ took put r. (none_comes (one_ended true) fixed.width all_ended took r.0, none_given put (subst (λ b. Rests b [] put) (is_over at all) r.1));
          };
          makes = refl;
        },
      )

  -- ---- at the beginning

  first_rest : (b : Bool) → going 0 ≡ b → (put : List Row) → Rests b [] put ↔ IsGroupOf arg (map values_of rows) put
  first_rest true is put = (λ r. r, λ r. r)
  first_rest false is put = none_handed rows (ltb-false 0 (length rows) is)
    where
      none_handed : (rows : List Fields) → length rows ≤ 0 → AreGiven [] put ↔ IsGroupOf arg (map values_of rows) put
      none_handed [] low = (given_group arg [] [] put (none_stand (handed_sees arg) (first_columns arg)), group_of_none arg put)
      none_handed (row ∷ rows) low = absurd (omega (arith, low))

  first_holds : (b : Bool) → AllByRecursion (IsRow arity) rows → Holds b 0 []
  first_holds true all = record { rows_are = all; stand = none_stand (handed_sees arg) (first_columns arg) }
  first_holds false all = tt

  pub emit_holds : (entries : List Entry) → entries ≡ [] → AllByRecursion (IsRow arity) rows → Holds (going 0) 0 entries
  emit_holds entries is all = subst (λ (es : List Entry). Holds (going 0) 0 es) (sym is) (first_holds (going 0) all)

  pub emit_new : (entries : List Entry) → entries ≡ [] → IsNew (emit_state fixed arity arg rows 0 entries true Working store) (λ took. IsGroupOf arg (map values_of rows))
  emit_new (e ∷ es) gone = absurd (cc)
  emit_new [] gone = record {
    phase = refl;
    frames = omega arith;
    untested = refl;
    rest = λ h took put. (λ r. (r.0, (first_rest (going 0) refl put).0 r.1), λ r. (r.0, (first_rest (going 0) refl put).1 r.1));
    alive = λ h took come. let q = some_rest (going 0) 0 [] h in (q.0, (come, q.1));
  }
