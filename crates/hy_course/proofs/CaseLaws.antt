-- What the steps of small tasks may do and may not.
use Rattle.std.proofs.Common.{◌≡◌, ◌↔◌, ◌<◌, ◌+◌, inl, inr, ℕ, zero, suc, nat_eq, Bool, true, false, ◌||◌, Some, None, List, [], ◌∷◌, ◌++◌, filter, length, length-append, refl, ap, sym, subst, ◌∙◌, append_assoc, append-nil, arith}
use Rattle.std.specs.List.{All}
use Rattle.std.specs.List.Sorted.{IsPermutation}
use Rattle.std.proofs.lemmas.List.Elements.{All-contains, All-from_recursion, All-nil, filter-append}
use Rattle.std.proofs.lemmas.List.Sorted.{Contains-permutation, IsPermutation-refl}
use Rattle.al_func.specs.declared.rex.Rex.{Rex}
use Rattle.hy_rest.specs.Words.{Signal, Open, Rows, Fail, Close, WriterWord, is_fail, put_rows}
use Rattle.hy_job.specs.declared.job.Kind.TheVariants as K
use Rattle.hy_job.specs.declared.job.Job.{Job}
use Rattle.hy_job.specs.Columns.{Row, holds, part_of}
use Rattle.hy_job.specs.Cases.{is_text}
use Rattle.hy_job.specs.Runs.{IsReceiver, IsSender, Put, Receives, Taken, rows_at}
use Rattle.hy_job.specs.Settled.{Check, HasCause, Outcome, Stopped, Store, Take, TakesFrom, is_fault, taken_rows}
use Rattle.hy_job.proofs.Members.{by_cases, in_cases, in_here, in_none, no_bool}
use Rattle.hy_job.proofs.Settling.{below_one, below_two}
use Rattle.hy_course.specs.Task.{Advances, Breaks, Deed, Looks, Puts, Takes, Work}
use Rattle.hy_course.specs.Course.{IsDoneTask, IsNewTask, Ran}
use Rattle.hy_course.proofs.ListLaws.{put_append}
use Rattle.hy_course.specs.Cases.{CheckMoves, CheckPuts, IsWholeCourse, SelectIsDone, SelectMoves, SelectPuts, both_closed, came, check, failed, failed_and_closed, first_closed, for_first, none_closed, nothing, part_for, passing, results, scan_closed, select, selects, to_both}

-- ---- rows of a select

part_append : (c : Rex) (r : ℕ) (xs ys : List Row) → part_for c r (xs ++ ys) ≡ part_for c r xs ++ part_for c r ys
part_append c r xs ys = ap (filter (λ row. nat_eq (part_of 2 (0 ∷ []) row) r)) (filter-append (holds c) xs ys) ∙ filter-append (λ row. nat_eq (part_of 2 (0 ∷ []) row) r) (filter (holds c) xs) (filter (holds c) ys)

part_owed : (c : Rex) (row : Row) → holds c row ≡ true → nat_eq (part_of 2 (0 ∷ []) row) 0 ≡ true → part_for c 0 (row ∷ []) ≡ row ∷ []
part_owed c row h p = rw (h, p) refl

no_row : (row : Row) → row ∷ [] ≡ [] → ⊥
no_row row e = cc

abbrev no_put : Put
no_put = record { to = λ r. []; on = [] }

puts_none : (c : Rex) → SelectPuts c nothing [] (record { to = λ r. []; on = [] })
puts_none c = record { to = λ r lt. refl; on = refl }

-- whatever comes, there is something to put
abbrev some_put : (c : Rex) (waits : ℕ → List Row) (more : List Taken) → (put : Put) × SelectPuts c waits more put
some_put c waits more = (record { to = λ r. waits r ++ part_for c r (rows_at 0 more); on = [] }, record { to = λ r lt. refl; on = refl })

same_closed : (b : Bool) → b ≡ ((b || false) || false)
same_closed true = refl
same_closed false = refl

module _ (set : List ℕ) (c : Rex) where
  abbrev job : Job
  job = passing set c

  from_scan : (signal : Signal Row) → TakesFrom (passing set c) (selects c) 1 (came signal ∷ [])
  from_scan signal = (record { known = omega arith; within = omega arith; sends = refl }, tt)

  receives_at : (r : ℕ) → r < 2 → IsReceiver (passing set c) 1 1 r
  receives_at r lt = lt

  -- ---- rows

  -- a step in which some rows came, or none, and none were put
  advances : (took : List Take) (waits waits' : ℕ → List Row) (closed : ℕ → ℕ → Bool) (closed' : ℕ → ℕ → Bool) (rows : List Row)
      → ((more : List Taken) → rows_at 0 (taken_rows took ++ more) ≡ rows ++ rows_at 0 more) → ((r : ℕ) → waits' r ≡ waits r ++ part_for c r rows) → All (λ (t : Take). is_fail t.signal ≡ false) took
      → Advances (passing set c) (selects c) 1 (select c waits closed) took (λ r. []) (select c waits' closed')
  advances took waits waits' closed closed' rows comes waiting fails = record {
    sound = λ s. tt;
    rest = λ s more put h. record {
      to = λ r lt.
          h.to r lt ∙ (ap (λ xs. xs ++ part_for c r (rows_at 0 more)) (waiting r)
          ∙ (append_assoc (waits r) (part_for c r rows) (part_for c r (rows_at 0 more))
          ∙ ap (λ xs. waits r ++ xs) (sym (part_append c r rows (rows_at 0 more)) ∙ ap (part_for c r) (sym (comes more)))));
      on = h.on;
    };
    alive = λ s more may. some_put c waits' more;
    tested = λ k. absurd k;
    takes_no_fail = fails;
    puts_no_fail = λ r. All-nil (λ (s : Signal Row). is_fail s ≡ false);
  }

  pub taken_row_waits : (row : Row) → SelectMoves set c (select c nothing none_closed) (Takes 0 1 (Rows (row ∷ []))) (select c (λ r. part_for c r (row ∷ [])) none_closed)
  taken_row_waits row = record {
    goes = (
      refl,
      advances (came (Rows (row ∷ [])) ∷ []) nothing (λ r. part_for c r (row ∷ [])) none_closed none_closed (row ∷ []) (λ more. refl) (λ r. refl)
          (All-from_recursion (λ (t : Take). is_fail t.signal ≡ false) (came (Rows (row ∷ [])) ∷ []) (refl, tt)),
    );
    from = from_scan (Rows (row ∷ []));
    to = tt;
    closed = λ input sender. refl;
    raised = refl;
    saw = refl;
  }

  pub lost_row_is_none : (row : Row) → holds c row ≡ true → nat_eq (part_of 2 (0 ∷ []) row) 0 ≡ true
      → SelectMoves set c (select c nothing none_closed) (Takes 0 1 (Rows (row ∷ []))) (select c nothing none_closed) → ⊥
  lost_row_is_none row h p m =
      let q = m.goes.1.rest tt [] no_put (puts_none c) in
      no_row row (sym (q.to 0 (omega arith) ∙ part_owed c row h p))

  pub waiting_row_is_put : (row : Row) → SelectMoves set c (select c (for_first (row ∷ []) []) none_closed) (Puts 0 (Rows (row ∷ []))) (select c nothing none_closed)
  waiting_row_is_put row = record {
    goes = (
      refl,
      record {
        sound = λ s. tt;
        rest = λ s more put h. record { to = λ r lt. by_cases (nat_eq r 0) (λ t. rw t (ap (λ xs. row ∷ xs) (h.to r lt))) (λ f. rw f (h.to r lt)); on = h.on };
        alive = λ s more may. some_put c nothing more;
        tested = λ k. absurd k;
        takes_no_fail = All-nil (λ (t : Take). is_fail t.signal ≡ false);
        puts_no_fail = λ r. by_cases (nat_eq r 0)
            (λ t. rw t (All-from_recursion (λ (s : Signal Row). is_fail s ≡ false) (Rows (row ∷ []) ∷ []) (refl, tt)))
            (λ f. rw f (All-nil (λ (s : Signal Row). is_fail s ≡ false)));
      },
    );
    from = tt;
    to = (omega arith, receives_at 0 (omega arith));
    closed = λ input sender. refl;
    raised = refl;
    saw = refl;
  }

  pub unowed_row_is_none : (row : Row) → SelectMoves set c (select c nothing none_closed) (Puts 0 (Rows (row ∷ []))) (select c nothing none_closed) → ⊥
  unowed_row_is_none row m = let q = m.goes.1.rest tt [] no_put (puts_none c) in no_row row (q.to 0 (omega arith))

  pub wrong_receiver_is_none : (row : Row) → SelectMoves set c (select c (for_first (row ∷ []) []) none_closed) (Puts 1 (Rows (row ∷ []))) (select c nothing none_closed) → ⊥
  wrong_receiver_is_none row m = let q = m.goes.1.rest tt [] no_put (puts_none c) in no_row row (q.to 1 (omega arith))

  pub stray_is_none : (SelectMoves set c (select c nothing none_closed) (Takes 0 0 Open) (select c nothing none_closed) → ⊥)
      × (SelectMoves set c (select c nothing none_closed) (Puts 2 Open) (select c nothing none_closed) → ⊥)
  stray_is_none = (
    λ m. let e : 1 ≡ 0 = m.from.0.sends in omega (arith, e),
    λ m. let lt : 2 < 2 = m.to.0 in omega (arith, lt),
  )

  pub close_is_counted : SelectMoves set c (select c nothing none_closed) (Takes 0 1 Close) (select c nothing scan_closed)
      × (SelectMoves set c (select c nothing none_closed) (Takes 0 1 Close) (select c nothing none_closed) → ⊥)
  close_is_counted = (
    record {
      goes = (refl, advances (came Close ∷ []) nothing nothing none_closed scan_closed [] (λ more. refl) (λ r. refl) (All-from_recursion (λ (t : Take). is_fail t.signal ≡ false) (came Close ∷ []) (refl, tt)));
      from = from_scan Close;
      to = tt;
      closed = λ input sender. same_closed (scan_closed input sender);
      raised = refl;
      saw = refl;
    },
    λ m. no_bool (sym (m.closed 0 1)),
  )

  -- ---- failures

  -- it fails by this, and keeps these rows
  breaks : (waits : ℕ → List Row) (outcome : Outcome) (kept : ℕ → List (Signal Row)) (owed : ℕ → List (Signal Row)) (saw : Bool) → ((r : ℕ) → owed r ≡ kept r ++ Fail ∷ Close ∷ [])
      → ((r : ℕ) → r < 2 → (rest : List Row) × (waits r ≡ put_rows (kept r) ++ rest)) → HasCause (K.Select c) outcome []
      → Breaks (passing set c) (selects c) 1 (select c waits none_closed) outcome (record (failed c outcome owed) { saw = saw })
  breaks waits outcome kept owed saw ends front cause = record {
    kept = kept;
    ends = λ r is. ends r;
    part = λ s more may. (
      (some_put c waits more).0,
      λ r lt.
          let q = front r lt in
          (q.0 ++ part_for c r (rows_at 0 more), ap (λ xs. xs ++ part_for c r (rows_at 0 more)) q.1 ∙ append_assoc (put_rows (kept r)) q.0 (part_for c r (rows_at 0 more))),
      (some_put c waits more).1,
    );
    cause = cause;
  }

  pub fail_stops_it : (row next : Row) → SelectMoves set c (select c (for_first (row ∷ next ∷ []) []) none_closed) (Takes 0 1 Fail) (failed c Stopped (for_first (Rows (row ∷ []) ∷ Fail ∷ Close ∷ []) (Fail ∷ Close ∷ [])))
      × (SelectMoves set c (select c nothing none_closed) (Takes 0 1 Fail) (select c nothing none_closed) → ⊥)
  fail_stops_it row next = (
    record {
      goes = (
        refl,
        breaks (for_first (row ∷ next ∷ []) []) Stopped (for_first (Rows (row ∷ []) ∷ []) []) (for_first (Rows (row ∷ []) ∷ Fail ∷ Close ∷ []) (Fail ∷ Close ∷ [])) false
            (λ r. by_cases (nat_eq r 0) (λ t. rw t refl) (λ f. rw f refl))
            (below_two (λ r. (rest : List Row) × (for_first (row ∷ next ∷ []) [] r ≡ put_rows (for_first (Rows (row ∷ []) ∷ []) [] r) ++ rest)) (next ∷ [], refl) ([], refl))
            tt,
      );
      from = from_scan Fail;
      to = tt;
      closed = λ input sender. refl;
      raised = refl;
      saw = refl;
    },
    λ m. no_bool m.goes.0,
  )

  fails_by : (deed : Deed) (outcome : Outcome) (saw : Bool) → HasCause (K.Select c) outcome [] → Breaks (passing set c) (selects c) 1 (select c nothing none_closed) outcome (record (failed c outcome (λ r. Fail ∷ Close ∷ [])) { saw = saw })
  fails_by deed outcome saw cause = breaks nothing outcome (λ r. []) (λ r. Fail ∷ Close ∷ []) saw (λ r. refl) (λ r lt. ([], refl)) cause

  pub sight_stops_it : SelectMoves set c (select c nothing none_closed) (Looks true) (record (failed c Stopped (λ r. Fail ∷ Close ∷ [])) { saw = true })
      × SelectMoves set c (select c nothing none_closed) (Looks false) (select c nothing none_closed)
      × (SelectMoves set c (select c nothing none_closed) (Looks true) (record (select c nothing none_closed) { saw = true }) → ⊥)
      × (SelectMoves set c (select c nothing none_closed) (Looks false) (failed c Stopped (λ r. Fail ∷ Close ∷ [])) → ⊥)
  sight_stops_it = (
    record { goes = (refl, fails_by (Looks true) Stopped true tt); from = tt; to = tt; closed = λ input sender. refl; raised = refl; saw = refl },
    record {
      goes = (refl, advances [] nothing nothing none_closed none_closed [] (λ more. refl) (λ r. refl) (All-nil (λ (t : Take). is_fail t.signal ≡ false)));
      from = tt;
      to = tt;
      closed = λ input sender. refl;
      raised = refl;
      saw = refl;
    },
    λ m. no_bool m.goes.0,
    λ m. m.goes.0,
  )

  pub close_alone_is_none : SelectMoves set c (select c nothing none_closed) (Takes 0 1 Fail) (failed c Stopped (λ r. Close ∷ [])) → ⊥
  close_alone_is_none m =
      let b = m.goes.1 in
      let e : 1 ≡ length (b.kept 0) + 2 = ap length (b.ends 0 (receives_at 0 (omega arith))) ∙ length-append (b.kept 0) (Fail ∷ Close ∷ []) in
      omega (arith, e)

  pub stray_row_fails_none : (row : Row) → SelectMoves set c (select c nothing none_closed) (Takes 0 1 Fail) (failed c Stopped (for_first (Rows (row ∷ []) ∷ Fail ∷ Close ∷ []) (Fail ∷ Close ∷ []))) → ⊥
  stray_row_fails_none row m =
      let b = m.goes.1 in
      let q = b.part tt [] tt in
      let f = q.1 0 (omega arith) in
      let one : 1 ≡ length (put_rows (b.kept 0)) + 0 = ap length (ap put_rows (b.ends 0 (receives_at 0 (omega arith))) ∙ put_append (b.kept 0) (Fail ∷ Close ∷ [])) ∙ length-append (put_rows (b.kept 0)) [] in
      let none : 0 ≡ length (put_rows (b.kept 0)) + length f.0 = ap length (sym (q.2.to 0 (omega arith)) ∙ f.1) ∙ length-append (put_rows (b.kept 0)) f.0 in
      omega (arith, one, none)

  pub fault_is_met_in_work : SelectMoves set c (select c nothing none_closed) Work (failed c Store (λ r. Fail ∷ Close ∷ []))
      × (SelectMoves set c (select c nothing none_closed) Work (failed c Stopped (λ r. Fail ∷ Close ∷ [])) → ⊥)
      × (SelectMoves set c (select c nothing none_closed) (Takes 0 1 Fail) (failed c Store (λ r. Fail ∷ Close ∷ [])) → ⊥)
  fault_is_met_in_work = (
    record { goes = (refl, fails_by Work Store false tt); from = tt; to = tt; closed = λ input sender. refl; raised = refl; saw = refl },
    λ m. no_bool (sym m.goes.0),
    λ m. other m.goes.0,
  )
    where
      other : Store ≡ Stopped → ⊥
      other e = cc

  pub owed_is_put : SelectMoves set c (failed c Stopped (λ r. Fail ∷ Close ∷ [])) (Puts 0 Fail) (failed c Stopped (for_first (Close ∷ []) (Fail ∷ Close ∷ [])))
      × (SelectMoves set c (failed c Stopped (λ r. Fail ∷ Close ∷ [])) (Puts 0 Close) (failed c Stopped (for_first (Fail ∷ []) (Fail ∷ Close ∷ []))) → ⊥)
  owed_is_put = (
    record {
      goes = (refl, λ r is. by_cases (nat_eq r 0) (λ t. rw t refl) (λ f. rw f refl));
      from = tt;
      to = (omega arith, receives_at 0 (omega arith));
      closed = λ input sender. refl;
      raised = refl;
      saw = refl;
    },
    λ m. other (Fail ∷ []) (m.goes.1 0 (receives_at 0 (omega arith))),
  )
    where
      other : (more : List (Signal Row)) → Fail ∷ Close ∷ [] ≡ Close ∷ more → ⊥
      other more e = cc

  pub failure_stays : (SelectMoves set c (failed c Stopped (λ r. [])) Work (select c nothing none_closed) → ⊥) × (SelectMoves set c (failed c Stopped (λ r. [])) Work (failed c Store (λ r. [])) → ⊥)
  failure_stays = (λ m. m.goes, λ m. other m.goes.0)
    where
      other : Store ≡ Stopped → ⊥
      other e = cc

  -- ---- at the end

  some_failure : (outcome : Outcome) → Some outcome ≡ None → ⊥
  some_failure outcome e = cc

  scan_is_closed : (input sender : ℕ) → IsSender (passing set c) (selects c) 1 input sender → scan_closed input sender ≡ true
  scan_is_closed input sender is = below_one (λ k. IsSender (passing set c) (selects c) 1 k sender → scan_closed k sender ≡ true) at_first input is.known is
    where
      at_first : IsSender (passing set c) (selects c) 1 0 sender → scan_closed 0 sender ≡ true
      at_first one = let e : 1 ≡ sender = one.sends in subst (λ s. scan_closed 0 s ≡ true) e refl

  done_select : SelectIsDone set c (select c nothing scan_closed)
  done_select = record {
    rest = λ e s. (record { to = λ r. []; on = [] }, puts_none c, λ r lt. refl, refl);
    untested = λ e. refl;
    owed = λ n. absurd (n refl);
    nothing = λ n. refl;
    closed = scan_is_closed;
    raised = refl;
  }

  done_failed : (outcome : Outcome) (raised : Bool) → raised ≡ is_fault outcome → SelectIsDone set c (record (failed_and_closed c outcome (λ r. [])) { raised = raised })
  done_failed outcome raised e = record {
    rest = λ e. absurd (some_failure outcome e);
    untested = λ e. refl;
    owed = λ n r is. refl;
    nothing = λ n. refl;
    closed = scan_is_closed;
    raised = e;
  }

  pub done_owes_nothing : (row : Row) → SelectIsDone set c (select c nothing scan_closed)
      × SelectIsDone set c (failed_and_closed c Stopped (λ r. []))
      × (SelectIsDone set c (select c (for_first (row ∷ []) []) scan_closed) → ⊥)
      × (SelectIsDone set c (failed_and_closed c Stopped (λ r. Close ∷ [])) → ⊥)
  done_owes_nothing row = (
    done_select,
    done_failed Stopped false refl,
    λ d. let q = d.rest refl tt in no_row row (sym (q.1.to 0 (omega arith)) ∙ q.2 0 (omega arith)),
    λ d. no_close Close (d.owed (some_failure Stopped) 0 (receives_at 0 (omega arith))),
  )
    where
      no_close : (s : Signal Row) → s ∷ [] ≡ [] → ⊥
      no_close s e = cc

  pub close_is_awaited : (SelectIsDone set c (select c nothing none_closed) → ⊥) × (SelectIsDone set c (failed c Stopped (λ r. [])) → ⊥)
  close_is_awaited = (λ d. no_bool (sym (d.closed 0 1 (from_scan Close).0)), λ d. no_bool (sym (d.closed 0 1 (from_scan Close).0)))

  pub both_are_awaited : IsDoneTask (passing set c) results 1 (record (failed c Stopped (λ r. [])) { closed = both_closed })
      × (IsDoneTask (passing set c) results 1 (record (failed c Stopped (λ r. [])) { closed = first_closed }) → ⊥)
  both_are_awaited = (
    record {
      rest = λ e. absurd (some_failure Stopped e);
      untested = λ e. refl;
      owed = λ n r is. refl;
      nothing = λ n. refl;
      closed = λ input sender is. below_one (λ k. both_closed k sender ≡ true) (below_two (λ s. both_closed 0 s ≡ true) refl refl sender is.within) input is.known;
      raised = refl;
    },
    λ d. no_bool (sym (d.closed 0 1 from_second)),
  )
    where
      from_second : IsSender (passing set c) results 1 0 1
      from_second = let lt : 1 < 2 = omega arith in record { known = omega arith; within = lt; sends = lt }

  pub raises_for_faults : SelectIsDone set c (record (failed_and_closed c Store (λ r. [])) { raised = true })
      × (SelectIsDone set c (record (select c nothing scan_closed) { raised = true }) → ⊥)
      × (SelectIsDone set c (record (failed_and_closed c Stopped (λ r. [])) { raised = true }) → ⊥)
      × (SelectIsDone set c (failed_and_closed c Store (λ r. [])) → ⊥)
  raises_for_faults = (done_failed Store true refl, λ d. no_bool d.raised, λ d. no_bool d.raised, λ d. no_bool (sym d.raised))

  -- ---- from its beginning to its end

  new_select : IsNewTask (passing set c) (selects c) 1 [] [] (select c nothing none_closed)
  new_select = record {
    rest = λ s took put h. record {
      received = λ input. rows_at 0 took;
      made = filter (holds c) (rows_at 0 took);
      receives = below_one (λ input. Receives (passing set c) 1 took input (rows_at 0 took)) refl;
      makes = refl;
      sends = h.to;
      hands_on = h.on;
    };
    untested = refl;
    closed = λ input sender. refl;
    failure = refl;
    raised = refl;
    saw = refl;
  }

  module _ (row : Row) where
    abbrev took : List Take
    took = came Open ∷ came (Rows (row ∷ [])) ∷ came Close ∷ []

    ran_whole : Ran (passing set c) (selects c) 1 (select c nothing none_closed) (came Open ∷ came (Rows (row ∷ [])) ∷ came Close ∷ []) (to_both (λ r. Open ∷ Rows (part_for c r (row ∷ [])) ∷ Close ∷ [])) (select c nothing scan_closed)
    ran_whole = record {
      went = record {
        sound = λ s. tt;
        rest = λ s more put h. record {
          to = below_two (λ r. put_rows (to_both (λ r. Open ∷ Rows (part_for c r (row ∷ [])) ∷ Close ∷ []) r) ++ put.to r ≡ part_for c r (row ∷ rows_at 0 more)) (sent put more h 0 (omega arith)) (sent put more h 1 (omega arith));
          on = h.on;
        };
        alive = λ s more may. some_put c nothing more;
        tested = λ k. absurd k;
        takes_no_fail = All-from_recursion (λ (t : Take). is_fail t.signal ≡ false) took (refl, (refl, (refl, tt)));
        puts_no_fail = no_fail;
      };
      from = ((from_scan Open).0, ((from_scan (Rows (row ∷ []))).0, ((from_scan Close).0, tt)));
      none = others;
      closed = λ input sender. same_closed (scan_closed input sender);
      raised = λ e. e;
      saw = λ e. e;
    }
      where
        sent : (put : Put) (more : List Taken) → SelectPuts c nothing more put → (r : ℕ) → r < 2 → (part_for c r (row ∷ []) ++ []) ++ put.to r ≡ part_for c r (row ∷ rows_at 0 more)
        sent put more h r lt =
            ap (λ xs. xs ++ put.to r) (append-nil (part_for c r (row ∷ []))) ∙ (ap (λ xs. part_for c r (row ∷ []) ++ xs) (h.to r lt) ∙ sym (part_append c r (row ∷ []) (rows_at 0 more)))

        no_fail : (r : ℕ) → All (λ (s : Signal Row). is_fail s ≡ false) (to_both (λ r. Open ∷ Rows (part_for c r (row ∷ [])) ∷ Close ∷ []) r)
        no_fail zero = All-from_recursion (λ (s : Signal Row). is_fail s ≡ false) (Open ∷ Rows (part_for c 0 (row ∷ [])) ∷ Close ∷ []) (refl, (refl, (refl, tt)))
        no_fail (suc zero) = All-from_recursion (λ (s : Signal Row). is_fail s ≡ false) (Open ∷ Rows (part_for c 1 (row ∷ [])) ∷ Close ∷ []) (refl, (refl, (refl, tt)))
        no_fail (suc (suc r)) = All-nil (λ (s : Signal Row). is_fail s ≡ false)

        others : (r : ℕ) → (IsReceiver (passing set c) 1 1 r → ⊥) → to_both (λ r. Open ∷ Rows (part_for c r (row ∷ [])) ∷ Close ∷ []) r ≡ []
        others zero n = absurd (n (receives_at 0 (omega arith)))
        others (suc zero) n = absurd (n (receives_at 1 (omega arith)))
        others (suc (suc r)) n = refl

    pub selects_whole : IsWholeCourse set c row (to_both (λ r. Open ∷ Rows (part_for c r (row ∷ [])) ∷ Close ∷ []))
    unfolding WriterWord
    selects_whole = record {
      begins = new_select;
      ran = ran_whole;
      ends = done_select;
      words = below_two (λ r. WriterWord (to_both (λ r. Open ∷ Rows (part_for c r (row ∷ [])) ∷ Close ∷ []) r)) tt tt;
    }

    pub selects_all : holds c row ≡ true → nat_eq (part_of 2 (0 ∷ []) row) 0 ≡ true → IsWholeCourse set c row (to_both (λ r. Open ∷ Close ∷ [])) → ⊥
    selects_all h p w =
        let q = w.ran.went.rest tt [] no_put (puts_none c) in
        no_row row (sym (q.to 0 (omega arith) ∙ part_owed c row h p))

-- ---- a check

module _ (set name text : List ℕ) (row : Row) where
  abbrev some_passes : (more : List Taken) → (put : Put) × CheckPuts (row ∷ []) more put
  some_passes more = (record { to = λ r. row ∷ rows_at 0 more; on = [] }, record { to = λ r lt. refl; on = refl })

  pub tested_row_passes : CheckMoves set name text (check (row ∷ []) (row ∷ [])) Work (check (row ∷ []) []) ↔ (holds (is_text text) row ≡ true)
  tested_row_passes = (told, passes)
    where
      told : CheckMoves set name text (check (row ∷ []) (row ∷ [])) Work (check (row ∷ []) []) → holds (is_text text) row ≡ true
      told m =
          let q = m.goes.1.tested tt in
          let moved = subst (IsPermutation (row ∷ [])) (append-nil q.0) q.1 in
          All-contains (λ r. holds (is_text text) r ≡ true) q.0 row q.2 (Contains-permutation (row ∷ []) q.0 row moved (in_here row []))

      passes : holds (is_text text) row ≡ true → CheckMoves set name text (check (row ∷ []) (row ∷ [])) Work (check (row ∷ []) [])
      passes e = record {
        goes = (
          refl,
          record {
            sound = λ s. tt;
            rest = λ s more put h. record { to = h.to; on = h.on };
            alive = λ s more may. some_passes more;
            tested = λ k. (row ∷ [], IsPermutation-refl (row ∷ []), All-from_recursion (λ r. holds (is_text text) r ≡ true) (row ∷ []) (e, tt));
            takes_no_fail = All-nil (λ (t : Take). is_fail t.signal ≡ false);
            puts_no_fail = λ r. All-nil (λ (s : Signal Row). is_fail s ≡ false);
          },
        );
        from = tt;
        to = tt;
        closed = λ input sender. refl;
        raised = refl;
        saw = refl;
      }

  pub tested_row_fails : CheckMoves set name text (check (row ∷ []) (row ∷ [])) Work (record (check (row ∷ []) []) { failure = Some (Check name); owed = λ r. Fail ∷ Close ∷ [] }) ↔ (holds (is_text text) row ≡ false)
  tested_row_fails = (told, fails)
    where
      told : CheckMoves set name text (check (row ∷ []) (row ∷ [])) Work (record (check (row ∷ []) []) { failure = Some (Check name); owed = λ r. Fail ∷ Close ∷ [] }) → holds (is_text text) row ≡ false
      told m =
          let f = m.goes.1.cause.1 in
          elim (in_cases row f.0 [] f.1) [ inl e ↦ ap (holds (is_text text)) e ∙ f.2 | inr none ↦ absurd (in_none f.0 none) ]

      fails : holds (is_text text) row ≡ false → CheckMoves set name text (check (row ∷ []) (row ∷ [])) Work (record (check (row ∷ []) []) { failure = Some (Check name); owed = λ r. Fail ∷ Close ∷ [] })
      fails e = record {
        goes = (
          refl,
          record {
            kept = λ r. [];
            ends = λ r is. refl;
            part = λ s more may. ((some_passes more).0, λ r lt. (row ∷ rows_at 0 more, refl), (some_passes more).1);
            cause = (refl, (row, in_here row [], e));
          },
        );
        from = tt;
        to = tt;
        closed = λ input sender. refl;
        raised = refl;
        saw = refl;
      }
