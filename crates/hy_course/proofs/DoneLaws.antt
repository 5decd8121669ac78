-- The record of a task that is done.
use Rattle.std.proofs.Common.{◌≡◌, ◌≢◌, ◌⊎◌, inl, inr, ℕ, Bool, true, false, ◌||◌, Option, Some, None, List, [], ◌++◌, refl, ap, sym, subst, ◌∙◌, append-nil}
use Rattle.std.specs.List.{Contains}
use Rattle.std.specs.List.Sorted.{IsPermutation}
use Rattle.std.proofs.lemmas.List.Elements.{Contains-append_right}
use Rattle.hy_rest.specs.Words.{Signal, is_fail, put_rows}
use Rattle.hy_job.specs.declared.job.Activity.{Activity}
use Rattle.hy_job.specs.declared.job.Job.{Job}
use Rattle.hy_job.specs.Columns.{Row}
use Rattle.hy_job.specs.Runs.{Receives, TaskRun, rows_at}
use Rattle.hy_job.specs.Settled.{Check, Completed, HasCause, IsCompleted, IsFailed, IsPassed, NoMemory, Outcome, Stopped, StopsBy, Store, Take, TaskRecord, given, has_closed, taken_rows}
use Rattle.hy_course.specs.Task.{Advances, TaskOf, put_behind}
use Rattle.hy_course.specs.Course.{AllClosed, Broke, DoneMeets, IsDoneTask, IsNewTask, Went, outcome_of, record_of}
use Rattle.hy_course.proofs.ListLaws.{comes_by, passed_all}

-- who stops tells why
stops_by : (outcome : Outcome) (r : TaskRecord) → (outcome ≡ Stopped → ((t : Take) × Contains r.took t × (is_fail t.signal ≡ true)) ⊎ (r.saw ≡ true)) → StopsBy outcome r
stops_by Completed r h = tt
stops_by Stopped r h = h refl
stops_by (Check name) r h = tt
stops_by Store r h = tt
stops_by NoMemory r h = tt

unclosed : (x y : Bool) → y ≡ false → (x || y) ≡ x
unclosed true y z = refl
unclosed false y z = z

some_is_none : (outcome : Outcome) → Some outcome ≡ None → ⊥
some_is_none outcome e = cc

module _ (job : Job) (a : Activity) (j : ℕ) (scanned handed : List Row) (first last : TaskOf) (took : List Take) (put : ℕ → List (Signal Row)) (begins : IsNewTask job a j scanned handed first) (sound : first.sound)
    (ends : IsDoneTask job a j last) where
  abbrev whole : TaskRecord
  whole = record_of scanned handed took put last

  -- ---- it completed

  run_of : last.failure ≡ None → Advances job a j first took put last → TaskRun job a j (given whole took) (record { to = λ r. put_rows (put r); on = last.hands_on })
  run_of e x =
      let d = ends.rest e (x.sound sound) in
      let run = begins.rest sound (taken_rows took ++ []) (put_behind put d.0) (x.rest sound [] d.0 d.1) in
      record {
        received = run.received;
        made = run.made;
        receives = λ input lt. subst (λ rows. Receives job a.number rows input (run.received input)) (append-nil (taken_rows took)) (run.receives input lt);
        makes = run.makes;
        sends = λ r lt. sym (ap (λ xs. put_rows (put r) ++ xs) (d.2 r lt) ∙ append-nil (put_rows (put r))) ∙ run.sends r lt;
        hands_on = sym d.3 ∙ run.hands_on;
      }

  passed_of : last.failure ≡ None → Advances job a j first took put last → IsPassed a.kind (rows_at 0 (taken_rows took))
  passed_of e x = passed_all a.kind (rows_at 0 (taken_rows took)) (λ check.
      let q = x.tested check in
      let from = subst (λ xs. IsPermutation (xs ++ rows_at 0 (taken_rows took)) (q.0 ++ last.untested)) begins.untested q.1 in
      let to = subst (λ xs. IsPermutation (rows_at 0 (taken_rows took)) (q.0 ++ xs)) (ends.untested e) from in
      (q.0, subst (IsPermutation (rows_at 0 (taken_rows took))) (append-nil q.0) to, q.2))

  completed_of : last.failure ≡ None → Advances job a j first took put last → IsCompleted job a j whole
  completed_of e x = record {
    run = run_of e x;
    takes_no_fail = x.takes_no_fail;
    puts_no_fail = λ r is. x.puts_no_fail r;
    passed = passed_of e x;
  }

  -- ---- it failed

  failed_of : (outcome : Outcome) → last.failure ≡ Some outcome → Broke job a j first took put last outcome → IsFailed job a j whole
  failed_of outcome e b =
      let failed : last.failure ≡ None → ⊥ = λ n. some_is_none outcome (sym e ∙ n) in
      record {
        before = b.before;
        behind = b.behind;
        took = b.took_is;
        takes_no_fail = b.takes_no_fail;
        put = b.kept;
        ends = λ r is. sym (append-nil (put r)) ∙ (ap (λ xs. put r ++ xs) (sym (ends.owed failed r is)) ∙ b.ends r is);
        part = λ more may.
            let q = b.part sound more (comes_by job a j (has_closed b.before) (λ input sender. has_closed b.before input sender || first.closed input sender)
            (λ input sender. unclosed (has_closed b.before input sender) (first.closed input sender) (begins.closed input sender)) more may) in (
              q.0,
              record { to = q.1; on = (q.0.on, ap (λ xs. xs ++ q.0.on) (sym (ends.nothing failed))) },
              begins.rest sound (taken_rows b.before ++ more) q.0 q.2,
            );
        cause = subst (λ o. HasCause a.kind o (rows_at 0 (taken_rows b.before))) (sym (ap outcome_of e)) (subst (λ xs. HasCause a.kind outcome (xs ++ rows_at 0 (taken_rows b.before))) begins.untested b.cause);
      }

  -- ---- by its end

  completed_by : (failure : Option Outcome) → last.failure ≡ failure → Went job a j first took put last None failure → outcome_of last.failure ≡ Completed → IsCompleted job a j whole
  completed_by None e x is = completed_of e x
  completed_by (Some outcome) e b is = absurd (b.fails (sym (ap outcome_of e) ∙ is))

  failed_by : (failure : Option Outcome) → last.failure ≡ failure → Went job a j first took put last None failure → outcome_of last.failure ≢ Completed → IsFailed job a j whole
  failed_by None e x other = absurd (other (ap outcome_of e))
  failed_by (Some outcome) e b other = failed_of outcome e b

  stopped_by : (failure : Option Outcome) → last.failure ≡ failure → Went job a j first took put last None failure → StopsBy (outcome_of last.failure) whole
  stopped_by None e x = subst (λ o. StopsBy o whole) (sym (ap outcome_of e)) tt
  stopped_by (Some outcome) e b = subst (λ o. StopsBy o whole) (sym (ap outcome_of e)) (stops_by outcome whole (λ is. elim (b.stopped is) [
    | inl t ↦ inl (t.0, subst (λ ts. Contains ts t.0) (sym b.took_is) (Contains-append_right b.before b.behind t.0 t.1), t.2)
    | inr s ↦ inr s
  ]))

pub done_meets : (first last : TaskOf) → DoneMeets first last
done_meets first last job a j scanned handed took put begins sound ran ends words =
    let went = subst (λ f. Went job a j first took put last f last.failure) begins.failure ran.went in
    record {
      completed = completed_by job a j scanned handed first last took put begins sound ends last.failure refl went;
      failed = failed_by job a j scanned handed first last took put begins sound ends last.failure refl went;
      words = record { words = words; none = λ r lt other. ran.none r other };
      taken = ran.from;
      raised = ends.raised;
      stopped = stopped_by job a j scanned handed first last took put begins sound ends last.failure refl went;
    }

pub all_closed : (first last : TaskOf) → AllClosed first last
all_closed first last job a j scanned handed took put begins ran ends input sender is =
    sym (unclosed (has_closed took input sender) (first.closed input sender) (begins.closed input sender)) ∙ (sym (ran.closed input sender) ∙ ends.closed input sender is)
