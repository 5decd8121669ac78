-- How steps are put together.
use Rattle.std.proofs.Common.{◌≡◌, ◌≢◌, ◌⊎◌, inl, inr, ℕ, nat_eq, Bool, true, false, ◌||◌, Option, Some, None, List, [], ◌∷◌, ◌++◌, refl, ap, sym, subst, ◌∙◌, append_assoc, append-nil}
use Rattle.std.specs.List.{Contains}
use Rattle.std.specs.List.Sorted.{IsPermutation}
use Rattle.std.proofs.lemmas.List.Elements.{All-append, All-nil, Contains-append_left}
use Rattle.std.proofs.lemmas.List.Sorted.{IsPermutation-refl}
use Rattle.hy_rest.specs.Words.{Signal, Open, Rows, Fail, Close, is_fail}
use Rattle.hy_job.specs.declared.job.Activity.{Activity}
use Rattle.hy_job.specs.declared.job.Job.{Job}
use Rattle.hy_job.specs.Columns.{Row}
use Rattle.hy_job.specs.Runs.{IsReceiver, IsSender, Put, Taken, rows_at}
use Rattle.hy_job.specs.Settled.{Completed, HasCause, Outcome, Stopped, Take, has_closed, is_fault, taken_rows}
use Rattle.hy_job.proofs.Members.{by_cases, in_here, no_bool}
use Rattle.hy_job.proofs.Boxes.{is_nat}
use Rattle.hy_job.proofs.RunRows.{all_append}
use Rattle.hy_course.specs.Task.{Advances, Breaks, Deed, Goes, Looks, MayBreak, MayComeTo, Puts, Raises, Takes, TaskOf, ToReceiver, Work, is_raise, is_sight, put_behind, puts_of, takes_of}
use Rattle.hy_course.specs.Course.{Broke, MovesRan, NoneRan, RanThen, Went}
use Rattle.hy_course.proofs.ListLaws.{among_first, cause_from, closed_then, comes_by, first_rows, front_behind, passed_append, passed_none, put_twice, taken_behind, tested_then}

-- ---- one step

fault_fails : (o : Outcome) → is_fault o ≡ true → o ≢ Completed
fault_fails o f e = no_bool (sym f ∙ ap is_fault e)

fault_stops_none : (o : Outcome) → is_fault o ≡ true → o ≡ Stopped → ⊥
fault_stops_none o f e = no_bool (sym f ∙ ap is_fault e)

stopped_fails : (o : Outcome) → o ≡ Stopped → o ≢ Completed
stopped_fails o s e = apart (sym s ∙ e)
  where
    apart : Stopped ≡ Completed → ⊥
    apart c = cc

abbrev fail_of : ℕ → ℕ → Take
fail_of input sender = record { input = input; sender = sender; signal = Fail }

module _ (job : Job) (a : Activity) (j : ℕ) (old new : TaskOf) where
  -- a break behind which nothing was put
  broken : (took : List Take) (put : ℕ → List (Signal Row)) (outcome : Outcome) → ((r : ℕ) → put r ≡ []) → Breaks job a j old outcome new → outcome ≢ Completed
      → (outcome ≡ Stopped → ((t : Take) × Contains took t × (is_fail t.signal ≡ true)) ⊎ (new.saw ≡ true)) → Broke job a j old took put new outcome
  broken took put outcome none b fails stopped = record {
    fails = fails;
    before = [];
    behind = took;
    took_is = refl;
    takes_no_fail = All-nil (λ (t : Take). is_fail t.signal ≡ false);
    kept = b.kept;
    ends = λ r is. ap (λ xs. xs ++ new.owed r) (none r) ∙ b.ends r is;
    part = b.part;
    cause = subst (HasCause a.kind outcome) (sym (append-nil old.untested)) b.cause;
    stopped = stopped;
  }

  broke_by : (deed : Deed) (outcome : Outcome) → MayBreak deed outcome → Breaks job a j old outcome new → new.saw ≡ (is_sight deed || old.saw) → Broke job a j old (takes_of deed) (puts_of deed) new outcome
  broke_by Work outcome may b saw = broken [] (λ r. []) outcome (λ r. refl) b (fault_fails outcome may) (λ e. absurd (fault_stops_none outcome may e))
  broke_by (Takes input sender Fail) outcome may b saw =
      broken (fail_of input sender ∷ []) (λ r. []) outcome (λ r. refl) b (stopped_fails outcome may) (λ e. inl (fail_of input sender, in_here (fail_of input sender) [], refl))
  broke_by (Takes input sender Open) outcome may b saw = absurd may
  broke_by (Takes input sender (Rows rows)) outcome may b saw = absurd may
  broke_by (Takes input sender Close) outcome may b saw = absurd may
  broke_by (Puts receiver signal) outcome may b saw = absurd may
  broke_by Raises outcome may b saw = absurd may
  broke_by (Looks true) outcome may b saw = broken [] (λ r. []) outcome (λ r. refl) b (stopped_fails outcome may) (λ e. inr saw)
  broke_by (Looks false) outcome may b saw = absurd may

  moves_went : (deed : Deed) (f f' : Option Outcome) → Goes job a j old deed new f f' → new.saw ≡ (is_sight deed || old.saw) → Went job a j old (takes_of deed) (puts_of deed) new f f'
  moves_went deed None None g saw = g.1
  moves_went deed None (Some outcome) g saw = broke_by deed outcome g.0 g.1 saw
  moves_went deed (Some outcome) (Some outcome') g saw = g
  moves_went deed (Some outcome) None g saw = absurd g

-- nothing is put for who is no receiver
puts_none : (job : Job) (a : Activity) (j : ℕ) (deed : Deed) → ToReceiver job a j deed → (r : ℕ) → (IsReceiver job a.number j r → ⊥) → puts_of deed r ≡ []
puts_none job a j (Puts receiver signal) to r other =
    by_cases (nat_eq r receiver) (λ y. absurd (other (subst (IsReceiver job a.number j) (sym (is_nat r receiver y)) to.1))) (λ n. rw n refl)
puts_none job a j _ to r other = refl

stays : (b c : Bool) → c ≡ true → (b || c) ≡ true
stays true c e = refl
stays false c e = e

pub moves_ran : (old new : TaskOf) → MovesRan old new
moves_ran old new job a j deed m = record {
  went = moves_went job a j old new deed old.failure new.failure m.goes m.saw;
  from = m.from;
  none = puts_none job a j deed m.to;
  closed = m.closed;
  raised = λ r. m.raised ∙ stays (is_raise deed) old.raised r;
  saw = λ s. m.saw ∙ stays (is_sight deed) old.saw s;
}

-- ---- none

none_went : (job : Job) (a : Activity) (j : ℕ) (t : TaskOf) (f : Option Outcome) → (f ≡ None → t.sound → (more : List Taken) → MayComeTo job a j t.closed more → (put : Put) × t.rest more put)
    → Went job a j t [] (λ r. []) t f f
none_went job a j t None alive = record {
  sound = λ s. s;
  rest = λ s more put h. h;
  alive = alive refl;
  tested = λ check. ([], subst (λ xs. IsPermutation xs t.untested) (sym (append-nil t.untested)) (IsPermutation-refl t.untested), passed_none a.kind);
  takes_no_fail = All-nil (λ (t : Take). is_fail t.signal ≡ false);
  puts_no_fail = λ r. All-nil (λ (s : Signal Row). is_fail s ≡ false);
}
none_went job a j t (Some outcome) alive = (refl, λ r is. refl)

pub none_ran : (t : TaskOf) → NoneRan t
none_ran t job a j alive = record {
  went = none_went job a j t t.failure alive;
  from = tt;
  none = λ r other. refl;
  closed = λ input sender. refl;
  raised = λ r. r;
  saw = λ s. s;
}

-- ---- some, and then some more

module _ (job : Job) (a : Activity) (j : ℕ) (first second third : TaskOf) (took took' : List Take) (put put' : ℕ → List (Signal Row)) where
  abbrev both : ℕ → List (Signal Row)
  both r = put r ++ put' r

  advances_then : Advances job a j first took put second → Advances job a j second took' put' third → Advances job a j first (took ++ took') both third
  advances_then x y = record {
    sound = λ s. y.sound (x.sound s);
    rest = λ s more p h.
        subst (λ xs. first.rest xs (put_behind both p)) (taken_behind took took' more)
        (subst (first.rest (taken_rows took ++ (taken_rows took' ++ more))) (put_twice put put' p) (x.rest s (taken_rows took' ++ more) (put_behind put' p) (y.rest (x.sound s) more p h)));
    alive = λ s. y.alive (x.sound s);
    tested = λ check.
        let early = x.tested check in
        let late = y.tested check in (
          early.0 ++ late.0,
          tested_then first.untested second.untested (rows_at 0 (taken_rows took)) (rows_at 0 (taken_rows took')) (rows_at 0 (taken_rows (took ++ took'))) early.0 (first_rows took took') early.1 third.untested late.0 late.1,
          passed_append a.kind early.0 late.0 early.2 late.2,
        );
    takes_no_fail = All-append (λ (t : Take). is_fail t.signal ≡ false) took took' x.takes_no_fail y.takes_no_fail;
    puts_no_fail = λ r. All-append (λ (s : Signal Row). is_fail s ≡ false) (put r) (put' r) (x.puts_no_fail r) (y.puts_no_fail r);
  }

  -- it failed in the later steps
  broke_later : (outcome : Outcome) → ((input sender : ℕ) → second.closed input sender ≡ (has_closed took input sender || first.closed input sender))
      → Advances job a j first took put second → Broke job a j second took' put' third outcome → Broke job a j first (took ++ took') both third outcome
  broke_later outcome closed x b = record {
    fails = b.fails;
    before = took ++ b.before;
    behind = b.behind;
    took_is = ap (λ ts. took ++ ts) b.took_is ∙ sym (append_assoc took b.before b.behind);
    takes_no_fail = All-append (λ (t : Take). is_fail t.signal ≡ false) took b.before x.takes_no_fail b.takes_no_fail;
    kept = λ r. put r ++ b.kept r;
    ends = λ r is. append_assoc (put r) (put' r) (third.owed r) ∙ (ap (λ xs. put r ++ xs) (b.ends r is) ∙ sym (append_assoc (put r) (b.kept r) (Fail ∷ Close ∷ [])));
    part = λ s more may.
        let q = b.part (x.sound s) more (comes_by job a j (λ input sender. has_closed (took ++ b.before) input sender || first.closed input sender) (λ input sender. has_closed b.before input sender || second.closed input sender)
        (λ input sender. sym (closed_then took b.before first.closed second.closed closed input sender)) more may) in (
          put_behind put q.0,
          front_behind job put b.kept q.0 q.1,
          subst (λ xs. first.rest xs (put_behind put q.0)) (taken_behind took b.before more) (x.rest s (taken_rows b.before ++ more) q.0 q.2),
        );
    cause = cause_from a.kind outcome (second.untested ++ rows_at 0 (taken_rows b.before)) (first.untested ++ rows_at 0 (taken_rows (took ++ b.before)))
        (λ check row m.
        let early = x.tested check in
        among_first first.untested second.untested (rows_at 0 (taken_rows took)) (rows_at 0 (taken_rows b.before)) (rows_at 0 (taken_rows (took ++ b.before))) early.0 (first_rows took b.before) early.1 row m)
        b.cause;
    stopped = b.stopped;
  }

  -- it failed in the earlier ones
  broke_earlier : (outcome outcome' : Outcome) → (second.saw ≡ true → third.saw ≡ true) → Broke job a j first took put second outcome
      → (outcome' ≡ outcome) × ((r : ℕ) → IsReceiver job a.number j r → second.owed r ≡ put' r ++ third.owed r) → Broke job a j first (took ++ took') both third outcome'
  broke_earlier outcome outcome' saw b g = record {
    fails = λ e. b.fails (sym g.0 ∙ e);
    before = b.before;
    behind = b.behind ++ took';
    took_is = ap (λ ts. ts ++ took') b.took_is ∙ append_assoc b.before b.behind took';
    takes_no_fail = b.takes_no_fail;
    kept = b.kept;
    ends = λ r is. append_assoc (put r) (put' r) (third.owed r) ∙ (ap (λ xs. put r ++ xs) (sym (g.1 r is)) ∙ b.ends r is);
    part = b.part;
    cause = subst (λ o. HasCause a.kind o (first.untested ++ rows_at 0 (taken_rows b.before))) (sym g.0) b.cause;
    stopped = λ e. elim (b.stopped (sym g.0 ∙ e)) [ inl t ↦ inl (t.0, Contains-append_left b.behind took' t.0 t.1, t.2) | inr s ↦ inr (saw s) ];
  }

  went_then : (f f' f'' : Option Outcome) → ((input sender : ℕ) → second.closed input sender ≡ (has_closed took input sender || first.closed input sender)) → (second.saw ≡ true → third.saw ≡ true)
      → Went job a j first took put second f f' → Went job a j second took' put' third f' f'' → Went job a j first (took ++ took') both third f f''
  went_then None None None closed saw x y = advances_then x y
  went_then None None (Some outcome) closed saw x y = broke_later outcome closed x y
  went_then None (Some outcome) (Some outcome') closed saw x y = broke_earlier outcome outcome' saw x y
  went_then None (Some outcome) None closed saw x y = absurd y
  went_then (Some outcome) None f closed saw x y = absurd x
  went_then (Some outcome) (Some outcome') (Some outcome'') closed saw x y =
      (y.0 ∙ x.0, λ r is. x.1 r is ∙ (ap (λ xs. put r ++ xs) (y.1 r is) ∙ sym (append_assoc (put r) (put' r) (third.owed r))))
  went_then (Some outcome) (Some outcome') None closed saw x y = absurd y

pub ran_then : (first second third : TaskOf) → RanThen first second third
ran_then first second third job a j took took' put put' x y = record {
  went = went_then job a j first second third took took' put put' first.failure second.failure third.failure x.closed y.saw x.went y.went;
  from = all_append (λ (t : Take). IsSender job a j t.input t.sender) took took' x.from y.from;
  none = λ r other. ap (λ xs. xs ++ put' r) (x.none r other) ∙ y.none r other;
  closed = λ input sender. y.closed input sender ∙ sym (closed_then took took' first.closed second.closed x.closed input sender);
  raised = λ r. y.raised (x.raised r);
  saw = λ s. y.saw (x.saw s);
}
