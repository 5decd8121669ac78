-- Steps of a task by what its parts did.
use Rattle.std.proofs.Common.{◌≡◌, ◌≢◌, ◌<◌, ◌≤◌, ℕ, zero, suc, nat_eq, Bool, true, false, ◌&&◌, ◌||◌, Option, Some, None, List, [], ◌∷◌, ◌++◌, map, refl, ap, sym, subst, ◌∙◌, append_assoc, append-nil, arith, inl, inr}
use Rattle.std.specs.List.{All}
use Rattle.std.specs.List.Sorted.{IsPermutation}
use Rattle.std.proofs.lemmas.Bool.{cases_lt}
use Rattle.std.proofs.lemmas.List.Elements.{All-cons, All-nil}
use Rattle.std.proofs.lemmas.List.Sorted.{IsPermutation-refl}
use Rattle.hy_rest.specs.Words as S
use Rattle.hy_rest.specs.Words.{Signal, is_close, is_fail, put_rows}
use Rattle.hy_job.specs.declared.job.Activity.{Activity}
use Rattle.hy_job.specs.declared.job.Job.{Job}
use Rattle.hy_job.specs.Settled.{Outcome, Take, has_closed}
use Rattle.hy_job.proofs.Boxes.{is_nat, nat_is}
use Rattle.hy_job.proofs.Members.{by_cases, no_bool}
use Rattle.hy_mail.specs.declared.parcel.Parcel.{Parcel}
use Rattle.hy_mail.specs.declared.parcel.Parcel.TheVariants as P
use Rattle.hy_driver.specs.Rows.{Row}
use Rattle.hy_output.specs.declared.way.Way.{Way}
use Rattle.hy_output.specs.Ways.{SendsOn, places, state_of, waiting}
use Rattle.hy_input.specs.Inputs.{closed_at}
use Rattle.hy_course.specs.Task.{Advances, Breaks, Deed, Goes, Looks, Puts, Raises, TaskOf, Takes, Work}
use Rattle.hy_course.specs.Parts.{PartsOf}
use Rattle.hy_course.proofs.ListLaws.{passed_none}
use Rattle.hy_course.proofs.PartLaws.{parts_continue}
use Rattle.hy_pipeline.specs.Pipeline.{AreApart, PipelineOf, nothing, parts_of, put_for, signal_of, take_of, waits_for, waits_in}
use Rattle.hy_pipeline.specs.Laws.{TakesParcel}
use Rattle.hy_pipeline.specs.Tasks.{BreaksOff, ClosesBy, FailMoves, FailedTakeMoves, FaultMoves, StepsOn, LookMoves, MayPut, PutMoves, PutsOut, RaiseMoves, SightMoves, TakeMoves, TaskSeen, Tells, WorkMoves, closed_of, lacks, owes, task_of}
use Rattle.hy_pipeline.proofs.StepLaws.{come_is_step, differ, places_stay, put_is_step}

-- ---- what steps have in common

by_failure : (job : Job) (a : Activity) (j : ℕ) (o n : TaskOf) (deed : Deed) (f g : Option Outcome) → o.failure ≡ f → n.failure ≡ g → Goes job a j o deed n f g → Goes job a j o deed n o.failure n.failure
by_failure job a j o n deed f g was is h = subst (λ x. Goes job a j o deed n x n.failure) (sym was) (subst (λ x. Goes job a j o deed n f x) (sym is) h)

module _ (job : Job) (a : Activity) (j : ℕ) (at : ℕ → ℕ) (old new : TaskSeen) where
  advances : (took : List Take) (sent : ℕ → List (Signal Row)) → StepsOn job a j at old took sent new → All (λ t. is_fail t.signal ≡ false) took → ((r : ℕ) → All (λ s. is_fail s ≡ false) (sent r))
      → Advances job a j (task_of job a at old) took sent (task_of job a at new)
  advances took sent h takes puts = record {
    sound = h.sound;
    rest = λ s more put r. parts_continue (parts_of at old.pipeline) (parts_of at new.pipeline) job a took h.fed h.gave h.written sent (h.steps s) more put r;
    alive = λ s more may. h.lives s more may;
    tested = h.tests;
    takes_no_fail = takes;
    puts_no_fail = puts;
  }

  breaks : (last : PartsOf) (outcome : Outcome) → BreaksOff job a j at old last outcome new → Breaks job a j (task_of job a at old) outcome (task_of job a at new)
  breaks last outcome h = record {
    kept = waits_for at new.pipeline.output.way;
    ends = λ r is. ap (λ s. waits_for at new.pipeline.output.way r ++ lacks s) h.open_still;
    part = λ s more may.
        let some = h.lives s more may in (
          some.0,
          λ r lt. h.front s r lt (last.packed ++ some.1.made) (some.0.to r) (some.1.offers r lt),
          parts_continue (parts_of at old.pipeline) last job a [] h.fed h.gave h.written nothing (h.steps s) more some.0 some.1,
        );
    cause = h.cause;
  }

pub none_taken : All (λ (t : Take). is_fail t.signal ≡ false) []
none_taken = All-nil (λ (t : Take). is_fail t.signal ≡ false)

pub none_put : All (λ (s : Signal Row). is_fail s ≡ false) []
none_put = All-nil (λ (s : Signal Row). is_fail s ≡ false)

one_of : {X : Type 0} (Q : X → Type 0) (x : X) → Q x → All Q (x ∷ [])
one_of Q x h = All-cons Q x [] h (All-nil Q)

-- ---- local work

pub work_moves : (old new : TaskSeen) → WorkMoves old new
work_moves old new job a j at h = record {
  goes = by_failure job a j (task_of job a at old) (task_of job a at new) Work None None h.goes.was h.goes.is (refl, advances job a j at old new [] nothing h.goes none_taken (λ r. none_put));
  from = tt;
  to = tt;
  closed = λ k p. h.closed k p;
  raised = h.word.raised;
  saw = h.word.saw;
}

pub fault_moves : (old : TaskSeen) (last : PartsOf) (new : TaskSeen) → FaultMoves old last new
fault_moves old last new job a j at outcome h = record {
  goes = by_failure job a j (task_of job a at old) (task_of job a at new) Work None (Some outcome) h.breaks.was h.breaks.is (h.fault, breaks job a j at old new last outcome h.breaks);
  from = tt;
  to = tt;
  closed = λ k p. h.closed k p;
  raised = h.word.raised;
  saw = h.word.saw;
}

-- ---- the abort word

pub sight_moves : (old : TaskSeen) (last : PartsOf) (new : TaskSeen) → SightMoves old last new
sight_moves old last new job a j at h = record {
  goes = by_failure job a j (task_of job a at old) (task_of job a at new) (Looks true) None (Some _) h.breaks.was h.breaks.is (refl, breaks job a j at old new last _ h.breaks);
  from = tt;
  to = tt;
  closed = λ k p. h.closed k p;
  raised = h.raised;
  saw = h.saw;
}

module _ (job : Job) (a : Activity) (j : ℕ) (at : ℕ → ℕ) where
  stays_goes : (t : TaskSeen) (f : Option Outcome) → t.failure ≡ f → (t.failure ≡ None → Tells t.pipeline.operator → MayPut job a j (closed_of t) (parts_of at t.pipeline))
      → Goes job a j (task_of job a at t) (Looks false) (task_of job a at t) f f
  stays_goes t None e may = (
    refl,
    record {
      sound = λ s. s;
      rest = λ s more put r. r;
      alive = λ s more m. may e s more m;
      tested = λ check. ([], subst (λ xs. IsPermutation xs t.untested) (sym (append-nil t.untested)) (IsPermutation-refl t.untested), passed_none a.kind);
      takes_no_fail = none_taken;
      puts_no_fail = λ r. none_put;
    },
  )
  stays_goes t (Some outcome) e may = (refl, λ r is. refl)

pub look_moves : (t : TaskSeen) → LookMoves t
look_moves t job a j at may = record {
  goes = stays_goes job a j at t t.failure refl may;
  from = tt;
  to = tt;
  closed = λ k p. refl;
  raised = refl;
  saw = refl;
}

raise_goes : (job : Job) (a : Activity) (j : ℕ) (at : ℕ → ℕ) (t : TaskSeen) (f : Option Outcome) → t.failure ≡ f → (t.failure ≡ None → ⊥)
    → Goes job a j (task_of job a at t) Raises (task_of job a at (record t { raised = true })) f f
raise_goes job a j at t None e failed = absurd (failed e)
raise_goes job a j at t (Some outcome) e failed = (refl, λ r is. refl)

pub raise_moves : (t : TaskSeen) → RaiseMoves t
raise_moves t job a j at failed = record {
  goes = raise_goes job a j at t t.failure refl failed;
  from = tt;
  to = tt;
  closed = λ k p. refl;
  raised = refl;
  saw = refl;
}

-- ---- what comes

signal_no_fail : (parcel : Parcel) → parcel ≢ P.Fail → is_fail (signal_of parcel) ≡ false
signal_no_fail P.Open h = refl
signal_no_fail (P.Frame f) h = refl
signal_no_fail P.Fail h = absurd (h refl)
signal_no_fail P.Close h = refl

same_turned : (a b : ℕ) → nat_eq a b ≡ nat_eq b a
same_turned a b = by_cases (nat_eq a b) (λ t. t ∙ sym (nat_is b a (sym (is_nat a b t)))) (λ f. f ∙ sym (by_cases (nat_eq b a) (λ t. absurd (no_bool (sym (nat_is a b (sym (is_nat b a t))) ∙ f))) (λ g. g)))

or_none : (b c : Bool) → ((b || false) || c) ≡ (b || c)
or_none true c = refl
or_none false c = refl

and_none : (b c : Bool) → ((b && false) || false) || c ≡ c
and_none true c = refl
and_none false c = refl

-- at the input itself
closed_here : (k p : ℕ) (parcel : Parcel) (x y : PipelineOf) → ClosesBy k p parcel x y → (q : ℕ)
    → closed_at (y.input k) q ≡ (((is_close (signal_of parcel) && nat_eq p q) || false) || closed_at (x.input k) q)
closed_here k p P.Open x y h q = h q
closed_here k p (P.Frame f) x y h q = h q
closed_here k p P.Fail x y h q = h q
closed_here k p P.Close x y h q = h.closed q ∙ (ap (λ b. b || closed_at (x.input k) q) (same_turned q p) ∙ sym (or_none (nat_eq p q) (closed_at (x.input k) q)))

closed_by : (k p : ℕ) (parcel : Parcel) (x y : PipelineOf) → ((i : ℕ) → i ≢ k → y.input i ≡ x.input i) → ClosesBy k p parcel x y → (i q : ℕ)
    → closed_at (y.input i) q ≡ (has_closed (take_of k p parcel) i q || closed_at (x.input i) q)
closed_by k p parcel x y others h i q = by_cases (nat_eq k i)
    (λ t. rw t (subst (λ m. closed_at (y.input m) q ≡ (((is_close (signal_of parcel) && nat_eq p q) || false) || closed_at (x.input m) q)) (is_nat k i t) (closed_here k p parcel x y h q)))
    (λ f. rw f (ap (λ z. closed_at z q) (others i (differ k i f)) ∙ sym (and_none (is_close (signal_of parcel)) (closed_at (x.input i) q))))

comes_closes : (k p : ℕ) (parcel : Parcel) (x y : PipelineOf) → TakesParcel k p parcel x y → ClosesBy k p parcel x y
comes_closes k p P.Open x y h = h.closed
comes_closes k p (P.Frame f) x y h = h.closed
comes_closes k p P.Fail x y h = h.closed
comes_closes k p P.Close x y h = h

pub take_moves : (old new : TaskSeen) → TakeMoves old new
take_moves old new job a j at k p parcel h =
    let on : StepsOn job a j at old (take_of k p parcel) nothing new = record {
      was = h.was;
      is = h.is;
      sound = h.sound;
      fed = [];
      gave = [];
      written = [];
      steps = λ s. come_is_step old.pipeline new.pipeline at job a k p parcel h.comes;
      lives = h.lives;
      tests = h.tests;
    } in record {
      goes = by_failure job a j (task_of job a at old) (task_of job a at new) (Takes k p (signal_of parcel)) None None h.was h.is
          (signal_no_fail parcel h.no_fail, advances job a j at old new (take_of k p parcel) nothing on (one_of (λ (t : Take). is_fail t.signal ≡ false) _ (signal_no_fail parcel h.no_fail)) (λ r. none_put));
      from = (h.sender, tt);
      to = tt;
      closed = closed_by k p parcel old.pipeline new.pipeline h.comes.others (comes_closes k p parcel old.pipeline new.pipeline h.comes.takes);
      raised = h.word.raised;
      saw = h.word.saw;
    }

pub fail_moves : (old : TaskSeen) (last : PartsOf) (new : TaskSeen) → FailMoves old last new
fail_moves old last new job a j at k p h = record {
  goes = by_failure job a j (task_of job a at old) (task_of job a at new) (Takes k p S.Fail) None (Some _) h.breaks.was h.breaks.is (refl, breaks job a j at old new last _ h.breaks);
  from = (h.sender, tt);
  to = tt;
  closed = λ i q. h.closed i q;
  raised = h.word.raised;
  saw = h.word.saw;
}

pub failed_take_moves : (old new : TaskSeen) → FailedTakeMoves old new
failed_take_moves old new job a j at k p parcel h = record {
  goes = by_failure job a j (task_of job a at old) (task_of job a at new) (Takes k p (signal_of parcel)) (Some h.outcome) (Some h.outcome) h.was h.is
      (refl, λ r is. ap (λ w. owes at w r) (sym h.way));
  from = (h.sender, tt);
  to = tt;
  closed = closed_by k p parcel old.pipeline new.pipeline h.others h.closes;
  raised = h.word.raised;
  saw = h.word.saw;
}

-- ---- what goes out

module _ (at : ℕ → ℕ) (k : ℕ) (parcel : Parcel) (old new : Way) (apart : AreApart at (places old)) (h : SendsOn old k parcel new) where
  waited_there : (n r : ℕ) → n ≤ places old → nat_eq r (at k) ≡ false → waits_in at old n r ≡ waits_in at new n r
  waited_there zero r le f = refl
  waited_there (suc m) r le f = by_cases (nat_eq (at m) r)
      (λ t. rw t (ap (map signal_of) (sym (h.others m (λ e. differ r (at k) f (ap at (sym e) ∙ is_nat (at m) r t))))))
      (λ g. rw g (waited_there m r (omega (arith, le)) f))

  waited_here : (n r : ℕ) → n ≤ places old → k < n → at k ≡ r → waits_in at old n r ≡ signal_of parcel ∷ waits_in at new n r
  waited_here zero r le lt e = absurd (omega (arith, lt))
  waited_here (suc m) r le lt e = by_cases (nat_eq (at m) r)
      (λ t. rw t (subst (λ i. map signal_of (waiting old i) ≡ signal_of parcel ∷ map signal_of (waiting new i)) (apart k m h.there (omega (arith, le)) (e ∙ sym (is_nat (at m) r t))) (ap (map signal_of) h.first)))
      (λ g. rw g (waited_here m r (omega (arith, le)) (below m r lt e g) e))
    where
      one_place : (m : ℕ) → m ≤ k → k < suc m → m ≡ k
      one_place m more lt = omega (arith, more, lt)

      below : (m r : ℕ) → k < suc m → at k ≡ r → nat_eq (at m) r ≡ false → k < m
      below m r lt e g = elim (cases_lt k m) [
        | inl less ↦ less
        | inr more ↦ absurd (no_bool (sym (nat_is (at m) r (ap at (one_place m more lt) ∙ e)) ∙ g))
      ]

  waited : (r : ℕ) → waits_for at old r ≡ put_for (at k) parcel r ++ waits_for at new r
  waited r =
      let count : places new ≡ places old = places_stay old new h.still in
      by_cases (nat_eq r (at k))
      (λ t. rw t (waited_here (places old) r (omega arith) h.there (sym (is_nat r (at k) t)) ∙ ap (λ n. signal_of parcel ∷ waits_in at new n r) (sym count)))
      (λ f. rw f (waited_there (places old) r (omega arith) f ∙ ap (λ n. waits_in at new n r) (sym count)))

  owed_on : (r : ℕ) → owes at old r ≡ put_for (at k) parcel r ++ owes at new r
  owed_on r =
      ap (λ xs. xs ++ lacks (state_of old)) (waited r)
      ∙ (append_assoc (put_for (at k) parcel r) (waits_for at new r) (lacks (state_of old)) ∙ ap (λ s. put_for (at k) parcel r ++ (waits_for at new r ++ lacks s)) (sym h.state))

put_no_fail : (receiver : ℕ) (parcel : Parcel) (r : ℕ) → parcel ≢ P.Fail → All (λ (s : Signal Row). is_fail s ≡ false) (put_for receiver parcel r)
put_no_fail receiver parcel r h = by_cases (nat_eq r receiver) (λ t. rw t (one_of (λ (s : Signal Row). is_fail s ≡ false) _ (signal_no_fail parcel h))) (λ f. rw f none_put)

module _ (job : Job) (a : Activity) (j : ℕ) (at : ℕ → ℕ) (k : ℕ) (parcel : Parcel) (old new : TaskSeen) (h : PutsOut job a j at k parcel old new) where
  put_goes : (f : Option Outcome) → old.failure ≡ f → Goes job a j (task_of job a at old) (Puts (at k) (signal_of parcel)) (task_of job a at new) f f
  put_goes None e =
      let on : StepsOn job a j at old [] (put_for (at k) parcel) new = record {
        was = e;
        is = h.outcome ∙ e;
        sound = h.sound;
        fed = [];
        gave = [];
        written = [];
        steps = λ s. put_is_step old.pipeline new.pipeline at job a k parcel h.apart h.out;
        lives = h.lives e;
        tests = λ check. ([], subst (λ xs. IsPermutation xs new.untested) (h.untested ∙ sym (append-nil old.untested)) (IsPermutation-refl new.untested), passed_none a.kind);
      } in (refl, advances job a j at old new [] (put_for (at k) parcel) on none_taken (λ r. put_no_fail (at k) parcel r (h.no_fail e)))
  put_goes (Some outcome) e = (refl, λ r is. owed_on at k parcel old.pipeline.output.way new.pipeline.output.way h.apart h.out.sends r)

pub put_moves : (old new : TaskSeen) → PutMoves old new
put_moves old new job a j at k parcel h = record {
  goes = subst (λ f. Goes job a j (task_of job a at old) (Puts (at k) (signal_of parcel)) (task_of job a at new) old.failure f) (sym h.outcome) (put_goes job a j at k parcel old new h old.failure refl);
  from = tt;
  to = (h.within, h.receiver);
  closed = λ i p. ap (λ z. closed_at z p) (h.out.inputs i);
  raised = h.word.raised;
  saw = h.word.saw;
}
