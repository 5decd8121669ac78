-- A task after its failure, and steps that change no part of it.
use Rattle.std.proofs.Common.{◌≡◌, ◌≢◌, ◌<◌, ◌||◌, ℕ, true, false, Option, Some, None, List, [], ◌∷◌, ◌++◌, map, inl, inr, refl, ap, sym, subst, ◌∙◌, append-nil, append_assoc}
use Rattle.hy_frame.specs.declared.writer.WriterState.{WriterState}
use Rattle.hy_frame.specs.declared.writer.WriterState.TheVariants.{Initial, Opened, Failed, Closed}
use Rattle.hy_rest.specs.Rest.{Continues}
use Rattle.hy_rest.specs.Words.{Signal}
use Rattle.hy_job.specs.declared.job.Activity.{Activity}
use Rattle.hy_job.specs.declared.job.Job.{Job}
use Rattle.hy_job.specs.Runs.{IsReceiver}
use Rattle.hy_job.specs.Settled.{Outcome, TakesFrom, has_closed, is_fault}
use Rattle.hy_job.specs.Sound.{inputs}
use Rattle.hy_job.proofs.Members.{no_bool}
use Rattle.hy_mail.specs.declared.parcel.Parcel.{Parcel}
use Rattle.hy_mail.specs.declared.parcel.Parcel.TheVariants as P
use Rattle.hy_driver.specs.Rows.{Row}
use Rattle.hy_driver.specs.Seen.{Fixed}
use Rattle.hy_output.specs.declared.way.Way.{Way}
use Rattle.hy_output.specs.Outputs.{OutputOf, packed}
use Rattle.hy_output.specs.Ways.{HasNoFail, Posts, places, state_of, waiting}
use Rattle.hy_input.specs.Inputs.{InputOf, IsDone, brings, closed_at}
use Rattle.hy_input.specs.Laws.{HasRowsOf}
use Rattle.hy_course.specs.Course.{outcome_of}
use Rattle.hy_course.specs.Task.{Deed, Goes, Looks, Moves, Raises, ToReceiver, Work, is_raise, is_sight, puts_of, takes_of}
use Rattle.hy_course.specs.Parts.{PartsStep}
use Rattle.hy_course.proofs.PartLaws.{parts_continue}
use Rattle.hy_pipeline.specs.Pipeline.{AreApart, OffersTo, keeps_on, nothing, parts_of, signal_of, waits_for}
use Rattle.hy_pipeline.specs.Tasks.{lacks, owes, task_of}
use Rattle.hy_pipeline.specs.Tests.{at_hand}
use Rattle.hy_pipeline.proofs.StepLaws.{found, places_stay}
use Rattle.hy_pipeline.proofs.TaskLaws.{failed_take_moves, none_put, none_taken}
use Rattle.hy_task.specs.Standing.{HasFinished, IsFrom, IsQuiet, Lives, OnlyWaits, Stands, StandsAt, WorkOf, task_seen}
use Rattle.hy_task.specs.Laws.{CameAfterGoes, FailedCloseGoes, FailedSightGoes, FailureGoes, InputsLast, Knows, LookGoes, NoneAfterGoes, PartsStay, RaiseGoes}
use Rattle.hy_task.proofs.Living.{at_each, from_stays, may_put}
use Rattle.hy_task.proofs.Working.{knows_raises, or_true, placed_on, same_tested, same_way, suits, through_stays}

-- ---- a failed task

some_of : (f : Option Outcome) → (f ≡ None → ⊥) → (outcome : Outcome) × (f ≡ Some outcome)
some_of None failed = absurd (failed refl)
some_of (Some outcome) failed = (outcome, refl)

module _ (job : Job) (a : Activity) (j : ℕ) (at : ℕ → ℕ) (old new : WorkOf) (deed : Deed) where
  goes_failed : (f : Option Outcome) → old.failure ≡ f → (old.failure ≡ None → ⊥)
      → ((r : ℕ) → IsReceiver job a.number j r → owes at old.pipeline.output.way r ≡ puts_of deed r ++ owes at new.pipeline.output.way r)
      → Goes job a j (task_of job a at (task_seen old)) deed (task_of job a at (task_seen new)) f f
  goes_failed None e failed owed = absurd (failed e)
  goes_failed (Some outcome) e failed owed = (refl, owed)

  failed_moves : (old.failure ≡ None → ⊥) → new.failure ≡ old.failure
      → ((r : ℕ) → IsReceiver job a.number j r → owes at old.pipeline.output.way r ≡ puts_of deed r ++ owes at new.pipeline.output.way r)
      → TakesFrom job a j (takes_of deed) → ToReceiver job a j deed
      → ((k p : ℕ) → closed_at (new.pipeline.input k) p ≡ (has_closed (takes_of deed) k p || closed_at (old.pipeline.input k) p))
      → new.raised ≡ (is_raise deed || old.raised) → new.saw ≡ (is_sight deed || old.saw)
      → Moves job a j (task_of job a at (task_seen old)) deed (task_of job a at (task_seen new))
  failed_moves failed same owed from to closed raised saw = record {
    goes = subst (λ f. Goes job a j (task_of job a at (task_seen old)) deed (task_of job a at (task_seen new)) old.failure f) (sym same) (goes_failed old.failure refl failed owed);
    from = from;
    to = to;
    closed = closed;
    raised = raised;
    saw = saw;
  }

module _ (job : Job) (a : Activity) (j : ℕ) (at : ℕ → ℕ) (old new : WorkOf) (h : Stands job a j at old) where
  pub stands_failed : (old.failure ≡ None → ⊥) → Knows old new → new.pipeline.operator.fixed ≡ old.pipeline.operator.fixed → places new.pipeline.output.way ≡ places old.pipeline.output.way
      → ((i : ℕ) → i < inputs a.kind → IsFrom job a j i (new.pipeline.input i)) → state_of new.pipeline.output.way ≢ Initial → Stands job a j at new
  stands_failed failed knows fixed same from opened = record {
    placed = placed_on job a j at old.pipeline.output.way new.pipeline.output.way same h.placed;
    from = from;
    suited = suits job a old.pipeline.operator new.pipeline.operator fixed h.suited;
    raises = knows_raises old new knows h.raises;
    lives = λ e. absurd (failed (sym knows.failure ∙ e));
    fails = λ no. opened;
  }

  from_last : InputsLast old.pipeline new.pipeline → (i : ℕ) → i < inputs a.kind → IsFrom job a j i (new.pipeline.input i)
  from_last last i lt = from_stays job a j i (old.pipeline.input i) (new.pipeline.input i) (last i).0 (h.from i lt)

pub came_after_goes : (old new : WorkOf) → CameAfterGoes old new
came_after_goes old new job a j at k s parcel known h f =
    let p = old.pipeline in
    let q = new.pipeline in
    let some = some_of old.failure f.on.was in
    record {
      moves = failed_take_moves (task_seen old) (task_seen new) job a j at k s parcel (record {
        sender = (h.from k known).sender f.sent.0 f.sent.1 s f.sent.2;
        others = f.others;
        closes = f.closes;
        way = ap (λ (o : OutputOf). o.way) f.output;
        outcome = some.0;
        was = some.1;
        is = f.on.knows.failure ∙ some.1;
        word = record { raised = f.on.knows.raised; saw = f.on.knows.saw };
      });
      stands = stands_failed job a j at old new h f.on.was f.on.knows f.on.fixed (same_way p.output q.output f.output)
          (λ i lt. at_each (IsFrom job a j) k p q f.others (from_stays job a j k (p.input k) (q.input k) f.stays (h.from k known)) i (h.from i lt))
          (λ e. h.fails f.on.was (sym (ap (λ (o : OutputOf). state_of o.way) f.output) ∙ e));
    }

pub none_after_goes : (old new : WorkOf) → NoneAfterGoes old new
none_after_goes old new job a j at h f =
    let p = old.pipeline in
    let q = new.pipeline in
    record {
      moves = failed_moves job a j at old new Work f.on.was f.on.knows.failure (λ r is. ap (λ (o : OutputOf). owes at o.way r) (sym f.output)) tt tt (λ k s. (f.inputs k).1 s) f.on.knows.raised f.on.knows.saw;
      stands = stands_failed job a j at old new h f.on.was f.on.knows f.on.fixed (same_way p.output q.output f.output) (from_last job a j at old new h f.inputs)
          (λ e. h.fails f.on.was (sym (ap (λ (o : OutputOf). state_of o.way) f.output) ∙ e));
    }

-- ---- what waits behind

signals_more : (ps qs : List Parcel) → map signal_of (ps ++ qs) ≡ map signal_of ps ++ map signal_of qs
signals_more [] qs = refl
signals_more (p ∷ ps) qs = ap (λ (xs : List (Signal Row)). signal_of p ∷ xs) (signals_more ps qs)

waits_at : (at : ℕ → ℕ) (way : Way) (r k : ℕ) → AreApart at (places way) → k < places way → at k ≡ r → waits_for at way r ≡ map signal_of (waiting way k)
waits_at at way r k apart lt e = elim (found at way r (places way)) [
  | inl x ↦ subst (λ m. waits_for at way r ≡ map signal_of (waiting way m)) (apart x.0 k x.1 lt (x.2 ∙ sym e)) x.3
  | inr x ↦ absurd (x.1 k lt e)
]

posted_waits : (at : ℕ → ℕ) (way way' : Way) (p : Parcel) (r k : ℕ) → AreApart at (places way) → places way' ≡ places way → Posts p way way' → k < places way → at k ≡ r
    → waits_for at way' r ≡ waits_for at way r ++ signal_of p ∷ []
posted_waits at way way' p r k apart same posts lt e =
    waits_at at way' r k (subst (AreApart at) (sym same) apart) (subst (λ n. k < n) (sym same) lt) e
    ∙ (ap (map signal_of) (posts k lt) ∙ (signals_more (waiting way k) (p ∷ []) ∙ ap (λ (xs : List (Signal Row)). xs ++ signal_of p ∷ []) (sym (waits_at at way r k apart lt e))))

-- a word that goes on by a parcel lacks it no more
owes_posted : (at : ℕ → ℕ) (way way' : Way) (p : Parcel) (r k : ℕ) → AreApart at (places way) → places way' ≡ places way → Posts p way way' → k < places way → at k ≡ r
    → lacks (state_of way) ≡ signal_of p ∷ lacks (state_of way') → owes at way r ≡ owes at way' r
owes_posted at way way' p r k apart same posts lt e on =
    ap (λ (xs : List (Signal Row)). waits_for at way r ++ xs) on
    ∙ (sym (append_assoc (waits_for at way r) (signal_of p ∷ []) (lacks (state_of way')))
    ∙ ap (λ (xs : List (Signal Row)). xs ++ lacks (state_of way')) (sym (posted_waits at way way' p r k apart same posts lt e)))

failed_first : Failed ≡ Initial → ⊥
failed_first e = cc

closed_first : Closed ≡ Initial → ⊥
closed_first e = cc

lacks_at : (s t : WriterState) → t ≡ s → lacks t ≡ lacks s
lacks_at s t e = ap lacks e

pub failure_goes : (old new : WorkOf) → FailureGoes old new
failure_goes old new job a j at h f =
    let w = old.pipeline.output.way in
    let w' = new.pipeline.output.way in
    let same = places_stay w w' f.fails.still in
    record {
      moves = failed_moves job a j at old new Work f.on.was f.on.knows.failure
          (λ r is.
          let place = h.placed.reached r is in
          owes_posted at w w' P.Fail r place.0 h.placed.apart same f.fails.posts place.1 place.2 (lacks_at Opened (state_of w) f.was ∙ ap (λ s. signal_of P.Fail ∷ lacks s) (sym f.is)))
          tt tt (λ k s. (f.inputs k).1 s) f.on.knows.raised f.on.knows.saw;
      stands = stands_failed job a j at old new h f.on.was f.on.knows f.on.fixed same (from_last job a j at old new h f.inputs) (λ e. failed_first (sym f.is ∙ e));
    }

pub failed_close_goes : (old new : WorkOf) → FailedCloseGoes old new
failed_close_goes old new job a j at h f =
    let w = old.pipeline.output.way in
    let w' = new.pipeline.output.way in
    let same = places_stay w w' f.still in
    record {
      moves = failed_moves job a j at old new Work f.on.was f.on.knows.failure
          (λ r is.
          let place = h.placed.reached r is in
          owes_posted at w w' P.Close r place.0 h.placed.apart same f.posts place.1 place.2 (lacks_at Failed (state_of w) f.was ∙ ap (λ s. signal_of P.Close ∷ lacks s) (sym f.is)))
          tt tt (λ k s. (f.inputs k).1 s) f.on.knows.raised f.on.knows.saw;
      stands = stands_failed job a j at old new h f.on.was f.on.knows f.on.fixed same (from_last job a j at old new h f.inputs) (λ e. closed_first (sym f.is ∙ e));
    }

-- ---- looks and raises

module _ (job : Job) (a : Activity) (j : ℕ) (at : ℕ → ℕ) (old new : WorkOf) (h : Stands job a j at old) (parts : PartsStay old.pipeline new.pipeline) where
  same_waits : places new.pipeline.output.way ≡ places old.pipeline.output.way
  same_waits = same_way old.pipeline.output new.pipeline.output parts.output

  from_parts : (i : ℕ) → i < inputs a.kind → IsFrom job a j i (new.pipeline.input i)
  from_parts i lt = subst (IsFrom job a j i) (sym (parts.inputs i)) (h.from i lt)

  closed_parts : (k s : ℕ) → closed_at (new.pipeline.input k) s ≡ closed_at (old.pipeline.input k) s
  closed_parts k s = ap (λ (x : InputOf). closed_at x s) (parts.inputs k)

  owes_parts : (r : ℕ) → owes at old.pipeline.output.way r ≡ owes at new.pipeline.output.way r
  owes_parts r = ap (λ (o : OutputOf). owes at o.way r) (sym parts.output)

  finished_parts : HasFinished old.pipeline → HasFinished new.pipeline
  finished_parts x = record {
    phase = parts.operator.phase ∙ x.phase;
    packed_is = ap packed parts.output ∙ x.packed_is;
    waits = subst (λ (o : OutputOf). OnlyWaits o.way) (sym parts.output) x.waits;
    quiet = subst (λ (o : OutputOf). IsQuiet o.way new.pipeline.operator.hands_on) (sym parts.output) (subst (IsQuiet old.pipeline.output.way) (sym parts.operator.hands_on) x.quiet);
  }

  stage_parts : (s : WriterState) → StandsAt s old.pipeline → StandsAt s new.pipeline
  stage_parts Initial x = tt
  stage_parts Opened x = tt
  stage_parts Failed x = absurd x
  stage_parts Closed x = finished_parts x

  lives_parts : Lives a old.pipeline → Lives a new.pipeline
  lives_parts x = record {
    going = λ e. x.going (sym parts.operator.phase ∙ e);
    wide = λ i lt. subst (λ (y : InputOf). HasRowsOf y (new.pipeline.operator.fixed.width i)) (sym (parts.inputs i))
        (subst (HasRowsOf (old.pipeline.input i)) (sym (ap (λ (y : Fixed). y.width i) parts.operator.fixed)) (x.wide i lt));
    beyond = λ i high. (parts.operator.ends i ∙ (x.beyond i high).0, ap at_hand (parts.inputs i) ∙ (x.beyond i high).1);
    told = λ i lt e. subst IsDone (sym (parts.inputs i)) (x.told i lt (sym (parts.operator.ends i) ∙ e));
    over = through_stays old.pipeline.operator new.pipeline.operator parts.operator x.over;
    no_fail = subst (λ (o : OutputOf). HasNoFail o.way) (sym parts.output) x.no_fail;
    stage = subst (λ (o : OutputOf). StandsAt (state_of o.way) new.pipeline) (sym parts.output) (stage_parts (state_of old.pipeline.output.way) x.stage);
  }

  stands_parts : new.failure ≡ old.failure → is_fault (outcome_of new.failure) ≡ (new.raised || new.owes_raise) → Stands job a j at new
  stands_parts same raises = record {
    placed = placed_on job a j at old.pipeline.output.way new.pipeline.output.way same_waits h.placed;
    from = from_parts;
    suited = suits job a old.pipeline.operator new.pipeline.operator parts.operator.fixed h.suited;
    raises = raises;
    lives = λ e. lives_parts (h.lives (sym same ∙ e));
    fails = λ failed e. h.fails (λ none. failed (same ∙ none)) (sym (ap (λ (o : OutputOf). state_of o.way) parts.output) ∙ e);
  }

  stay_step : PartsStep job a (parts_of at old.pipeline) [] [] [] [] nothing (parts_of at new.pipeline)
  stay_step = record {
    brings = λ i lt. subst (λ (x : InputOf). Continues (brings i (old.pipeline.input i)) [] [] (brings i x)) (sym (parts.inputs i)) (record { back = λ took put r. r });
    works = parts.operator.works;
    packed = ap (λ (o : OutputOf). packed o ++ []) (sym parts.output) ∙ append-nil (packed new.pipeline.output);
    offers = λ r lt. subst (λ (o : OutputOf). Continues (OffersTo at old.pipeline.output.way r) [] [] (OffersTo at o.way r)) (sym parts.output) (record { back = λ took put o. o });
    keeps = subst (λ (o : OutputOf). Continues (keeps_on old.pipeline.output.way) [] [] (keeps_on o.way)) (sym parts.output) (record { back = λ took put o. o });
  }

  -- a look that saw nothing is like work that does nothing
  look_goes_by : new.failure ≡ old.failure → Stands job a j at new → (f : Option Outcome) → old.failure ≡ f → Goes job a j (task_of job a at (task_seen old)) (Looks false) (task_of job a at (task_seen new)) f f
  look_goes_by same stands None e = (
    refl,
    record {
      sound = parts.operator.tells;
      rest = λ t more put r. parts_continue (parts_of at old.pipeline) (parts_of at new.pipeline) job a [] [] [] [] nothing stay_step more put r;
      alive = λ t more may. may_put job a j at new.pipeline stands.placed stands.from stands.suited (stands.lives (same ∙ e)) (parts.operator.tells t) more may;
      tested = same_tested a old new (ap (λ (x : InputOf). new.pipeline.operator.untested ++ at_hand x) (parts.inputs 0) ∙ ap (λ (rows : List Row). rows ++ at_hand (old.pipeline.input 0)) parts.operator.untested);
      takes_no_fail = none_taken;
      puts_no_fail = λ r. none_put;
    },
  )
  look_goes_by same stands (Some outcome) e = (refl, λ r is. owes_parts r)

pub look_goes : (old new : WorkOf) → LookGoes old new
look_goes old new job a j at h f =
    let stands = stands_parts job a j at old new h f.parts f.knows.failure (knows_raises old new f.knows h.raises) in
    record {
      moves = record {
        goes = subst (λ g. Goes job a j (task_of job a at (task_seen old)) (Looks false) (task_of job a at (task_seen new)) old.failure g) (sym f.knows.failure)
            (look_goes_by job a j at old new h f.parts f.knows.failure stands old.failure refl);
        from = tt;
        to = tt;
        closed = closed_parts job a j at old new h f.parts;
        raised = f.knows.raised;
        saw = f.knows.saw;
      };
      stands = stands;
    }

pub failed_sight_goes : (old new : WorkOf) → FailedSightGoes old new
failed_sight_goes old new job a j at h f = record {
  moves = failed_moves job a j at old new (Looks true) f.was f.failure (λ r is. owes_parts job a j at old new h f.parts r) tt tt (closed_parts job a j at old new h f.parts) f.raised f.saw;
  stands = stands_parts job a j at old new h f.parts f.failure
      (ap (λ g. is_fault (outcome_of g)) f.failure ∙ (h.raises ∙ (ap (λ r. r || old.owes_raise) (sym f.raised) ∙ ap (λ o. new.raised || o) (sym f.owes_raise))));
}

-- a task that owes a raise has failed
owes_failed : (t : WorkOf) → is_fault (outcome_of t.failure) ≡ (t.raised || t.owes_raise) → t.owes_raise ≡ true → t.failure ≡ None → ⊥
owes_failed t raises owed none = no_bool (sym (ap (λ o. t.raised || o) owed ∙ or_true t.raised) ∙ (sym raises ∙ ap (λ f. is_fault (outcome_of f)) none))

pub raise_goes : (old new : WorkOf) → RaiseGoes old new
raise_goes old new job a j at h f =
    let owed : is_fault (outcome_of old.failure) ≡ true = h.raises ∙ (ap (λ o. old.raised || o) f.owed ∙ or_true old.raised) in
    record {
      moves = failed_moves job a j at old new Raises (owes_failed old h.raises f.owed) f.failure (λ r is. owes_parts job a j at old new h f.parts r) tt tt (closed_parts job a j at old new h f.parts) f.raised f.saw;
      stands = stands_parts job a j at old new h f.parts f.failure (ap (λ g. is_fault (outcome_of g)) f.failure ∙ (owed ∙ ap (λ r. r || new.owes_raise) (sym f.raised)));
    }
