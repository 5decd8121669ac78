-- Local work of a task that has not failed.
use Rattle.std.proofs.Common.{◌≡◌, ◌≢◌, ◌<◌, ◌≤◌, ◌||◌, ◌==◌, ℕ, zero, suc, nat_eq, Bool, true, false, Option, Some, None, List, [], ◌∷◌, ◌++◌, length, refl, ap, sym, subst, ◌∙◌, append-nil, arith}
use Rattle.std.proofs.lemmas.Bool.{eqb-true}
use Rattle.hy_frame.specs.Frame.{FrameOf}
use Rattle.hy_frame.specs.declared.writer.WriterState.{WriterState}
use Rattle.hy_frame.specs.declared.writer.WriterState.TheVariants.{Initial, Opened, Failed, Closed}
use Rattle.hy_job.specs.declared.job.Activity.{Activity}
use Rattle.hy_job.specs.declared.job.Job.{Job}
use Rattle.hy_job.specs.declared.job.Kind.{Kind}
use Rattle.hy_job.specs.declared.job.Kind.TheVariants as K
use Rattle.hy_job.specs.Settled.{is_fault}
use Rattle.hy_job.specs.Sound.{inputs}
use Rattle.hy_job.proofs.Boxes.{is_nat}
use Rattle.hy_job.proofs.Members.{by_cases, no_bool}
use Rattle.hy_mail.specs.declared.parcel.Parcel.TheVariants as P
use Rattle.hy_driver.specs.Rows.{Fed, Row}
use Rattle.hy_driver.specs.Seen.{Fixed, Seen}
use Rattle.hy_driver.specs.Steps.{IsOver, Steps, ended_with}
use Rattle.hy_driver.specs.declared.phase.Phase.TheVariants as Ph
use Rattle.hy_connect.specs.Outlets.{OutletOf, filled_rows, held_in, held_of, outlet_at, waiting_rows}
use Rattle.hy_connect.specs.Writers.{outlet, receivers}
use Rattle.hy_output.specs.declared.way.Way.{Way}
use Rattle.hy_output.specs.declared.way.Way.TheVariants as W
use Rattle.hy_output.specs.Outputs.{OutputOf, packed}
use Rattle.hy_output.specs.Ways.{HasNoFail, held_by, places, state_of}
use Rattle.hy_output.proofs.WordLaws.{open_no_fail}
use Rattle.hy_input.specs.Inputs.{InputOf, IsDone, closed_at}
use Rattle.hy_course.specs.Course.{outcome_of}
use Rattle.hy_course.specs.Parts.{PartsStep}
use Rattle.hy_course.specs.Task.{IsCheck, Work}
use Rattle.hy_course.proofs.ListLaws.{passed_none}
use Rattle.hy_pipeline.specs.Pipeline.{AreApart, PipelineOf, nothing, parts_of}
use Rattle.hy_pipeline.specs.Laws.{Comes, EndsInput, FeedsRow, OthersStay}
use Rattle.hy_pipeline.specs.Tasks.{StepsOn, Tells, Tests}
use Rattle.hy_pipeline.specs.Tests.{at_hand, untested_of}
use Rattle.hy_pipeline.proofs.EndLaws.{none_sent}
use Rattle.hy_pipeline.proofs.HandLaws.{moved_by}
use Rattle.hy_pipeline.proofs.StepLaws.{come_is_step, differ, ended_is_step, fed_is_step, finish_is_step, open_is_step, places_stay, turn_is_step}
use Rattle.hy_pipeline.proofs.TaskLaws.{work_moves}
use Rattle.hy_pipeline.proofs.TestLaws.{come_are_untested, ended_are_tested, fed_are_tested, turned_are_tested}
use Rattle.hy_task.specs.Standing.{Does, HasFinished, IsFrom, IsPlaced, IsSuited, IsThrough, Lives, OnlyWaits, Stands, StandsAt, WorkOf, task_seen}
use Rattle.hy_task.specs.Laws.{CloseGoes, EndGoes, EndsStay, FeedGoes, GoesOn, Knows, NoneGoes, OpenGoes, OperatorStays, TurnGoes}
use Rattle.hy_task.proofs.Living.{at_each, brings_now, from_stays, may_put}

-- ---- what steps have in common

pub knows_raises : (old new : WorkOf) → Knows old new → is_fault (outcome_of old.failure) ≡ (old.raised || old.owes_raise) → is_fault (outcome_of new.failure) ≡ (new.raised || new.owes_raise)
knows_raises old new k h = ap (λ f. is_fault (outcome_of f)) k.failure ∙ (h ∙ (ap (λ r. r || old.owes_raise) (sym k.raised) ∙ ap (λ o. new.raised || o) (sym k.owes_raise)))

pub suits : (job : Job) (a : Activity) (s t : Seen) → t.fixed ≡ s.fixed → IsSuited job a s → IsSuited job a t
suits job a s t same h = record {
  widths = λ k lt. ap (λ (f : Fixed). f.width k) same ∙ h.widths k lt;
  check = ap (λ (f : Fixed). f.check) same ∙ h.check;
}

pub placed_on : (job : Job) (a : Activity) (j : ℕ) (at : ℕ → ℕ) (way way' : Way) → places way' ≡ places way → IsPlaced job a j at way → IsPlaced job a j at way'
placed_on job a j at way way' same h = record {
  apart = subst (AreApart at) (sym same) h.apart;
  receiver = λ k lt. h.receiver k (subst (λ n. k < n) same lt);
  reached = λ r is. let q = h.reached r is in (q.0, subst (λ n. q.0 < n) (sym same) q.1, q.2);
}

pub same_way : (o o' : OutputOf) → o' ≡ o → places o'.way ≡ places o.way
same_way o o' e = ap (λ (x : OutputOf). places x.way) e

-- a check has but one input
pub only_first : (kind : Kind) (k : ℕ) → IsCheck kind → k < inputs kind → k ≡ 0
only_first (K.Check name c) k check lt = omega (arith, lt)
only_first _ k check lt = absurd check

pub same_tested : (a : Activity) (old new : WorkOf) → untested_of new.pipeline ≡ untested_of old.pipeline → Tests a (task_seen old) [] (task_seen new)
same_tested a old new same check = ([], moved_by _ _ (append-nil (untested_of old.pipeline) ∙ sym same), passed_none a.kind)

module _ (job : Job) (a : Activity) (j : ℕ) (at : ℕ → ℕ) (old new : WorkOf) (h : Stands job a j at old) (on : GoesOn a old new) where
  pub stands_new : IsPlaced job a j at new.pipeline.output.way → ((k : ℕ) → k < inputs a.kind → IsFrom job a j k (new.pipeline.input k)) → Lives a new.pipeline → Stands job a j at new
  stands_new placed from lives = record {
    placed = placed;
    from = from;
    suited = suits job a old.pipeline.operator new.pipeline.operator on.fixed h.suited;
    raises = knows_raises old new on.knows h.raises;
    lives = λ e. lives;
    fails = λ failed. absurd (failed (on.knows.failure ∙ on.was));
  }

  was_living : Lives a old.pipeline
  was_living = h.lives on.was

  -- a step of its parts, behind which it stands, is local work
  works : (fed : List Fed) (gave written : List Row) → Stands job a j at new → (Tells old.pipeline.operator → Tells new.pipeline.operator)
      → (Tells old.pipeline.operator → PartsStep job a (parts_of at old.pipeline) [] fed gave written nothing (parts_of at new.pipeline)) → Tests a (task_seen old) [] (task_seen new)
      → ((k p : ℕ) → closed_at (new.pipeline.input k) p ≡ closed_at (old.pipeline.input k) p) → Does job a j at old Rattle.hy_course.specs.Task.Work new
  works fed gave written stands tells steps tests closed =
      let is = on.knows.failure ∙ on.was in
      let goes : StepsOn job a j at (task_seen old) [] nothing (task_seen new) = record {
        was = on.was;
        is = is;
        sound = tells;
        fed = fed;
        gave = gave;
        written = written;
        steps = steps;
        lives = λ t. may_put job a j at new.pipeline stands.placed stands.from stands.suited (stands.lives is) (tells t);
        tests = tests;
      } in
      record {
        moves = work_moves (task_seen old) (task_seen new) job a j at (record {
          goes = goes;
          closed = closed;
          word = record { raised = on.knows.raised; saw = on.knows.saw };
        });
        stands = stands;
      }

-- ---- one input changes, of which the operator was not told that it is over

module _ (job : Job) (a : Activity) (j : ℕ) (k : ℕ) (old new : PipelineOf) (known : k < inputs a.kind) (others : OthersStay k old new) where
  pub is_beyond : (i : ℕ) → inputs a.kind ≤ i → i ≢ k
  is_beyond i high e = absurd (omega (arith, known, high, e))

  pub from_each : IsFrom job a j k (new.input k) → ((i : ℕ) → i < inputs a.kind → IsFrom job a j i (old.input i)) → (i : ℕ) → i < inputs a.kind → IsFrom job a j i (new.input i)
  from_each here h i lt = at_each (IsFrom job a j) k old new others here i (h i lt)

  pub closed_each : ((p : ℕ) → closed_at (new.input k) p ≡ closed_at (old.input k) p) → (i p : ℕ) → closed_at (new.input i) p ≡ closed_at (old.input i) p
  closed_each here i p = at_each (λ m x. closed_at x p ≡ closed_at (old.input m) p) k old new others (here p) i refl

  pub told_each : old.operator.ended k ≡ false → EndsStay old.operator new.operator → ((i : ℕ) → i < inputs a.kind → old.operator.ended i ≡ true → IsDone (old.input i))
      → (i : ℕ) → i < inputs a.kind → new.operator.ended i ≡ true → IsDone (new.input i)
  told_each to_come ends h i lt e = by_cases (nat_eq k i)
      (λ t. absurd (no_bool (sym (subst (λ m. old.operator.ended m ≡ true) (sym (is_nat k i t)) (sym (ends i) ∙ e)) ∙ to_come)))
      (λ f. subst IsDone (sym (others i (differ k i f))) (h i lt (sym (ends i) ∙ e)))

  pub beyond_each : ((i : ℕ) → inputs a.kind ≤ i → old.operator.ended i ≡ true → new.operator.ended i ≡ true) → Lives a old
      → (i : ℕ) → inputs a.kind ≤ i → (new.operator.ended i ≡ true) × (at_hand (new.input i) ≡ [])
  beyond_each ends h i high = (ends i high (h.beyond i high).0, ap at_hand (others i (is_beyond i high)) ∙ (h.beyond i high).1)

-- it has not come to its end
pub unfinished : (a : Activity) (p q : PipelineOf) (k : ℕ) → Lives a p → p.operator.ended k ≡ false → (s : WriterState) → state_of p.output.way ≡ s → StandsAt s p → StandsAt s q
unfinished a p q k h to_come Initial is stage = tt
unfinished a p q k h to_come Opened is stage = tt
unfinished a p q k h to_come Failed is stage = absurd stage
unfinished a p q k h to_come Closed is stage = absurd (no_bool (sym ((h.over stage.phase).ended k) ∙ to_come))

pub stage_stays : (a : Activity) (p q : PipelineOf) (k : ℕ) → Lives a p → p.operator.ended k ≡ false → q.output ≡ p.output → StandsAt (state_of q.output.way) q
stage_stays a p q k h to_come same = subst (λ (o : OutputOf). StandsAt (state_of o.way) q) (sym same) (unfinished a p q k h to_come (state_of p.output.way) refl h.stage)

pub stage_opened : (p : PipelineOf) → state_of p.output.way ≡ Opened → StandsAt (state_of p.output.way) p
stage_opened p is = subst (λ s. StandsAt s p) (sym is) tt

steps_tell : (s t : Seen) (fed : List Fed) (sent : List Row) → Steps s fed sent t → (s.sound → t.phase ≡ Ph.Ended → IsOver t) → Tells s → Tells t
steps_tell s t fed sent steps over tells = record {
  sound = steps.sound tells.sound;
  alive = steps.alive tells.sound;
  over = over tells.sound;
}

pub through_stays : (s t : Seen) → OperatorStays s t → (s.phase ≡ Ph.Ended → IsThrough s) → t.phase ≡ Ph.Ended → IsThrough t
through_stays s t stays h e =
    let was = h (sym stays.phase ∙ e) in record {
      ended = λ k. stays.ends k ∙ was.ended k;
      untested = stays.untested ∙ was.untested;
    }

-- ---- an input that was ended

pub or_true : (b : Bool) → (b || true) ≡ true
or_true true = refl
or_true false = refl

either_ended : (ended : ℕ → Bool) (k i : ℕ) → ended i ≡ true → ended_with ended k i ≡ true
either_ended ended k i e = ap (λ b. (i == k) || b) e ∙ or_true (i == k)

ended_before : (ended : ℕ → Bool) (k i : ℕ) → i ≢ k → ended_with ended k i ≡ true → ended i ≡ true
ended_before ended k i apart e = by_cases (i == k) (λ t. absurd (apart (eqb-true i k t))) (λ f. rw f at e)

told_too : (a : Activity) (k : ℕ) (p q : PipelineOf) → IsDone (q.input k) → ((i : ℕ) → q.operator.ended i ≡ ended_with p.operator.ended k i) → OthersStay k p q
    → ((i : ℕ) → i < inputs a.kind → p.operator.ended i ≡ true → IsDone (p.input i)) → (i : ℕ) → i < inputs a.kind → q.operator.ended i ≡ true → IsDone (q.input i)
told_too a k p q done ends others was i lt e = by_cases (nat_eq k i)
    (λ t. subst (λ m. IsDone (q.input m)) (is_nat k i t) done)
    (λ f. subst IsDone (sym (others i (differ k i f))) (was i lt (ended_before p.operator.ended k i (differ k i f) (sym (ends i) ∙ e))))

-- ---- steps

pub feed_goes : (old new : WorkOf) → FeedGoes old new
feed_goes old new job a j at k row h f =
    let p = old.pipeline in
    let q = new.pipeline in
    let live = h.lives f.on.was in
    let others = f.feeds.others in
    let way = same_way p.output q.output f.feeds.output in
    let lives : Lives a q = record {
      going = f.on.going;
      wide = f.on.wide;
      beyond = beyond_each job a j k p q f.known others (λ i high e. f.ends i ∙ e) live;
      told = told_each job a j k p q f.known others f.to_come f.ends live.told;
      over = λ e. absurd (f.busy e);
      no_fail = subst (λ (o : OutputOf). HasNoFail o.way) (sym f.feeds.output) live.no_fail;
      stage = stage_opened q (ap (λ (o : OutputOf). state_of o.way) f.feeds.output ∙ f.opened);
    } in
    let stands = stands_new job a j at old new h f.on (placed_on job a j at p.output.way q.output.way way h.placed)
    (from_each job a j k p q f.known others (from_stays job a j k (p.input k) (q.input k) f.feeds.gives.stays (h.from k f.known)) h.from) lives in
    works job a j at old new h f.on ((k, row) ∷ []) [] [] stands
    (steps_tell p.operator q.operator ((k, row) ∷ []) [] f.feeds.works (λ s e. absurd (f.busy e)))
    (λ t. fed_is_step p q at job a k row t.sound f.feeds)
    (λ check.
    let first = only_first a.kind k check f.known in
    fed_are_tested p q a row h.suited.check (brings_now a q 0 (subst (λ m. m < inputs a.kind) first f.known) f.on.wide) (subst (λ m. FeedsRow m row p q) first f.feeds) check)
    (closed_each job a j k p q f.known others f.feeds.gives.closed)

pub end_goes : (old new : WorkOf) → EndGoes old new
end_goes old new job a j at k h f =
    let p = old.pipeline in
    let q = new.pipeline in
    let live = h.lives f.on.was in
    let others = f.ends_input.others in
    let way = same_way p.output q.output f.ends_input.output in
    let lives : Lives a q = record {
      going = f.on.going;
      wide = f.on.wide;
      beyond = beyond_each job a j k p q f.known others (λ i high e. f.ends i ∙ either_ended p.operator.ended k i e) live;
      told = told_too a k p q f.ends_input.over.done f.ends others live.told;
      over = λ e. absurd (f.busy e);
      no_fail = subst (λ (o : OutputOf). HasNoFail o.way) (sym f.ends_input.output) live.no_fail;
      stage = stage_opened q (ap (λ (o : OutputOf). state_of o.way) f.ends_input.output ∙ f.opened);
    } in
    let stands = stands_new job a j at old new h f.on (placed_on job a j at p.output.way q.output.way way h.placed)
    (from_each job a j k p q f.known others (from_stays job a j k (p.input k) (q.input k) f.ends_input.over.rests.stays (h.from k f.known)) h.from) lives in
    works job a j at old new h f.on [] [] [] stands
    (steps_tell p.operator q.operator [] [] f.ends_input.works (λ s e. absurd (f.busy e)))
    (λ t. ended_is_step p q at job a k t.sound f.ends_input)
    (λ check.
    let first = only_first a.kind k check f.known in
    ended_are_tested p q a h.suited.check (brings_now a q 0 (subst (λ m. m < inputs a.kind) first f.known) f.on.wide) (subst (λ m. EndsInput m p q) first f.ends_input) check)
    (closed_each job a j k p q f.known others f.ends_input.over.rests.closed)

-- ---- the output

filled_none : (filling : Option FrameOf) → held_in filling ≡ 0 → filled_rows filling ≡ []
filled_none None e = refl
filled_none (Some f) e = absurd (omega (arith, e))

none_filled : (outlets : List OutletOf) (k : ℕ) → held_of outlets ≡ 0 → k < length outlets → filled_rows (outlet_at outlets k).filling ≡ []
none_filled [] k e lt = absurd (omega (arith, lt))
none_filled (o ∷ os) zero e lt = filled_none o.filling (omega (arith, e))
none_filled (o ∷ os) (suc k) e lt = none_filled os k (omega (arith, e)) (omega (arith, lt))

-- where no frame is held, just what waits may be put
pub only_waits : (way : Way) → held_by way ≡ 0 → OnlyWaits way
only_waits (W.Wire w) e k lt put may =
    may.1.is
    ∙ (ap (λ (rest : List Row). (waiting_rows (outlet w k) ++ filled_rows (outlet w k).filling) ++ rest) (may.1.output ∙ none_sent w.route (receivers w) k)
    ∙ (append-nil _ ∙ (ap (λ (rows : List Row). waiting_rows (outlet w k) ++ rows) (none_filled w.outlets k e lt) ∙ append-nil _)))
only_waits (W.Kept keeper) e k lt put may = may

pub open_goes : (old new : WorkOf) → OpenGoes old new
open_goes old new job a j at h f =
    let p = old.pipeline in
    let q = new.pipeline in
    let live = h.lives f.on.was in
    let still = f.opens.packs.way.still in
    let lives : Lives a q = record {
      going = f.on.going;
      wide = f.on.wide;
      beyond = λ i high. (f.operator.ends i ∙ (live.beyond i high).0, ap at_hand (f.opens.inputs i) ∙ (live.beyond i high).1);
      told = λ i lt e. subst IsDone (sym (f.opens.inputs i)) (live.told i lt (sym (f.operator.ends i) ∙ e));
      over = through_stays p.operator q.operator f.operator live.over;
      no_fail = open_no_fail f.heard.0 q.output.way (f.opens.packs.way.words f.heard.0 f.heard.1) f.is;
      stage = stage_opened q f.is;
    } in
    let stands = stands_new job a j at old new h f.on (placed_on job a j at p.output.way q.output.way (places_stay p.output.way q.output.way still) h.placed)
    (λ i lt. subst (IsFrom job a j i) (sym (f.opens.inputs i)) (h.from i lt)) lives in
    works job a j at old new h f.on [] [] f.opens.packs.written stands f.operator.tells (λ t. open_is_step p q at job a f.opens)
    (same_tested a old new (ap (λ (x : InputOf). q.operator.untested ++ at_hand x) (f.opens.inputs 0) ∙ ap (λ (rows : List Row). rows ++ at_hand (p.input 0)) f.operator.untested))
    (λ i r. ap (λ (x : InputOf). closed_at x r) (f.opens.inputs i))

pub turn_goes : (old new : WorkOf) → TurnGoes old new
turn_goes old new job a j at rows h f =
    let p = old.pipeline in
    let q = new.pipeline in
    let live = h.lives f.on.was in
    let still = f.turns.packs.way.still in
    let lives : Lives a q = record {
      going = f.on.going;
      wide = f.on.wide;
      beyond = λ i high. (f.ends i ∙ (live.beyond i high).0, ap at_hand (f.turns.inputs i) ∙ (live.beyond i high).1);
      told = λ i lt e. subst IsDone (sym (f.turns.inputs i)) (live.told i lt (sym (f.ends i) ∙ e));
      over = f.through;
      no_fail = open_no_fail f.heard.0 q.output.way (f.turns.packs.way.words f.heard.0 f.heard.1) f.is;
      stage = stage_opened q f.is;
    } in
    let stands = stands_new job a j at old new h f.on (placed_on job a j at p.output.way q.output.way (places_stay p.output.way q.output.way still) h.placed)
    (λ i lt. subst (IsFrom job a j i) (sym (f.turns.inputs i)) (h.from i lt)) lives in
    works job a j at old new h f.on [] rows f.turns.packs.written stands
    (steps_tell p.operator q.operator [] rows f.turns.works f.over)
    (λ t. turn_is_step p q at job a rows t.sound f.turns)
    (turned_are_tested p q a rows h.suited.check f.turns)
    (λ i r. ap (λ (x : InputOf). closed_at x r) (f.turns.inputs i))

pub close_goes : (old new : WorkOf) → CloseGoes old new
close_goes old new job a j at h f =
    let p = old.pipeline in
    let q = new.pipeline in
    let live = h.lives f.on.was in
    let still = f.finishes.flushes.way.still in
    let finished : HasFinished q = record {
      phase = f.operator.phase ∙ f.ended;
      packed_is = ap filled_rows f.finishes.flushes.filling;
      waits = only_waits q.output.way f.empty;
      quiet = f.quiet;
    } in
    let lives : Lives a q = record {
      going = f.on.going;
      wide = f.on.wide;
      beyond = λ i high. (f.operator.ends i ∙ (live.beyond i high).0, ap at_hand (f.finishes.inputs i) ∙ (live.beyond i high).1);
      told = λ i lt e. subst IsDone (sym (f.finishes.inputs i)) (live.told i lt (sym (f.operator.ends i) ∙ e));
      over = through_stays p.operator q.operator f.operator live.over;
      no_fail = f.no_fail;
      stage = subst (λ s. StandsAt s q) (sym f.is) finished;
    } in
    let stands = stands_new job a j at old new h f.on (placed_on job a j at p.output.way q.output.way (places_stay p.output.way q.output.way still) h.placed)
    (λ i lt. subst (IsFrom job a j i) (sym (f.finishes.inputs i)) (h.from i lt)) lives in
    works job a j at old new h f.on [] [] (packed p.output) stands f.operator.tells (λ t. finish_is_step p q at job a f.finishes)
    (same_tested a old new (ap (λ (x : InputOf). q.operator.untested ++ at_hand x) (f.finishes.inputs 0) ∙ ap (λ (rows : List Row). rows ++ at_hand (p.input 0)) f.operator.untested))
    (λ i r. ap (λ (x : InputOf). closed_at x r) (f.finishes.inputs i))

pub none_goes : (old new : WorkOf) → NoneGoes old new
none_goes old new job a j at k h f =
    let p = old.pipeline in
    let q = new.pipeline in
    let live = h.lives f.on.was in
    let way = same_way p.output q.output f.output in
    let comes : Comes k 0 P.Open p q = record { others = f.others; takes = f.rests; works = f.operator.works; output = f.output } in
    let lives : Lives a q = record {
      going = f.on.going;
      wide = f.on.wide;
      beyond = beyond_each job a j k p q f.known f.others (λ i high e. f.operator.ends i ∙ e) live;
      told = told_each job a j k p q f.known f.others f.to_come f.operator.ends live.told;
      over = through_stays p.operator q.operator f.operator live.over;
      no_fail = subst (λ (o : OutputOf). HasNoFail o.way) (sym f.output) live.no_fail;
      stage = stage_stays a p q k live f.to_come f.output;
    } in
    let stands = stands_new job a j at old new h f.on (placed_on job a j at p.output.way q.output.way way h.placed)
    (from_each job a j k p q f.known f.others (from_stays job a j k (p.input k) (q.input k) f.rests.stays (h.from k f.known)) h.from) lives in
    works job a j at old new h f.on [] [] [] stands f.operator.tells
    (λ t. let s = come_is_step p q at job a k 0 P.Open comes in record { brings = s.brings; works = s.works; packed = s.packed; offers = s.offers; keeps = s.keeps })
    (λ check.
    let first = only_first a.kind k check f.known in
    come_are_untested p q a 0 P.Open f.operator.untested (brings_now a q 0 (subst (λ m. m < inputs a.kind) first f.known) f.on.wide) (subst (λ m. Comes m 0 P.Open p q) first comes) check)
    (closed_each job a j k p q f.known f.others f.rests.closed)
