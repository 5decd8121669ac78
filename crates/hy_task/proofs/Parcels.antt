-- Parcels that come to a task and that it puts.
use Rattle.std.proofs.Common.{◌≡◌, ◌≢◌, ◌<◌, ℕ, nat_eq, List, [], ◌∷◌, ◌++◌, refl, ap, sym, subst, ◌∙◌}
use Rattle.std.specs.List.{AllByRecursion, flat_map}
use Rattle.std.proofs.lemmas.List.{append_cancel_left}
use Rattle.hy_frame.specs.declared.writer.WriterState.{WriterState}
use Rattle.hy_frame.specs.declared.writer.WriterState.TheVariants.{Initial, Opened, Failed, Closed}
use Rattle.hy_job.specs.declared.job.Activity.{Activity}
use Rattle.hy_job.specs.declared.job.Job.{Job}
use Rattle.hy_job.specs.Runs.{rows_at}
use Rattle.hy_job.specs.Settled.{taken_rows}
use Rattle.hy_job.specs.Sound.{inputs}
use Rattle.hy_job.proofs.Boxes.{is_nat}
use Rattle.hy_job.proofs.Members.{by_cases}
use Rattle.hy_mail.specs.declared.parcel.Parcel.{Parcel}
use Rattle.hy_mail.specs.declared.parcel.Parcel.TheVariants as P
use Rattle.hy_driver.specs.Rows.{Row}
use Rattle.hy_driver.specs.Seen.{Fixed}
use Rattle.hy_connect.specs.Outlets.{parcel_rows}
use Rattle.hy_output.specs.declared.way.Way.{Way}
use Rattle.hy_output.specs.declared.way.Way.TheVariants as W
use Rattle.hy_output.specs.Outputs.{OutputOf}
use Rattle.hy_output.specs.Ways.{HasNoFail, SendsOn, Stays as WayStays, offers, places, rows_waiting, state_of, waiting}
use Rattle.hy_input.specs.Inputs.{InputOf, IsDone, Stays}
use Rattle.hy_input.specs.Laws.{HasRowsOf}
use Rattle.hy_pipeline.specs.Pipeline.{PipelineOf, take_of}
use Rattle.hy_pipeline.specs.Laws.{Comes, TakesParcel}
use Rattle.hy_pipeline.specs.Tests.{PassSome, at_hand, untested_of}
use Rattle.hy_pipeline.proofs.StepLaws.{differ, places_stay}
use Rattle.hy_pipeline.proofs.TaskLaws.{put_moves, take_moves}
use Rattle.hy_pipeline.proofs.TestLaws.{come_are_untested}
use Rattle.hy_task.specs.Standing.{IsFrom, IsQuiet, Lives, OnlyWaits, Stands, StandsAt, WorkOf, task_seen}
use Rattle.hy_task.specs.Laws.{CameGoes, GoesAway, PutGoes}
use Rattle.hy_task.proofs.Living.{brings_now, from_stays, may_put}
use Rattle.hy_task.proofs.Working.{beyond_each, from_each, knows_raises, only_first, placed_on, same_way, stage_stays, stands_new, suits, through_stays, told_each}

-- ---- what comes

pub takes_stay : (k p : ℕ) (parcel : Parcel) (x y : PipelineOf) → TakesParcel k p parcel x y → Stays (x.input k) (y.input k)
takes_stay k p P.Open x y h = h.stays
takes_stay k p (P.Frame f) x y h = h.stays
takes_stay k p P.Fail x y h = h.stays
takes_stay k p P.Close x y h = h.stays

pub came_goes : (old new : WorkOf) → CameGoes old new
came_goes old new job a j at k s parcel h f =
    let p = old.pipeline in
    let q = new.pipeline in
    let live = h.lives f.on.was in
    let others = f.comes.others in
    let is = f.on.knows.failure ∙ f.on.was in
    let lives : Lives a q = record {
      going = f.on.going;
      wide = f.on.wide;
      beyond = beyond_each job a j k p q f.known others (λ i high e. f.operator.ends i ∙ e) live;
      told = told_each job a j k p q f.known others f.to_come f.operator.ends live.told;
      over = through_stays p.operator q.operator f.operator live.over;
      no_fail = subst (λ (o : OutputOf). HasNoFail o.way) (sym f.comes.output) live.no_fail;
      stage = stage_stays a p q k live f.to_come f.comes.output;
    } in
    let stands = stands_new job a j at old new h f.on (placed_on job a j at p.output.way q.output.way (same_way p.output q.output f.comes.output) h.placed)
    (from_each job a j k p q f.known others (from_stays job a j k (p.input k) (q.input k) (takes_stay k s parcel p q f.comes.takes) (h.from k f.known)) h.from) lives in
    record {
      moves = take_moves (task_seen old) (task_seen new) job a j at k s parcel (record {
        sender = (h.from k f.known).sender f.sent.0 f.sent.1 s f.sent.2;
        no_fail = f.no_fail;
        comes = f.comes;
        was = f.on.was;
        is = is;
        sound = f.operator.tells;
        lives = λ t. may_put job a j at q stands.placed stands.from stands.suited lives (f.operator.tells t);
        tests = λ check. (
            let first = only_first a.kind k check f.known in
            subst (λ m. PassSome a (untested_of p ++ rows_at 0 (taken_rows (take_of m s parcel))) (untested_of q)) (sym first)
            (come_are_untested p q a s parcel f.operator.untested (brings_now a q 0 (subst (λ m. m < inputs a.kind) first f.known) f.on.wide) (subst (λ m. Comes m s parcel p q) first f.comes)) check);
        word = record { raised = f.on.knows.raised; saw = f.on.knows.saw };
      });
      stands = stands;
    }

-- ---- what goes out

waited_rows : (old new : Way) (k : ℕ) (parcel : Parcel) → WayStays old new → waiting old k ≡ parcel ∷ waiting new k → rows_waiting old k ≡ parcel_rows parcel ++ rows_waiting new k
waited_rows (W.Wire w) (W.Wire w') k parcel still e = ap (flat_map parcel_rows) e
waited_rows (W.Kept x) (W.Kept y) k parcel still e = cc
waited_rows (W.Wire w) (W.Kept y) k parcel still e = absurd still
waited_rows (W.Kept x) (W.Wire w') k parcel still e = absurd still

same_rows : (old new : Way) (i : ℕ) → WayStays old new → waiting new i ≡ waiting old i → rows_waiting new i ≡ rows_waiting old i
same_rows (W.Wire w) (W.Wire w') i still e = ap (flat_map parcel_rows) e
same_rows (W.Kept x) (W.Kept y) i still e = refl
same_rows (W.Wire w) (W.Kept y) i still e = absurd still
same_rows (W.Kept x) (W.Wire w') i still e = absurd still

quiet_stays : (old new : Way) (left : List Row) → WayStays old new → IsQuiet old left → IsQuiet new left
quiet_stays (W.Wire w) (W.Wire w') left still h = h
quiet_stays (W.Kept x) (W.Kept y) left still h = tt
quiet_stays (W.Wire w) (W.Kept y) left still h = absurd still
quiet_stays (W.Kept x) (W.Wire w') left still h = absurd still

module _ (k : ℕ) (parcel : Parcel) (old new : Way) (sends : SendsOn old k parcel new) where
  no_fail_after : HasNoFail old → HasNoFail new
  no_fail_after h i lt =
      let low : i < places old = subst (λ n. i < n) (places_stay old new sends.still) lt in
      by_cases (nat_eq k i)
      (λ t. subst (λ m. AllByRecursion (λ p. p ≢ P.Fail) (waiting new m)) (is_nat k i t) (subst (AllByRecursion (λ p. p ≢ P.Fail)) sends.first (h k sends.there)).1)
      (λ f. subst (AllByRecursion (λ p. p ≢ P.Fail)) (sym (sends.others i (differ k i f))) (h i low))

  first_no_fail : HasNoFail old → parcel ≢ P.Fail
  first_no_fail h = (subst (AllByRecursion (λ p. p ≢ P.Fail)) sends.first (h k sends.there)).0

  waits_after : OnlyWaits old → OnlyWaits new
  waits_after h i lt put may =
      let low : i < places old = subst (λ n. i < n) (places_stay old new sends.still) lt in
      by_cases (nat_eq k i)
      (λ t. subst (λ m. offers new m [] put → put ≡ rows_waiting new m) (is_nat k i t)
      (λ here. append_cancel_left (parcel_rows parcel) put (rows_waiting new k) (h k sends.there (parcel_rows parcel ++ put) (sends.owes.back [] put here) ∙ waited_rows old new k parcel sends.still sends.first)) may)
      (λ f. h i low put ((sends.same i (differ k i f) low).back [] put may) ∙ sym (same_rows old new i sends.still (sends.others i (differ k i f))))

module _ (job : Job) (a : Activity) (j : ℕ) (at : ℕ → ℕ) (k : ℕ) (parcel : Parcel) (old new : WorkOf) (h : Stands job a j at old) (f : GoesAway k parcel old new) where
  inputs_same : (i : ℕ) → new.pipeline.input i ≡ old.pipeline.input i
  inputs_same i = f.out.inputs i

  stage_after : (s : WriterState) → StandsAt s old.pipeline → StandsAt s new.pipeline
  stage_after Initial stage = tt
  stage_after Opened stage = tt
  stage_after Failed stage = absurd stage
  stage_after Closed stage = record {
    phase = f.operator.phase ∙ stage.phase;
    packed_is = f.out.packed_is ∙ stage.packed_is;
    waits = waits_after k parcel old.pipeline.output.way new.pipeline.output.way f.out.sends stage.waits;
    quiet = subst (IsQuiet new.pipeline.output.way) (sym f.operator.hands_on) (quiet_stays old.pipeline.output.way new.pipeline.output.way old.pipeline.operator.hands_on f.out.sends.still stage.quiet);
  }

  lives_after : Lives a old.pipeline → Lives a new.pipeline
  lives_after live = record {
    going = λ e. live.going (sym f.operator.phase ∙ e);
    wide = λ i lt. subst (λ (x : InputOf). HasRowsOf x (new.pipeline.operator.fixed.width i)) (sym (inputs_same i))
        (subst (HasRowsOf (old.pipeline.input i)) (sym (ap (λ (x : Fixed). x.width i) f.operator.fixed)) (live.wide i lt));
    beyond = λ i high. (f.operator.ends i ∙ (live.beyond i high).0, ap at_hand (inputs_same i) ∙ (live.beyond i high).1);
    told = λ i lt e. subst IsDone (sym (inputs_same i)) (live.told i lt (sym (f.operator.ends i) ∙ e));
    over = through_stays old.pipeline.operator new.pipeline.operator f.operator live.over;
    no_fail = no_fail_after k parcel old.pipeline.output.way new.pipeline.output.way f.out.sends live.no_fail;
    stage = subst (λ s. StandsAt s new.pipeline) (sym f.out.sends.state) (stage_after (state_of old.pipeline.output.way) live.stage);
  }

  stands_after : Stands job a j at new
  stands_after = record {
    placed = placed_on job a j at old.pipeline.output.way new.pipeline.output.way (places_stay old.pipeline.output.way new.pipeline.output.way f.out.sends.still) h.placed;
    from = λ i lt. subst (IsFrom job a j i) (sym (inputs_same i)) (h.from i lt);
    suited = suits job a old.pipeline.operator new.pipeline.operator f.operator.fixed h.suited;
    raises = knows_raises old new f.knows h.raises;
    lives = λ e. lives_after (h.lives (sym f.knows.failure ∙ e));
    fails = λ failed e. h.fails (λ none. failed (f.knows.failure ∙ none)) (sym f.out.sends.state ∙ e);
  }

pub put_goes : (old new : WorkOf) → PutGoes old new
put_goes old new job a j at k parcel h f =
    let p = old.pipeline in
    let q = new.pipeline in
    let stands = stands_after job a j at k parcel old new h f in
    let place = h.placed.receiver k f.out.sends.there in
    record {
      moves = put_moves (task_seen old) (task_seen new) job a j at k parcel (record {
        receiver = place.0;
        within = place.1;
        apart = h.placed.apart;
        out = f.out;
        outcome = f.knows.failure;
        no_fail = λ e. first_no_fail k parcel p.output.way q.output.way f.out.sends (h.lives e).no_fail;
        sound = f.operator.tells;
        lives = λ e t. may_put job a j at q stands.placed stands.from stands.suited (stands.lives (f.knows.failure ∙ e)) (f.operator.tells t);
        untested = ap (λ (x : InputOf). q.operator.untested ++ at_hand x) (f.out.inputs 0) ∙ ap (λ (rows : List Row). rows ++ at_hand (p.input 0)) f.operator.untested;
        word = record { raised = f.knows.raised; saw = f.knows.saw };
      });
      stands = stands;
    }
