-- A task that fails: by a fault of its operator, for want of memory for what it gave, by a Fail, or by a raised word.
use Rattle.std.proofs.Common.{◌≡◌, ◌||◌, ℕ, Bool, true, false, Option, Some, None, List, [], ◌∷◌, ◌++◌, inl, inr, refl, ap, sym, subst, ◌∙◌, append-nil, append_assoc}
use Rattle.std.specs.List.{Contains}
use Rattle.std.specs.List.Sorted.{IsPermutation}
use Rattle.std.proofs.lemmas.List.Elements.{Contains-append_cases, Contains-append_left, Contains-append_right}
use Rattle.std.proofs.lemmas.List.Sorted.{Contains-permutation, IsPermutation-sym}
use Rattle.hy_frame.specs.declared.writer.WriterState.TheVariants.{Initial, Opened}
use Rattle.hy_rest.specs.Words.{put_rows}
use Rattle.hy_job.specs.declared.job.Activity.{Activity}
use Rattle.hy_job.specs.declared.job.Job.{Job}
use Rattle.hy_job.specs.declared.job.Kind.{Kind}
use Rattle.hy_job.specs.declared.job.Kind.TheVariants as K
use Rattle.hy_job.specs.Settled as S
use Rattle.hy_job.specs.Settled.{HasCause, IsFaulty, Outcome, is_fault}
use Rattle.hy_job.proofs.Members.{in_cases, in_here, in_none}
use Rattle.hy_store.specs.declared.fault.OpFault.TheVariants as F
use Rattle.hy_driver.specs.Rows.{Row, values_of}
use Rattle.hy_driver.specs.Seen.{Check, Fixed}
use Rattle.hy_driver.specs.Steps.{Fails}
use Rattle.hy_connect.specs.Outlets.{filled_rows, waiting_rows}
use Rattle.hy_connect.specs.Writers.{outlet}
use Rattle.hy_output.specs.declared.way.Way.{Way}
use Rattle.hy_output.specs.declared.way.Way.TheVariants as W
use Rattle.hy_output.specs.Outputs.{OutputOf, packed}
use Rattle.hy_output.specs.Ways.{offers, places, rows_waiting, state_of}
use Rattle.hy_input.specs.Inputs.{Gives, brings, given}
use Rattle.hy_course.specs.Course.{outcome_of}
use Rattle.hy_course.specs.Parts.{AreAlive, PartsOf, PartsStep}
use Rattle.hy_course.specs.Task.{IsCheck}
use Rattle.hy_course.proofs.ListLaws.{cause_from}
use Rattle.hy_course.proofs.PartLaws.{living_parts_put}
use Rattle.hy_pipeline.specs.Pipeline.{OffersTo, PipelineOf, keeps_on, nothing, parts_of, waits_for}
use Rattle.hy_pipeline.specs.Laws.{IsLiving}
use Rattle.hy_pipeline.specs.Tasks.{BreaksOff, ClosedStays, MayPut, Tells}
use Rattle.hy_pipeline.specs.Tests.{at_hand, check_of, untested_of}
use Rattle.hy_pipeline.proofs.EndLaws.{living_are_alive}
use Rattle.hy_pipeline.proofs.HandLaws.{brought_are_rows}
use Rattle.hy_pipeline.proofs.StepLaws.{fronts_wait, places_stay, waiting_is_front}
use Rattle.hy_pipeline.proofs.TaskLaws.{fail_moves, fault_moves, sight_moves}
use Rattle.hy_task.specs.Standing.{Stands, WorkOf, task_seen}
use Rattle.hy_task.specs.Laws.{BreaksDown, FailGoes, FaultGoes, FaultHasCause, FedFaultHasCause, SightGoes, SpoilGoes, Spoiled}
use Rattle.hy_task.proofs.Living.{closed_by, from_stays, living, may_put, takes_rows}
use Rattle.hy_task.proofs.Working.{only_first, placed_on, same_way, suits}

-- ---- where it stands behind its failure

opened_first : Opened ≡ Initial → ⊥
opened_first e = cc

module _ (job : Job) (a : Activity) (j : ℕ) (at : ℕ → ℕ) (outcome : Outcome) (old new : WorkOf) (h : Stands job a j at old) (b : BreaksDown outcome old new) where
  none_raised : (old.raised || old.owes_raise) ≡ false
  none_raised = sym h.raises ∙ ap (λ f. is_fault (outcome_of f)) b.was

  stands_broken : places new.pipeline.output.way ≡ places old.pipeline.output.way → state_of new.pipeline.output.way ≡ Opened → Stands job a j at new
  stands_broken same opened = record {
    placed = placed_on job a j at old.pipeline.output.way new.pipeline.output.way same h.placed;
    from = λ i lt. from_stays job a j i (old.pipeline.input i) (new.pipeline.input i) (b.inputs i).0 (h.from i lt);
    suited = suits job a old.pipeline.operator new.pipeline.operator b.fixed h.suited;
    raises = ap (λ f. is_fault (outcome_of f)) b.is ∙ (sym b.owes_raise ∙ ap (λ r. r || new.owes_raise) (sym (b.raised ∙ left_none old.raised old.owes_raise none_raised)));
    lives = λ e. absurd (no_some (sym b.is ∙ e));
    fails = λ failed e. opened_first (sym opened ∙ e);
  }
    where
      left_none : (x y : Bool) → (x || y) ≡ false → x ≡ false
      left_none true y e = e
      left_none false y e = refl

      no_some : Some outcome ≡ None → ⊥
      no_some e = cc

  closed_stay : ClosedStays (task_seen old) (task_seen new)
  closed_stay k q = (b.inputs k).1 q

-- what waits in a place is a front of what may be offered there
front_of : (way : Way) (k : ℕ) (given put : List Row) → offers way k given put → (rest : List Row) × (put ≡ rows_waiting way k ++ rest)
front_of (W.Wire w) k given put may = (
  filled_rows (outlet w k).filling ++ may.1.rest,
  may.1.is ∙ append_assoc (waiting_rows (outlet w k)) (filled_rows (outlet w k).filling) may.1.rest,
)
front_of (W.Kept keeper) k given put may = ([], may)

idle_parts : (job : Job) (a : Activity) (p : PartsOf) → PartsStep job a p [] [] [] [] nothing p
idle_parts job a p = record {
  brings = λ i lt. record { back = λ took put r. r };
  works = record { back = λ took put r. r };
  packed = append-nil p.packed;
  offers = λ r lt. record { back = λ took put o. o };
  keeps = record { back = λ took put o. o };
}

-- nothing went out: the last parts are those before the call
module _ (job : Job) (a : Activity) (j : ℕ) (at : ℕ → ℕ) (outcome : Outcome) (old new : WorkOf) (h : Stands job a j at old) (b : BreaksDown outcome old new) (output : new.pipeline.output ≡ old.pipeline.output) where
  breaks_idle : HasCause a.kind outcome (untested_of old.pipeline) → BreaksOff job a j at (task_seen old) (parts_of at old.pipeline) outcome (task_seen new)
  breaks_idle cause = record {
    was = b.was;
    is = b.is;
    fed = [];
    gave = [];
    written = [];
    steps = λ t. idle_parts job a (parts_of at old.pipeline);
    lives = λ t. may_put job a j at old.pipeline h.placed h.from h.suited (h.lives b.was) t;
    front = λ t r lt given put o. subst (λ (x : OutputOf). (rest : List Row) × (put ≡ put_rows (waits_for at x.way r) ++ rest)) (sym output)
        (waiting_is_front old.pipeline at (λ k low given' put' may. front_of old.pipeline.output.way k given' put' may) r given put o);
    open_still = ap (λ (x : OutputOf). state_of x.way) output ∙ b.opened;
    cause = cause;
  }

  stands_idle : Stands job a j at new
  stands_idle = stands_broken job a j at outcome old new h b (same_way old.pipeline.output new.pipeline.output output) (ap (λ (x : OutputOf). state_of x.way) output ∙ b.opened)

pub fault_goes : (old new : WorkOf) → FaultGoes old new
fault_goes old new job a j at outcome h f = record {
  moves = fault_moves (task_seen old) (parts_of at old.pipeline) (task_seen new) job a j at outcome (record {
    fault = f.fault;
    breaks = breaks_idle job a j at outcome old new h f.breaks f.output f.cause;
    closed = closed_stay job a j at outcome old new h f.breaks;
    word = record { raised = f.breaks.raised; saw = f.saw };
  });
  stands = stands_idle job a j at outcome old new h f.breaks f.output;
}

pub fail_goes : (old new : WorkOf) → FailGoes old new
fail_goes old new job a j at k s known h f = record {
  moves = fail_moves (task_seen old) (parts_of at old.pipeline) (task_seen new) job a j at k s (record {
    sender = (h.from k known).sender f.sent.0 f.sent.1 s f.sent.2;
    breaks = breaks_idle job a j at S.Stopped old new h f.breaks f.output tt;
    closed = closed_stay job a j at S.Stopped old new h f.breaks;
    word = record { raised = f.breaks.raised; saw = f.saw };
  });
  stands = stands_idle job a j at S.Stopped old new h f.breaks f.output;
}

pub sight_goes : (old new : WorkOf) → SightGoes old new
sight_goes old new job a j at h f = record {
  moves = sight_moves (task_seen old) (parts_of at old.pipeline) (task_seen new) job a j at (record {
    breaks = breaks_idle job a j at S.Stopped old new h f.breaks f.parts.output tt;
    closed = closed_stay job a j at S.Stopped old new h f.breaks;
    raised = f.breaks.raised;
    saw = f.saw;
  });
  stands = stands_idle job a j at S.Stopped old new h f.breaks f.parts.output;
}

-- ---- what it gave is lost

-- the parts behind the turn whose rows could not be packed: for what is still given, what is offered lies behind what was packed and these
abbrev spoiled_parts : (ℕ → ℕ) → List Row → PipelineOf → PipelineOf → PartsOf
spoiled_parts at rows p q = record {
  brings = λ k. brings k (p.input k);
  works = q.operator.rest;
  packed = [];
  offers = λ r given put. OffersTo at p.output.way r ((packed p.output ++ rows) ++ given) put;
  keeps = λ given on. keeps_on p.output.way ((packed p.output ++ rows) ++ given) on;
}

module _ (job : Job) (a : Activity) (j : ℕ) (at : ℕ → ℕ) (rows : List Row) (old new : WorkOf) (h : Stands job a j at old) (f : Spoiled rows old new) where
  abbrev last : PartsOf
  last = spoiled_parts at rows old.pipeline new.pipeline

  behind : Tells old.pipeline.operator → PartsStep job a (parts_of at old.pipeline) [] [] rows (packed old.pipeline.output ++ rows) nothing last
  behind t = record {
    brings = λ i lt. record { back = λ took put r. r };
    works = f.works t;
    packed = sym (append-nil (packed old.pipeline.output ++ rows));
    offers = λ r lt. record { back = λ took put o. o };
    keeps = record { back = λ took put o. o };
  }

  -- before the turn it lived, and so do these
  last_lives : Tells old.pipeline.operator → MayPut job a j (closed_by old.pipeline) last
  last_lives t more may =
      let p = old.pipeline in
      let live = living job a j at p h.from h.suited (h.lives f.breaks.was) (takes_rows p.output.way f.breaks.opened) t in
      let after : PipelineOf = record { input = p.input; operator = new.pipeline.operator; output = p.output } in
      let goes_on : IsLiving job a j (closed_by p) p.operator.ended after = record {
        brings = live.brings;
        may = λ fed x. let m = live.may fed x in (f.ends fed.0 ∙ m.0, m.1 ∙ sym (ap (λ (y : Fixed). y.width fed.0) f.breaks.fixed), m.2);
        works = f.alive t;
        more = live.more;
      } in
      let alive = living_are_alive after job a j (closed_by p) p.operator.ended at h.placed.apart goes_on in
      let these : AreAlive job a j (closed_by p) p.operator.ended last = record {
        brings = alive.brings;
        works = alive.works;
        offers = λ r lt given. alive.offers r lt ((packed p.output ++ rows) ++ given);
        keeps = λ given. alive.keeps ((packed p.output ++ rows) ++ given);
      } in living_parts_put last job a j (closed_by p) p.operator.ended these more may

  spoiled_places : places new.pipeline.output.way ≡ places old.pipeline.output.way
  spoiled_places = places_stay old.pipeline.output.way new.pipeline.output.way f.spoils.still

  breaks_spoiled : BreaksOff job a j at (task_seen old) last S.NoMemory (task_seen new)
  breaks_spoiled = record {
    was = f.breaks.was;
    is = f.breaks.is;
    fed = [];
    gave = rows;
    written = packed old.pipeline.output ++ rows;
    steps = behind;
    lives = last_lives;
    front = λ t r lt given put o. fronts_wait at old.pipeline.output.way new.pipeline.output.way spoiled_places r ((packed old.pipeline.output ++ rows) ++ given) put
        (λ k low may. f.spoils.fronts k low given put may) o;
    open_still = f.opened;
    cause = tt;
  }

pub spoil_goes : (old new : WorkOf) → SpoilGoes old new
spoil_goes old new job a j at rows h f = record {
  moves = fault_moves (task_seen old) (spoiled_parts at rows old.pipeline new.pipeline) (task_seen new) job a j at S.NoMemory (record {
    fault = refl;
    breaks = breaks_spoiled job a j at rows old new h f;
    closed = closed_stay job a j at S.NoMemory old new h f.breaks;
    word = record { raised = f.breaks.raised; saw = f.saw };
  });
  stands = stands_broken job a j at S.NoMemory old new h f.breaks (spoiled_places job a j at rows old new h f) f.opened;
}

-- ---- causes

fails_cause : (kind : Kind) (name : List ℕ) (rows : List Row) → Fails (check_of kind) name rows → IsFaulty kind name rows
fails_cause (K.Check own c) name rows h = (sym h.0, h.1)
fails_cause _ name rows h = absurd h

caused_by : (kind : Kind) (check : Option Check) (name : List ℕ) (rows held : List Row) → check ≡ check_of kind → (IsCheck kind → (row : Row) → Contains rows row → Contains held row) → Fails check name rows → HasCause kind (S.Check name) held
caused_by kind check name rows held is among h = cause_from kind (S.Check name) rows held among (fails_cause kind name rows (subst (λ c. Fails c name rows) is h))

pub fault_has_cause : (old new : WorkOf) → FaultHasCause old new
fault_has_cause old new job a j at (F.Check name) h fails =
    caused_by a.kind old.pipeline.operator.fixed.check name (old.pipeline.operator.untested ++ []) (untested_of old.pipeline) h.suited.check
    (λ check row c. Contains-append_left old.pipeline.operator.untested (at_hand (old.pipeline.input 0)) row (subst (λ (xs : List Row). Contains xs row) (append-nil old.pipeline.operator.untested) c)) fails
fault_has_cause old new job a j at F.Store h fails = tt
fault_has_cause old new job a j at F.NoMemory h fails = tt

-- a row that an input went on to was at hand
was_at_hand : (old new : PipelineOf) (k : ℕ) → k ≡ 0 → Gives (old.input k) (new.input k) → ((rows : List Row) × brings k (new.input k) [] rows) → Contains (at_hand (old.input 0)) (values_of (given (new.input k)))
was_at_hand old new k first gives some =
    let row = values_of (given (new.input k)) in
    let before : brings k (old.input k) [] (row ∷ some.0) = (gives.brings k).back [] some.0 some.1 in
    let there : brings 0 (old.input 0) [] (row ∷ some.0) = subst (λ m. brings m (old.input m) [] (row ∷ some.0)) first before in
    let moved : IsPermutation (at_hand (old.input 0)) (row ∷ some.0) = subst (λ (xs : List Row). IsPermutation xs (row ∷ some.0)) (append-nil (at_hand (old.input 0))) (brought_are_rows 0 (old.input 0) [] (row ∷ some.0) there) in
    Contains-permutation (row ∷ some.0) (at_hand (old.input 0)) row (IsPermutation-sym _ _ moved) (in_here row some.0)

one_is : {X : Type 0} (x y : X) → Contains (x ∷ []) y → x ≡ y
one_is x y c = elim (in_cases x y [] c) [ inl e ↦ e | inr none ↦ absurd (in_none y none) ]

pub fed_fault_has_cause : (old new : WorkOf) → FedFaultHasCause old new
fed_fault_has_cause old new job a j at k (F.Check name) known h gives some fails =
    let p = old.pipeline in
    let row = values_of (given (new.pipeline.input k)) in
    caused_by a.kind p.operator.fixed.check name (p.operator.untested ++ row ∷ []) (untested_of p) h.suited.check
    (λ check x c. elim (Contains-append_cases p.operator.untested (row ∷ []) x c) [
      | inl held ↦ Contains-append_left p.operator.untested (at_hand (p.input 0)) x held
      | inr fed ↦ Contains-append_right p.operator.untested (at_hand (p.input 0)) x (subst (Contains (at_hand (p.input 0))) (one_is row x fed) (was_at_hand p new.pipeline k (only_first a.kind k check known) gives some))
    ]) fails
fed_fault_has_cause old new job a j at k F.Store known h gives some fails = tt
fed_fault_has_cause old new job a j at k F.NoMemory known h gives some fails = tt
