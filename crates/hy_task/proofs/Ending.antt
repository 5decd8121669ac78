-- A task at its beginning and at its end.
use Rattle.std.proofs.Common.{◌≡◌, ◌<◌, ◌||◌, ℕ, Bool, true, false, Option, Some, None, List, [], ◌++◌, inl, inr, refl, ap, sym, subst, ◌∙◌, append-nil}
use Rattle.std.specs.List.{flat_map}
use Rattle.std.proofs.lemmas.Bool.{cases_lt}
use Rattle.hy_job.specs.declared.job.Activity.{Activity}
use Rattle.hy_job.specs.Settled.{Outcome}
use Rattle.hy_job.specs.Sound.{inputs}
use Rattle.hy_driver.specs.Rows.{Row}
use Rattle.hy_connect.specs.Outlets.{owed_rows, parcel_rows}
use Rattle.hy_connect.specs.Writers.{outlet, receivers}
use Rattle.hy_output.specs.declared.way.Way.{Way}
use Rattle.hy_output.specs.declared.way.Way.TheVariants as W
use Rattle.hy_output.specs.Ways.{is_idle, places, waiting}
use Rattle.hy_input.proofs.Closing.{ended_closed}
use Rattle.hy_course.proofs.PartLaws.{new_parts_run}
use Rattle.hy_pipeline.specs.Pipeline.{PipelineOf, parts_of}
use Rattle.hy_pipeline.specs.Laws.{IsEnded, OwesNothing}
use Rattle.hy_pipeline.specs.Tests.{at_hand, untested_of}
use Rattle.hy_pipeline.proofs.DoneLaws.{end_is_done}
use Rattle.hy_pipeline.proofs.EndLaws.{new_are_new, none_sent}
use Rattle.hy_pipeline.proofs.StepLaws.{no_more}
use Rattle.hy_task.specs.Standing.{HasFinished, Lives, OnlyWaits, StandsAt, WorkOf, hands_on_of, task_seen}
use Rattle.hy_task.specs.Laws.{EndIsDone, NewIsNew}
use Rattle.hy_task.proofs.Living.{done_none, ended_of}

pub new_is_new : (t : WorkOf) → NewIsNew t
new_is_new t job a j scanned handed at h = record {
  rest = λ tells took put r. new_parts_run (parts_of at t.pipeline) job a j scanned handed (new_are_new t.pipeline job a j scanned handed at h.within tells.sound h.new) took put r;
  untested = h.untested;
  closed = λ k p. h.closed k p;
  failure = h.failure;
  raised = h.raised;
  saw = h.saw;
}

-- ---- at the end

idle_waits : (way : Way) → is_idle way → (k : ℕ) → k < places way → waiting way k ≡ []
idle_waits (W.Wire w) idle k lt = idle k lt
idle_waits (W.Kept keeper) idle k lt = refl

idle_owes : (way : Way) → OnlyWaits way → is_idle way → OwesNothing way
idle_owes (W.Wire w) only idle = λ k lt.
    only k lt (owed_rows (outlet w k)) (no_more w.state, record { rest = []; output = sym (none_sent w.route (receivers w) k); is = sym (append-nil (owed_rows (outlet w k))) })
    ∙ ap (flat_map parcel_rows) (idle k lt)
idle_owes (W.Kept keeper) only idle = tt

none_on : (f : Option Outcome) (p : PipelineOf) → (f ≡ None → ⊥) → hands_on_of f p ≡ []
none_on None p failed = absurd (failed refl)
none_on (Some outcome) p failed = refl

none_to_test : (a : Activity) (p : PipelineOf) → Lives a p → HasFinished p → untested_of p ≡ []
none_to_test a p lives finished =
    let through = lives.over finished.phase in
    ap (λ (rows : List Row). rows ++ at_hand (p.input 0)) through.untested ∙ elim (cases_lt 0 (inputs a.kind)) [
      | inl low ↦ done_none (p.input 0) (lives.told 0 low (through.ended 0))
      | inr high ↦ (lives.beyond 0 high).1
    ]

or_none : (b c : Bool) → c ≡ false → (b || c) ≡ b
or_none true c e = refl
or_none false c e = e

pub end_is_done_task : (t : WorkOf) → EndIsDone t
end_is_done_task t job a j at h end =
    let p = t.pipeline in
    let finished : t.failure ≡ None → HasFinished p = λ e. subst (λ s. StandsAt s p) end.closed (h.lives e).stage in
    end_is_done (task_seen t) job a j at (record {
      apart = h.placed.apart;
      left = p.operator.hands_on;
      ended = λ e tells. subst (λ f. IsEnded a.kind p.operator.hands_on (hands_on_of f p) p) (sym e) (ended_of a p (h.lives e) (finished e) tells);
      owes_nothing = λ e. idle_owes p.output.way (finished e).waits end.idle;
      untested = λ e. none_to_test a p (h.lives e) (finished e);
      closed_word = end.closed;
      idle = λ k lt. idle_waits p.output.way end.idle k lt;
      nothing_on = λ failed. none_on t.failure p failed;
      senders = λ k q is. let s = (h.from k is.known).sent q is in ended_closed (p.input k) (end.ended k is.known) s.0 s.1 q s.2;
      raised = sym (h.raises ∙ or_none t.raised t.owes_raise end.owes_raise);
    })
