-- When a task has something to put, and when it is done.
use Rattle.std.proofs.Common.{◌≡◌, ◌<◌, ℕ, zero, suc, nat_eq, Bool, List, [], ◌∷◌, ◌++◌, map, refl, ap, sym, subst, ◌∙◌, arith}
use Rattle.hy_job.specs.declared.job.Activity.{Activity}
use Rattle.hy_job.specs.declared.job.Job.{Job}
use Rattle.hy_job.specs.Runs.{Taken}
use Rattle.hy_job.proofs.Members.{by_cases, no_bool}
use Rattle.hy_output.specs.declared.way.Way.{Way}
use Rattle.hy_output.specs.Ways.{places, state_of, waiting}
use Rattle.hy_course.specs.Task.{MayComeTo}
use Rattle.hy_course.specs.Parts.{RestOf}
use Rattle.hy_course.proofs.PartLaws.{living_parts_put}
use Rattle.hy_pipeline.specs.Pipeline.{PipelineOf, parts_of, signal_of, waits_in}
use Rattle.hy_pipeline.specs.Tasks.{AllSendersClosed, EndIsDone, EndedMayPut, LivingMayPut, TaskSeen, lacks}
use Rattle.hy_pipeline.proofs.EndLaws.{ended_rests, living_are_alive}

pub living_may_put : (p : PipelineOf) → LivingMayPut p
living_may_put p job a j closed ended at apart h more may = living_parts_put (parts_of at p) job a j closed ended (living_are_alive p job a j closed ended at apart h) more may

nothing_comes : (job : Job) (a : Activity) (j : ℕ) (closed : ℕ → ℕ → Bool) → AllSendersClosed job a j closed → (more : List Taken) → MayComeTo job a j closed more → more ≡ []
nothing_comes job a j closed all [] may = refl
nothing_comes job a j closed all (t ∷ more) may = absurd (no_bool (sym (all t.input t.sender may.0.of) ∙ may.0.to_come))

pub ended_may_put : (p : PipelineOf) → EndedMayPut p
ended_may_put p job a j closed at left on apart all h more may =
    let q = ended_rests p job a at left on apart h in
    (q.0, subst (λ took. RestOf job a (parts_of at p) took q.0) (sym (nothing_comes job a j closed all more may)) q.1)

none_waits : (at : ℕ → ℕ) (way : Way) (r n : ℕ) → ((k : ℕ) → k < n → waiting way k ≡ []) → waits_in at way n r ≡ []
none_waits at way r zero h = refl
none_waits at way r (suc k) h = by_cases (nat_eq (at k) r)
    (λ t. rw t (ap (map signal_of) (h k (omega arith))))
    (λ f. rw f (none_waits at way r k (λ m lt. h m (omega (arith, lt)))))

pub end_is_done : (t : TaskSeen) → EndIsDone t
end_is_done t job a j at h = record {
  rest = λ e s. let q = ended_rests t.pipeline job a at h.left t.hands_on h.apart (h.ended e s) in (q.0, q.1, λ r lt. q.3 (h.owes_nothing e) r, q.2);
  untested = h.untested;
  owed = λ failed r is. ap (λ ws. ws ++ lacks (state_of t.pipeline.output.way)) (none_waits at t.pipeline.output.way r (places t.pipeline.output.way) h.idle) ∙ ap lacks h.closed_word;
  nothing = h.nothing_on;
  closed = λ k p is. h.senders k p is;
  raised = h.raised;
}
