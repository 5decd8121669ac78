use Rattle.std.proofs.Common.{◌∷◌, [], ◌++◌, List, take, sym, subst, ◌∙◌}
use Rattle.al_agg.specs.declared.part.Part.{Part}
use Rattle.hy_job.specs.declared.nested.AggRex.{AggRex}
use Rattle.hy_job.specs.States.{AreStates}
use Rattle.hy_job.proofs.RowLaws.{upto}
use Rattle.hy_job.proofs.StateLaws.{states_push, seen_none}
use Rattle.hy_job.proofs.states.start_states.Goals as goal

pub loop-call-preserved : goal.loop-call-preserved
loop-call-preserved c =
    subst (λ (made : List AggRex). AreStates made [] c.push.new.self.items) (upto c.args.made.now c.loop-call.call-index c.call-item.result c.loop-call-test.true c.call-item.is)
    (subst (λ (states : List Part). AreStates (take c.loop-call.call-index c.args.made.now ++ c.call-item.result ∷ []) [] states) (sym c.in_ok-push.ensures.items)
    (states_push (take c.loop-call.call-index c.args.made.now) [] c.loop-call.states.items c.call-item.result c.start.result c.loop-call.invariant
    (seen_none c.call-item.result c.start.result (c.start.ensures.aggregate ∙ c.agg_of.ensures) c.start.ensures.none)))
