use Rattle.std.proofs.Common.{List, take, sym, subst, ◌∙◌}
use Rattle.std.proofs.lemmas.List.{take_all}
use Rattle.al_agg.specs.declared.part.Part.{Part}
use Rattle.al_agg.specs.Part.{part_fields}
use Rattle.hy_job.specs.States.{AreStates}
use Rattle.hy_job.proofs.RowLaws.{upto}
use Rattle.hy_job.proofs.StateLaws.{fields_more, no_fields}
use Rattle.hy_job.proofs.states.put_states.Goals as goal

pub loop-part-init : goal.loop-part-init
loop-part-init c = λ made rows h. no_fields made rows c.args.out.now h

pub loop-part-preserved : goal.loop-part-preserved
loop-part-preserved c = λ made rows h.
    c.in_ok-put_part.ensures.ok
    ∙ fields_more made rows (take c.loop-part.part-index c.args.states.now) c.part-item.result c.args.out.now c.loop-part.out (part_fields c.part-item.result) c.loop-part.invariant c.put_part.ensures.lists
    (subst (λ (states : List Part). AreStates made rows states) (sym (upto c.args.states.now c.loop-part.part-index c.part-item.result c.loop-part-test.true c.part-item.is)) h)

pub returns : goal.returns
returns c = λ made rows h. c.loop-part.invariant made rows (subst (λ (states : List Part). AreStates made rows states) (sym (take_all c.loop-part.part-index c.args.states.now c.loop-part-test.false)) h)
