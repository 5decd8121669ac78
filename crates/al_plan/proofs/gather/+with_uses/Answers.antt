use Rattle.std.proofs.Common.{sym, ap, ◌∙◌}
use Rattle.al_plan.specs.Names.{names}
use Rattle.al_plan.specs.Uses.{with_names}
use Rattle.al_plan.proofs.UsesLaws.{with_names_none, with_names_next}
use Rattle.al_plan.proofs.gather.+with_uses.Goals as goal

pub with_args-loop-e-init : goal.with_args-loop-e-init
with_args-loop-e-init t c = sym (with_names_none c.args.vars)

pub with_args-loop-e-preserved : goal.with_args-loop-e-preserved
with_args-loop-e-preserved t c =
    with_names_next c.args.vars c.loop-e.more c.in_ok-more.more c.args.args.now c.loop-e.e-index c.e-item.result c.loop-e-test.true c.loop-e.invariant (c.in_ok-more.ensures ∙ ap (λ e. with_names c.loop-e.more (names e)) c.e-item.is)
