use Rattle.std.proofs.Common.{ap, ◌∙◌}
use Rattle.al_plan.specs.declared.expr.Var.{Var}
use Rattle.al_plan.specs.Uses.{with_name}
use Rattle.al_choose.proofs.OldKeys.{name_next}
use Rattle.al_choose.proofs.group.each_once.Goals as goal

pub loop-v-preserved : goal.loop-v-preserved
loop-v-preserved c =
    name_next c.loop-v.once c.in_ok-once.once c.args.vars.now c.loop-v.v-index c.v-item.result c.loop-v-test.true c.loop-v.invariant
    (c.in_ok-once.ensures ∙ ap (λ (v : Var). with_name c.loop-v.once v.name) c.v-item.is)
