use Rattle.std.proofs.Common.{◌≡◌, false, sym, ◌∙◌}
use Rattle.std.specs.List.{list_all}
use Rattle.al_plan.specs.Eval.{bind, holds}
use Rattle.al_plain.proofs.Lists.{some_fails}
use Rattle.al_plain.proofs.operators.check.Goals as goal

pub returns-in_ok-copy-clause-err : goal.returns-in_ok-copy-clause-err
returns-in_ok-copy-clause-err c =
    let fails : list_all (λ r. holds c.args.cond.now (bind c.args.input.vars r)) c.args.input.rows ≡ false
    = sym (c.in_ok-all_hold.ensures ∙ (λ i. list_all (λ r. holds c.args.cond.now (bind (c.as_slice.ensures i) r)) (c.as_slice-2.ensures i))) ∙ c.if-branch.false in
    (c.in_ok-copy.ensures.copy, some_fails _ _ fails)
