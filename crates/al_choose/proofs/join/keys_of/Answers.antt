use Rattle.std.proofs.Common.{[], ◌++◌, ap, ◌∙◌}
use Rattle.std.specs.List.{cons_option}
use Rattle.al_phys.specs.Properties.{equi_key}
use Rattle.al_choose.proofs.EquiKeys.{keys_next}
use Rattle.al_choose.proofs.join.keys_of.Goals as goal

pub loop-e-preserved : goal.loop-e-preserved
loop-e-preserved c =
    let ls = c.args.ls.now in
    let rs = c.args.rs.now in
    keys_next ls rs c.loop-e.keys c.in_ok-keys.keys c.args.conjuncts.now c.loop-e.e-index c.e-item.result c.loop-e-test.true c.loop-e.invariant
    (c.in_ok-keys.ensures ∙ ap (λ e. c.loop-e.keys ++ cons_option (equi_key ls rs e) []) c.e-item.is)
