use Rattle.std.proofs.Common.{rules, List, [], ◌∷◌, refl, subst}
use Rattle.hy_frame.specs.Row.{Fields}
use Rattle.hy_driver.specs.Steps.{Steps}
use Rattle.hy_driver.specs.Keep.{keep_fixed, keep_state}
use Rattle.hy_driver.specs.declared.phase.Phase.TheVariants.{Working}
use Rattle.hy_driver.proofs.Keeping.{keep_fed}
use Rattle.hy_driver.proofs.keep.KeepRowsDriver.feed.Goals as goal

pub returns-clause-told : goal.returns-clause-told
returns-clause-told c values are is =
    let d = c.args.self.now in
    subst (λ (rows : List Fields). Steps (keep_state (keep_fixed d) d.rows d.ended d.phase) ((c.args._input, values) ∷ []) [] (keep_state (keep_fixed d) rows d.ended Working)) (search rules)
    (keep_fed (keep_fixed d) refl d.rows _ d.ended d.phase c.args._input values refl c.requires.to_come c.requires.width are is)
