use Rattle.std.proofs.Common.{rules, List, [], ◌∷◌, refl, subst}
use Rattle.hy_frame.specs.Row.{Fields}
use Rattle.hy_driver.specs.Steps.{Steps}
use Rattle.hy_driver.specs.declared.phase.Phase.TheVariants.{Working}
use Rattle.hy_sort.specs.Build.{build_fixed, build_state}
use Rattle.hy_sort.proofs.Building.{build_fed}
use Rattle.hy_sort.proofs.build.SortBuildDriver.feed.Goals as goal

pub returns-clause-told : goal.returns-clause-told
returns-clause-told c values are is =
    let d = c.args.self.now in
    subst (λ (rows : List Fields). Steps (build_state (build_fixed d) d.rows d.ended d.phase) ((c.args._input, values) ∷ []) [] (build_state (build_fixed d) rows d.ended Working)) (search rules)
    (build_fed (build_fixed d) refl d.rows _ d.ended d.phase c.args._input values c.requires.hungry refl c.requires.to_come c.requires.width are is)
