use Rattle.hy_sort.proofs.Building.{build_new}
use Rattle.hy_sort.proofs.build.SortBuild.new.Goals as goal

pub returns-clause-new : goal.returns-clause-new
returns-clause-new c keys n scanned handed = build_new _ _ c.new.ensures
