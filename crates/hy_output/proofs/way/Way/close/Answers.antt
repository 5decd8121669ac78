use Rattle.std.proofs.Common.{subst, sym}
use Rattle.hy_output.specs.declared.way.Way.{Way}
use Rattle.hy_output.specs.declared.way.Way.TheVariants as W
use Rattle.hy_output.specs.Ways.{Closes, HasNoFail}
use Rattle.hy_output.proofs.WayLaws.{wire_closes}
use Rattle.hy_output.proofs.WordLaws.{wire_clean}
use Rattle.hy_output.proofs.way.Way.close.Goals as goal

pub returns-in-Wire-clause-told : goal.returns-in-Wire-clause-told
returns-in-Wire-clause-told c = subst (λ (w : Way). Closes w (W.Wire c.close.new.self)) (sym c.in-Wire.is) (wire_closes c.in-Wire.writer c.close.new.self c.close.ensures.told)

pub returns-in-Wire-clause-clean : goal.returns-in-Wire-clause-clean
returns-in-Wire-clause-clean c h = wire_clean c.in-Wire.writer c.close.new.self c.close.ensures.posts (subst HasNoFail c.in-Wire.is h)
