use Rattle.std.proofs.Common.{[], subst, sym}
use Rattle.hy_output.specs.declared.way.Way.{Way}
use Rattle.hy_output.specs.declared.way.Way.TheVariants as W
use Rattle.hy_output.specs.Ways.{Sends}
use Rattle.hy_output.proofs.WayLaws.{writes_sends}
use Rattle.hy_output.proofs.way.Way.open.Goals as goal

pub returns-in-Wire-clause-told : goal.returns-in-Wire-clause-told
returns-in-Wire-clause-told c = subst (λ (w : Way). Sends w [] (W.Wire c.open.new.self)) (sym c.in-Wire.is) (writes_sends c.in-Wire.writer c.open.new.self [] c.open.ensures.told)
