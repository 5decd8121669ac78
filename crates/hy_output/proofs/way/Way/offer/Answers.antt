use Rattle.std.proofs.Common.{◌<◌, ℕ, subst, sym}
use Rattle.hy_output.specs.declared.way.Way.{Way}
use Rattle.hy_output.specs.declared.way.Way.TheVariants as W
use Rattle.hy_output.specs.Ways.{HasArity, TellsOffer, mailbox_at, places}
use Rattle.hy_output.proofs.OfferLaws.{wire_offers}
use Rattle.hy_output.proofs.way.Way.offer.Goals as goal

pub offer-requires-clause-sends : goal.offer-requires-clause-sends
offer-requires-clause-sends g c = subst (λ (w : Way). (k : ℕ) → k < places w → g.P.Port.sends c.args.port.now (mailbox_at w k)) c.in-Wire.is c.requires.sends

pub offer-requires-clause-arity : goal.offer-requires-clause-arity
offer-requires-clause-arity g c = subst (λ (w : Way). (k : ℕ) → k < places w → HasArity (g.P.Port.arity c.args.port.now (mailbox_at w k)) w) c.in-Wire.is c.requires.arity

pub returns-in-Wire-clause-told : goal.returns-in-Wire-clause-told
returns-in-Wire-clause-told g c =
    subst (λ (w : Way). TellsOffer g.P.Port.happens c.args.port.now c.offer.new.port w (W.Wire c.offer.new.self) c.offer.result) (sym c.in-Wire.is)
    (wire_offers g.P.Port.happens c.args.port.now c.offer.new.port c.in-Wire.writer c.offer.new.self c.offer.result c.offer.ensures.told)
