use Rattle.std.proofs.Common.{ap, sym}
use Rattle.hy_mail.specs.Seated.{PortState}
use Rattle.hy_mail.proofs.Places.{one_sent}
use Rattle.hy_mail.proofs.seat_port.SeatPort.give_send.Goals as goal

pub invariant_of-self-2 : goal.invariant_of-self-2
invariant_of-self-2 g c = record { seat = c.self.invariant.seat; sends = one_sent _ _ _ _ _ _ (ap (λ (p : PortState). p.boxes) (sym c.self.view_is)) c.reserve.ensures.items c.push_reserved.ensures.items c.self.invariant.sends c.requires; takes = c.self.invariant.takes }
