use Rattle.std.proofs.Common.{All, ap, subst, sym}
use Rattle.hy_mail.specs.Seated.{IsSentAt, IsTakenAt, PortState}
use Rattle.hy_mail.proofs.seat_port.SeatPort.into_parts.Goals as goal

pub returns-clause-sends : goal.returns-clause-sends
returns-clause-sends g c =
    subst (λ b. All (IsSentAt b) c.from_vec.result) (ap (λ (p : PortState). p.boxes) c.self.view_is) (subst (All (IsSentAt c.self.inside.boxes.now)) (sym c.from_vec.ensures) c.self.invariant.sends)

pub returns-clause-takes : goal.returns-clause-takes
returns-clause-takes g c =
    subst (λ b. All (IsTakenAt b) c.from_vec-2.result) (ap (λ (p : PortState). p.boxes) c.self.view_is) (subst (All (IsTakenAt c.self.inside.boxes.now)) (sym c.from_vec-2.ensures) c.self.invariant.takes)
