-- The desk that tests use.
use Rattle.std.proofs.Common.{◌≡◌, ◌==◌, [], ◌∷◌, refl, sym, ap, subst}
use Rattle.std.specs.List.{All, IsDistinct}
use Rattle.std.proofs.lemmas.List.Elements.{All-cons, All-nil}
use Rattle.hy_mail.specs.declared.plan.BoxPlan.{BoxPlan}
use Rattle.hy_mail.specs.Desks.{DeskState, Sends, seat_of}
use Rattle.hy_mail_tests.specs.Desks.{IsForTwo}

pub seven_sends : (d : DeskState) → IsForTwo d → Sends d 7 0
seven_sends d h = (1, h.0, ap (λ l. seat_of l 7) h.1)

pub two_differ : IsDistinct ◌==◌ (4 ∷ 7 ∷ [])
unfolding IsDistinct
two_differ = ((refl, tt), (tt, tt))

pub one_plan : (plan : BoxPlan) → plan.senders ≡ 4 ∷ 7 ∷ [] → All (λ p. IsDistinct ◌==◌ p.senders) (plan ∷ [])
one_plan plan is = All-cons (λ (p : BoxPlan). IsDistinct ◌==◌ p.senders) plan [] (subst (IsDistinct ◌==◌) (sym is) two_differ) (All-nil (λ (p : BoxPlan). IsDistinct ◌==◌ p.senders))
