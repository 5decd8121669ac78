-- What a take keeps of the mailboxes.
use Rattle.std.proofs.Common.{◌≡◌, ◌∙◌, ℕ, ap, sym, subst, inl, inr}
use Rattle.hy_frame.specs.Bank.{BankOf}
use Rattle.hy_mail.specs.declared.parcel.Parcel.{Parcel}
use Rattle.hy_mail.specs.declared.parcel.Parcel.TheVariants as P
use Rattle.hy_mail.specs.Desks.{DeskState, DeskStep}
use Rattle.hy_mail.specs.Events.{Event, Empty, Took}
use Rattle.hy_connect.specs.declared.taker.Taken.{Taken}
use Rattle.hy_connect.specs.declared.taker.Taken.TheVariants as T
use Rattle.hy_connect.specs.Takers.{TakerOf, TellsTaken}
use Rattle.hy_wire_runs.specs.Desks.{IsDesk}
use Rattle.hy_wire_runs.proofs.DeskRuns.{stays_desk}

module _ {S : Type 0} (happens : S → Event → S → Type 0) (at : S → DeskState) (p q : S) (d : DeskState) (is : at p ≡ d) (desk : IsDesk d) (steps : (x : Event) → happens p x q → DeskStep 1 d x (at q))
    (old new : TakerOf) (bank bank' : BankOf) where
  takes : (s : ℕ) (x : Parcel) → happens p (Took old.mailbox s x) q → IsDesk (at q)
  takes s x h = stays_desk 1 d (at q) (Took old.mailbox s x) desk (steps (Took old.mailbox s x) h)

  pub take_stays : (r : Taken) → TellsTaken happens p q bank bank' old new r → IsDesk (at q)
  take_stays T.Empty h = stays_desk 1 d (at q) (Empty old.mailbox) desk (steps (Empty old.mailbox) h.3)
  take_stays (T.Frame f) h = takes h.3.0 (P.Frame f) h.3.2
  take_stays T.Kept h = absurd h
  take_stays T.Word h = elim h.2.2 [
    | inl x ↦ takes h.2.0 P.Open x.1
    | inr x ↦ takes h.2.0 P.Close x.1
  ]
  take_stays T.Failed h = takes h.3.0 P.Fail h.3.2
  take_stays T.Ended h = subst IsDesk (sym (ap at h.3 ∙ is)) desk
