-- What the calls of a merging taker keep of it, its bank and the mailboxes.
use Rattle.std.proofs.Common.{◌≡◌, ◌<◌, ◌≤◌, ◌∙◌, ℕ, zero, suc, List, [], ◌∷◌, length, Option, None, Some, ap, refl, sym, subst, arith, inl, inr}
use Rattle.hy_frame.specs.Bank.{BankOf}
use Rattle.hy_frame.specs.Frame.{FrameOf}
use Rattle.hy_job.specs.declared.job.Wire.{Wire}
use Rattle.hy_mail.specs.declared.parcel.Parcel.{Parcel}
use Rattle.hy_mail.specs.declared.parcel.Parcel.TheVariants as P
use Rattle.hy_mail.specs.Desks.{DeskState, DeskStep, Receives, box}
use Rattle.hy_mail.specs.Events.{Event, Empty, Took}
use Rattle.hy_connect.specs.declared.taker.Taken.{Taken}
use Rattle.hy_connect.specs.declared.taker.Taken.TheVariants as T
use Rattle.hy_connect.specs.declared.merge.Merged.{Merged}
use Rattle.hy_connect.specs.declared.merge.Merged.TheVariants as M
use Rattle.hy_connect.specs.Merges.{IsNewMerger, MayTake, MergerOf, Rests, StaysMerger, TellsMergeTake, TellsMerged, senders, source}
use Rattle.hy_connect.specs.Outlets.{held_in}
use Rattle.hy_connect.specs.Sources.{Brings, IsWanted, Returns, SourceOf, frames_held, source_at}
use Rattle.hy_wire_runs.specs.Desks.{IsDesk}
use Rattle.hy_wire_runs.specs.Lines.{AreNumbers}
use Rattle.hy_wire_runs.specs.Merging.{GoesOn, HasAtHand, IsToMerge}
use Rattle.hy_wire_runs.proofs.DeskRuns.{one_sends, receives_box, stays_desk}

pub no_numbers : AreNumbers 0 []
no_numbers k low = absurd (omega arith)

few_in : (o : Option FrameOf) → held_in o ≤ 1
few_in None = omega arith
few_in (Some f) = omega arith

-- a taker has at most one frame of each sender at hand
held_few : (xs : List SourceOf) → frames_held xs ≤ length xs
held_few [] = omega arith
held_few (x ∷ xs) = omega (arith, few_in x.frame, held_few xs)

none_held : (xs : List SourceOf) → ((s : ℕ) → s < length xs → (source_at xs s).frame ≡ None) → frames_held xs ≡ 0
none_held [] h = refl
none_held (x ∷ xs) h =
    let r = none_held xs (λ s low. h (suc s) (omega arith)) in
    let z : held_in x.frame ≡ 0 = ap held_in (h zero (omega arith)) in
    omega (arith, r, z)

pub new_merger : (wire : Wire) (boxes : List ℕ) (m : MergerOf) → AreNumbers 0 boxes → length boxes ≤ 4 → IsNewMerger wire boxes m → IsToMerge m × (frames_held m.sources ≡ 0)
new_merger wire boxes m h few n = (
  record {
    few = omega (arith, n.sources.count, few);
    numbered = λ s low. let l : s < length boxes = omega (arith, n.sources.count, low) in let e = h s l in ap (λ (x : SourceOf). x.mailbox) (n.sources.each s l) ∙ omega (arith, e);
  },
  none_held m.sources (λ s low. ap (λ (x : SourceOf). x.frame) (n.sources.each s (omega (arith, n.sources.count, low)))),
)

-- ---- calls

still_to : (old new : MergerOf) → IsToMerge old → StaysMerger old new → IsToMerge new
still_to old new t s = record {
  few = omega (arith, s.count, t.few);
  numbered = λ k low. let l : k < senders old = omega (arith, s.count, low) in s.mailbox k l ∙ t.numbered k l;
}

pub room : (m : MergerOf) (b : BankOf) → HasAtHand m b → b.out < b.limit
room m b h = omega (arith, h.out, h.limit, h.to.few, held_few m.sources)

pub held_out : (m : MergerOf) (b : BankOf) → HasAtHand m b → frames_held m.sources ≤ b.out
held_out m b h = omega (arith, h.out)

returned : (old new : MergerOf) (b b' : BankOf) → HasAtHand old b → StaysMerger old new → Returns (frames_held old.sources) (frames_held new.sources) b b' → HasAtHand new b'
returned old new b b' h s r = record { to = still_to old new h.to s; limit = r.limit ∙ h.limit; out = omega (arith, r.out, h.out) }

brought : (old new : MergerOf) (b b' : BankOf) → HasAtHand old b → StaysMerger old new → Brings (frames_held old.sources) (frames_held new.sources) b b' → HasAtHand new b'
brought old new b b' h s r = record { to = still_to old new h.to s; limit = r.limit ∙ h.limit; out = omega (arith, r.out, h.out) }

-- after an answer of `next_row`
pub merged_hand : (old new : MergerOf) (b b' : BankOf) (r : Merged) → HasAtHand old b → TellsMerged b b' old new r → HasAtHand new b'
merged_hand old new b b' M.Row h t = returned old new b b' h t.1.1.still t.1.2
merged_hand old new b b' (M.Need s) h t = returned old new b b' h t.1.still t.2
merged_hand old new b b' M.End h t = record { to = still_to old new h.to t.2.still; limit = t.4.limit ∙ h.limit; out = omega (arith, t.4.out, h.out, t.3) }

-- a sender whose row is wanted may be taken from
pub may_take : (old new : MergerOf) (s : ℕ) → IsWanted old.sources s → Rests old new → MayTake new
may_take old new s w r none = absurd (none s (omega (arith, r.still.count, w.there)) (record { going = r.closed s w.there ∙ w.lacks.going; none = r.hands s w.there ∙ w.lacks.none }))

-- ---- takes

module _ {S : Type 0} (happens : S → Event → S → Type 0) (at : S → DeskState) (p q : S) (d : DeskState) (is : at p ≡ d) (desk : IsDesk d) (steps : (x : Event) → happens p x q → DeskStep 1 d x (at q))
    (old new : MergerOf) (bank bank' : BankOf) where
  takes : (m : ℕ) (x : Parcel) → happens p (Took m 0 x) q → IsDesk (at q)
  takes m x h = stays_desk 1 d (at q) (Took m 0 x) desk (steps (Took m 0 x) h)

  pub more_stays : (r : Taken) → TellsMergeTake happens p q bank bank' old new r → IsDesk (at q)
  more_stays T.Empty t = stays_desk 1 d (at q) (Empty (source old t.0).mailbox) desk (steps (Empty (source old t.0).mailbox) t.4)
  more_stays (T.Frame f) t = takes (source old t.1.0).mailbox (P.Frame f) t.1.4
  more_stays T.Kept t = takes (source old t.1.0).mailbox (P.Frame t.1.1) t.1.5
  more_stays T.Word t = elim t.3 [
    | inl x ↦ takes (source old t.0).mailbox P.Open x.1
    | inr x ↦ takes (source old t.0).mailbox P.Close x.1
  ]
  more_stays T.Failed t = takes (source old t.0).mailbox P.Fail t.4
  more_stays T.Ended t = subst IsDesk (sym (ap at t.3 ∙ is)) desk

  pub more_goes : (r : Taken) → TellsMergeTake happens p q bank bank' old new r → HasAtHand old bank → GoesOn r new bank'
  more_goes T.Empty t h = tt
  more_goes (T.Frame f) t h = tt
  more_goes T.Kept t h = brought old new bank bank' h t.1.3.still t.1.4
  more_goes T.Word t h = elim t.3 [
    | inl x ↦ returned old new bank bank' h x.0.still t.2
    | inr x ↦ returned old new bank bank' h x.0.still t.2
  ]
  more_goes T.Failed t h = tt
  more_goes T.Ended t h = tt

pub merge_receives : (m : MergerOf) (d : DeskState) → IsToMerge m → IsDesk d → (s : ℕ) → s < senders m → Receives d 1 (source m s).mailbox
merge_receives m d t is s low = subst (Receives d 1) (sym (t.numbered s low)) (receives_box d is s (omega (arith, t.few, low)))

pub merge_alone : (m : MergerOf) (d : DeskState) → IsToMerge m → IsDesk d → (s : ℕ) → s < senders m → length (box d (source m s).mailbox).senders ≡ 1
merge_alone m d t is s low = ap (λ k. length (box d k).senders) (t.numbered s low) ∙ one_sends d is s (omega (arith, t.few, low))
