-- What the steps of a run keep of its mailboxes.
use Rattle.std.proofs.Common.{◌≡◌, ◌≢◌, ◌<◌, ◌==◌, ◌∙◌, ℕ, zero, suc, [], ◌∷◌, length, refl, sym, ap, subst, arith, inl, inr}
use Rattle.std.specs.List.{All, IsDistinct}
use Rattle.std.proofs.lemmas.Bool.{cases_Bool}
use borrow.Author.Tests.{eqb-true}
use Rattle.std.proofs.lemmas.List.Elements.{All-cons, All-nil}
use Rattle.hy_mail.specs.declared.desk.DeskPort.{DeskPort}
use Rattle.hy_mail.specs.declared.plan.BoxPlan.{BoxPlan}
use Rattle.hy_mail.specs.declared.parcel.Parcel.{Parcel}
use Rattle.hy_mail.specs.Desks.{DeskState, DeskStep, Receives, Sends, box, fresh_desk, seat_of, word_of}
use Rattle.hy_mail.specs.DeskLaws.{AreAsMade, Made, as_made, desk_words, made}
use Rattle.hy_mail.specs.Events.{Event, Full, Put}
use Rattle.hy_wire_runs.specs.Desks.{AreFree, IsDesk, four_plans, plan_to}

one_sender : IsDistinct ◌==◌ (0 ∷ [])
unfolding IsDistinct
one_sender = (tt, tt)

distinct_plan : (p : BoxPlan) (m : ℕ) → p ≡ plan_to m → IsDistinct ◌==◌ p.senders
distinct_plan p m is = subst (λ (q : BoxPlan). IsDistinct ◌==◌ q.senders) (sym is) one_sender

pub no_sender_twice : (a b c d : BoxPlan) → a ≡ plan_to 0 → b ≡ plan_to 1 → c ≡ plan_to 2 → d ≡ plan_to 3 → All (λ p. IsDistinct ◌==◌ p.senders) (a ∷ b ∷ c ∷ d ∷ [])
no_sender_twice a b c d is_a is_b is_c is_d =
    let Q = λ (p : BoxPlan). IsDistinct ◌==◌ p.senders in
    All-cons Q a (b ∷ c ∷ d ∷ []) (distinct_plan a 0 is_a)
    (All-cons Q b (c ∷ d ∷ []) (distinct_plan b 1 is_b) (All-cons Q c (d ∷ []) (distinct_plan c 2 is_c) (All-cons Q d [] (distinct_plan d 3 is_d) (All-nil Q))))

made_four : (m : ℕ) → m < 4 → made (box (fresh_desk four_plans) m) ≡ (0 ∷ [], 1, 2, 20)
made_four zero low = refl
made_four (suc zero) low = refl
made_four (suc (suc zero)) low = refl
made_four (suc (suc (suc zero))) low = refl
made_four (suc (suc (suc (suc m)))) low = absurd (omega arith)

box_made : (d : DeskState) → IsDesk d → (m : ℕ) → m < 4 → made (box d m) ≡ (0 ∷ [], 1, 2, 20)
unfolding AreAsMade
box_made d h m low = h.1 m ∙ made_four m low

box_there : (d : DeskState) → IsDesk d → (m : ℕ) → m < 4 → m < length d.boxes
unfolding AreAsMade
box_there d h m low = let e : length d.boxes ≡ 4 = h.0 in omega (arith, e, low)

pub sends_box : (d : DeskState) → IsDesk d → (m : ℕ) → m < 4 → Sends d 0 m
sends_box d h m low = (0, box_there d h m low, ap (λ (q : Made). seat_of q.0 0) (box_made d h m low))

pub receives_box : (d : DeskState) → IsDesk d → (m : ℕ) → m < 4 → Receives d 1 m
receives_box d h m low = (box_there d h m low, ap (λ (q : Made). q.1) (box_made d h m low))

pub one_sends : (d : DeskState) → IsDesk d → (m : ℕ) → m < 4 → length (box d m).senders ≡ 1
one_sends d h m low = ap (λ (q : Made). length q.0) (box_made d h m low)

pub two_fields : (d : DeskState) → IsDesk d → (m : ℕ) → m < 4 → (box d m).arity ≡ 2
two_fields d h m low = ap (λ (q : Made). q.2) (box_made d h m low)

pub stays_desk : (task : ℕ) (d e : DeskState) (x : Event) → IsDesk d → DeskStep task d x e → IsDesk e
unfolding AreAsMade
stays_desk task d e x h s = let k = as_made task d e x s in (k.0 ∙ h.0, λ m. k.1 m ∙ h.1 m)

fresh_is : IsDesk (fresh_desk four_plans)
unfolding AreAsMade
fresh_is = (refl, λ m. refl)

fresh_free : AreFree 0 (fresh_desk four_plans)
fresh_free zero from low = refl
fresh_free (suc zero) from low = refl
fresh_free (suc (suc zero)) from low = refl
fresh_free (suc (suc (suc zero))) from low = refl
fresh_free (suc (suc (suc (suc m)))) from low = absurd (omega arith)

pub begins_as_desk : (d : DeskState) → d ≡ fresh_desk four_plans → IsDesk d
begins_as_desk d e = subst IsDesk (sym e) fresh_is

pub begins_free : (d : DeskState) → d ≡ fresh_desk four_plans → AreFree 0 d
begins_free d e = subst (AreFree 0) (sym e) fresh_free

-- ---- words

-- a put leaves the words at other mailboxes
pub put_words : (d e : DeskState) (k m : ℕ) (p : Parcel) → k ≢ m → DeskStep 0 d (Put k p) e → word_of e 0 m ≡ word_of d 0 m
put_words d e k m p apart h = desk_words 0 d e (Put k p) m h ∙
    elim (cases_Bool (k == m)) [
      | inl y ↦ absurd (apart (eqb-true k m y))
      | inr n ↦ rw n refl
    ]

pub full_words : (d e : DeskState) (k m : ℕ) → DeskStep 0 d (Full k) e → word_of e 0 m ≡ word_of d 0 m
full_words d e k m h = desk_words 0 d e (Full k) m h

-- ---- ports

-- what happens at a port of a desk
abbrev pub AtDesk : DeskPort → Event → DeskPort → Type 0
AtDesk p x q = (q.desk.ghost_name ≡ p.desk.ghost_name) × (q.task ≡ p.task) × DeskStep p.task p.desk.now x q.desk.now

pub steps_at : (task : ℕ) (d : DeskState) (p q : DeskPort) → p.desk.now ≡ d → p.task ≡ task → (x : Event) → AtDesk p x q → DeskStep task d x q.desk.now
steps_at task d p q desk is x h = subst (λ (t : ℕ). DeskStep t d x q.desk.now) is (subst (λ (e : DeskState). DeskStep p.task e x q.desk.now) desk h.2)
