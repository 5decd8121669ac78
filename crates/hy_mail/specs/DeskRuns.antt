-- Any number of steps of tasks on a desk.
use Rattle.std.specs.Prelude.{◌≡◌, ◌≢◌, ◌==◌, ℕ, List, [], ◌∷◌, ◌++◌, length, if◌then◌else◌, Some}
use Rattle.std.specs.List.{Contains}
use Rattle.hy_mail.specs.declared.parcel.Parcel.{Parcel}
use Rattle.hy_mail.specs.declared.parcel.Parcel.TheVariants.{Close}
use Rattle.hy_mail.specs.declared.parcel.Posted.{Posted}
use Rattle.hy_mail.specs.declared.plan.BoxPlan.{BoxPlan}
use Rattle.hy_mail.specs.Desks.{DeskState, DeskStep, box, fresh_desk, seat_of, word_of}
use Rattle.hy_mail.specs.Events.{Event, Put, Took, Raise, Look, Full, Empty}
use Rattle.hy_mail.specs.Words.{Leads}

-- a step: the task, and what it did
abbrev pub Happening : Type 0
Happening = ℕ × Event

-- these steps lead from one desk to another
abbrev pub DeskRan : DeskState → List Happening → DeskState → Type 0
DeskRan d [] e = e ≡ d
DeskRan d (x ∷ xs) e = (f : DeskState) × DeskStep x.0 d x.1 f × DeskRan f xs e

-- the parcels of one sender, in order
unfoldable pub of_sender : ℕ → List Posted → List Parcel
of_sender s [] = []
of_sender s (x ∷ xs) = if x.from == s then x.parcel ∷ of_sender s xs else of_sender s xs

-- those that a mailbox holds
abbrev pub held : DeskState → ℕ → ℕ → List Parcel
held d m s = of_sender s (box d m).queue

abbrev pub put_at : ℕ → Event → List Parcel
put_at m (Put k p) = if k == m then p ∷ [] else []
put_at m (Took k s p) = []
put_at m Raise = []
put_at m (Look seen) = []
put_at m (Full k) = []
put_at m (Empty k) = []

abbrev pub took_at : ℕ → ℕ → Event → List Parcel
took_at m s (Put k p) = []
took_at m s (Took k t p) = if k == m then (if t == s then p ∷ [] else []) else []
took_at m s Raise = []
took_at m s (Look seen) = []
took_at m s (Full k) = []
took_at m s (Empty k) = []

-- what a task put into a mailbox in these steps
unfoldable pub puts_of : ℕ → ℕ → List Happening → List Parcel
puts_of task m [] = []
puts_of task m (x ∷ xs) = (if x.0 == task then put_at m x.1 else []) ++ puts_of task m xs

-- what was taken of a sender of a mailbox
unfoldable pub takes_of : ℕ → ℕ → List Happening → List Parcel
takes_of m s [] = []
takes_of m s (x ∷ xs) = took_at m s x.1 ++ takes_of m s xs

-- ---- laws

-- a step of one task leaves how far the words of the others have come
abbrev pub OthersWait : Type 0
OthersWait = (task other : ℕ) (d e : DeskState) (x : Event) (m : ℕ) → other ≢ task → DeskStep task d x e → word_of e other m ≡ word_of d other m

-- whose mailboxes they are, for every task
abbrev pub MailboxesStay : Type 0
MailboxesStay = (task : ℕ) (d e : DeskState) (x : Event) → DeskStep task d x e
    → (length e.boxes ≡ length d.boxes) × ((m : ℕ) → ((box e m).senders ≡ (box d m).senders) × ((box e m).receiver ≡ (box d m).receiver) × ((box e m).capacity ≡ (box d m).capacity) × ((box e m).arity ≡ (box d m).arity))

-- of each sender, what the mailbox held and what was put is what was taken and what the mailbox holds
abbrev pub RunsDeliver : Type 0
RunsDeliver = (d e : DeskState) (xs : List Happening) (m s task : ℕ) → seat_of (box d m).senders task ≡ Some s → DeskRan d xs e
    → held d m s ++ puts_of task m xs ≡ takes_of m s xs ++ held e m s

-- what a task puts leads its word on
abbrev pub RunsLead : Type 0
RunsLead = (d e : DeskState) (xs : List Happening) (m task : ℕ) → DeskRan d xs e → Leads (word_of d task m) (puts_of task m xs) (word_of e task m)

-- on a desk that began empty, what was taken of a sender whose Close was taken is all that it put
abbrev pub ClosedIsTaken : Type 0
ClosedIsTaken = (plans : List BoxPlan) (e : DeskState) (xs : List Happening) (m s task : ℕ) → seat_of (box (fresh_desk plans) m).senders task ≡ Some s
    → DeskRan (fresh_desk plans) xs e → Contains (takes_of m s xs) Close → takes_of m s xs ≡ puts_of task m xs
