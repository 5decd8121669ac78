-- While a task of a stage is not done, some task can go on: no put waits, since the receiver of the last mailbox that is full
-- would take; and of the takes that wait, the first one's senders are done.
use Rattle.std.proofs.Common.{◌≡◌, inl, inr, ◌<◌, ◌≤◌, ◌+◌, ◌*◌, ℕ, zero, suc, Bool, true, false, nat_eq, List, [], ◌∷◌, length, refl, ap, sym, subst, ◌∙◌, arith}
use Rattle.std.specs.List.{Contains, range_with_len}
use Rattle.std.proofs.lemmas.List.Elements.{All-contains, All-from_recursion}
use Rattle.hy_job.specs.declared.job.Wire.{Wire}
use Rattle.hy_job.specs.declared.job.Wire.TheVariants as W
use Rattle.hy_job.specs.declared.job.Activity.{Activity}
use Rattle.hy_job.specs.declared.job.Edge.{Edge}
use Rattle.hy_job.specs.declared.job.Job.{Job}
use Rattle.hy_job.specs.declared.job.Stage.{Stage}
use Rattle.hy_job.specs.Sound.{SoundJob, LeavesNoInput, edges_from, edges_into, may_leave}
use Rattle.hy_job.specs.Stages.{IsPart}
use Rattle.hy_job.specs.Boxes.{StageBox, box_for, box_to, boxes_of, boxes_over, boxes_to, edges_in, senders_of}
use Rattle.hy_job.specs.Runs.{ReceivesOver}
use Rattle.hy_job.proofs.Members.{by_cases, in_filter, in_none, in_cases, no_bool}
use Rattle.hy_job.proofs.Pairs.{from_flat_map, from_map, slice_at}
use Rattle.hy_job.proofs.Boxes.{activity_at, nat_is, receivers_have_boxes}
use Rattle.hy_job.proofs.Connections.{at_most_one, rises, ends}
use Rattle.hy_progress.specs.Stuck.{View, IsOver, held_over, IsView, FindsFull, IsAsked, MayTake, FindsEmpty, AllWait, NeverStuck}

-- ---- mailboxes

capacity_is : (job : Job) (stage : Stage) (b : StageBox) → Contains (boxes_of job stage) b → b.capacity ≡ 2 * length b.senders
capacity_is job stage b m =
    let over = from_flat_map (boxes_over job) (edges_in job stage) b m in
    let to = from_flat_map (boxes_to job over.0) (range_with_len 0 job.partitions) b over.2 in
    let made = from_map (box_for job over.0 to.0) (senders_of over.0.wire job.partitions to.0) b to.2 in
    subst (λ (x : StageBox). x.capacity ≡ 2 * length x.senders) made.2 refl

-- a mailbox that is full holds something
pub full_holds : (job : Job) (stage : Stage) (v : View) → SoundJob job → (a j : ℕ) (f : FindsFull job stage v a j) → 0 < held_over job stage v f.edge j f.to
full_holds job stage v sound a j f =
    let reached = receivers_have_boxes job stage sound f.edge f.over.edge f.over.ends f.to j f.over.receiver f.over.sender f.over.over in
    let b = reached.0 in
    let at = slice_at (boxes_of job stage) _ b reached.1.is in
    let capacity = capacity_is job stage b (box_to (boxes_of job stage) f.edge f.to j, at.0, at.1 b) in
    let sender = reached.1.sender in
    let full = f.full b reached.1.is in
    omega (arith, capacity, sender.1, full)

-- ---- edges

-- of a list with at most one item, two items are one
one_item : {X : Type 0} (xs : List X) (x y : X) → length xs ≤ 1 → Contains xs x → Contains xs y → x ≡ y
one_item [] x y few m k = absurd (in_none x m)
one_item (z ∷ []) x y few m k = elim (in_cases z x [] m) [
  | inl p ↦ elim (in_cases z y [] k) [ inl q ↦ sym p ∙ q | inr q ↦ absurd (in_none y q) ]
  | inr p ↦ absurd (in_none x p)
]
one_item (z ∷ w ∷ xs) x y few m k = absurd (omega (arith, few))

-- one edge leaves an activity
one_edge : (job : Job) → SoundJob job → (e f : Edge) → Contains job.edges e → Contains job.edges f → f.from ≡ e.from → f ≡ e
one_edge job sound e f me mf same =
    let up = rises job sound e me in
    let low = ends job sound e me in
    let x = activity_at job sound e.from (omega (arith, up, low)) in
    let own = All-contains (λ (z : Activity). length (edges_from job z.number) ≤ may_leave z.kind) job.activities x.0 (All-from_recursion (λ (z : Activity). length (edges_from job z.number) ≤ may_leave z.kind) job.activities sound.leaving) x.1 in
    let most = at_most_one x.0.kind in
    one_item (edges_from job x.0.number) f e (omega (arith, own, most))
    (in_filter (λ (z : Edge). nat_eq z.from x.0.number) job.edges f (nat_is f.from x.0.number (same ∙ sym x.2)) mf)
    (in_filter (λ (z : Edge). nat_eq z.from x.0.number) job.edges e (nat_is e.from x.0.number (sym x.2)) me)

no_input : (job : Job) → SoundJob job → (e : Edge) (keys : List _) → Contains job.edges e → e.wire ≡ W.Merge keys → edges_into job e.from ≡ []
no_input job sound e keys m is =
    subst (λ (w : Wire). LeavesNoInput w (edges_into job e.from)) is
    (All-contains (λ (z : Edge). LeavesNoInput z.wire (edges_into job z.from)) job.edges e (All-from_recursion (λ (z : Edge). LeavesNoInput z.wire (edges_into job z.from)) job.edges sound.merged) m)

asked_open : (w : Wire) (closed at_hand : ℕ → Bool) (s : ℕ) → IsAsked w closed at_hand s → closed s ≡ false
asked_open W.OneToOne closed at_hand s h = h
asked_open (W.Hash columns) closed at_hand s h = h
asked_open W.Broadcast closed at_hand s h = h
asked_open W.Gather closed at_hand s h = h
asked_open (W.Merge keys) closed at_hand s h = h.0

-- ---- a stage

module _ (job : Job) (stage : Stage) (v : View) (sound : SoundJob job) (part : IsPart job stage.activities) (fits : IsView job stage v) (all : AllWait job stage v) where
  from_inside : (e : Edge) (s r : ℕ) → IsOver job stage e s r → Contains stage.activities e.from
  from_inside e s r over = part.closed e.to e.from over.ends (e, over.edge, inr (refl, refl))

  -- a sender whose Close was not put is one whose Close was not taken
  not_taken : (e : Edge) (s r : ℕ) → IsOver job stage e s r → v.put_close e.from s r ≡ false → v.took_close e.to r e.input s ≡ false
  not_taken e s r over unput = by_cases (v.took_close e.to r e.input s) (λ t. absurd (no_bool (sym (fits.put_first e s r over t) ∙ unput))) (λ f. f)

  -- the mailbox of a sender that is done, and whose Close was not taken, is not empty
  done_holds : (e : Edge) (s r : ℕ) → IsOver job stage e s r → v.done e.from s ≡ true → v.took_close e.to r e.input s ≡ false → 0 < held_over job stage v e s r
  done_holds e s r over done untaken = fits.in_mailbox e s r over (fits.put_all e s r over done) untaken

  -- whom a merge waits for neither is done nor waits itself
  merge_waits : (e : Edge) (keys : List _) (s r : ℕ) → e.wire ≡ W.Merge keys → MayTake job stage v e s r → held_over job stage v e s r ≡ 0 → ⊥
  merge_waits e keys s r is may none = elim (all e.from s (from_inside e s r may.over) may.over.sender) [
    | inl done ↦ (let some = done_holds e s r may.over done (asked_open e.wire (v.took_close e.to r e.input) (v.at_hand e.to r e.input) s may.asked) in omega (arith, some, none))
    | inr idle ↦ elim idle [
      | inl f ↦
          let same = one_edge job sound e f.edge may.over.edge f.over.edge f.leaves in
          let over : ReceivesOver e.wire job.partitions s f.to = subst (λ (x : Edge). ReceivesOver x.wire job.partitions s f.to) same f.over.over in
          let mine : f.to ≡ 0 = subst (λ (w : Wire). ReceivesOver w job.partitions s f.to) is over in
          let its : r ≡ 0 = subst (λ (w : Wire). ReceivesOver w job.partitions s r) is may.over.over in
          let some = full_holds job stage v sound e.from s f in
          let there : held_over job stage v f.edge s f.to ≡ held_over job stage v e s r = ap (λ (x : Edge). held_over job stage v x s f.to) same ∙ ap (λ x. held_over job stage v e s x) (mine ∙ sym its) in
          omega (arith, some, there, none)
      | inr w ↦ in_none w.edge (subst (λ es. Contains es w.edge) (no_input job sound e keys may.over.edge is) (in_filter (λ (x : Edge). nat_eq x.to e.from) job.edges w.edge (nat_is w.edge.to e.from w.enters) w.over.edge))
    ]
  ]

  -- who receives of a full mailbox doesn't wait for takes
  full_is_taken : (w : Wire) (e : Edge) (s r : ℕ) → e.wire ≡ w → IsOver job stage e s r → 0 < held_over job stage v e s r → v.took_close e.to r e.input s ≡ false → FindsEmpty job stage v e.to r → ⊥
  full_is_taken w e s r is over some untaken empty = by w is
    where
      not_asked : IsAsked e.wire (v.took_close e.to r e.input) (v.at_hand e.to r e.input) s → ⊥
      not_asked asked = (let none = empty.empty e s refl (record { over = over; asked = asked }) in omega (arith, none, some))

      asked_by : (x : Wire) → e.wire ≡ x → IsAsked x (v.took_close e.to r e.input) (v.at_hand e.to r e.input) s → ⊥
      asked_by x at asked = not_asked (subst (λ (y : Wire). IsAsked y (v.took_close e.to r e.input) (v.at_hand e.to r e.input) s) (sym at) asked)

      by : (x : Wire) → e.wire ≡ x → ⊥
      by W.OneToOne at = asked_by W.OneToOne at untaken
      by (W.Hash columns) at = asked_by (W.Hash columns) at untaken
      by W.Broadcast at = asked_by W.Broadcast at untaken
      by W.Gather at = asked_by W.Gather at untaken
      by (W.Merge keys) at = (let t = empty.waits e s refl over untaken in merge_waits e keys t.0 r at t.1 (empty.empty e t.0 refl t.1))

  -- no put waits
  no_put : (n a j : ℕ) → length job.activities ≤ a + n → FindsFull job stage v a j → ⊥
  no_put zero a j low f =
      let up = rises job sound f.edge f.over.edge in
      let end = ends job sound f.edge f.over.edge in
      let leaves = f.leaves in
      omega (arith, low, up, end, leaves)
  no_put (suc n) a j low f = elim (all f.edge.to f.to f.over.ends f.over.receiver) [
    | inl done ↦ no_bool (sym (fits.took_all f.edge j f.to f.over done) ∙ untaken)
    | inr idle ↦ elim idle [
      | inl g ↦ (let up = rises job sound f.edge f.over.edge in let leaves = f.leaves in no_put n f.edge.to f.to (omega (arith, low, up, leaves)) g)
      | inr w ↦ full_is_taken f.edge.wire f.edge j f.to refl f.over (full_holds job stage v sound a j f) untaken w
    ]
  ]
    where
      untaken : v.took_close f.edge.to f.to f.edge.input j ≡ false
      untaken = not_taken f.edge j f.to f.over (subst (λ x. v.put_close x j f.to ≡ false) (sym f.leaves) f.unclosed)

  all_done : (n a j : ℕ) → a < n → Contains stage.activities a → j < job.partitions → v.done a j ≡ true
  all_done zero a j low m lj = absurd (omega (arith, low))
  all_done (suc n) a j low m lj = elim (all a j m lj) [
    | inl done ↦ done
    | inr idle ↦ elim idle [
      | inl f ↦ absurd (no_put (length job.activities) a j (omega arith) f)
      | inr w ↦
          let t = w.waits w.edge w.sender w.enters w.over w.unclosed in
          let up = rises job sound w.edge w.over.edge in
          let enters = w.enters in
          let done = all_done n w.edge.from t.0 (omega (arith, low, up, enters)) (from_inside w.edge t.0 j t.1.over) t.1.over.sender in
          let some = done_holds w.edge t.0 j t.1.over done (asked_open w.edge.wire (v.took_close w.edge.to j w.edge.input) (v.at_hand w.edge.to j w.edge.input) t.0 t.1.asked) in
          let none = w.empty w.edge t.0 w.enters t.1 in
          absurd (omega (arith, some, none))
    ]
  ]

pub never_stuck : NeverStuck
never_stuck job stage v sound part fits all a j m lj = all_done job stage v sound part fits all (suc a) a j (omega arith) m lj
