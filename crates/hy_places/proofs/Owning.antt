-- What is known of a task's mailboxes.
use Rattle.std.proofs.Common.{◌≡◌, ◌<◌, ◌*◌, ℕ, Some, List, [], ◌∷◌, length, get_or, refl, ap, sym, subst, ◌∙◌, arith}
use Rattle.std.specs.List.{Contains, slice_get}
use Rattle.std.proofs.lemmas.List.FromFn.{get_or-map-range_with_len, length-map-range_with_len}
use Rattle.hy_job.specs.declared.job.Edge.{Edge}
use Rattle.hy_job.specs.declared.job.Job.{Job}
use Rattle.hy_job.specs.declared.job.Stage.{Stage}
use Rattle.hy_job.specs.declared.job.Wire.{Wire}
use Rattle.hy_job.specs.Sound.{SoundJob, activity, arity_of, edges_at, edges_from, first_arity}
use Rattle.hy_job.specs.Stages.{IsPart}
use Rattle.hy_job.specs.Boxes.{IsBox, StageBox, box_to, boxes_of, origin}
use Rattle.hy_places.specs.Places.{by_first, inboxes_count, inboxes_over, outboxes_over, receiver_at, receivers_count, sender_at}
use Rattle.hy_places.specs.Owned.{AreCounted, BoxesAreCounted, InboxesAreOwn, InboxesAreTaken, IsInbox, IsOutbox, OutboxesArePut, OutboxesDiffer, StagesAreOwn}
use Rattle.hy_places.proofs.Numbers.{box_between, edge_fed, edge_left, ends_beside, ends_here, is_box}
use Rattle.hy_places.proofs.Parts.{one_part}
use Rattle.hy_places.proofs.Sending.{how_many, number_at, receivers_have_places, sender_among, sender_there, senders_have_places, some_sender}

pub stages_are_own : StagesAreOwn
stages_are_own job s t p q a here there = ap (λ (xs : List ℕ). let x : Stage = record { activities = xs } in x) (one_part job s.activities t.activities a p q here there)

-- ---- how many there are

are_counted : (job : Job) (stage : Stage) (a input j : ℕ) → AreCounted job stage a input j
are_counted job stage a input j = record {
  fed = λ e first. ap (λ (es : List Edge). length (by_first (λ e. inboxes_over job stage e j) es)) first.is ∙ length-map-range_with_len (λ k. box_to (boxes_of job stage) e j (sender_at e.wire j k 0)) 0 (inboxes_count e.wire job.partitions j);
  unfed = λ none. ap (by_first (λ e. inboxes_over job stage e j)) none;
  left = λ e first. ap (λ (es : List Edge). length (by_first (λ e. outboxes_over job stage e j) es)) first.is ∙ length-map-range_with_len (λ k. box_to (boxes_of job stage) e (receiver_at e.wire j k) j) 0 (receivers_count e.wire job.partitions);
  unleft = λ none. ap (by_first (λ e. outboxes_over job stage e j)) none;
}

pub boxes_are_counted : BoxesAreCounted
boxes_are_counted = are_counted

twice_some : (m n : ℕ) → m ≡ n → 0 < n → 0 < 2 * m
twice_some m n e lt = omega (arith, e, lt)

-- ---- those from which a task takes

module _ (job : Job) (stage : Stage) (sound : SoundJob job) where
  inbox_at : (a input j k : ℕ) → Contains stage.activities a → j < job.partitions → (e : Edge) (rest : List Edge) → edges_at job a input ≡ e ∷ rest → k < inboxes_count e.wire job.partitions j
      → IsInbox job stage a input j k (box_between job stage sound e j (sender_at e.wire j k 0))
  inbox_at a input j k m low e rest is lt =
      let fed = edge_fed job a input e rest is in
      let its = senders_have_places e.wire job.partitions j low in
      let some = some_sender e.wire job.partitions j low in
      let ends = ends_here stage a e m fed.1 in
      let there = is_box job stage sound e e fed.0.0 fed.0.1 fed.0.2 ends j (sender_at e.wire j k 0) low (its.within k 0 lt some) (its.sends k 0 lt some) in
      let numbers = ap (λ (es : List Edge). get_or (by_first (λ e. inboxes_over job stage e j) es) k 0) is
      ∙ get_or-map-range_with_len (λ k. box_to (boxes_of job stage) e j (sender_at e.wire j k 0)) 0 (inboxes_count e.wire job.partitions j) k k 0 lt (omega arith) in
      let many = how_many e.wire job.partitions j (sender_at e.wire j k 0) in
      record {
        is = subst (λ (x : ℕ). IsBox job stage x (box_between job stage sound e j (sender_at e.wire j k 0))) (sym numbers) there;
        edge = fed.0;
        fed = record { rest = rest; is = is };
        to = fed.1;
        feeds = fed.2;
        receiver = refl;
        senders = many;
        origins = λ i li. ap (λ (x : ℕ). (x, get_or (box_between job stage sound e j (sender_at e.wire j k 0)).senders i 0)) fed.2
            ∙ ap (λ (x : ℕ). (input, x)) (sender_there e.wire job.partitions j k i (omega (arith, li, many)));
        arity = sym (ap (first_arity job) is);
        holds = twice_some _ _ many some;
      }

  inbox_of : (a input j k : ℕ) → Contains stage.activities a → j < job.partitions → (es : List Edge) → edges_at job a input ≡ es → k < length (by_first (λ e. inboxes_over job stage e j) es) → (b : StageBox) × IsInbox job stage a input j k b
  inbox_of a input j k m low [] is lt = absurd (omega (arith, lt))
  inbox_of a input j k m low (e ∷ rest) is lt =
      let many = length-map-range_with_len (λ k. box_to (boxes_of job stage) e j (sender_at e.wire j k 0)) 0 (inboxes_count e.wire job.partitions j) in
      (box_between job stage sound e j (sender_at e.wire j k 0), inbox_at a input j k m low e rest is (omega (arith, lt, many)))

  -- ---- and those into which it puts

  outbox_at : IsPart job stage.activities → (a j k : ℕ) → Contains stage.activities a → j < job.partitions → (e : Edge) (rest : List Edge) → edges_from job a ≡ e ∷ rest → k < receivers_count e.wire job.partitions
      → IsOutbox job stage a j k (box_between job stage sound e (receiver_at e.wire j k) j)
  outbox_at part a j k m low e rest is lt =
      let left = edge_left job a e rest is in
      let its = receivers_have_places e.wire job.partitions j low in
      let ends = ends_beside job stage a e part m left.0 left.1 in
      let there = is_box job stage sound e e left.0.0 left.0.1 left.0.2 ends (receiver_at e.wire j k) j (its.within k lt) low (its.receives k lt) in
      let numbers = ap (λ (es : List Edge). get_or (by_first (λ e. outboxes_over job stage e j) es) k 0) is
      ∙ get_or-map-range_with_len (λ k. box_to (boxes_of job stage) e (receiver_at e.wire j k) j) 0 (receivers_count e.wire job.partitions) k k 0 lt (omega arith) in
      let among = sender_among e.wire job.partitions (receiver_at e.wire j k) j j low (its.receives k lt) in
      let many = how_many e.wire job.partitions (receiver_at e.wire j k) j in
      let some = some_sender e.wire job.partitions j low in
      record {
        is = subst (λ (x : ℕ). IsBox job stage x (box_between job stage sound e (receiver_at e.wire j k) j)) (sym numbers) there;
        edge = left.0;
        left = record { rest = rest; is = is };
        from = left.1;
        receiver = refl;
        sender = (number_at e.wire j, among.0, among.1);
        arity = ap (λ (x : ℕ). arity_of (activity job x)) left.1;
        holds = twice_some _ _ many some;
      }

  outbox_of : IsPart job stage.activities → (a j k : ℕ) → Contains stage.activities a → j < job.partitions → (es : List Edge) → edges_from job a ≡ es → k < length (by_first (λ e. outboxes_over job stage e j) es) → (b : StageBox) × IsOutbox job stage a j k b
  outbox_of part a j k m low [] is lt = absurd (omega (arith, lt))
  outbox_of part a j k m low (e ∷ rest) is lt =
      let many = length-map-range_with_len (λ k. box_to (boxes_of job stage) e (receiver_at e.wire j k) j) 0 (receivers_count e.wire job.partitions) in
      (box_between job stage sound e (receiver_at e.wire j k) j, outbox_at part a j k m low e rest is (omega (arith, lt, many)))

pub inboxes_are_taken : InboxesAreTaken
inboxes_are_taken job stage sound a input j k m low lt = inbox_of job stage sound a input j k m low (edges_at job a input) refl lt

pub outboxes_are_put : OutboxesArePut
outboxes_are_put job stage sound part a j k m low lt = outbox_of job stage sound part a j k m low (edges_from job a) refl lt

-- ---- no two are equal

-- one mailbox has a number
one_box : (job : Job) (stage : Stage) (k l : ℕ) (b c : StageBox) → IsBox job stage k b → IsBox job stage l c → k ≡ l → b ≡ c
one_box job stage k l b c p q e = inside (sym p ∙ (ap (λ (x : ℕ). slice_get (boxes_of job stage) x) e ∙ q))
  where
    inside : Some b ≡ Some c → b ≡ c
    inside same = cc

-- two places of one task with one first sender
same_place : (w v : Wire) (n j l k m input other : ℕ) → w ≡ v → j ≡ l → j < n → k < inboxes_count w n j → m < inboxes_count v n l → ◌≡◌ {A = ℕ × ℕ} (input, sender_at w j k 0) (other, sender_at v l m 0) → k ≡ m
same_place w v n j l k m input other same task low lk lm e =
    let its = senders_have_places w n j low in
    let some = some_sender w n j low in
    let second : sender_at w j k 0 ≡ sender_at v l m 0 = ap (λ (t : ℕ × ℕ). t.1) e in
    let alike : sender_at w j k 0 ≡ sender_at w j m 0 = second ∙ (ap (λ (x : ℕ). sender_at v x m 0) (sym task) ∙ ap (λ (x : Wire). sender_at x j m 0) (sym same)) in
    let lm' : m < inboxes_count w n j = subst (λ (x : Wire). m < inboxes_count x n j) (sym same) (subst (λ (x : ℕ). m < inboxes_count v n x) (sym task) lm) in
    (its.once k 0 m 0 lk some lm' some alike).0

pub inboxes_are_own : InboxesAreOwn
inboxes_are_own job stage sound a input j k b other l m ca cb lj ll lk lm same =
    let p = inboxes_are_taken job stage sound a input j k ca lj lk in
    let q = inboxes_are_taken job stage sound b other l m cb ll lm in
    let one : p.0 ≡ q.0 = one_box job stage _ _ p.0 q.0 p.1.is q.1.is same in
    let to : a ≡ b = sym p.1.to ∙ (ap (λ (x : StageBox). x.edge.to) one ∙ q.1.to) in
    let inputs : input ≡ other = sym p.1.feeds ∙ (ap (λ (x : StageBox). x.edge.input) one ∙ q.1.feeds) in
    let task : j ≡ l = sym p.1.receiver ∙ (ap (λ (x : StageBox). x.receiver) one ∙ q.1.receiver) in
    let wires : p.0.edge.wire ≡ q.0.edge.wire = ap (λ (x : StageBox). x.edge.wire) one in
    let some_p : 0 < length p.0.senders = (let s = p.1.senders in let t = some_sender p.0.edge.wire job.partitions j lj in omega (arith, s, t)) in
    let some_q : 0 < length q.0.senders = (let s = q.1.senders in let t = some_sender q.0.edge.wire job.partitions l ll in omega (arith, s, t)) in
    let origins : ◌≡◌ {A = ℕ × ℕ} (input, sender_at p.0.edge.wire j k 0) (other, sender_at q.0.edge.wire l m 0) = sym (p.1.origins 0 some_p) ∙ (ap (λ (x : StageBox). origin x 0) one ∙ q.1.origins 0 some_q) in
    let many_p = (are_counted job stage a input j).fed p.0.edge p.1.fed in
    let many_q = (are_counted job stage b other l).fed q.0.edge q.1.fed in
    (to, inputs, task, same_place p.0.edge.wire q.0.edge.wire job.partitions j l k m input other wires task lj (omega (arith, lk, many_p)) (omega (arith, lm, many_q)) origins)

pub outboxes_differ : OutboxesDiffer
outboxes_differ job stage sound part a j ca lj k m lk lm same =
    let p = outboxes_are_put job stage sound part a j k ca lj lk in
    let q = outboxes_are_put job stage sound part a j m ca lj lm in
    let one : p.0 ≡ q.0 = one_box job stage _ _ p.0 q.0 p.1.is q.1.is same in
    let wires : p.0.edge.wire ≡ q.0.edge.wire = ap (λ (x : StageBox). x.edge.wire) one in
    let receivers : receiver_at p.0.edge.wire j k ≡ receiver_at p.0.edge.wire j m =
    sym p.1.receiver ∙ (ap (λ (x : StageBox). x.receiver) one ∙ (q.1.receiver ∙ ap (λ (x : Wire). receiver_at x j m) (sym wires))) in
    let many_p = (are_counted job stage a 0 j).left p.0.edge p.1.left in
    (receivers_have_places p.0.edge.wire job.partitions j lj).once k m (omega (arith, lk, many_p)) (omega (arith, lm, many_p)) receivers
