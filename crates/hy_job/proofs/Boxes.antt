-- The tasks and mailboxes of a stage, each found again by its number.
use Rattle.std.proofs.Common.{◌≡◌, ◌≢◌, inl, inr, ◌<◌, ◌+◌, ℕ, suc, Bool, true, false, nat_eq, ◌&&◌, List, [], ◌∷◌, map, filter, length, get_or, refl, ap, sym, subst, ◌∙◌, arith}
use Rattle.std.specs.List.{AllPairs, Contains, list_any, range_with_len}
use Rattle.std.specs.List.Sorted.{IsPermutation, IsStrictlyIncreasing}
use Rattle.std.proofs.lemmas.List.Elements.{All-contains, All-from_recursion}
use Rattle.std.proofs.lemmas.List.Kept.{AllPairs-from_increasing}
use Rattle.std.proofs.lemmas.List.{get_or-map}
use Rattle.std.proofs.lemmas.List.FromFn.{get_or-range_with_len}
use Rattle.hy_job.specs.declared.job.Activity.{Activity}
use Rattle.hy_job.specs.declared.job.Edge.{Edge}
use Rattle.hy_job.specs.declared.job.Job.{Job}
use Rattle.hy_job.specs.declared.job.Stage.{Stage}
use Rattle.hy_job.specs.declared.job.Wire.{Wire}
use Rattle.hy_job.specs.declared.job.Wire.TheVariants as W
use Rattle.hy_job.specs.Sound.{SoundJob, edges_into, edges_at, inputs}
use Rattle.hy_job.specs.Runs.{ReceivesOver, SendsBy}
use Rattle.hy_job.specs.Boxes.{tasks_of, task_at, StageBox, senders_of, box_for, boxes_to, boxes_over, edges_in, boxes_of, origin, is_between, box_to, AreNumbered, TasksAreNumbered, IsBox, HasOrigins, BoxesHaveOrigins, OriginsAreOneToOne, IsReached, ReceiversHaveBoxes, BoxesAreReached}
use Rattle.hy_job.proofs.Members.{no_bool, by_cases, in_here, in_there, in_none, in_cases, in_filter, from_filter, nat_same, any_from, any_to, rising_rest}
use Rattle.hy_job.proofs.Pairs.{Pairwise, pairwise_filter, pairwise_weaker, pairwise_map, pairwise_flat_map, one_item, one_place, in_map, from_map, in_flat_map, from_flat_map, from_range, in_range, range_distinct, permutation_distinct, get_same, at_in, slice_at, slice_from, place_is}

pub both : (a b : Bool) → a && b ≡ true → (a ≡ true) × (b ≡ true)
both true b e = (refl, e)
both false b e = absurd (no_bool (sym e))

and_true : (a b : Bool) → a ≡ true → b ≡ true → a && b ≡ true
and_true a b e f = rw (e, f) refl

pub is_nat : (a b : ℕ) → nat_eq a b ≡ true → a ≡ b
is_nat a b t = grind arith

pub nat_is : (a b : ℕ) → a ≡ b → nat_eq a b ≡ true
nat_is a b e = ap (λ z. nat_eq z b) e ∙ nat_same b

single : {X : Type 0} (x s : X) → Contains (x ∷ []) s → x ≡ s
single x s m = elim (in_cases x s [] m) [ inl e ↦ e | inr k ↦ absurd (in_none s k) ]

-- ---- tasks

rising_distinct : (xs : List ℕ) → AllPairs (λ a b. a < b) xs → Pairwise ◌≢◌ xs
rising_distinct [] h = tt
rising_distinct (x ∷ xs) h = (λ y m e. (let l : x < get_or xs m.0 y = h 0 (suc m.0) y (omega arith) (omega (arith, m.1)) in omega (arith, l, m.2, e)), rising_distinct xs (rising_rest x xs h))

module _ (partitions : ℕ) (stage : Stage) (up : IsStrictlyIncreasing stage.activities) where
  abbrev is_task : ℕ → ℕ → ℕ × ℕ → Bool
  is_task a j t = nat_eq t.0 a && nat_eq t.1 j

  tasks_differ : Pairwise (λ (t u : ℕ × ℕ). (t.0 ≡ u.0) → (t.1 ≡ u.1) → ⊥) (tasks_of partitions stage)
  tasks_differ = pairwise_flat_map (λ (t u : ℕ × ℕ). (t.0 ≡ u.0) → (t.1 ≡ u.1) → ⊥) (λ a. map (λ j. (a, j)) (range_with_len 0 partitions)) stage.activities
      (λ a. pairwise_map (λ (t u : ℕ × ℕ). (t.0 ≡ u.0) → (t.1 ≡ u.1) → ⊥) (λ j. (a, j)) (range_with_len 0 partitions) (pairwise_weaker ◌≢◌ _ (λ x y ne e f. ne f) (range_with_len 0 partitions) (range_distinct 0 partitions)))
      (pairwise_weaker ◌≢◌ _ (λ x z ne t u m k e f. ne (let q = from_map (λ j. (x, j)) (range_with_len 0 partitions) t m in let p = from_map (λ j. (z, j)) (range_with_len 0 partitions) u k in ap (λ (v : ℕ × ℕ). v.0) q.2 ∙ (e ∙ sym (ap (λ (v : ℕ × ℕ). v.0) p.2))))
      stage.activities (rising_distinct stage.activities (AllPairs-from_increasing stage.activities up)))

  one_task : (a j : ℕ) → Pairwise (λ (t u : ℕ × ℕ). is_task a j t ≡ true → is_task a j u ≡ true → ⊥) (tasks_of partitions stage)
  one_task a j = pairwise_weaker _ _ (λ t u d e f. (let p = both _ _ e in let q = both _ _ f in d (is_nat t.0 a p.0 ∙ sym (is_nat u.0 a q.0)) (is_nat t.1 j p.1 ∙ sym (is_nat u.1 j q.1)))) (tasks_of partitions stage) tasks_differ

  task_in : (a j : ℕ) → Contains stage.activities a → j < partitions → Contains (tasks_of partitions stage) (a, j)
  task_in a j m lt = in_flat_map (λ x. map (λ y. (x, y)) (range_with_len 0 partitions)) stage.activities a (a, j) m (in_map (λ y. (a, y)) (range_with_len 0 partitions) j (in_range partitions j lt))

  place_of_task : (a j : ℕ) (m : Contains (tasks_of partitions stage) (a, j)) → task_at partitions stage a j ≡ m.0
  place_of_task a j m = place_is (is_task a j) (tasks_of partitions stage) m.0 (a, j) (a, j) (one_task a j) m.1 m.2 (and_true _ _ (nat_same a) (nat_same j))

  are_numbered : AreNumbered partitions stage
  are_numbered = record {
    there = λ k lt.
        let q = from_flat_map (λ x. map (λ y. (x, y)) (range_with_len 0 partitions)) stage.activities (get_or (tasks_of partitions stage) k (0, 0)) (at_in (tasks_of partitions stage) k (0, 0) lt) in
        let p = from_map (λ y. (q.0, y)) (range_with_len 0 partitions) (get_or (tasks_of partitions stage) k (0, 0)) q.2 in
        let r = from_range 0 partitions p.0 p.1 in (
          subst (Contains stage.activities) (ap (λ (t : ℕ × ℕ). t.0) p.2) q.1,
          subst (λ x. x < partitions) (ap (λ (t : ℕ × ℕ). t.1) p.2) (omega (arith, r.1)),
        );
    back = λ k lt. place_is (is_task (get_or (tasks_of partitions stage) k (0, 0)).0 (get_or (tasks_of partitions stage) k (0, 0)).1) (tasks_of partitions stage) k (get_or (tasks_of partitions stage) k (0, 0)) (0, 0)
        (one_task _ _) lt refl (and_true _ _ (nat_same (get_or (tasks_of partitions stage) k (0, 0)).0) (nat_same (get_or (tasks_of partitions stage) k (0, 0)).1));
    number = λ a j m lt. (let t = task_in a j m lt in subst (λ k. k < length (tasks_of partitions stage)) (sym (place_of_task a j t)) t.1);
    found = λ a j m lt. (let t = task_in a j m lt in ap (λ k. get_or (tasks_of partitions stage) k (0, 0)) (place_of_task a j t) ∙ (get_same (tasks_of partitions stage) t.0 (a, j) (0, 0) t.1 ∙ t.2));
  }

pub tasks_numbered : TasksAreNumbered
tasks_numbered job stage part = are_numbered job.partitions stage part.rising

-- ---- edges

-- the edges do not end in one input
abbrev Differ : Edge → Edge → Type 0
Differ e f = (e.to ≡ f.to) → (e.input ≡ f.input) → ⊥

edges_apart : (es : List Edge) → ((e : Edge) → Contains es e → Pairwise ◌≢◌ (map (λ (x : Edge). x.input) (filter (λ (x : Edge). nat_eq x.to e.to) es))) → Pairwise Differ es
edges_apart [] h = tt
edges_apart (e ∷ es) h = (
  λ f m to input.
      let g = h e (in_here e es) in
      let all : Pairwise ◌≢◌ (e.input ∷ map (λ (x : Edge). x.input) (filter (λ (x : Edge). nat_eq x.to e.to) es)) = rw (nat_same e.to) at g in
      all.0 f.input (in_map (λ (x : Edge). x.input) (filter (λ (x : Edge). nat_eq x.to e.to) es) f (in_filter (λ (x : Edge). nat_eq x.to e.to) es f (nat_is f.to e.to (sym to)) m)) input,
  edges_apart es (λ f m. let g = h f (in_there e f es m) in by_cases (nat_eq e.to f.to)
      (λ t. (let all : Pairwise ◌≢◌ (e.input ∷ map (λ (x : Edge). x.input) (filter (λ (x : Edge). nat_eq x.to f.to) es)) = rw t at g in all.1))
      (λ n. (let all : Pairwise ◌≢◌ (map (λ (x : Edge). x.input) (filter (λ (x : Edge). nat_eq x.to f.to) es)) = rw n at g in all))),
)

-- the activity of a number
pub activity_at : (job : Job) → SoundJob job → (a : ℕ) → a < length job.activities → (x : Activity) × Contains job.activities x × (x.number ≡ a)
activity_at job s a lt = found job.activities s.numbered lt
  where
    found : (xs : List Activity) → map (λ (x : Activity). x.number) xs ≡ range_with_len 0 (length xs) → a < length xs → (x : Activity) × Contains xs x × (x.number ≡ a)
    found [] e l = absurd (omega (arith, l))
    found (x ∷ xs) e l =
        let n = get_or-map (λ (y : Activity). y.number) (x ∷ xs) a x 0 l in
        let r = get_or-range_with_len 0 (length (x ∷ xs)) a 0 l in
        let q : get_or (map (λ (y : Activity). y.number) (x ∷ xs)) a 0 ≡ 0 + a = ap (λ ys. get_or ys a 0) e ∙ r in
        (get_or (x ∷ xs) a x, at_in (x ∷ xs) a x l, omega (arith, n, q))

pub edges_differ : (job : Job) → SoundJob job → Pairwise Differ job.edges
edges_differ job s = edges_apart job.edges (λ e m.
    let lt = All-contains (λ (x : Edge). x.to < length job.activities) job.edges e (All-from_recursion (λ (x : Edge). x.to < length job.activities) job.edges s.edges_end) m in
    let a = activity_at job s e.to lt in
    let fed = All-contains (λ (x : Activity). IsPermutation (range_with_len 0 (inputs x.kind)) (map (λ (y : Edge). y.input) (edges_into job x.number))) job.activities a.0
    (All-from_recursion (λ (x : Activity). IsPermutation (range_with_len 0 (inputs x.kind)) (map (λ (y : Edge). y.input) (edges_into job x.number))) job.activities s.fed) a.1 in
    subst (λ k. Pairwise ◌≢◌ (map (λ (y : Edge). y.input) (edges_into job k))) a.2 (permutation_distinct _ _ fed (range_distinct 0 _)))

-- an edge of the job is the only one at its input
pub only_edge : (job : Job) → SoundJob job → (e : Edge) → Contains job.edges e → (P : List Edge → Type 0) → ((es : List Edge) → P (e ∷ es)) → P (edges_at job e.to e.input)
only_edge job s e m P f = first (edges_at job e.to e.input) refl
    (in_filter (λ (x : Edge). nat_eq x.input e.input) (edges_into job e.to) e (nat_same e.input) (in_filter (λ (x : Edge). nat_eq x.to e.to) job.edges e (nat_same e.to) m))
  where
    first : (es : List Edge) → edges_at job e.to e.input ≡ es → Contains es e → P es
    first [] is k = absurd (in_none e k)
    first (x ∷ es) is k =
        let inside = subst (λ ys. Contains ys x) (sym is) (in_here x es) in
        let p = from_filter (λ (y : Edge). nat_eq y.input e.input) (edges_into job e.to) x inside in
        let q = from_filter (λ (y : Edge). nat_eq y.to e.to) job.edges x p.0 in
        let to = is_nat x.to e.to q.1 in
        let input = is_nat x.input e.input p.1 in
        let same = one_item Differ job.edges x e (edges_differ job s) q.0 m (λ d. d to input) (λ d. d (sym to) (sym input)) in
        subst (λ y. P (y ∷ es)) (sym same) (f es)

-- ---- senders

senders_apart : (w : Wire) (n r : ℕ) → Pairwise (λ xs ys. (s : ℕ) → Contains xs s → Contains ys s → ⊥) (senders_of w n r)
senders_apart W.OneToOne n r = (λ y m. absurd (in_none y m), tt)
senders_apart (W.Hash columns) n r = (λ y m. absurd (in_none y m), tt)
senders_apart W.Broadcast n r = (λ y m. absurd (in_none y m), tt)
senders_apart W.Gather n r = by_cases (nat_eq r 0) (λ t. rw t (λ y m. absurd (in_none y m), tt)) (λ f. rw f tt)
senders_apart (W.Merge keys) n r = by_cases (nat_eq r 0)
    (λ t. rw t (pairwise_map _ (λ s. s ∷ []) (range_with_len 0 n) (pairwise_weaker ◌≢◌ _ (λ x y ne s m k. ne (single x s m ∙ sym (single y s k))) (range_with_len 0 n) (range_distinct 0 n))))
    (λ f. rw f tt)

-- who the senders of a mailbox are
record AreSenders (w : Wire) (n r : ℕ) (senders : List ℕ) : Type 0 where
  distinct : Pairwise ◌≢◌ senders
  each : (s : ℕ) → Contains senders s → (s < n) × ReceivesOver w n s r

all_senders : (w : Wire) (n r : ℕ) → ((s : ℕ) → ReceivesOver w n s r) → AreSenders w n r (range_with_len 0 n)
all_senders w n r over = record { distinct = range_distinct 0 n; each = λ s m. (let q = from_range 0 n s m in (omega (arith, q.1), over s)) }

one_sender : (w : Wire) (n r x : ℕ) → x < n → ReceivesOver w n x r → AreSenders w n r (x ∷ [])
one_sender w n r x lt over = record { distinct = (λ y m. absurd (in_none y m), tt); each = λ s m. (let e = single x s m in (omega (arith, e, lt), subst (λ y. ReceivesOver w n y r) e over)) }

are_senders : (w : Wire) (n r : ℕ) (senders : List ℕ) → r < n → Contains (senders_of w n r) senders → AreSenders w n r senders
are_senders W.OneToOne n r senders lt m = subst (AreSenders W.OneToOne n r) (single _ _ m) (one_sender W.OneToOne n r r lt refl)
are_senders (W.Hash columns) n r senders lt m = subst (AreSenders (W.Hash columns) n r) (single _ _ m) (all_senders (W.Hash columns) n r (λ s. lt))
are_senders W.Broadcast n r senders lt m = subst (AreSenders W.Broadcast n r) (single _ _ m) (all_senders W.Broadcast n r (λ s. lt))
are_senders W.Gather n r senders lt m = by_cases (nat_eq r 0)
    (λ t. (let k : Contains (range_with_len 0 n ∷ []) senders = rw t at m in subst (AreSenders W.Gather n r) (single _ _ k) (all_senders W.Gather n r (λ s. is_nat r 0 t))))
    (λ f. (let k : Contains [] senders = rw f at m in absurd (in_none senders k)))
are_senders (W.Merge keys) n r senders lt m = by_cases (nat_eq r 0)
    (λ t.
    let k : Contains (map (λ s. s ∷ []) (range_with_len 0 n)) senders = rw t at m in
    let q = from_map (λ s. s ∷ []) (range_with_len 0 n) senders k in
    let p = from_range 0 n q.0 q.1 in
    subst (AreSenders (W.Merge keys) n r) q.2 (one_sender (W.Merge keys) n r q.0 (omega (arith, p.1)) (is_nat r 0 t)))
    (λ f. (let k : Contains [] senders = rw f at m in absurd (in_none senders k)))

-- each sender is in one of the lists
sender_in : (w : Wire) (n r s : ℕ) → r < n → s < n → ReceivesOver w n s r → (senders : List ℕ) × Contains (senders_of w n r) senders × Contains senders s
sender_in W.OneToOne n r s lr ls over = (r ∷ [], in_here (r ∷ []) [], subst (Contains (r ∷ [])) over (in_here r []))
sender_in (W.Hash columns) n r s lr ls over = (range_with_len 0 n, in_here _ [], in_range n s ls)
sender_in W.Broadcast n r s lr ls over = (range_with_len 0 n, in_here _ [], in_range n s ls)
sender_in W.Gather n r s lr ls over = rw (nat_is r 0 over) (range_with_len 0 n, in_here _ [], in_range n s ls)
sender_in (W.Merge keys) n r s lr ls over = rw (nat_is r 0 over) (s ∷ [], in_map (λ x. x ∷ []) (range_with_len 0 n) s (in_range n s ls), in_here s [])

-- ---- mailboxes

-- the mailbox's rows come from an activity's task to another's
abbrev Meets : StageBox → StageBox → Type 0
Meets b c = (b.edge.to ≡ c.edge.to) × (b.edge.input ≡ c.edge.input) × (b.receiver ≡ c.receiver) × ((s : ℕ) × Contains b.senders s × Contains c.senders s)

abbrev Apart : StageBox → StageBox → Type 0
Apart b c = Meets b c → ⊥

-- how a mailbox of the stage is made
record IsMade (job : Job) (stage : Stage) (b : StageBox) : Type 0 where
  edge : Contains job.edges b.edge
  ends : Contains stage.activities b.edge.to
  receiver : b.receiver < job.partitions
  senders : AreSenders b.edge.wire job.partitions b.receiver b.senders

module _ (job : Job) (stage : Stage) (sound : SoundJob job) where
  to_receiver : (e : Edge) (r : ℕ) (b : StageBox) → Contains (boxes_to job e r) b → (b.edge ≡ e) × (b.receiver ≡ r) × Contains (senders_of e.wire job.partitions r) b.senders
  to_receiver e r b m =
      let q = from_map (box_for job e r) (senders_of e.wire job.partitions r) b m in
      (ap (λ (x : StageBox). x.edge) (sym q.2), ap (λ (x : StageBox). x.receiver) (sym q.2), subst (Contains (senders_of e.wire job.partitions r)) (ap (λ (x : StageBox). x.senders) q.2) q.1)

  over_edge : (e : Edge) (b : StageBox) → Contains (boxes_over job e) b → b.edge ≡ e
  over_edge e b m = let q = from_flat_map (boxes_to job e) (range_with_len 0 job.partitions) b m in (to_receiver e q.0 b q.2).0

  apart_to : (e : Edge) (r : ℕ) → Pairwise Apart (boxes_to job e r)
  apart_to e r = pairwise_map Apart (box_for job e r) (senders_of e.wire job.partitions r)
      (pairwise_weaker _ _ (λ xs ys a m. a m.3.0 m.3.1 m.3.2) (senders_of e.wire job.partitions r) (senders_apart e.wire job.partitions r))

  apart_over : (e : Edge) → Pairwise Apart (boxes_over job e)
  apart_over e = pairwise_flat_map Apart (boxes_to job e) (range_with_len 0 job.partitions) (apart_to e)
      (pairwise_weaker ◌≢◌ _ (λ x z ne b c m k meets. ne (sym (to_receiver e x b m).1 ∙ (meets.2 ∙ (to_receiver e z c k).1))) (range_with_len 0 job.partitions) (range_distinct 0 job.partitions))

  all_apart : Pairwise Apart (boxes_of job stage)
  all_apart = pairwise_flat_map Apart (boxes_over job) (edges_in job stage) apart_over
      (pairwise_weaker Differ _ (λ e f d b c m k meets. (let p = over_edge e b m in let q = over_edge f c k in d
      (ap (λ (x : Edge). x.to) (sym p) ∙ (meets.0 ∙ ap (λ (x : Edge). x.to) q)) (ap (λ (x : Edge). x.input) (sym p) ∙ (meets.1 ∙ ap (λ (x : Edge). x.input) q))))
      (edges_in job stage) (pairwise_filter Differ _ job.edges (edges_differ job sound)))

  is_made : (b : StageBox) → Contains (boxes_of job stage) b → IsMade job stage b
  is_made b m =
      let q = from_flat_map (boxes_over job) (edges_in job stage) b m in
      let p = from_flat_map (boxes_to job q.0) (range_with_len 0 job.partitions) b q.2 in
      let k = to_receiver q.0 p.0 b p.2 in
      let e = from_filter (λ (x : Edge). list_any (λ a. nat_eq a x.to) stage.activities) job.edges q.0 q.1 in
      let r = from_range 0 job.partitions p.0 p.1 in
      let lt : p.0 < job.partitions = omega (arith, r.1) in
      record {
        edge = subst (Contains job.edges) (sym k.0) e.0;
        ends = subst (λ (x : Edge). Contains stage.activities x.to) (sym k.0) (any_from stage.activities q.0.to e.1);
        receiver = subst (λ x. x < job.partitions) (sym k.1) lt;
        senders = subst (λ (x : Edge). AreSenders x.wire job.partitions b.receiver b.senders) (sym k.0) (subst (λ x. AreSenders q.0.wire job.partitions x b.senders) (sym k.1) (are_senders q.0.wire job.partitions p.0 b.senders lt k.2));
      }

  box_in : (k : ℕ) (b : StageBox) → IsBox job stage k b → Contains (boxes_of job stage) b
  box_in k b is = let q = slice_at (boxes_of job stage) k b is in (k, q.0, q.1 b)

  between : (e : Edge) (r s : ℕ) (b : StageBox) → is_between e r s b ≡ true → (b.edge.to ≡ e.to) × (b.edge.input ≡ e.input) × (b.receiver ≡ r) × Contains b.senders s
  between e r s b t =
      let p = both _ _ t in
      let q = both _ _ p.1 in
      let o = both _ _ q.1 in
      (is_nat b.edge.to e.to p.0, is_nat b.edge.input e.input q.0, is_nat b.receiver r o.0, any_from b.senders s o.1)

  is_it : (e : Edge) (r s : ℕ) (b : StageBox) → b.edge ≡ e → b.receiver ≡ r → Contains b.senders s → is_between e r s b ≡ true
  is_it e r s b p q m = and_true _ _ (nat_is _ _ (ap (λ (x : Edge). x.to) p)) (and_true _ _ (nat_is _ _ (ap (λ (x : Edge). x.input) p)) (and_true _ _ (nat_is _ _ q) (any_to b.senders s m)))

  one_between : (e : Edge) (r s : ℕ) → Pairwise (λ b c. is_between e r s b ≡ true → is_between e r s c ≡ true → ⊥) (boxes_of job stage)
  one_between e r s = pairwise_weaker Apart _ (λ b c a t u. (let p = between e r s b t in let q = between e r s c u in a (p.0 ∙ sym q.0, p.1 ∙ sym q.1, p.2 ∙ sym q.2, (s, p.3, q.3)))) (boxes_of job stage) all_apart

  number_is : (e : Edge) (r s k : ℕ) (b : StageBox) → IsBox job stage k b → is_between e r s b ≡ true → box_to (boxes_of job stage) e r s ≡ k
  number_is e r s k b is t = let q = slice_at (boxes_of job stage) k b is in place_is (is_between e r s) (boxes_of job stage) k b b (one_between e r s) q.0 (q.1 b) t

  has_origins : (b : StageBox) → IsMade job stage b → HasOrigins job stage b
  has_origins b made = record {
    edge = made.edge;
    ends = made.ends;
    receiver = made.receiver;
    within = λ i lt. (made.senders.each (get_or b.senders i 0) (at_in b.senders i 0 lt)).0;
    over = λ i lt. (made.senders.each (get_or b.senders i 0) (at_in b.senders i 0 lt)).1;
    sends = λ i lt. only_edge job sound b.edge made.edge (λ es. SendsBy es job.partitions (get_or b.senders i 0) b.receiver) (λ es. (made.senders.each (get_or b.senders i 0) (at_in b.senders i 0 lt)).1);
  }

  reached : (e : Edge) → Contains job.edges e → Contains stage.activities e.to → (r s : ℕ) → r < job.partitions → s < job.partitions → ReceivesOver e.wire job.partitions s r → (b : StageBox) × IsReached job stage e r s b
  reached e m ends r s lr ls over =
      let q = sender_in e.wire job.partitions r s lr ls over in
      let b = box_for job e r q.0 in
      let inside = in_flat_map (boxes_over job) (edges_in job stage) e b (in_filter (λ (x : Edge). list_any (λ a. nat_eq a x.to) stage.activities) job.edges e (any_to stage.activities e.to ends) m)
      (in_flat_map (boxes_to job e) (range_with_len 0 job.partitions) r b (in_range job.partitions r lr) (in_map (box_for job e r) (senders_of e.wire job.partitions r) q.0 q.1)) in
      let is = slice_from (boxes_of job stage) inside.0 b b inside.1 inside.2 in
      (b, record { is = subst (λ k. IsBox job stage k b) (sym (number_is e r s inside.0 b is (is_it e r s b refl refl q.2))) is; edge = refl; receiver = refl; sender = q.2 })

  one_origin : (k l : ℕ) (b c : StageBox) → IsBox job stage k b → IsBox job stage l c → (i j : ℕ) → i < length b.senders → j < length c.senders → b.edge.to ≡ c.edge.to → b.receiver ≡ c.receiver → origin b i ≡ origin c j → (k ≡ l) × (i ≡ j)
  one_origin k l b c p q i j li lj to receiver same =
      let at_k = slice_at (boxes_of job stage) k b p in
      let at_l = slice_at (boxes_of job stage) l c q in
      let input : b.edge.input ≡ c.edge.input = ap (λ (o : ℕ × ℕ). o.0) same in
      let sender : get_or b.senders i 0 ≡ get_or c.senders j 0 = ap (λ (o : ℕ × ℕ). o.1) same in
      let mine = at_in b.senders i 0 li in
      let its = subst (Contains c.senders) (sym sender) (at_in c.senders j 0 lj) in
      let meets : Meets b c = (to, input, receiver, (get_or b.senders i 0, mine, its)) in
      let back : Meets c b = (sym to, sym input, sym receiver, (get_or b.senders i 0, its, mine)) in
      let place : k ≡ l = one_place Apart (boxes_of job stage) k l b all_apart at_k.0 at_l.0
      (λ a. a (subst (λ x. Meets x (get_or (boxes_of job stage) l b)) (sym (at_k.1 b)) (subst (Meets b) (sym (at_l.1 b)) meets)))
      (λ a. a (subst (λ x. Meets x (get_or (boxes_of job stage) k b)) (sym (at_l.1 b)) (subst (Meets c) (sym (at_k.1 b)) back))) in
      let alike : b ≡ c = sym (at_k.1 b) ∙ (ap (λ x. get_or (boxes_of job stage) x b) place ∙ at_l.1 b) in
      let there : get_or b.senders i 0 ≡ get_or b.senders j 0 = sender ∙ ap (λ (x : StageBox). get_or x.senders j 0) (sym alike) in
      let lt : j < length b.senders = subst (λ (x : StageBox). j < length x.senders) (sym alike) lj in
      (place, one_place ◌≢◌ b.senders i j 0 (is_made b (box_in k b p)).senders.distinct li lt (λ ne. ne there) (λ ne. ne (sym there)))

pub boxes_have_origins : BoxesHaveOrigins
boxes_have_origins job stage sound k b is = has_origins job stage sound b (is_made job stage sound b (box_in job stage sound k b is))

pub origins_one_to_one : OriginsAreOneToOne
origins_one_to_one job stage sound = one_origin job stage sound

pub receivers_have_boxes : ReceiversHaveBoxes
receivers_have_boxes job stage sound = reached job stage sound

pub boxes_reached : BoxesAreReached
boxes_reached job stage sound k b is i lt = number_is job stage sound b.edge b.receiver (get_or b.senders i 0) k b is (is_it job stage sound b.edge b.receiver (get_or b.senders i 0) b refl refl (at_in b.senders i 0 lt))
