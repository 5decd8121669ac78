-- The numbers of mailboxes and of tasks: how many stand before.
use Rattle.std.proofs.Common.{◌≡◌, inl, ◌<◌, ◌≤◌, ◌+◌, ◌*◌, ℕ, zero, suc, nat_eq, true, List, [], ◌∷◌, ◌++◌, map, filter, length, get_or, take, drop, refl, ap, sym, subst, ◌∙◌, arith, flat_map, add-one, mul-le-mul, suc-mul, zero-mul, length-append, append-nil}
use Rattle.std.specs.List.{Contains, range_with_len}
use Rattle.std.proofs.lemmas.Grind.{flat_map-append}
use Rattle.std.proofs.Math.Seq.{take-suc}
use Rattle.std.proofs.lemmas.List.Concat.{get_or-flat_map}
use Rattle.std.proofs.lemmas.List.Elements.{filter-append}
use Rattle.std.proofs.lemmas.List.FromFn.{get_or-map-range_with_len, length-map-range_with_len}
use Rattle.hy_job.specs.declared.job.Edge.{Edge}
use Rattle.hy_job.specs.declared.job.Job.{Job}
use Rattle.hy_job.specs.declared.job.Stage.{Stage}
use Rattle.hy_job.specs.Sound.{SoundJob, edges_at, edges_from, edges_into}
use Rattle.hy_job.specs.Stages.{IsPart}
use Rattle.hy_job.specs.Runs.{ReceivesOver}
use Rattle.hy_job.specs.Boxes.{IsBox, StageBox, box_for, box_to, boxes_of, boxes_over, edges_in, place_where, task_at, task_of, tasks_of}
use Rattle.hy_job.proofs.Boxes.{boxes_reached, is_nat, nat_is, tasks_numbered}
use Rattle.hy_job.proofs.Members.{any_to, by_cases, from_filter, in_here}
use Rattle.hy_job.proofs.Pairs.{slice_from}
use Rattle.hy_places.specs.Places.{inboxes_count, inboxes_over, outboxes_over, receiver_at, receivers_count, sender_at}
use Rattle.hy_places.specs.Finding.{boxes_before, boxes_in, ends_in, feeds, first_inbox, first_outbox, leaves, place_of, place_over}
use Rattle.hy_places.proofs.Counting.{few_activities, few_edges}
use Rattle.hy_places.proofs.Lists.{filter_twice, first_kept, flat_at, flat_length, kept_split, map_range, none_kept, place_found, place_low}
use Rattle.hy_places.proofs.Sending.{box_over, few_boxes, inbox_follows, number_at, outbox_follows, over_count, receivers_have_places, sender_among, senders_for, senders_have_places, some_sender}

-- ---- tasks

abbrev task : ℕ → ℕ → ℕ × ℕ
task a j = (a, j)

-- the tasks of an activity
abbrev row : ℕ → ℕ → List (ℕ × ℕ)
row n a = map (λ j. (a, j)) (range_with_len 0 n)

rows_before : (n : ℕ) (xs : List ℕ) (p : ℕ) → p ≤ length xs → length (flat_map (row n) (take p xs)) ≡ p * n
rows_before n xs zero lt = sym (zero-mul n)
rows_before n [] (suc p) lt = absurd (omega (arith, lt))
rows_before n (x ∷ xs) (suc p) lt =
    let own : length (row n x) ≡ n = length-map-range_with_len (task x) 0 n in
    let more = rows_before n xs p (omega (arith, lt)) in
    let s : suc p * n ≡ p * n + n = suc-mul p n in
    length-append (row n x) (flat_map (row n) (take p xs)) ∙ omega (arith, own, more, s)

pub place_below : (xs : List ℕ) (a : ℕ) → Contains xs a → place_of xs a < length xs
place_below xs a m = place_low (λ (b : ℕ). nat_eq b a) xs a m (nat_is a a refl)

-- the number of a task is that of its activity's first task, and its partition
pub number_is : (job : Job) (stage : Stage) (a j : ℕ) → IsPart job stage.activities → Contains stage.activities a → j < job.partitions → place_of stage.activities a * job.partitions + j ≡ task_at job.partitions stage a j
number_is job stage a j part m low =
    let xs = stage.activities in
    let n = job.partitions in
    let p = place_of xs a in
    let lt : p < length xs = place_below xs a m in
    let named : get_or xs p 0 ≡ a = is_nat (get_or xs p 0) a (place_found (λ (b : ℕ). nat_eq b a) xs 0 lt) in
    let f : ℕ → List (ℕ × ℕ) = row n in
    let before : length (flat_map f (take p xs)) ≡ p * n = rows_before n xs p (omega (arith, lt)) in
    let many : length (f (get_or xs p 0)) ≡ n = length-map-range_with_len (task (get_or xs p 0)) 0 n in
    let there : get_or (tasks_of n stage) (length (flat_map f (take p xs)) + j) (0, 0) ≡ get_or (f (get_or xs p 0)) j (0, 0) = get_or-flat_map f xs p j 0 (0, 0) lt (omega (arith, many, low)) in
    let own : get_or (f (get_or xs p 0)) j (0, 0) ≡ (get_or xs p 0, j) = get_or-map-range_with_len (task (get_or xs p 0)) 0 n j j (0, 0) low (omega arith) in
    let is : task_of n stage (p * n + j) ≡ (a, j) = ap (λ (k : ℕ). get_or (tasks_of n stage) (k + j) (0, 0)) (sym before) ∙ (there ∙ (own ∙ ap (λ (x : ℕ). task x j) named)) in
    let numbered = tasks_numbered job stage part in
    let within : p * n + j < length (tasks_of n stage) = all_rows n xs p j lt low in
    sym (ap (λ (t : ℕ × ℕ). task_at n stage t.0 t.1) (sym is) ∙ numbered.back (p * n + j) within)
  where
    all_rows : (n : ℕ) (xs : List ℕ) (p j : ℕ) → p < length xs → j < n → p * n + j < length (flat_map (row n) xs)
    all_rows n [] p j lt low = absurd (omega (arith, lt))
    all_rows n (x ∷ xs) zero j lt low =
        let own : length (row n x) ≡ n = length-map-range_with_len (task x) 0 n in
        let all = length-append (row n x) (flat_map (row n) xs) in
        let z = zero-mul n in
        omega (arith, own, all, z, low)
    all_rows n (x ∷ xs) (suc p) j lt low =
        let own : length (row n x) ≡ n = length-map-range_with_len (task x) 0 n in
        let all = length-append (row n x) (flat_map (row n) xs) in
        let more = all_rows n xs p j (omega (arith, lt)) low in
        let s : suc p * n ≡ p * n + n = suc-mul p n in
        omega (arith, own, all, more, s)

pub few_in : (job : Job) (stage : Stage) → SoundJob job → IsPart job stage.activities → length stage.activities ≤ 1048576
few_in job stage sound part =
    let h = few_activities stage.activities (length job.activities) part.rising part.within in
    let s = sound.few in
    omega arith

pub product_small : (p n : ℕ) → p ≤ 1048576 → n ≤ 16 → p * n ≤ 16777216
product_small p n low high = let m : p * n ≤ 1048576 * 16 = mul-le-mul low high in omega arith

-- ---- mailboxes, by the place of their edge

module _ (job : Job) (stage : Stage) (sound : SoundJob job) where
  abbrev n : ℕ
  n = job.partitions

  -- the mailbox into which `s` puts over the edge for `r`
  abbrev pub box_between : Edge → ℕ → ℕ → StageBox
  box_between e r s = box_for job e r (senders_for e.wire job.partitions r s)

  module _ (e d : Edge) (p : ℕ) (lt : p < length job.edges) (at : get_or job.edges p d ≡ e) (ends : ends_in stage e ≡ true) where
    before : List Edge
    before = filter (ends_in stage) (take p job.edges)

    pub stands : (r s : ℕ) → r < job.partitions → s < job.partitions → ReceivesOver e.wire job.partitions s r → IsBox job stage (boxes_before job stage p + place_over e.wire r s) (box_between e r s)
    stands r s lr ls by =
        let own : (place_over e.wire r s < length (boxes_over job e)) × (get_or (boxes_over job e) (place_over e.wire r s) (box_between e r s) ≡ box_between e r s) = box_over (box_for job e) e.wire job.partitions r s (box_between e r s) lr ls by in
        let after : List Edge = filter (ends_in stage) (drop (suc p) job.edges) in
        let split : edges_in job stage ≡ filter (ends_in stage) (take p job.edges) ++ e ∷ after = kept_split (ends_in stage) job.edges p e d lt at ends in
        let all : boxes_of job stage ≡ flat_map (boxes_over job) (filter (ends_in stage) (take p job.edges) ++ e ∷ after) = ap (flat_map (boxes_over job)) split in
        let many : length (boxes_of job stage) ≡ boxes_before job stage p + (length (boxes_over job e) + length (flat_map (boxes_over job) after)) = ap (λ (l : List StageBox). length l) all ∙ flat_length (boxes_over job) (filter (ends_in stage) (take p job.edges)) after e in
        let low : boxes_before job stage p + place_over e.wire r s < length (boxes_of job stage) = omega (arith, many, own.0) in
        let there : get_or (boxes_of job stage) (boxes_before job stage p + place_over e.wire r s) (box_between e r s) ≡ box_between e r s =
        ap (λ (l : List StageBox). get_or l (boxes_before job stage p + place_over e.wire r s) (box_between e r s)) all
        ∙ (flat_at (boxes_over job) (filter (ends_in stage) (take p job.edges)) after e (place_over e.wire r s) (box_between e r s) own.0 ∙ own.1) in
        slice_from (boxes_of job stage) (boxes_before job stage p + place_over e.wire r s) (box_between e r s) (box_between e r s) low there

    pub box_number : (r s : ℕ) → r < job.partitions → s < job.partitions → ReceivesOver e.wire job.partitions s r → box_to (boxes_of job stage) e r s ≡ boxes_before job stage p + place_over e.wire r s
    box_number r s lr ls by =
        let q = sender_among e.wire job.partitions r s 0 ls by in
        subst (λ (x : ℕ). box_to (boxes_of job stage) e r x ≡ boxes_before job stage p + place_over e.wire r s) q.1
        (boxes_reached job stage sound (boxes_before job stage p + place_over e.wire r s) (box_between e r s) (stands r s lr ls by) (number_at e.wire s) q.0)

    pub is_box : (r s : ℕ) → r < job.partitions → s < job.partitions → ReceivesOver e.wire job.partitions s r → IsBox job stage (box_to (boxes_of job stage) e r s) (box_between e r s)
    is_box r s lr ls by = subst (λ (k : ℕ). IsBox job stage k (box_between e r s)) (sym (box_number r s lr ls by)) (stands r s lr ls by)

    -- those of a task follow one another
    pub inboxes_follow : (j : ℕ) → j < job.partitions → inboxes_over job stage e j ≡ range_with_len (boxes_before job stage p + first_inbox e.wire j) (inboxes_count e.wire job.partitions j)
    inboxes_follow j low =
        let its = senders_have_places e.wire job.partitions j low in
        let some = some_sender e.wire job.partitions j low in
        map_range (λ k. box_to (boxes_of job stage) e j (sender_at e.wire j k 0)) 0 (boxes_before job stage p + first_inbox e.wire j) (inboxes_count e.wire job.partitions j)
        (λ k lk.
        let number = box_number j (sender_at e.wire j k 0) low (its.within k 0 lk some) (its.sends k 0 lk some) in
        let follows = inbox_follows e.wire job.partitions j k lk in
        let zero_first : 0 + k ≡ k = omega arith in
        ap (λ (x : ℕ). box_to (boxes_of job stage) e j (sender_at e.wire j x 0)) zero_first ∙ omega (arith, number, follows))

    pub outboxes_follow : (j : ℕ) → j < job.partitions → outboxes_over job stage e j ≡ range_with_len (boxes_before job stage p + first_outbox e.wire j) (receivers_count e.wire job.partitions)
    outboxes_follow j low =
        let its = receivers_have_places e.wire job.partitions j low in
        map_range (λ k. box_to (boxes_of job stage) e (receiver_at e.wire j k) j) 0 (boxes_before job stage p + first_outbox e.wire j) (receivers_count e.wire job.partitions)
        (λ k lk.
        let number = box_number (receiver_at e.wire j k) j (its.within k lk) low (its.receives k lk) in
        let follows = outbox_follows e.wire job.partitions j k lk in
        let zero_first : 0 + k ≡ k = omega arith in
        ap (λ (x : ℕ). box_to (boxes_of job stage) e (receiver_at e.wire j x) j) zero_first ∙ omega (arith, number, follows))

-- ---- the edges of a task

pub fed_first : (job : Job) (a input : ℕ) (d : Edge) → place_where (feeds a input) job.edges < length job.edges → (rest : List Edge) × (edges_at job a input ≡ get_or job.edges (place_where (feeds a input) job.edges) d ∷ rest)
fed_first job a input d lt =
    let q = first_kept (feeds a input) job.edges d lt in
    (q.0, filter_twice (λ (e : Edge). nat_eq e.to a) (λ (e : Edge). nat_eq e.input input) job.edges ∙ q.1)

pub unfed : (job : Job) (a input : ℕ) → length job.edges ≤ place_where (feeds a input) job.edges → edges_at job a input ≡ []
unfed job a input lt = filter_twice (λ (e : Edge). nat_eq e.to a) (λ (e : Edge). nat_eq e.input input) job.edges ∙ none_kept (feeds a input) job.edges lt

pub left_first : (job : Job) (a : ℕ) (d : Edge) → place_where (leaves a) job.edges < length job.edges → (rest : List Edge) × (edges_from job a ≡ get_or job.edges (place_where (leaves a) job.edges) d ∷ rest)
left_first job a d lt = first_kept (leaves a) job.edges d lt

pub unleft : (job : Job) (a : ℕ) → length job.edges ≤ place_where (leaves a) job.edges → edges_from job a ≡ []
unleft job a lt = none_kept (leaves a) job.edges lt

-- such an edge is one of the stage
pub ends_here : (stage : Stage) (a : ℕ) (e : Edge) → Contains stage.activities a → e.to ≡ a → ends_in stage e ≡ true
ends_here stage a e m is = any_to stage.activities e.to (subst (Contains stage.activities) (sym is) m)

pub ends_beside : (job : Job) (stage : Stage) (a : ℕ) (e : Edge) → IsPart job stage.activities → Contains stage.activities a → Contains job.edges e → e.from ≡ a → ends_in stage e ≡ true
ends_beside job stage a e part m among is = any_to stage.activities e.to (part.closed a e.to m (e, among, inl (is, refl)))

-- what the edge at an input is
pub edge_fed : (job : Job) (a input : ℕ) (e : Edge) (rest : List Edge) → edges_at job a input ≡ e ∷ rest → Contains job.edges e × (e.to ≡ a) × (e.input ≡ input)
edge_fed job a input e rest is =
    let inside : Contains (edges_at job a input) e = subst (λ (es : List Edge). Contains es e) (sym is) (in_here e rest) in
    let p = from_filter (λ (y : Edge). nat_eq y.input input) (edges_into job a) e inside in
    let q = from_filter (λ (y : Edge). nat_eq y.to a) job.edges e p.0 in
    (q.0, is_nat e.to a q.1, is_nat e.input input p.1)

pub edge_left : (job : Job) (a : ℕ) (e : Edge) (rest : List Edge) → edges_from job a ≡ e ∷ rest → Contains job.edges e × (e.from ≡ a)
edge_left job a e rest is =
    let inside : Contains (edges_from job a) e = subst (λ (es : List Edge). Contains es e) (sym is) (in_here e rest) in
    let q = from_filter (λ (y : Edge). nat_eq y.from a) job.edges e inside in
    (q.0, is_nat e.from a q.1)

-- ---- steps of the code

-- the mailboxes of the edges before the next place
pub boxes_more : (job : Job) (stage : Stage) (p : ℕ) (d : Edge) → SoundJob job → p < length job.edges → boxes_before job stage (p + 1) ≡ boxes_before job stage p + boxes_in job stage (get_or job.edges p d)
boxes_more job stage p d sound lt =
    let e = get_or job.edges p d in
    let more : take (p + 1) job.edges ≡ take p job.edges ++ e ∷ [] = ap (λ (k : ℕ). take k job.edges) (add-one p) ∙ take-suc job.edges p d lt in
    let kept : filter (ends_in stage) (take (p + 1) job.edges) ≡ filter (ends_in stage) (take p job.edges) ++ filter (ends_in stage) (e ∷ []) = ap (filter (ends_in stage)) more ∙ filter-append (ends_in stage) (take p job.edges) (e ∷ []) in
    let all : boxes_before job stage (p + 1) ≡ boxes_before job stage p + length (flat_map (boxes_over job) (filter (ends_in stage) (e ∷ []))) =
    ap (λ (l : List Edge). length (flat_map (boxes_over job) l)) kept
    ∙ (ap (λ (l : List StageBox). length l) (flat_map-append (boxes_over job) (filter (ends_in stage) (take p job.edges)) (filter (ends_in stage) (e ∷ [])))
    ∙ length-append (flat_map (boxes_over job) (filter (ends_in stage) (take p job.edges))) (flat_map (boxes_over job) (filter (ends_in stage) (e ∷ [])))) in
    all ∙ ap (λ (k : ℕ). boxes_before job stage p + k) (one_edge e)
  where
    one_edge : (e : Edge) → length (flat_map (boxes_over job) (filter (ends_in stage) (e ∷ []))) ≡ boxes_in job stage e
    one_edge e = by_cases (ends_in stage e)
        (λ t. rw t (ap (λ (l : List StageBox). length l) (append-nil (boxes_over job e)) ∙ over_count (box_for job e) e.wire job.partitions sound.some_partition))
        (λ f. rw f refl)

pub boxes_few : (job : Job) (stage : Stage) (e : Edge) → SoundJob job → boxes_in job stage e ≤ 16
boxes_few job stage e sound = by_cases (ends_in stage e)
    (λ t. rw t (few_boxes e.wire job.partitions sound.some_partition sound.few_partitions))
    (λ f. rw f (omega arith))

pub edges_few : (job : Job) → SoundJob job → length job.edges < 1048576
edges_few job sound = let h = few_edges job sound in let s = sound.few in omega arith
