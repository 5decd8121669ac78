-- The mailboxes of a stage are those that its edges have by the numbers of their tasks.
use Rattle.std.proofs.Common.{◌≡◌, ◌<◌, ◌≤◌, ◌+◌, ◌*◌, ℕ, zero, suc, nat_eq, Bool, true, false, cond, List, [], ◌∷◌, ◌++◌, map, filter, length, get_or, take, refl, sym, ap, ap₂, ◌∙◌, inr, arith, flat_map, append-nil, add-one, mul-le-mul, Contains, if◌then◌else◌}
use Rattle.std.specs.List.{AllByRecursion, list_any, range_with_len}
use Rattle.std.proofs.lemmas.Grind.{flat_map-append}
use Rattle.std.proofs.Math.Seq.{take-suc}
use Rattle.std.proofs.lemmas.List.{map-append}
use Rattle.std.proofs.lemmas.List.FromFn.{length-range_with_len}
use Rattle.hy_mail.specs.declared.plan.BoxPlan.{BoxPlan}
use Rattle.hy_job.specs.declared.job.Edge.{Edge}
use Rattle.hy_job.specs.declared.job.Job.{Job}
use Rattle.hy_job.specs.declared.job.Stage.{Stage}
use Rattle.hy_job.specs.declared.job.Wire.{Wire}
use Rattle.hy_job.specs.declared.job.Wire.TheVariants as W
use Rattle.hy_job.specs.Boxes.{StageBox, box_for, boxes_over, boxes_to, edges_in, senders_of, task_at}
use Rattle.hy_job.specs.Stages.{IsPart}
use Rattle.hy_job.specs.Sound.{SoundJob}
use Rattle.hy_job.proofs.Members.{any_from, from_filter, range_below}
use Rattle.hy_job.proofs.Pairs.{from_range}
use Rattle.hy_connect.specs.Plans.{edge_plans, ends_of, plan_at, plan_of, plans_at, plans_of, plans_over}
use Rattle.hy_connect.proofs.Placing.{few_activities, place_row}

-- ---- lists

map_flat : {A B C : Type 0} (f : B → C) (g : A → List B) (xs : List A) → map f (flat_map g xs) ≡ flat_map (λ x. map f (g x)) xs
map_flat f g [] = refl
map_flat {A} {B} {C} f g (x ∷ xs) = map-append f (g x) (flat_map g xs) ∙ ap (λ (r : List C). map f (g x) ++ r) (map_flat f g xs)

flat_same : {A B : Type 0} (f g : A → List B) (xs : List A) → ((x : A) → Contains xs x → f x ≡ g x) → flat_map f xs ≡ flat_map g xs
flat_same f g [] h = refl
flat_same {A} {B} f g (x ∷ xs) h = ap₂ (λ (a b : List B). a ++ b) (h x (0, omega arith, refl)) (flat_same f g xs (λ y m. h y (suc m.0, omega (arith, m.1), m.2)))

map_same : {A B : Type 0} (f g : A → B) (xs : List A) → ((x : A) → Contains xs x → f x ≡ g x) → map f xs ≡ map g xs
map_same f g [] h = refl
map_same {A} {B} f g (x ∷ xs) h = ap₂ (λ (a : B) (b : List B). a ∷ b) (h x (0, omega arith, refl)) (map_same f g xs (λ y m. h y (suc m.0, omega (arith, m.1), m.2)))

shifted : (b a n : ℕ) → map (λ s. b + s) (range_with_len a n) ≡ range_with_len (b + a) n
shifted b a zero = refl
shifted b a (suc n) =
    let e : b + (a + 1) ≡ (b + a) + 1 = omega arith in
    ap (λ (r : List ℕ). (b + a) ∷ r) (shifted b (a + 1) n ∙ ap (λ (k : ℕ). range_with_len k n) e)

each_alone : {B : Type 0} (f : List ℕ → B) (xs : List ℕ) → map f (map (λ s. s ∷ []) xs) ≡ map (λ s. f (s ∷ [])) xs
each_alone f [] = refl
each_alone {B} f (x ∷ xs) = ap (λ (r : List B). f (x ∷ []) ∷ r) (each_alone f xs)

twice : {A B C : Type 0} (f : B → C) (g : A → B) (xs : List A) → map f (map g xs) ≡ map (λ x. f (g x)) xs
twice f g [] = refl
twice {A} {B} {C} f g (x ∷ xs) = ap (λ (r : List C). f (g x) ∷ r) (twice f g xs)

under_if : {A B : Type 0} (f : List A → List B) (b : Bool) (xs : List A) (ys : List B) → f [] ≡ [] → f xs ≡ ys → f (if b then xs else []) ≡ (if b then ys else [])
under_if f true xs ys none some = some
under_if f false xs ys none some = none

-- ---- one mailbox

plan_is : (s t : List ℕ) (r q c d a : ℕ) → s ≡ t → r ≡ q → c ≡ d → ◌≡◌ {A = BoxPlan} (record { senders = s; receiver = r; capacity = c; arity = a }) (record { senders = t; receiver = q; capacity = d; arity = a })
plan_is s t r q c d a x y z =
    ap (λ (v : List ℕ). let p : BoxPlan = record { senders = v; receiver = r; capacity = c; arity = a } in p) x
    ∙ ap (λ (v : ℕ). let p : BoxPlan = record { senders = t; receiver = v; capacity = c; arity = a } in p) y
    ∙ ap (λ (v : ℕ). let p : BoxPlan = record { senders = t; receiver = q; capacity = v; arity = a } in p) z

-- the edges that pass, or nothing of an edge that does not
filter_step : {A B : Type 0} (t : A → Bool) (g : A → List B) (x : A) (xs : List A) (b : Bool) → t x ≡ b → flat_map (λ y. if t y then g y else []) xs ≡ flat_map g (filter t xs)
    → flat_map (λ y. if t y then g y else []) (x ∷ xs) ≡ flat_map g (filter t (x ∷ xs))
filter_step {A} {B} t g x xs true e h =
    ap (λ (b : Bool). (if b then g x else []) ++ flat_map (λ y. if t y then g y else []) xs) e ∙ ap (λ (r : List B). g x ++ r) h
    ∙ ap (λ (b : Bool). flat_map g (cond b (x ∷ filter t xs) (filter t xs))) (sym e)
filter_step {A} {B} t g x xs false e h =
    ap (λ (b : Bool). (if b then g x else []) ++ flat_map (λ y. if t y then g y else []) xs) e ∙ h
    ∙ ap (λ (b : Bool). flat_map g (cond b (x ∷ filter t xs) (filter t xs))) (sym e)

flat_filter : {A B : Type 0} (t : A → Bool) (g : A → List B) (xs : List A) → flat_map (λ y. if t y then g y else []) xs ≡ flat_map g (filter t xs)
flat_filter t g [] = refl
flat_filter t g (x ∷ xs) = filter_step t g x xs (t x) refl (flat_filter t g xs)

-- ---- one edge

module _ (job : Job) (stage : Stage) (e : Edge) (from : Contains stage.activities e.from) (to : Contains stage.activities e.to) where
  sender_is : (j : ℕ) → j < job.partitions → task_at job.partitions stage e.from j ≡ (ends_of job stage e).from + j
  sender_is j low = place_row stage.activities job.partitions e.from j from low

  receiver_is : (j : ℕ) → j < job.partitions → task_at job.partitions stage e.to j ≡ (ends_of job stage e).to + j
  receiver_is j low = place_row stage.activities job.partitions e.to j to low

  box_is : (senders : List ℕ) (first count r : ℕ) → r < job.partitions → map (task_at job.partitions stage e.from) senders ≡ range_with_len ((ends_of job stage e).from + first) count → length senders ≡ count
      → plan_of job stage (box_for job e r senders) ≡ plan_at (ends_of job stage e) first count r
  box_is senders first count r low x len = plan_is _ _ _ _ _ _ _ x (receiver_is r low) (ap (λ (k : ℕ). 2 * k) len)

  within : (s : ℕ) → Contains (range_with_len 0 job.partitions) s → s < job.partitions
  within s m = let h = (from_range 0 job.partitions s m).1 in omega arith

  all_senders : map (task_at job.partitions stage e.from) (range_with_len 0 job.partitions) ≡ range_with_len ((ends_of job stage e).from + 0) job.partitions
  all_senders = map_same (task_at job.partitions stage e.from) (λ s. (ends_of job stage e).from + s) (range_with_len 0 job.partitions) (λ s m. sender_is s (within s m)) ∙ shifted (ends_of job stage e).from 0 job.partitions

  one_box : (r : ℕ) → r < job.partitions → map (plan_of job stage) (map (box_for job e r) (range_with_len 0 job.partitions ∷ [])) ≡ plan_at (ends_of job stage e) 0 job.partitions r ∷ []
  one_box r low = ap (λ (p : BoxPlan). p ∷ []) (box_is (range_with_len 0 job.partitions) 0 job.partitions r low all_senders (length-range_with_len 0 job.partitions))

  box_each : (r : ℕ) → r < job.partitions → map (plan_of job stage) (map (box_for job e r) (map (λ s. s ∷ []) (range_with_len 0 job.partitions))) ≡ map (λ s. plan_at (ends_of job stage e) s 1 r) (range_with_len 0 job.partitions)
  box_each r low =
      ap (λ (bs : List StageBox). map (plan_of job stage) bs) (each_alone (box_for job e r) (range_with_len 0 job.partitions))
      ∙ twice (plan_of job stage) (λ s. box_for job e r (s ∷ [])) (range_with_len 0 job.partitions)
      ∙ map_same (λ s. plan_of job stage (box_for job e r (s ∷ []))) (λ s. plan_at (ends_of job stage e) s 1 r) (range_with_len 0 job.partitions)
      (λ s m. box_is (s ∷ []) s 1 r low (ap (λ (k : ℕ). k ∷ []) (sender_is s (within s m))) refl)

  receiver_plans : (w : Wire) (r : ℕ) → r < job.partitions → map (plan_of job stage) (map (box_for job e r) (senders_of w job.partitions r)) ≡ plans_at (ends_of job stage e) w r
  receiver_plans W.OneToOne r low = ap (λ (p : BoxPlan). p ∷ []) (box_is (r ∷ []) r 1 r low (ap (λ (k : ℕ). k ∷ []) (sender_is r low)) refl)
  receiver_plans (W.Hash columns) r low = one_box r low
  receiver_plans W.Broadcast r low = one_box r low
  receiver_plans W.Gather r low = under_if (λ xs. map (plan_of job stage) (map (box_for job e r) xs)) (nat_eq r 0) (range_with_len 0 job.partitions ∷ []) (plan_at (ends_of job stage e) 0 job.partitions r ∷ []) refl (one_box r low)
  receiver_plans (W.Merge keys) r low =
      under_if (λ xs. map (plan_of job stage) (map (box_for job e r) xs)) (nat_eq r 0) (map (λ s. s ∷ []) (range_with_len 0 job.partitions)) (map (λ s. plan_at (ends_of job stage e) s 1 r) (range_with_len 0 job.partitions)) refl (box_each r low)

  edge_plans_are : map (plan_of job stage) (boxes_over job e) ≡ plans_over (ends_of job stage e) e.wire
  edge_plans_are =
      map_flat (plan_of job stage) (boxes_to job e) (range_with_len 0 job.partitions)
      ∙ flat_same (λ r. map (plan_of job stage) (boxes_to job e r)) (plans_at (ends_of job stage e) e.wire) (range_with_len 0 job.partitions) (λ r m. receiver_plans e.wire r (within r m))

-- ---- all edges of a stage

ends_within : (job : Job) (stage : Stage) (e : Edge) → IsPart job stage.activities → Contains (edges_in job stage) e → Contains stage.activities e.from × Contains stage.activities e.to
ends_within job stage e part m =
    let f = from_filter (λ (x : Edge). list_any (λ a. nat_eq a x.to) stage.activities) job.edges e m in
    let to : Contains stage.activities e.to = any_from stage.activities e.to f.1 in
    (part.closed e.to e.from to (e, f.0, inr (refl, refl)), to)

pub stage_plans : (job : Job) (stage : Stage) → IsPart job stage.activities → flat_map (edge_plans job stage) job.edges ≡ plans_of job stage
stage_plans job stage part =
    flat_filter (λ (e : Edge). list_any (λ a. nat_eq a e.to) stage.activities) (λ e. plans_over (ends_of job stage e) e.wire) job.edges
    ∙ sym (map_flat (plan_of job stage) (boxes_over job) (edges_in job stage)
    ∙ flat_same (λ e. map (plan_of job stage) (boxes_over job e)) (λ e. plans_over (ends_of job stage e) e.wire) (edges_in job stage)
    (λ e m. let ends = ends_within job stage e part m in edge_plans_are job stage e ends.0 ends.1))

-- ---- steps of the code

pub flat_more : {B : Type 0} (f : ℕ → List B) (n : ℕ) → flat_map f (range_with_len 0 (n + 1)) ≡ flat_map f (range_with_len 0 n) ++ f n
flat_more {B} f n = ap (flat_map f) (range_below n) ∙ flat_map-append f (range_with_len 0 n) (n ∷ []) ∙ ap (λ (r : List B). flat_map f (range_with_len 0 n) ++ r) (append-nil (f n))

pub map_more : {B : Type 0} (f : ℕ → B) (n : ℕ) → map f (range_with_len 0 (n + 1)) ≡ map f (range_with_len 0 n) ++ f n ∷ []
map_more f n = ap (map f) (range_below n) ∙ map-append f (range_with_len 0 n) (n ∷ [])

pub edges_more : {A B : Type 0} (f : A → List B) (xs : List A) (i : ℕ) (d : A) → i < length xs → flat_map f (take (i + 1) xs) ≡ flat_map f (take i xs) ++ f (get_or xs i d)
edges_more {A} {B} f xs i d low =
    ap (flat_map f) (ap (λ (n : ℕ). take n xs) (add-one i) ∙ take-suc xs i d low) ∙ flat_map-append f (take i xs) (get_or xs i d ∷ [])
    ∙ ap (λ (r : List B). flat_map f (take i xs) ++ r) (append-nil (f (get_or xs i d)))

all_at : {A : Type 0} (P : A → Type 0) (xs : List A) (k : ℕ) (d : A) → k < length xs → AllByRecursion P xs → P (get_or xs k d)
all_at P [] k d low h = absurd (omega arith)
all_at P (x ∷ xs) zero d low h = h.0
all_at P (x ∷ xs) (suc k) d low h = all_at P xs k d (omega arith) h.1

pub from_within : (job : Job) → SoundJob job → (k : ℕ) (d : Edge) → k < length job.edges → (get_or job.edges k d).from < length job.activities
from_within job sound k d low =
    let a = all_at (λ (e : Edge). e.from < e.to) job.edges k d low sound.edges_rise in
    let b = all_at (λ (e : Edge). e.to < length job.activities) job.edges k d low sound.edges_end in
    omega arith

pub few_in : (job : Job) (stage : Stage) → SoundJob job → IsPart job stage.activities → length stage.activities ≤ 1048576
few_in job stage sound part =
    let h = few_activities stage.activities (length job.activities) part.rising part.within in
    let s = sound.few in
    omega arith

pub product_small : (p n : ℕ) → p ≤ 1048576 → n ≤ 16 → p * n < 16777217
product_small p n low high = let m : p * n ≤ 1048576 * 16 = mul-le-mul low high in omega arith
