-- Steps of the code, over the lists that it reads.
use Rattle.std.proofs.Common.{◌≡◌, inl, inr, ◌<◌, ◌≤◌, ◌+◌, ◌*◌, ℕ, nat_eq, Bool, false, List, [], ◌∷◌, ◌++◌, filter, length, get_or, take, ap, ap₂, sym, subst, ◌∙◌, arith, add-one, append-nil}
use Rattle.std.specs.List.{Contains, list_any, range_with_len}
use Rattle.std.proofs.lemmas.Grind.{flat_map-append}
use Rattle.std.proofs.Math.Seq.{take-suc}
use Rattle.std.proofs.lemmas.List.{get_or-take, length-take-le}
use Rattle.std.proofs.lemmas.List.Elements.{Contains-append_cases}
use Rattle.hy_job.specs.declared.job.Edge.{Edge}
use Rattle.hy_job.specs.declared.job.Job.{Job}
use Rattle.hy_job.specs.declared.job.Stage.{Stage}
use Rattle.hy_job.specs.Sound.{SoundJob, edges_at, edges_from}
use Rattle.hy_job.specs.Stages.{IsPart, activities_in}
use Rattle.hy_job.specs.Boxes.{place_where, task_at}
use Rattle.hy_job.proofs.Members.{any_to, no_bool}
use Rattle.hy_places.specs.Places.{IsFirst, by_first, inboxes_count, inboxes_of, inboxes_over, outboxes_of, outboxes_over, receivers_count}
use Rattle.hy_places.specs.Finding.{boxes_before, boxes_in, feeds, first_inbox, first_outbox, leaves, place_of}
use Rattle.hy_places.proofs.Lists.{filter_twice, first_kept, none_kept}
use Rattle.hy_places.proofs.Numbers.{boxes_few, boxes_more, edge_fed, edge_left, edges_few, ends_beside, ends_here, few_in, inboxes_follow, number_is, outboxes_follow, product_small}

-- ---- stages

pub not_yet : (stages : List Stage) (i : ℕ) (s : Stage) (a : ℕ) → i < length stages → s ≡ get_or stages i s → (Contains (activities_in (take i stages)) a → ⊥) → list_any (λ b. nat_eq b a) s.activities ≡ false
    → Contains (activities_in (take (i + 1) stages)) a → ⊥
not_yet stages i s a lt is before none m =
    let more : take (i + 1) stages ≡ take i stages ++ s ∷ [] = ap (λ (k : ℕ). take k stages) (add-one i) ∙ (take-suc stages i s lt ∙ ap (λ (x : Stage). take i stages ++ x ∷ []) (sym is)) in
    let split : activities_in (take (i + 1) stages) ≡ activities_in (take i stages) ++ s.activities =
    ap activities_in more ∙ (flat_map-append (λ (x : Stage). x.activities) (take i stages) (s ∷ []) ∙ ap (λ (r : List ℕ). activities_in (take i stages) ++ r) (append-nil s.activities)) in
    elim (Contains-append_cases (activities_in (take i stages)) s.activities a (subst (λ (l : List ℕ). Contains l a) split m)) [
      | inl h ↦ before h
      | inr h ↦ no_bool (sym (any_to s.activities a h) ∙ none)
    ]

-- ---- tasks

pub task_small : (job : Job) (stage : Stage) (xs : List ℕ) (p j : ℕ) → SoundJob job → IsPart job stage.activities → xs ≡ stage.activities → p ≤ length xs → j < job.partitions → p * job.partitions + j < 16777300
task_small job stage xs p j sound part same within low =
    let few = few_in job stage sound part in
    let n : length xs ≡ length stage.activities = ap (λ (l : List ℕ). length l) same in
    let most = sound.few_partitions in
    let product = product_small p job.partitions (omega (arith, few, n, within)) most in
    omega (arith, product, most, low)

pub task_number : (job : Job) (stage : Stage) (xs : List ℕ) (p a j : ℕ) → IsPart job stage.activities → Contains stage.activities a → xs ≡ stage.activities → p ≡ place_of xs a → j < job.partitions → p * job.partitions + j ≡ task_at job.partitions stage a j
task_number job stage xs p a j part m same is low = ap (λ (k : ℕ). k * job.partitions + j) (is ∙ ap (λ (l : List ℕ). place_of l a) same) ∙ number_is job stage a j part m low

-- ---- edges

first_is : (t : Edge → Bool) (all edges : List Edge) (p : ℕ) (e : Edge) → edges ≡ all → p ≡ place_where t edges → p ≤ length edges → (p ≡ length edges → ⊥) → e ≡ get_or edges p e → IsFirst e (filter t all)
first_is t all edges p e same at within off here =
    let k : p ≡ place_where t all = at ∙ ap (place_where t) same in
    let n : length edges ≡ length all = ap (λ (l : List Edge). length l) same in
    let lt : place_where t all < length all = omega (arith, k, n, within, off) in
    let q = first_kept t all e lt in
    let is : e ≡ get_or all (place_where t all) e = here ∙ (ap (λ (l : List Edge). get_or l p e) same ∙ ap (λ (i : ℕ). get_or all i e) k) in
    record { rest = q.0; is = q.1 ∙ ap (λ (x : Edge). x ∷ q.0) (sym is) }

none_is : (t : Edge → Bool) (all edges : List Edge) (p : ℕ) → edges ≡ all → p ≡ place_where t edges → p ≡ length edges → filter t all ≡ []
none_is t all edges p same at full =
    let k : p ≡ place_where t all = at ∙ ap (place_where t) same in
    let n : length edges ≡ length all = ap (λ (l : List Edge). length l) same in
    none_kept t all (omega (arith, k, n, full))

pub fed_is : (job : Job) (a input : ℕ) (edges : List Edge) (p : ℕ) (e : Edge) → edges ≡ job.edges → p ≡ place_where (feeds a input) edges → p ≤ length edges → (p ≡ length edges → ⊥) → e ≡ get_or edges p e → IsFirst e (edges_at job a input)
fed_is job a input edges p e same at within off here =
    subst (IsFirst e) (sym (filter_twice (λ (x : Edge). nat_eq x.to a) (λ (x : Edge). nat_eq x.input input) job.edges)) (first_is (feeds a input) job.edges edges p e same at within off here)

pub unfed_is : (job : Job) (a input : ℕ) (edges : List Edge) (p : ℕ) → edges ≡ job.edges → p ≡ place_where (feeds a input) edges → p ≡ length edges → edges_at job a input ≡ []
unfed_is job a input edges p same at full = filter_twice (λ (x : Edge). nat_eq x.to a) (λ (x : Edge). nat_eq x.input input) job.edges ∙ none_is (feeds a input) job.edges edges p same at full

pub left_is : (job : Job) (a : ℕ) (edges : List Edge) (p : ℕ) (e : Edge) → edges ≡ job.edges → p ≡ place_where (leaves a) edges → p ≤ length edges → (p ≡ length edges → ⊥) → e ≡ get_or edges p e → IsFirst e (edges_from job a)
left_is job a edges p e same at within off here = first_is (leaves a) job.edges edges p e same at within off here

pub unleft_is : (job : Job) (a : ℕ) (edges : List Edge) (p : ℕ) → edges ≡ job.edges → p ≡ place_where (leaves a) edges → p ≡ length edges → edges_from job a ≡ []
unleft_is job a edges p same at full = none_is (leaves a) job.edges edges p same at full

-- ---- mailboxes

-- the next edge of those before a place
pub item_is : (xs ys : List Edge) (p i : ℕ) (e : Edge) → xs ≡ ys → p < length ys → i < length (take p xs) → e ≡ get_or (take p xs) i e → (i < length ys) × (e ≡ get_or ys i e)
item_is xs ys p i e same low lt is =
    let n : length xs ≡ length ys = ap (λ (l : List Edge). length l) same in
    let many = length-take-le p xs (omega (arith, n, low)) in
    let before : i < p = omega (arith, many, lt) in
    (omega (arith, before, low), is ∙ (get_or-take p xs i e before ∙ ap (λ (l : List Edge). get_or l i e) same))

pub next_boxes : (job : Job) (stage : Stage) (xs : List Edge) (p i first more : ℕ) (e : Edge) → SoundJob job → xs ≡ job.edges → p < length job.edges → i < length (take p xs) → e ≡ get_or (take p xs) i e
    → first ≡ boxes_before job stage i → more ≡ boxes_in job stage e → first + more ≡ boxes_before job stage (i + 1)
next_boxes job stage xs p i first more e sound same low lt is so_far own =
    let item = item_is xs job.edges p i e same low lt is in
    let next = boxes_more job stage i e sound item.0 in
    let here : more ≡ boxes_in job stage (get_or job.edges i e) = own ∙ ap (boxes_in job stage) item.1 in
    omega (arith, so_far, here, next)

pub boxes_small : (job : Job) (stage : Stage) (xs : List Edge) (p i first more : ℕ) (e : Edge) → SoundJob job → xs ≡ job.edges → p < length job.edges → i < length (take p xs) → first ≤ 16 * i → more ≡ boxes_in job stage e
    → (first + more ≤ 16 * (i + 1)) × (first + more < 16777217)
boxes_small job stage xs p i first more e sound same low lt so_far own =
    let n : length xs ≡ length job.edges = ap (λ (l : List Edge). length l) same in
    let many = length-take-le p xs (omega (arith, n, low)) in
    let few = edges_few job sound in
    let own_few = boxes_few job stage e sound in
    (omega (arith, so_far, own, own_few), omega (arith, so_far, own, own_few, many, lt, low, few))

pub all_small : (job : Job) (xs : List Edge) (p i first : ℕ) → SoundJob job → xs ≡ job.edges → p < length job.edges → i ≤ length (take p xs) → first ≤ 16 * i → first < 16777217
all_small job xs p i first sound same low lt so_far =
    let n : length xs ≡ length job.edges = ap (λ (l : List Edge). length l) same in
    let many = length-take-le p xs (omega (arith, n, low)) in
    let few = edges_few job sound in
    omega (arith, so_far, many, lt, low, few)

pub inboxes_are : (job : Job) (stage : Stage) (a input j : ℕ) (edges : List Edge) (p first off count : ℕ) (e : Edge) → SoundJob job → Contains stage.activities a → j < job.partitions
    → edges ≡ job.edges → p ≡ place_where (feeds a input) edges → p ≤ length edges → (p ≡ length edges → ⊥) → e ≡ get_or edges p e
    → first ≡ boxes_before job stage p → off ≡ first_inbox (get_or edges p e).wire j → count ≡ inboxes_count (get_or edges p e).wire job.partitions j
    → inboxes_of job stage a input j ≡ range_with_len (first + off) count
inboxes_are job stage a input j edges p first off count e sound m low same at within not_all here is_first is_off is_count =
    let fed = fed_is job a input edges p e same at within not_all here in
    let what = edge_fed job a input e fed.rest fed.is in
    let ends = ends_here stage a e m what.1 in
    let n : length edges ≡ length job.edges = ap (λ (l : List Edge). length l) same in
    let lt : p < length job.edges = omega (arith, n, within, not_all) in
    let there : get_or job.edges p e ≡ e = ap (λ (l : List Edge). get_or l p e) (sym same) ∙ sym here in
    let follow = inboxes_follow job stage sound e e p lt there ends j low in
    let o : off ≡ first_inbox e.wire j = is_off ∙ ap (λ (x : Edge). first_inbox x.wire j) (sym here) in
    let c : count ≡ inboxes_count e.wire job.partitions j = is_count ∙ ap (λ (x : Edge). inboxes_count x.wire job.partitions j) (sym here) in
    let sums : boxes_before job stage p + first_inbox e.wire j ≡ first + off = omega (arith, is_first, o) in
    ap (by_first (λ x. inboxes_over job stage x j)) fed.is ∙ (follow ∙ ap₂ (λ (x y : ℕ). range_with_len x y) sums (sym c))

pub outboxes_are : (job : Job) (stage : Stage) (a j : ℕ) (edges : List Edge) (p first off count : ℕ) (e : Edge) → SoundJob job → IsPart job stage.activities → Contains stage.activities a → j < job.partitions
    → edges ≡ job.edges → p ≡ place_where (leaves a) edges → p ≤ length edges → (p ≡ length edges → ⊥) → e ≡ get_or edges p e
    → first ≡ boxes_before job stage p → off ≡ first_outbox (get_or edges p e).wire j → count ≡ receivers_count (get_or edges p e).wire job.partitions
    → outboxes_of job stage a j ≡ range_with_len (first + off) count
outboxes_are job stage a j edges p first off count e sound part m low same at within not_all here is_first is_off is_count =
    let left = left_is job a edges p e same at within not_all here in
    let what = edge_left job a e left.rest left.is in
    let ends = ends_beside job stage a e part m what.0 what.1 in
    let n : length edges ≡ length job.edges = ap (λ (l : List Edge). length l) same in
    let lt : p < length job.edges = omega (arith, n, within, not_all) in
    let there : get_or job.edges p e ≡ e = ap (λ (l : List Edge). get_or l p e) (sym same) ∙ sym here in
    let follow = outboxes_follow job stage sound e e p lt there ends j low in
    let o : off ≡ first_outbox e.wire j = is_off ∙ ap (λ (x : Edge). first_outbox x.wire j) (sym here) in
    let c : count ≡ receivers_count e.wire job.partitions = is_count ∙ ap (λ (x : Edge). receivers_count x.wire job.partitions) (sym here) in
    let sums : boxes_before job stage p + first_outbox e.wire j ≡ first + off = omega (arith, is_first, o) in
    ap (by_first (λ x. outboxes_over job stage x j)) left.is ∙ (follow ∙ ap₂ (λ (x y : ℕ). range_with_len x y) sums (sym c))
