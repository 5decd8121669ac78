-- Paths along the edges of a job, and the roots to which they lead.
use Rattle.std.proofs.Common.{◌≡◌, ◌≢◌, inl, inr, ◌<◌, ◌≤◌, ◌+◌, ℕ, nat_eq, Option, Some, None, List, [], ◌∷◌, ◌++◌, map, length, filter, refl, ap, sym, subst, ◌∙◌, arith, get_or, set}
use Rattle.std.specs.List.{All, Contains, slice_get, range_with_len}
use Rattle.std.proofs.lemmas.List.{get_or-map, get_or-set_same, get_or-set_other, length-set}
use Rattle.std.proofs.lemmas.List.Elements.{All-from_recursion, All-contains}
use Rattle.std.proofs.lemmas.Option.{slice_get-get_or}
use Rattle.std.proofs.lemmas.List.FromFn.{get_or-range_with_len, length-range_with_len}
use Rattle.hy_job.specs.declared.job.Kind.{Kind}
use Rattle.hy_job.specs.declared.job.Kind.TheVariants as K
use Rattle.hy_job.specs.declared.job.Activity.{Activity}
use Rattle.hy_job.specs.declared.job.Edge.{Edge}
use Rattle.hy_job.specs.declared.job.Block.{Block}
use Rattle.hy_job.specs.declared.job.Job.{Job}
use Rattle.hy_job.specs.Sound.{SoundJob, AreTwo, AreTwoOf, may_leave, activity, edges_from}
use Rattle.hy_job.specs.Stages.{AreLinked, Leads, AreConnected}
use Rattle.hy_job.specs.Finding.{target_of, root_at, IsRooted, AreRoots, AreRootsFrom}
use Rattle.hy_job.proofs.Members.{no_bool, by_cases, in_here, in_there, in_none, in_cases, in_filter, nat_same}

-- ---- paths

pub linked_sym : (job : Job) (a b : ℕ) → AreLinked job a b → AreLinked job b a
linked_sym job a b l = (l.0, l.1, elim l.2 [ inl h ↦ inr h | inr h ↦ inl h ])

pub leads_then : (job : Job) (a b c : ℕ) (p q : List ℕ) → Leads job a p b → Leads job b q c → Leads job a (p ++ q) c
unfolding Leads
leads_then job a b c [] q h g = subst (λ x. Leads job x q c) (sym h) g
leads_then job a b c (x ∷ p) q h g = (h.0, leads_then job x b c p q h.1 g)

pub connected_then : (job : Job) (a b c : ℕ) → AreConnected job a b → AreConnected job b c → AreConnected job a c
connected_then job a b c h g = (h.0 ++ g.0, leads_then job a b c h.0 g.0 h.1 g.1)

pub connected_refl : (job : Job) (a b : ℕ) → a ≡ b → AreConnected job a b
unfolding Leads
connected_refl job a b e = ([], e)

pub linked_connected : (job : Job) (a b : ℕ) → AreLinked job a b → AreConnected job a b
unfolding Leads
linked_connected job a b l = (b ∷ [], (l, refl))

leads_back : (job : Job) (a b : ℕ) (p : List ℕ) → Leads job a p b → AreConnected job b a
unfolding Leads
leads_back job a b [] h = connected_refl job b a (sym h)
leads_back job a b (x ∷ p) h = connected_then job b x a (leads_back job x b p h.1) (linked_connected job x a (linked_sym job a x h.0))

pub connected_sym : (job : Job) (a b : ℕ) → AreConnected job a b → AreConnected job b a
connected_sym job a b h = leads_back job a b h.0 h.1

-- what one of the activities that are linked has, the others have
pub goes_along : (job : Job) (P : ℕ → Type 0) → ((a b : ℕ) → P a → AreLinked job a b → P b) → (a b : ℕ) (p : List ℕ) → P a → Leads job a p b → P b
unfolding Leads
goes_along job P step a b [] h g = subst P g h
goes_along job P step a b (x ∷ p) h g = goes_along job P step x b p (step a x h g.0) g.1

-- ---- edges of a sound job

pub rises : (job : Job) → SoundJob job → (e : Edge) → Contains job.edges e → e.from < e.to
rises job s e m = All-contains (λ (x : Edge). x.from < x.to) job.edges e (All-from_recursion (λ (x : Edge). x.from < x.to) job.edges s.edges_rise) m

pub ends : (job : Job) → SoundJob job → (e : Edge) → Contains job.edges e → e.to < length job.activities
ends job s e m = All-contains (λ (x : Edge). x.to < length job.activities) job.edges e (All-from_recursion (λ (x : Edge). x.to < length job.activities) job.edges s.edges_end) m

pub block_rises : (job : Job) → SoundJob job → (b : Block) → Contains job.blocks b → b.before < b.after
block_rises job s b m = All-contains (λ (x : Block). x.before < x.after) job.blocks b (All-from_recursion (λ (x : Block). x.before < x.after) job.blocks s.blocks_rise) m

pub block_ends : (job : Job) → SoundJob job → (b : Block) → Contains job.blocks b → b.after < length job.activities
block_ends job s b m = All-contains (λ (x : Block). x.after < length job.activities) job.blocks b (All-from_recursion (λ (x : Block). x.after < length job.activities) job.blocks s.blocks_end) m

pub linked_within : (job : Job) → SoundJob job → (a b : ℕ) → AreLinked job a b → b < length job.activities
linked_within job s a b l =
    let up = rises job s l.0 l.1 in
    let down = ends job s l.0 l.1 in
    elim l.2 [ inl h ↦ omega (arith, h.1, down) | inr h ↦ omega (arith, h.0, up, down) ]

-- ---- what leaves an activity

pub target_in : (es : List Edge) (a to : ℕ) → target_of es a ≡ Some to → (e : Edge) × Contains es e × (e.from ≡ a) × (e.to ≡ to)
target_in [] a to h = absurd (no h)
  where
    no : ◌≡◌ {A = Option ℕ} None (Some to) → ⊥
    no e = cc
target_in (x ∷ es) a to h = by_cases (nat_eq x.from a)
    (λ t. let r : Some x.to ≡ Some to = rw t at h in (x, in_here x es, grind arith, inside x.to to r))
    (λ f. let r : target_of es a ≡ Some to = rw f at h in let q = target_in es a to r in (q.0, in_there x q.0 es q.1, q.2, q.3))
  where
    inside : (m n : ℕ) → Some m ≡ Some n → m ≡ n
    inside m n e = cc

pub target_none : (es : List Edge) (a : ℕ) → target_of es a ≡ None → (e : Edge) → Contains es e → e.from ≡ a → ⊥
target_none [] a h e m is = in_none e m
target_none (x ∷ es) a h e m is = by_cases (nat_eq x.from a)
    (λ t. let r : Some x.to ≡ None = rw t at h in no x.to r)
    (λ f. let r : target_of es a ≡ None = rw f at h in elim (in_cases x e es m) [ inl s ↦ no_bool (sym (nat_same a) ∙ (ap (λ z. nat_eq z a) (sym is ∙ ap (λ (z : Edge). z.from) (sym s)) ∙ f)) | inr k ↦ target_none es a r e k is ])
  where
    no : (n : ℕ) → Some n ≡ None → ⊥
    no n e = cc

-- where no edge leaves there is no target, and where at most one does there is no other target
pub no_target : (es : List Edge) (a : ℕ) → length (filter (λ (e : Edge). nat_eq e.from a) es) ≡ 0 → target_of es a ≡ None
no_target [] a h = refl
no_target (x ∷ es) a h = by_cases (nat_eq x.from a)
    (λ t. let r : length (x ∷ filter (λ (e : Edge). nat_eq e.from a) es) ≡ 0 = rw t at h in absurd (omega (arith, r)))
    (λ f. rw f (let r : length (filter (λ (e : Edge). nat_eq e.from a) es) ≡ 0 = rw f at h in no_target es a r))

pub one_target : (es : List Edge) (a to : ℕ) → length (filter (λ (e : Edge). nat_eq e.from a) es) ≤ 1 → target_of es a ≡ Some to
    → (e : Edge) → Contains es e → e.from ≡ a → e.to ≡ to
one_target [] a to few h e m is = absurd (in_none e m)
one_target (x ∷ es) a to few h e m is = by_cases (nat_eq x.from a)
    (λ t.
    let r : Some x.to ≡ Some to = rw t at h in
    let n : length (x ∷ filter (λ (y : Edge). nat_eq y.from a) es) ≤ 1 = rw t at few in
    elim (in_cases x e es m) [ inl s ↦ ap (λ (z : Edge). z.to) (sym s) ∙ inside x.to to r | inr k ↦ absurd (one_more k n) ])
    (λ f.
    let r : target_of es a ≡ Some to = rw f at h in
    let n : length (filter (λ (y : Edge). nat_eq y.from a) es) ≤ 1 = rw f at few in
    elim (in_cases x e es m) [ inl s ↦ absurd (no_bool (sym (nat_same a) ∙ (ap (λ z. nat_eq z a) (sym is ∙ ap (λ (z : Edge). z.from) (sym s)) ∙ f))) | inr k ↦ one_target es a to n r e k is ])
  where
    inside : (m n : ℕ) → Some m ≡ Some n → m ≡ n
    inside m n e = cc

    one_more : Contains es e → length (x ∷ filter (λ (y : Edge). nat_eq y.from a) es) ≤ 1 → ⊥
    one_more k n =
        let c = in_filter (λ (y : Edge). nat_eq y.from a) es e (ap (λ z. nat_eq z a) is ∙ nat_same a) k in
        omega (arith, c.1, n)

-- ---- activities by number

pub at_most_one : (k : Kind) → may_leave k ≤ 1
at_most_one (K.SortBuild keys) = omega arith
at_most_one (K.GroupBuild arg) = omega arith
at_most_one (K.JoinBuild arg) = omega arith
at_most_one (K.Result columns) = omega arith
at_most_one _ = omega arith

first_leaves : (k l : Kind) → AreTwo k l → may_leave k ≡ 0
first_leaves (K.SortBuild keys) l h = refl
first_leaves (K.GroupBuild arg) l h = refl
first_leaves (K.JoinBuild arg) l h = refl
first_leaves _ l h = absurd h

-- the activity at a place, whose number is the place
at_place : (job : Job) → SoundJob job → (p : ℕ) → p < length job.activities → (a : Activity) × (slice_get job.activities p ≡ Some a) × (length (edges_from job p) ≤ may_leave a.kind)
at_place job s p lt = found job.activities s.numbered lt (λ a is. subst (λ n. length (edges_from job n) ≤ may_leave a.kind) is) (All-from_recursion (λ (a : Activity). length (edges_from job a.number) ≤ may_leave a.kind) job.activities s.leaving)
  where
    found : (xs : List Activity) → map (λ (a : Activity). a.number) xs ≡ range_with_len 0 (length xs) → p < length xs
        → ((a : Activity) → a.number ≡ p → length (edges_from job a.number) ≤ may_leave a.kind → length (edges_from job p) ≤ may_leave a.kind)
        → All (λ (a : Activity). length (edges_from job a.number) ≤ may_leave a.kind) xs
        → (a : Activity) × (slice_get xs p ≡ Some a) × (length (edges_from job p) ≤ may_leave a.kind)
    found [] e l to all = absurd (omega (arith, l))
    found (x ∷ xs) e l to all =
        let a = get_or (x ∷ xs) p x in
        let n : get_or (map (λ (y : Activity). y.number) (x ∷ xs)) p 0 ≡ a.number = get_or-map (λ (y : Activity). y.number) (x ∷ xs) p x 0 l in
        let r : get_or (range_with_len 0 (length (x ∷ xs))) p 0 ≡ 0 + p = get_or-range_with_len 0 (length (x ∷ xs)) p 0 l in
        let q : a.number ≡ 0 + p = sym n ∙ (ap (λ ys. get_or ys p 0) e ∙ r) in
        (a, slice_get-get_or (x ∷ xs) p x l, to a (omega (arith, q)) (all p x l))

-- no edge leaves an activity before a block
pub block_leaves : (job : Job) → SoundJob job → (b : Block) → Contains job.blocks b → target_of job.edges b.before ≡ None
block_leaves job s b m =
    let up = block_rises job s b m in
    let down = block_ends job s b m in
    let q = at_place job s b.before (omega (arith, up, down)) in
    let two = All-contains (λ (x : Block). AreTwoOf (activity job x.before) (activity job x.after)) job.blocks b (All-from_recursion (λ (x : Block). AreTwoOf (activity job x.before) (activity job x.after)) job.blocks s.paired) m in
    let zero_leaves : may_leave q.0.kind ≡ 0 = of_two q.0 (activity job b.after) (subst (λ o. AreTwoOf o (activity job b.after)) q.1 two) in
    no_target job.edges b.before (omega (arith, q.2, zero_leaves))
  where
    of_two : (a : Activity) (o : Option Activity) → AreTwoOf (Some a) o → may_leave a.kind ≡ 0
    of_two a (Some c) h = first_leaves a.kind c.kind h
    of_two a None h = absurd h

-- ---- roots

pub roots_begin : (job : Job) (roots : List ℕ) → roots ≡ range_with_len 0 (length job.activities) → AreRootsFrom job roots (length job.activities)
roots_begin job roots e = record {
  count = ap length e ∙ length-range_with_len 0 (length job.activities);
  each = λ a from lt. absurd (omega (arith, from, lt));
  itself = λ a lt. ap (λ xs. get_or xs a 0) e ∙ (get_or-range_with_len 0 (length job.activities) a 0 lt ∙ omega arith);
}

-- an activity without a target stands for itself
pub roots_keep : (job : Job) → SoundJob job → (roots : List ℕ) (place from : ℕ) → from ≡ place + 1 → from ≤ length job.activities → AreRootsFrom job roots from → target_of job.edges place ≡ None
    → AreRootsFrom job roots place
roots_keep job s roots place from next le h none = record {
  count = h.count;
  each = λ a low lt. choose a low lt;
  itself = λ a lt. h.itself a (omega (arith, next, lt));
}
  where
    self : root_at roots place ≡ place
    self = h.itself place (omega (arith, next))

    here : IsRooted job roots place
    here = record {
      along = λ e m is. absurd (target_none job.edges place none e m is);
      reached = connected_refl job place (root_at roots place) (sym self);
      above = omega (arith, self);
      below = omega (arith, self, next, le);
      last = λ _. self;
    }

    choose : (a : ℕ) → place ≤ a → a < length job.activities → IsRooted job roots a
    choose a low lt = by_cases (nat_eq a place)
        (λ t. let is : place ≡ a = grind arith in subst (IsRooted job roots) is here)
        (λ f. let no : a ≢ place = λ e. no_bool (sym (nat_same place) ∙ (ap (λ z. nat_eq z place) (sym e) ∙ f)) in h.each a (omega (arith, next, low, no)) lt)

-- another one has the root of its target
pub roots_step : (job : Job) → SoundJob job → (roots : List ℕ) (place from to : ℕ) → from ≡ place + 1 → from ≤ length job.activities → AreRootsFrom job roots from → target_of job.edges place ≡ Some to
    → AreRootsFrom job (set roots place (root_at roots to)) place
roots_step job s roots place from to next le h some = record {
  count = length-set roots place (root_at roots to) ∙ h.count;
  each = λ a low lt. choose a low lt;
  itself = λ a lt. other a (λ e. omega (arith, e, lt)) ∙ h.itself a (omega (arith, next, lt));
}
  where
    new : List ℕ
    new = set roots place (root_at roots to)

    edge : (e : Edge) × Contains job.edges e × (e.from ≡ place) × (e.to ≡ to)
    edge = target_in job.edges place to some

    up : place < to
    up = let r = rises job s edge.0 edge.1 in omega (arith, r, edge.2, edge.3)

    down : to < length job.activities
    down = let r = ends job s edge.0 edge.1 in omega (arith, r, edge.3)

    there : IsRooted job roots to
    there = h.each to (omega (arith, up, next)) down

    other : (a : ℕ) → a ≢ place → root_at (set roots place (root_at roots to)) a ≡ root_at roots a
    other a ne = get_or-set_other roots place a (root_at roots to) 0 ne

    same : root_at (set roots place (root_at roots to)) place ≡ root_at roots to
    same = get_or-set_same roots place (root_at roots to) 0 (omega (arith, h.count, next, le))

    one : (e : Edge) → Contains job.edges e → e.from ≡ place → e.to ≡ to
    one e m is =
        let q = at_place job s place (omega (arith, next, le)) in
        let most = at_most_one q.0.kind in
        let few : length (edges_from job place) ≤ 1 = omega (arith, q.2, most) in
        one_target job.edges place to few some e m is

    here : IsRooted job (set roots place (root_at roots to)) place
    here = record {
      along = λ e m is. same ∙ (ap (root_at roots) (sym (one e m is)) ∙ sym (other e.to (λ x. let r = rises job s e m in omega (arith, x, r, is))));
      reached = subst (AreConnected job place) (sym same)
          (connected_then job place to (root_at roots to) (linked_connected job place to (edge.0, edge.1, inl (edge.2, edge.3))) there.reached);
      above = omega (arith, same, up, there.above);
      below = omega (arith, same, there.below);
      last = λ none. absurd (no (sym some ∙ none));
    }
      where
        no : Some to ≡ None → ⊥
        no e = cc

    above_it : (a : ℕ) → a ≢ place → place ≤ a → IsRooted job roots a → IsRooted job (set roots place (root_at roots to)) a
    above_it a ne low g = record {
      along = λ e m is. other a ne ∙ (g.along e m is ∙ sym (other e.to (λ x. let r = rises job s e m in omega (arith, x, r, is, low))));
      reached = subst (AreConnected job a) (sym (other a ne)) g.reached;
      above = let o = other a ne in omega (arith, o, g.above);
      below = let o = other a ne in omega (arith, o, g.below);
      last = λ none. other a ne ∙ g.last none;
    }

    choose : (a : ℕ) → place ≤ a → a < length job.activities → IsRooted job (set roots place (root_at roots to)) a
    choose a low lt = by_cases (nat_eq a place)
        (λ t. let is : place ≡ a = grind arith in subst (IsRooted job (set roots place (root_at roots to))) is here)
        (λ f.
        let ne : a ≢ place = λ e. no_bool (sym (nat_same place) ∙ (ap (λ z. nat_eq z place) (sym e) ∙ f)) in
        above_it a ne low (h.each a (omega (arith, next, low, ne)) lt))

pub roots_end : (job : Job) (roots : List ℕ) → AreRootsFrom job roots 0 → AreRoots job roots
roots_end job roots h = record { count = h.count; each = λ a lt. h.each a (omega arith) lt }

-- ---- what roots tell

pub linked_root : (job : Job) → SoundJob job → (roots : List ℕ) → AreRoots job roots → (a b : ℕ) → AreLinked job a b → root_at roots a ≡ root_at roots b
linked_root job s roots h a b l = elim l.2 [
  | inl g ↦ forward a b g.0 g.1
  | inr g ↦ sym (forward b a g.0 g.1)
]
  where
    forward : (x y : ℕ) → l.0.from ≡ x → l.0.to ≡ y → root_at roots x ≡ root_at roots y
    forward x y f t =
        let up = rises job s l.0 l.1 in
        let down = ends job s l.0 l.1 in
        (h.each x (omega (arith, f, up, down))).along l.0 l.1 f ∙ ap (root_at roots) t

pub connected_root : (job : Job) → SoundJob job → (roots : List ℕ) → AreRoots job roots → (a b : ℕ) → AreConnected job a b → root_at roots a ≡ root_at roots b
connected_root job s roots h a b c = goes_along job (λ x. root_at roots a ≡ root_at roots x) (λ x y e l. e ∙ linked_root job s roots h x y l) a b c.0 refl c.1

pub root_connected : (job : Job) (roots : List ℕ) → AreRoots job roots → (a b : ℕ) → a < length job.activities → b < length job.activities → root_at roots a ≡ root_at roots b → AreConnected job a b
root_connected job roots h a b la lb e =
    connected_then job a (root_at roots a) b (h.each a la).reached
    (subst (λ x. AreConnected job x b) (sym e) (connected_sym job b (root_at roots b) (h.each b lb).reached))
