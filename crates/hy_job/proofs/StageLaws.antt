-- Stage by stage: the part of the first ready activity that is left is the next stage, and there is always one.
use Rattle.std.proofs.Common.{◌≡◌, ◌≢◌, ◌⊎◌, inl, inr, ◌<◌, ◌≤◌, ◌+◌, ℕ, zero, suc, Bool, true, false, not, ◌&&◌, nat_eq, Option, Some, None, List, [], ◌∷◌, ◌++◌, length, filter, refl, ap, sym, subst, ◌∙◌, arith, append_assoc, append-nil, length-append}
use Rattle.std.specs.List.{list_any, All, AllPairs, Contains, range_with_len}
use Rattle.std.specs.List.Sorted.{IsPermutation, IsStrictlyIncreasing}
use Rattle.std.proofs.lemmas.Grind.{flat_map-append}
use Rattle.std.proofs.lemmas.List.Elements.{All-contains, All-filter, Contains-append_cases}
use Rattle.std.proofs.lemmas.List.Kept.{AllPairs-from_increasing, IsStrictlyIncreasing-filter}
use Rattle.std.proofs.lemmas.List.Sorted.{IsPermutation-refl, IsPermutation-trans, IsPermutation-append_right, IsPermutation-filter_both, Contains-permutation, length_permutation}
use Rattle.std.proofs.lemmas.List.FromFn.{get_or-range_with_len, length-range_with_len}
use Rattle.hy_job.specs.declared.job.Block.{Block}
use Rattle.hy_job.specs.declared.job.Job.{Job}
use Rattle.hy_job.specs.declared.job.Stage.{Stage}
use Rattle.hy_job.specs.Sound.{SoundJob}
use Rattle.hy_job.specs.Stages.{IsPart, IsNew, IsReady, IsNext, AreNext, StageOf, activities_in, least_of}
use Rattle.hy_job.specs.Finding.{root_at, AreRoots, is_ready, first_root, next_root, with_root, without_root, AreSoFar}
use Rattle.hy_job.proofs.Members.{no_bool, by_cases, in_here, in_there, in_none, in_cases, in_filter, from_filter, one_fails, all_pass, one_passes, nat_same, any_from, any_to, rising_rest, rising_first, least_first}
use Rattle.hy_job.proofs.Connections.{linked_within, block_rises, block_ends, block_leaves, root_connected, linked_root, goes_along}

-- the numbers below n
pub in_range : (n a : ℕ) → a < n → Contains (range_with_len 0 n) a
in_range n a lt = (a, omega (arith, lt, length-range_with_len 0 n), get_or-range_with_len 0 n a a lt ∙ omega arith)

pub range_rises : (n : ℕ) → IsStrictlyIncreasing (range_with_len 0 n)
range_rises n k lt =
    let l = length-range_with_len 0 n in
    let a = get_or-range_with_len 0 n k 0 (omega (arith, l, lt)) in
    let b = get_or-range_with_len 0 n (k + 1) 0 (omega (arith, l, lt)) in
    omega (arith, a, b)

pub range_below : (n : ℕ) → All (λ a. a < n) (range_with_len 0 n)
range_below n k d lt =
    let l = length-range_with_len 0 n in
    let a = get_or-range_with_len 0 n k d (omega (arith, l, lt)) in
    omega (arith, a, l, lt)

-- the root that is found is that of an activity that is left, which passes, and no lesser one of those left does
pub record IsFound (test : ℕ → Bool) (roots left : List ℕ) (root : ℕ) : Type 0 where
  pub at : ℕ
  pub among : Contains left at
  pub is : root_at roots at ≡ root
  pub passes : test root ≡ true
  pub least : (o : ℕ) → Contains left o → test (root_at roots o) ≡ true → at ≤ o

pub found : (test : ℕ → Bool) (roots left : List ℕ) (root : ℕ) → AllPairs (λ a b. a < b) left → first_root test roots left ≡ Some root → IsFound test roots left root
found test roots [] root up e = absurd (no e)
  where
    no : ◌≡◌ {A = Option ℕ} None (Some root) → ⊥
    no q = cc
found test roots (a ∷ more) root up e = by_cases (test (root_at roots a))
    (λ t.
    let r : Some (root_at roots a) ≡ Some root = rw t at e in
    let s : root_at roots a ≡ root = inside _ _ r in
    record { at = a; among = in_here a more; is = s; passes = ap test (sym s) ∙ t; least = λ o m p. rising_first a o more up m })
    (λ f.
    let r : first_root test roots more ≡ Some root = rw f at e in
    let q = found test roots more root (rising_rest a more up) r in
    record {
      at = q.at;
      among = in_there a q.at more q.among;
      is = q.is;
      passes = q.passes;
      least = λ o m p. elim (in_cases a o more m) [ inl s ↦ absurd (no_bool (sym p ∙ (ap (λ z. test (root_at roots z)) (sym s) ∙ f))) | inr k ↦ q.least o k p ];
    })
  where
    inside : (m n : ℕ) → Some m ≡ Some n → m ≡ n
    inside m n q = cc

pub none_found : (test : ℕ → Bool) (roots left : List ℕ) → first_root test roots left ≡ None → (a : ℕ) → Contains left a → test (root_at roots a) ≡ false
none_found test roots [] e a m = absurd (in_none a m)
none_found test roots (x ∷ more) e a m = by_cases (test (root_at roots x))
    (λ t. let r : Some (root_at roots x) ≡ None = rw t at e in absurd (no _ r))
    (λ f. let r : first_root test roots more ≡ None = rw f at e in elim (in_cases x a more m) [ inl s ↦ ap (λ z. test (root_at roots z)) (sym s) ∙ f | inr k ↦ none_found test roots more r a k ])
  where
    no : (n : ℕ) → Some n ≡ None → ⊥
    no n q = cc

-- what `is_ready` tells of a block
not_both : (a b : Bool) → not (a && b) ≡ true → a ≡ true → b ≡ false
not_both true true e f = absurd (no_bool (sym e))
not_both true false e f = refl
not_both false b e f = absurd (no_bool (sym f))

both_fail : (a b : Bool) → not (a && b) ≡ false → (a ≡ true) × (b ≡ true)
both_fail true true e = (refl, refl)
both_fail true false e = absurd (no_bool e)
both_fail false b e = absurd (no_bool e)

left_or_right : (a b : Bool) → (a ≡ true → b ≡ false) → not (a && b) ≡ true
left_or_right true b h = rw (h refl) refl
left_or_right false b h = refl

module _ (job : Job) (s : SoundJob job) (roots left : List ℕ) (stages : List Stage) (r : AreRoots job roots) (so : AreSoFar job roots left stages) where
  before : List ℕ
  before = activities_in stages

  ready : ℕ → Bool
  ready = is_ready job.blocks roots left

  left_within : (a : ℕ) → Contains left a → a < length job.activities
  left_within a m = All-contains (λ x. x < length job.activities) left a so.within m

  -- an activity is in a stage or left
  pub in_one : (a : ℕ) → a < length job.activities → Contains (activities_in stages) a ⊎ Contains left a
  in_one a lt = Contains-append_cases (activities_in stages) left a (Contains-permutation _ _ a so.whole (in_range (length job.activities) a lt))

  -- the activities of one root that is left are a part
  pub is_part : (a : ℕ) → Contains left a → IsPart job (with_root roots (root_at roots a) left)
  is_part a m = record {
    some = λ e. in_none a (subst (λ xs. Contains xs a) e inside);
    rising = IsStrictlyIncreasing-filter test left so.rising;
    within = All-filter test (λ x. x < length job.activities) left so.within;
    connected = λ x y mx my.
        let p = from_filter test left x mx in
        let q = from_filter test left y my in
        let ex : root_at roots x ≡ root_at roots a = same x p.1 in
        let ey : root_at roots y ≡ root_at roots a = same y q.1 in
        root_connected job roots r x y (left_within x p.0) (left_within y q.0) (ex ∙ sym ey);
    closed = λ x y mx l.
        let p = from_filter test left x mx in
        let ex : root_at roots x ≡ root_at roots a = same x p.1 in
        let e = linked_root job s roots r x y l in
        in_filter test left y (ap (λ z. nat_eq z (root_at roots a)) (sym e ∙ ex) ∙ nat_same (root_at roots a)) (so.parts x y p.0 (linked_within job s x y l) e);
  }
    where
      test : ℕ → Bool
      test x = nat_eq (root_at roots x) (root_at roots a)

      inside : Contains (filter test left) a
      inside = in_filter test left a (nat_same (root_at roots a)) m

      same : (x : ℕ) → test x ≡ true → root_at roots x ≡ root_at roots a
      same x t = grind arith

  -- a part that is new and ready is of activities that are left, and passes the test
  other_left : (other : List ℕ) → IsPart job other → IsNew (activities_in stages) other → (o : ℕ) → Contains other o → Contains left o
  other_left other p new o m = elim (in_one o (All-contains (λ x. x < length job.activities) other o p.within m)) [ inl b ↦ absurd (new o m b) | inr l ↦ l ]

  other_passes : (other : List ℕ) → IsPart job other → IsReady job (activities_in stages) other → (o : ℕ) → Contains other o → is_ready job.blocks roots left (root_at roots o) ≡ true
  other_passes other p ok o m = all_pass (λ b. not (nat_eq (root_at roots b.after) (root_at roots o) && list_any (λ a. nat_eq a b.before) left)) job.blocks (λ b mb. left_or_right _ _ (λ t. none_left b mb t))
    where
      none_left : (b : Block) → Contains job.blocks b → nat_eq (root_at roots b.after) (root_at roots o) ≡ true → list_any (λ a. nat_eq a b.before) left ≡ false
      none_left b mb t =
          let e : root_at roots b.after ≡ root_at roots o = grind arith in
          let lt = All-contains (λ x. x < length job.activities) other o p.within m in
          let c = root_connected job roots r o b.after lt (block_ends job s b mb) (sym e) in
          let inside = goes_along job (Contains other) (λ x y mx l. p.closed x y mx l) o b.after c.0 m c.1 in
          let done = ok b mb inside in
          by_cases (list_any (λ a. nat_eq a b.before) left) (λ y. absurd (so.apart b.before done (any_from left b.before y))) (λ n. n)

  first_in : (other : List ℕ) → other ≢ [] → Contains other (least_of other)
  first_in [] ne = absurd (ne refl)
  first_in (x ∷ xs) ne = in_here x xs

  -- the part that is found is the next stage
  pub is_next : (root : ℕ) → next_root job.blocks roots left ≡ Some root → IsNext job (activities_in stages) (with_root roots root left)
  is_next root e = subst (λ x. IsNext job (activities_in stages) (with_root roots x left)) got.is (record {
    is_part = is_part got.at got.among;
    new = λ a m b. so.apart a b (from_filter (λ x. nat_eq (root_at roots x) (root_at roots got.at)) left a m).0;
    ready = λ b mb m. free b mb (from_filter (λ x. nat_eq (root_at roots x) (root_at roots got.at)) left b.after m).1;
    least = λ other p new ok.
        let o = first_in other p.some in
        let low = got.least (least_of other) (other_left other p new (least_of other) o) (other_passes other p ok (least_of other) o) in
        let inside = in_filter (λ x. nat_eq (root_at roots x) (root_at roots got.at)) left got.at (nat_same (root_at roots got.at)) got.among in
        let rising = IsStrictlyIncreasing-filter (λ x. nat_eq (root_at roots x) (root_at roots got.at)) left so.rising in
        let first = least_first (with_root roots (root_at roots got.at) left) got.at (AllPairs-from_increasing (with_root roots (root_at roots got.at) left) rising) inside in
        omega (arith, low, first);
  })
    where
      got : IsFound (is_ready job.blocks roots left) roots left root
      got = found (is_ready job.blocks roots left) roots left root (AllPairs-from_increasing left so.rising) e

      free : (b : Block) → Contains job.blocks b → nat_eq (root_at roots b.after) (root_at roots got.at) ≡ true → Contains (activities_in stages) b.before
      free b mb t =
          let pass = one_passes (λ (x : Block). not (nat_eq (root_at roots x.after) root && list_any (λ a. nat_eq a x.before) left)) job.blocks got.passes b mb in
          let none : list_any (λ a. nat_eq a b.before) left ≡ false = not_both _ _ pass (ap (nat_eq (root_at roots b.after)) (sym got.is) ∙ t) in
          let up = block_rises job s b mb in
          let down = block_ends job s b mb in
          elim (in_one b.before (omega (arith, up, down))) [ inl h ↦ h | inr l ↦ absurd (no_bool (sym (any_to left b.before l) ∙ none)) ]

  -- fewer are left
  pub fewer : (root : ℕ) → next_root job.blocks roots left ≡ Some root → length (without_root roots root left) < length left
  fewer root e =
      let got = found (is_ready job.blocks roots left) roots left root (AllPairs-from_increasing left so.rising) e in
      let inside = in_filter (λ x. nat_eq (root_at roots x) root) left got.at (ap (λ z. nat_eq z root) got.is ∙ nat_same root) got.among in
      let all = length_permutation _ _ (IsPermutation-filter_both (λ x. nat_eq (root_at roots x) root) (λ x. not (nat_eq (root_at roots x) root)) (λ x. refl) left) in
      let sum = length-append (with_root roots root left) (without_root roots root left) in
      omega (arith, inside.1, all, sum)

  -- with no part found, nothing is left: a block comes from a lesser root
  none_below : next_root job.blocks roots left ≡ None → (k a : ℕ) → Contains left a → root_at roots a < k → ⊥
  none_below e zero a m lt = omega (arith, lt)
  none_below e (suc k) a m lt =
      let fails = none_found (is_ready job.blocks roots left) roots left e a m in
      let w = one_fails (λ (x : Block). not (nat_eq (root_at roots x.after) (root_at roots a) && list_any (λ y. nat_eq y x.before) left)) job.blocks fails in
      let q = both_fail _ _ w.2 in
      let same : root_at roots w.0.after ≡ root_at roots a = is_same _ _ q.0 in
      let inside = any_from left w.0.before q.1 in
      let up = block_rises job s w.0 w.1 in
      let down = block_ends job s w.0 w.1 in
      let after = (r.each w.0.after down).above in
      let last = (r.each w.0.before (omega (arith, up, down))).last (block_leaves job s w.0 w.1) in
      none_below e k w.0.before inside (omega (arith, last, up, after, same, lt))
    where
      is_same : (x y : ℕ) → nat_eq x y ≡ true → x ≡ y
      is_same x y t = grind arith

  none_left : (xs : List ℕ) → xs ≡ left → next_root job.blocks roots left ≡ None → left ≡ []
  none_left [] is e = sym is
  none_left (x ∷ xs) is e = absurd (none_below e (suc (root_at roots x)) x (subst (λ ys. Contains ys x) is (in_here x xs)) (omega arith))

  pub all_found : next_root job.blocks roots left ≡ None → StageOf job stages
  all_found e = record {
    order = so.order;
    whole = subst (IsPermutation (range_with_len 0 (length job.activities))) (ap (λ xs. activities_in stages ++ xs) (none_left left refl e) ∙ append-nil (activities_in stages)) so.whole;
  }

next_after : (job : Job) (before : List ℕ) (stages : List Stage) (stage : Stage) → AreNext job before stages → IsNext job (before ++ activities_in stages) stage.activities → AreNext job before (stages ++ stage ∷ [])
unfolding AreNext
next_after job before [] stage h n = (subst (λ b. IsNext job b stage.activities) (append-nil before) n, tt)
next_after job before (x ∷ xs) stage h n = (h.0, next_after job (before ++ x.activities) xs stage h.1 (subst (λ b. IsNext job b stage.activities) (sym (append_assoc before x.activities (activities_in xs))) n))

in_after : (stages : List Stage) (stage : Stage) → activities_in (stages ++ stage ∷ []) ≡ activities_in stages ++ stage.activities
in_after stages stage = flat_map-append (λ (x : Stage). x.activities) stages (stage ∷ []) ∙ ap (λ xs. activities_in stages ++ xs) (append-nil stage.activities)

-- one stage more
pub one_more : (job : Job) → SoundJob job → (roots left : List ℕ) (stages : List Stage) (root : ℕ) → AreRoots job roots → AreSoFar job roots left stages → next_root job.blocks roots left ≡ Some root
    → AreSoFar job roots (without_root roots root left) (stages ++ record { activities = with_root roots root left } ∷ [])
one_more job s roots left stages root r so e = record {
  order = next_after job [] stages stage so.order (is_next job s roots left stages r so root e);
  whole = subst (IsPermutation (range_with_len 0 (length job.activities))) moved
      (IsPermutation-trans _ (activities_in stages ++ left) _ so.whole (IsPermutation-append_right (activities_in stages) left _ (IsPermutation-filter_both test other (λ x. refl) left)));
  rising = IsStrictlyIncreasing-filter other left so.rising;
  within = All-filter other (λ a. a < length job.activities) left so.within;
  apart = λ a m l.
      let q = from_filter other left a l in
      elim (Contains-append_cases (activities_in stages) stage.activities a (subst (λ xs. Contains xs a) (in_after stages stage) m)) [
        | inl b ↦ so.apart a b q.0
        | inr k ↦ no_bool (sym q.1 ∙ ap not (from_filter test left a k).1)
      ];
  parts = λ a b m lt same.
      let q = from_filter other left a m in
      in_filter other left b (ap (λ z. not (nat_eq z root)) (sym same) ∙ q.1) (so.parts a b q.0 lt same);
}
  where
    test : ℕ → Bool
    test x = nat_eq (root_at roots x) root

    other : ℕ → Bool
    other x = not (nat_eq (root_at roots x) root)

    stage : Stage
    stage = record { activities = with_root roots root left }

    moved : activities_in stages ++ (filter test left ++ filter other left) ≡ activities_in (stages ++ stage ∷ []) ++ filter other left
    moved = sym (append_assoc (activities_in stages) (filter test left) (filter other left)) ∙ ap (λ xs. xs ++ filter other left) (sym (in_after stages stage))

-- at first all are left
pub none_yet : (job : Job) (roots left : List ℕ) → left ≡ range_with_len 0 (length job.activities) → AreSoFar job roots left []
unfolding AreNext
none_yet job roots left e = subst (λ xs. AreSoFar job roots xs []) (sym e) (record {
  order = tt;
  whole = IsPermutation-refl (range_with_len 0 (length job.activities));
  rising = range_rises (length job.activities);
  within = range_below (length job.activities);
  apart = λ a m l. in_none a m;
  parts = λ a b m lt same. in_range (length job.activities) b lt;
})
