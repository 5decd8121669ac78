-- Claims of each row, from what a task takes to what it puts.
use Rattle.std.proofs.Common.{◌≡◌, inl, inr, ◌+◌, ◌%◌, ℕ, zero, suc, Bool, true, nat_eq, List, [], ◌∷◌, ◌++◌, map, flat_map, filter, take, drop, sym, subst, arith}
use Rattle.std.specs.List.{AllByRecursion, AllZip, enumerate_from, range_with_len}
use Rattle.std.specs.List.Sorted.{IsPermutation}
use Rattle.std.proofs.lemmas.List.Elements.{All-from_recursion, recursion_from_All}
use Rattle.std.proofs.lemmas.List.Sorted.{All-permutation}
use Rattle.hy_job.specs.declared.job.Activity.{Activity}
use Rattle.hy_job.specs.declared.job.Edge.{Edge}
use Rattle.hy_job.specs.declared.job.Job.{Job}
use Rattle.hy_job.specs.declared.job.Wire.{Wire}
use Rattle.hy_job.specs.declared.job.Wire.TheVariants as W
use Rattle.hy_job.specs.Columns.{Row, Takes, Interleaves, dealt, part_of}
use Rattle.hy_job.specs.Sound.{edges_from}
use Rattle.hy_job.specs.Runs.{Taken, Put, Took, TaskRun, Receives, ComesBy, ComesOver, rows_at, rows_of, by_sender, sent_over, sent_by, kept_by}
use Rattle.hy_job.specs.RunLaws.{EachMade}
use Rattle.hy_job.proofs.Members.{by_cases}

-- ---- lists

module _ {X : Type 0} (P : X → Type 0) where
  pub all_append : (xs ys : List X) → AllByRecursion P xs → AllByRecursion P ys → AllByRecursion P (xs ++ ys)
  all_append [] ys h g = g
  all_append (x ∷ xs) ys h g = (h.0, all_append xs ys h.1 g)

  pub all_halves : (xs ys : List X) → AllByRecursion P (xs ++ ys) → AllByRecursion P xs × AllByRecursion P ys
  all_halves [] ys h = (tt, h)
  all_halves (x ∷ xs) ys h = let more = all_halves xs ys h.1 in ((h.0, more.0), more.1)

  pub all_filter : (p : X → Bool) (xs : List X) → AllByRecursion P xs → AllByRecursion P (filter p xs)
  all_filter p [] h = tt
  all_filter p (x ∷ xs) h = by_cases (p x) (λ t. rw t (h.0, all_filter p xs h.1)) (λ f. rw f (all_filter p xs h.1))

  pub all_take : (n : ℕ) (xs : List X) → AllByRecursion P xs → AllByRecursion P (take n xs)
  all_take zero xs h = tt
  all_take (suc n) [] h = tt
  all_take (suc n) (x ∷ xs) h = (h.0, all_take n xs h.1)

  pub all_drop : (n : ℕ) (xs : List X) → AllByRecursion P xs → AllByRecursion P (drop n xs)
  all_drop zero xs h = h
  all_drop (suc n) [] h = tt
  all_drop (suc n) (x ∷ xs) h = all_drop n xs h.1

  pub all_moved : (xs ys : List X) → IsPermutation xs ys → AllByRecursion P xs → AllByRecursion P ys
  all_moved xs ys p h = recursion_from_All P ys (All-permutation P xs ys p (All-from_recursion P xs h))

  pub all_unflat : {Y : Type 0} (f : Y → List X) (ys : List Y) → AllByRecursion P (flat_map f ys) → AllByRecursion (λ y. AllByRecursion P (f y)) ys
  all_unflat f [] h = tt
  all_unflat f (y ∷ ys) h = let both = all_halves (f y) (flat_map f ys) h in (both.0, all_unflat f ys both.1)

  pub all_flat : {Y : Type 0} (f : Y → List X) (ys : List Y) → AllByRecursion (λ y. AllByRecursion P (f y)) ys → AllByRecursion P (flat_map f ys)
  all_flat f [] h = tt
  all_flat f (y ∷ ys) h = all_append (f y) (flat_map f ys) h.0 (all_flat f ys h.1)

  -- ---- interleavings

  takes_all : (xss : List (List X)) (x : X) (rest : List (List X)) → AllByRecursion (AllByRecursion P) xss → Takes xss x rest → P x × AllByRecursion (AllByRecursion P) rest
  unfolding Takes
  takes_all [] x rest h t = absurd t
  takes_all (xs ∷ xss) x rest h t = elim t [
    | inl q ↦ (let both : AllByRecursion P (x ∷ q.0) = subst (AllByRecursion P) q.1 h.0 in (both.0, subst (AllByRecursion (AllByRecursion P)) (sym q.2) (both.1, h.1)))
    | inr q ↦ (let more = takes_all xss x q.0 h.1 q.1 in (more.0, subst (AllByRecursion (AllByRecursion P)) (sym q.2) (h.0, more.1)))
  ]

  pub interleaves_all : (xss : List (List X)) (xs : List X) → AllByRecursion (AllByRecursion P) xss → Interleaves xss xs → AllByRecursion P xs
  unfolding Interleaves
  interleaves_all xss [] h i = tt
  interleaves_all xss (x ∷ xs) h i = let q = takes_all xss x i.0 h i.1 in (q.0, interleaves_all i.0 xs q.1 i.2)

module _ {X Y : Type 0} (P : X → Type 0) (Q : Y → Type 0) where
  pub all_map : (f : X → Y) → ((x : X) → P x → Q (f x)) → (xs : List X) → AllByRecursion P xs → AllByRecursion Q (map f xs)
  all_map f g [] h = tt
  all_map f g (x ∷ xs) h = (g x h.0, all_map f g xs h.1)

  pub all_flat_map : (f : X → List Y) → ((x : X) → P x → AllByRecursion Q (f x)) → (xs : List X) → AllByRecursion P xs → AllByRecursion Q (flat_map f xs)
  all_flat_map f g [] h = tt
  all_flat_map f g (x ∷ xs) h = all_append Q (f x) (flat_map f xs) (g x h.0) (all_flat_map f g xs h.1)

  pub all_zip : (R : X → Y → Type 0) → ((x : X) (y : Y) → P x → R x y → Q y) → (xs : List X) (ys : List Y) → AllByRecursion P xs → AllZip R xs ys → AllByRecursion Q ys
  all_zip R g [] [] h z = tt
  all_zip R g [] (y ∷ ys) h z = absurd z
  all_zip R g (x ∷ xs) [] h z = absurd z
  all_zip R g (x ∷ xs) (y ∷ ys) h z = (g x y h.0 z.0, all_zip R g xs ys h.1 z.1)

pub all_any : {X : Type 0} (P : X → Type 0) → ((x : X) → P x) → (xs : List X) → AllByRecursion P xs
all_any P f [] = tt
all_any P f (x ∷ xs) = (f x, all_any P f xs)

module _ (P : Row → Type 0) where
  -- ---- what is dealt

  dealt_from : (test : ℕ → Bool) (k : ℕ) (rows : List Row) → AllByRecursion P rows → AllByRecursion P (map (λ (e : ℕ × Row). e.1) (filter (λ (e : ℕ × Row). test e.0) (enumerate_from k rows)))
  dealt_from test k [] h = tt
  dealt_from test k (x ∷ xs) h = by_cases (test k) (λ t. rw t (h.0, dealt_from test (k + 1) xs h.1)) (λ f. rw f (dealt_from test (k + 1) xs h.1))

  pub dealt_all : (n j : ℕ) (rows : List Row) → AllByRecursion P rows → AllByRecursion P (dealt n j rows)
  dealt_all n j rows h = dealt_from (λ k. nat_eq (k % n) j) 0 rows h

  -- ---- what is put

  sent_all : (w : Wire) (n j r : ℕ) (rows : List Row) → AllByRecursion P rows → AllByRecursion P (sent_over w n j r rows)
  sent_all W.OneToOne n j r rows h = by_cases (nat_eq r j) (λ t. rw t h) (λ f. rw f tt)
  sent_all (W.Hash columns) n j r rows h = all_filter P (λ row. nat_eq (part_of n columns row) r) rows h
  sent_all W.Broadcast n j r rows h = h
  sent_all W.Gather n j r rows h = by_cases (nat_eq r 0) (λ t. rw t h) (λ f. rw f tt)
  sent_all (W.Merge keys) n j r rows h = by_cases (nat_eq r 0) (λ t. rw t h) (λ f. rw f tt)

  sent_by_all : (es : List Edge) (n j r : ℕ) (rows : List Row) → AllByRecursion P rows → AllByRecursion P (sent_by es n j r rows)
  sent_by_all [] n j r rows h = tt
  sent_by_all (e ∷ es) n j r rows h = sent_all e.wire n j r rows h

  kept_all : (es : List Edge) (rows : List Row) → AllByRecursion P rows → AllByRecursion P (kept_by es rows)
  kept_all [] rows h = h
  kept_all (e ∷ es) rows h = tt

  -- a claim of each row that is made is one of each that is put and handed on
  pub each_made : (job : Job) (a : Activity) (j : ℕ) (took : Took) (put : Put) (run : TaskRun job a j took put) → AllByRecursion P run.made → EachMade job.partitions P run.made put
  each_made job a j took put run h = record {
    made_rows = h;
    put_rows = λ r lt. subst (AllByRecursion P) (sym (run.sends r lt)) (sent_by_all (edges_from job a.number) job.partitions j r run.made h);
    on_rows = subst (AllByRecursion P) (sym run.hands_on) (kept_all (edges_from job a.number) run.made h);
  }

-- ---- what is received

module _ (P : ℕ → Row → Type 0) (input : ℕ) where
  abbrev Each : List Taken → Type 0
  Each = AllByRecursion (λ t. P t.input t.row)

  is_input : (t : Taken) → nat_eq t.input input ≡ true → P t.input t.row → P input t.row
  is_input t e h = let same : t.input ≡ input = grind arith in subst (λ k. P k t.row) same h

  at_all : (took : List Taken) → Each took → AllByRecursion (P input) (rows_at input took)
  at_all [] h = tt
  at_all (t ∷ took) h = by_cases (nat_eq t.input input) (λ y. rw y (is_input t y h.0, at_all took h.1)) (λ f. rw f (at_all took h.1))

  of_all : (s : ℕ) (took : List Taken) → Each took → AllByRecursion (P input) (rows_of input s took)
  of_all s [] h = tt
  of_all s (t ∷ took) h = by_cases (nat_eq t.input input)
      (λ y. by_cases (nat_eq t.sender s) (λ z. rw (y, z) (is_input t y h.0, of_all s took h.1)) (λ f. rw (y, f) (of_all s took h.1)))
      (λ f. rw f (of_all s took h.1))

  by_sender_all : (n : ℕ) (took : List Taken) → Each took → AllByRecursion (AllByRecursion (P input)) (by_sender n input took)
  by_sender_all n took h = all_map (λ (s : ℕ). Unit {0}) (AllByRecursion (P input)) (λ s. rows_of input s took) (λ s u. of_all s took h) (range_with_len 0 n) (all_any (λ (s : ℕ). Unit {0}) (λ s. tt) (range_with_len 0 n))

  comes_all : (w : Wire) (n : ℕ) (took : List Taken) (rows : List Row) → Each took → ComesBy w n input took rows → AllByRecursion (P input) rows
  comes_all W.OneToOne n took rows h c = subst (AllByRecursion (P input)) (sym c) (at_all took h)
  comes_all (W.Hash columns) n took rows h c = subst (AllByRecursion (P input)) (sym c) (at_all took h)
  comes_all W.Broadcast n took rows h c = subst (AllByRecursion (P input)) (sym c) (at_all took h)
  comes_all W.Gather n took rows h c = subst (AllByRecursion (P input)) (sym c) (at_all took h)
  comes_all (W.Merge keys) n took rows h c = interleaves_all (P input) (by_sender n input took) rows (by_sender_all n took h) c.0

  over_all : (es : List Edge) (n : ℕ) (took : List Taken) (rows : List Row) → Each took → ComesOver es n input took rows → AllByRecursion (P input) rows
  over_all [] n took rows h c = subst (AllByRecursion (P input)) (sym c) tt
  over_all (e ∷ es) n took rows h c = comes_all e.wire n took rows h c

-- a claim of each row that is taken at an input is one of each that is received there
pub received_all : (P : ℕ → Row → Type 0) (job : Job) (a : ℕ) (took : List Taken) (input : ℕ) (rows : List Row) → AllByRecursion (λ t. P t.input t.row) took → Receives job a took input rows → AllByRecursion (P input) rows
received_all P job a took input rows h c = over_all P input _ job.partitions took rows h c
